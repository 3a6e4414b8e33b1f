-- The moment before which no delegation of a file was called back, and those that are due.
use Rattle.std.proofs.Common.{◌≡◌, ℕ, ◌+◌, ◌<◌, ◌≤◌, Bool, true, false, cond, List, [], ◌∷◌, ◌++◌, get_or, length, filter, take, Option, Some, None, refl, sym, ap, ◌∙◌, subst, arith}
use Rattle.std.specs.Prelude.{IsFalse, nat_lt}
use Rattle.std.specs.List.{AllByRecursion}
use Rattle.std.proofs.lemmas.Bool.{cond_both, false_from_ne_true, ltb-true, ltb-false}
use Rattle.std.proofs.lemmas.List.{take_more}
use Rattle.nfs_rows.proofs.Each.{all_filter}
use Rattle.nfs_share.specs.Delegations.{is_due, is_lease_before, lesser}
use Rattle.nfs_share.specs.KeptDelegations.{AreNotBefore, IsNotBefore}
use Rattle.nfs_share.specs.declared.delegation.Delegation.{Delegation}
use Rattle.nfs_share.proofs.EachElement.{all_push, all_weaken}

-- the earlier of two moments
abbrev pub earlier : Option ℕ → Option ℕ → Option ℕ
earlier first other = lesser (λ moment. moment) first other

not_before_earlier : (recalled first other : Option ℕ) → IsNotBefore recalled first → IsNotBefore recalled (earlier first other)
not_before_earlier None first other h = tt
not_before_earlier (Some m) None other h = absurd h
not_before_earlier (Some m) (Some a) None h = h
not_before_earlier (Some m) (Some a) (Some b) h =
    cond_both (nat_lt b a) (Some b) (Some a) (IsNotBefore (Some m)) (λ less. omega (arith, ltb-true b a less, h)) (λ _. h)

not_before_itself : (first recalled : Option ℕ) → IsNotBefore recalled (earlier first recalled)
not_before_itself first None = tt
not_before_itself None (Some m) = omega arith
not_before_itself (Some a) (Some m) =
    cond_both (nat_lt m a) (Some m) (Some a) (IsNotBefore (Some m)) (λ _. omega arith) (λ more. omega (arith, ltb-false m a more))

-- with one delegation more
pub earlier_more : (ds : List Delegation) (d : Delegation) (first : Option ℕ) → AreNotBefore first ds → AreNotBefore (earlier first d.recalled) (ds ++ d ∷ [])
earlier_more ds d first h =
    all_push (λ e. IsNotBefore e.recalled (earlier first d.recalled)) ds d
    (all_weaken (λ e. IsNotBefore e.recalled first) (λ e. IsNotBefore e.recalled (earlier first d.recalled)) (λ e is. not_before_earlier e.recalled first d.recalled is) ds h)
    (not_before_itself first d.recalled)

-- the loop comes by one delegation more
pub earlier_at : (ds : List Delegation) (at : ℕ) (d : Delegation) (first new : Option ℕ) → at < length ds → d ≡ get_or ds at d → new ≡ earlier first d.recalled
    → AreNotBefore first (take at ds) → AreNotBefore new (take (at + 1) ds)
earlier_at ds at d first new below is new_is h =
    let seen : take (at + 1) ds ≡ take at ds ++ d ∷ [] = take_more ds at d below ∙ ap (λ x. take at ds ++ x ∷ []) (sym is) in
    subst (AreNotBefore new) (sym seen) (subst (λ m. AreNotBefore m (take at ds ++ d ∷ [])) (sym new_is) (earlier_more (take at ds) d first h))

pub not_before_filter : (first : Option ℕ) (test : Delegation → Bool) (ds : List Delegation) → AreNotBefore first ds → AreNotBefore first (filter test ds)
not_before_filter first test ds h = all_filter (λ d. IsNotBefore d.recalled first) test ds h

pub none_left : (ds : List Delegation) → length ds ≡ 0 → AreNotBefore None ds
none_left [] none = tt
none_left (d ∷ ds) none = absurd (omega (arith, none))

module _ (lease now : ℕ) where
  undue : (recalled first : Option ℕ) → is_lease_before lease now first ≡ false → IsNotBefore recalled first → is_lease_before lease now recalled ≡ false
  undue None first early h = refl
  undue (Some m) None early h = absurd h
  undue (Some m) (Some f) early h =
      false_from_ne_true (nat_lt (m + lease) now) (λ yes. omega (arith, ltb-false (f + lease) now early, ltb-true (m + lease) now yes, h))

  -- Where one called back first isn't due, none is.
  pub none_due : (first : Option ℕ) (ds : List Delegation) → is_lease_before lease now first ≡ false → AreNotBefore first ds
      → AllByRecursion (λ d. IsFalse (is_due lease now d)) ds
  none_due first ds early h =
      all_weaken (λ d. IsNotBefore d.recalled first) (λ d. IsFalse (is_due lease now d))
      (λ d is. undue d.recalled first early is) ds h
