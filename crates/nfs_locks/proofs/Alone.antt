-- Lists in which a test passes at most once: what is found by two tests.
use Rattle.std.proofs.Common.{◌≡◌, ℕ, ◌<◌, Bool, true, false, ◌&&◌, ◌||◌, cond, List, [], ◌∷◌, find, Option, Some, None, refl, sym, ap, ◌∙◌, arith}
use Rattle.std.specs.Borrow.{Bor}
use Rattle.std.specs.List.{AllByRecursion, list_any}
use Rattle.std.specs.Option.{option_copied}
use Rattle.std.specs.Prelude.{is_some}
use Rattle.std.proofs.lemmas.Bool.{and_right, eqb-true, false_from_ne_true, or_parts}
use Rattle.nfs_forms.specs.declared.stateid.Stateid.{Stateid}
use Rattle.nfs_locks.specs.KeptLocks.{NumbersRise}
use Rattle.nfs_locks.specs.Locks.{is_lock_of_client, is_numbered, is_stateid_of}
use Rattle.nfs_locks.specs.StoredLocks.{lock_seen}
use Rattle.nfs_locks.specs.declared.lock_state.LockState.{LockState}
use Rattle.nfs_rows.specs.Rows.{StandSo}
use Rattle.nfs_rows.proofs.Each.{all_weaken, find_none}

module _ {X : Type 0} where
  -- what was found, if it passes another test
  abbrev pub kept_if : (X → Bool) → Option X → Option X
  kept_if test None = None
  kept_if test (Some x) = cond (test x) (Some x) None

  -- what was found passes another test
  abbrev pub any_in : (X → Bool) → Option X → Bool
  any_in test None = false
  any_in test (Some x) = test x

  pub any_none : (test : X → Bool) (xs : List X) → AllByRecursion (λ x. test x ≡ false) xs → list_any test xs ≡ false
  any_none test [] h = refl
  any_none test (x ∷ xs) h = λ i. h.0 i || any_none test xs h.1 i

  pub none_of_any : (test : X → Bool) (xs : List X) → list_any test xs ≡ false → AllByRecursion (λ x. test x ≡ false) xs
  none_of_any test [] h = tt
  none_of_any test (x ∷ xs) h =
      let parts = or_parts (test x) (list_any test xs) h in
      (parts.0, none_of_any test xs parts.1)

  -- one passes if one is found
  pub any_found : (test : X → Bool) (xs : List X) → is_some (find test xs) ≡ list_any test xs
  any_found test [] = refl
  any_found test (x ∷ xs) = by (test x) (any_found test xs)
    where
      by : (b : Bool) → is_some (find test xs) ≡ list_any test xs → is_some (cond b (Some x) (find test xs)) ≡ (b || list_any test xs)
      by true rest = refl
      by false rest = rest

  module _ (a b : X → Bool) where
    -- the second test passes at most once
    abbrev pub PassesOnce : List X → Type 0
    PassesOnce xs = StandSo (λ x y. b x ≡ true → b y ≡ false) xs

    pub find_both : (xs : List X) → PassesOnce xs → find (λ x. a x && b x) xs ≡ kept_if a (find b xs)
    find_both [] h = refl
    find_both (x ∷ xs) h = by (a x) (b x) refl refl (find_both xs h.1)
      where
        rest : Option X
        rest = find (λ y. a y && b y) xs

        no_more : b x ≡ true → rest ≡ None
        no_more is = find_none (λ y. a y && b y) xs (all_weaken (λ y. b x ≡ true → b y ≡ false) (λ y. (a y && b y) ≡ false) (λ y no. and_right (a y) (b y) (no is)) xs h.0)

        by : (p q : Bool) → a x ≡ p → b x ≡ q → rest ≡ kept_if a (find b xs) → cond (p && q) (Some x) rest ≡ kept_if a (cond q (Some x) (find b xs))
        by true true is_a is_b more = sym (ap (λ t. cond t (Some x) None) is_a)
        by false true is_a is_b more = no_more is_b ∙ sym (ap (λ t. cond t (Some x) None) is_a)
        by true false is_a is_b more = more
        by false false is_a is_b more = more

    pub any_both : (xs : List X) → PassesOnce xs → list_any (λ x. b x && a x) xs ≡ any_in a (find b xs)
    any_both [] h = refl
    any_both (x ∷ xs) h = by (a x) (b x) refl refl (any_both xs h.1)
      where
        rest : Bool
        rest = list_any (λ y. b y && a y) xs

        no_more : b x ≡ true → rest ≡ false
        no_more is = any_none (λ y. b y && a y) xs (all_weaken (λ y. b x ≡ true → b y ≡ false) (λ y. (b y && a y) ≡ false) (λ y no. ap (λ t. t && a y) (no is)) xs h.0)

        by : (p q : Bool) → a x ≡ p → b x ≡ q → rest ≡ any_in a (find b xs) → ((q && p) || rest) ≡ any_in a (cond q (Some x) (find b xs))
        by true true is_a is_b more = sym is_a
        by false true is_a is_b more = no_more is_b ∙ sym is_a
        by true false is_a is_b more = more
        by false false is_a is_b more = more

-- at most one lock state has a number
pub numbered_once : (number : ℕ) (states : List LockState) → NumbersRise states → StandSo (λ l m. is_numbered number (lock_seen l) ≡ true → is_numbered number (lock_seen m) ≡ false) states
numbered_once number [] h = tt
numbered_once number (l ∷ states) h = (
  all_weaken (λ m. l.number < m.number) (λ m. is_numbered number (lock_seen l) ≡ true → is_numbered number (lock_seen m) ≡ false)
      (λ m more here. false_from_ne_true _ (λ there. omega (arith, more, eqb-true l.number number here, eqb-true m.number number there))) states h.0,
  numbered_once number states h.1,
)

-- what is found by a stateid is found by its number
pub named : (id : Stateid) (states : List LockState) → NumbersRise states
    → find (λ l. is_stateid_of id (lock_seen l)) states ≡ kept_if (λ l. is_lock_of_client id.client (lock_seen l)) (find (λ l. is_numbered id.number (lock_seen l)) states)
named id states order = find_both (λ l. is_lock_of_client id.client (lock_seen l)) (λ l. is_numbered id.number (lock_seen l)) states (numbered_once id.number states order)

pub some_copied : (found : Option (Bor LockState)) → is_some found ≡ is_some (option_copied found)
some_copied None = refl
some_copied (Some l) = refl
