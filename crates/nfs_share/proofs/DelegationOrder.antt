-- The order of the delegations of a file, and which of them is the next that is due.
use Rattle.std.proofs.Common.{◌≡◌, ℕ, ◌<◌, ◌≤◌, Bool, false, List, [], ◌∷◌, ◌++◌, None, Some, refl, suc, sym, ◌∙◌, ap, arith}
use Rattle.std.specs.Prelude.{Option, IsTrue, ◌==◌, ◌||◌, cond, filter, find, is_none, is_some, map, nat_le}
use Rattle.std.specs.List.{AllByRecursion, Contains, list_any}
use Rattle.std.proofs.lemmas.Bool.{cond_both, eqb-false, eqb-true, false_from_ne_true, false≢true, leb-false, leb-true, true_from_ne_false}
use Rattle.std.proofs.lemmas.Map.Entries.{option_filter}
use Rattle.nfs_share.specs.Delegations.{IsAboveLent, IsNextDueOf, StandInOrder, conflicts, is_due, with_recall, with_recalls}
use Rattle.nfs_share.specs.declared.delegation.Delegation.{Delegation}
use Rattle.nfs_share.specs.declared.delegation.FileUse.{FileUse}
use Rattle.nfs_share.proofs.EachElement.{all_map, all_push, all_weaken}

-- the delegations have higher numbers
abbrev AreAfter : ℕ → List Delegation → Type 0
AreAfter number ds = AllByRecursion (λ d. number < d.number) ds

after_filter : (number : ℕ) (test : Delegation → Bool) (ds : List Delegation) → AreAfter number ds → AreAfter number (filter test ds)
after_filter number test [] h = tt
after_filter number test (d ∷ ds) h =
    cond_both (test d) (d ∷ filter test ds) (filter test ds) (AreAfter number)
    (λ _. (h.0, after_filter number test ds h.1)) (λ _. after_filter number test ds h.1)

-- those that pass a test stand in order
pub filter_in_order : (test : Delegation → Bool) (ds : List Delegation) → StandInOrder ds → StandInOrder (filter test ds)
filter_in_order test [] h = tt
filter_in_order test (d ∷ ds) h =
    cond_both (test d) (d ∷ filter test ds) (filter test ds) StandInOrder
    (λ _. (after_filter d.number test ds h.0, filter_in_order test ds h.1)) (λ _. filter_in_order test ds h.1)

-- and so do they with other marks
pub map_in_order : (change : Delegation → Delegation) (ds : List Delegation) → ((d : Delegation) → (change d).number ≡ d.number)
    → StandInOrder ds → StandInOrder (map change ds)
map_in_order change [] same h = tt
map_in_order change (d ∷ ds) same h = (
  all_map (λ e. (change d).number < e.number) change ds
      (all_weaken (λ e. d.number < e.number) (λ e. (change d).number < (change e).number) (λ e below. omega (arith, same d, same e, below)) ds h.0),
  map_in_order change ds same h.1,
)

same_number : (file_use : FileUse) (moment : ℕ) (d : Delegation)
    → (cond (conflicts file_use d) (with_recall moment d) d).number ≡ d.number
same_number file_use moment d =
    cond_both (conflicts file_use d) (with_recall moment d) d (λ e. e.number ≡ d.number)
    (λ _. cond_both (is_none d.recalled) (record d { recalled = Some moment }) d (λ e. e.number ≡ d.number) (λ _. refl) (λ _. refl)) (λ _. refl)

pub recalls_in_order : (file_use : FileUse) (moment : ℕ) (ds : List Delegation) → StandInOrder ds
    → StandInOrder (with_recalls file_use moment ds)
recalls_in_order file_use moment ds h =
    map_in_order (λ d. cond (conflicts file_use d) (with_recall moment d) d) ds (same_number file_use moment) h

-- and with one at the end whose number is above all
pub push_in_order : (ds : List Delegation) (d : Delegation) → IsAboveLent d.number ds → StandInOrder ds → StandInOrder (ds ++ d ∷ [])
push_in_order [] d above h = (tt, tt)
push_in_order (e ∷ ds) d above h = (all_push (λ x. e.number < x.number) ds d h.0 above.0, push_in_order ds d above.1 h.1)

here : (d : Delegation) (ds : List Delegation) → Contains (d ∷ ds) d
here d ds = (0, omega arith, refl)

there : (d e : Delegation) (ds : List Delegation) → Contains ds e → Contains (d ∷ ds) e
there d e ds h = (suc h.0, omega (arith, h.1), h.2)

module _ (lease now : ℕ) where
  abbrev is : Delegation → Bool
  is d = is_due lease now d

  abbrev IsAbove : ℕ → Delegation → Type 0
  IsAbove number d = IsTrue (is d) → number ≤ d.number

  next_more : (d : Delegation) (ds : List Delegation) (next : Option Delegation) → AreAfter d.number ds → is d ≡ false
      → IsNextDueOf lease now ds next → IsNextDueOf lease now (d ∷ ds) next
  next_more d ds None above undue none = (undue, none)
  next_more d ds (Some next) above undue least =
      (there d next ds least.0, least.1, (λ due. absurd (false≢true (sym undue ∙ due)), least.2))

  -- The first one that is due has the least number.
  pub first_is_next : (ds : List Delegation) → StandInOrder ds → IsNextDueOf lease now ds (find is ds)
  first_is_next [] h = tt
  first_is_next (d ∷ ds) h =
      cond_both (is d) (Some d) (find is ds) (IsNextDueOf lease now (d ∷ ds))
      (λ due. (
        here d ds,
        due,
        ((λ _. omega arith), all_weaken (λ e. d.number < e.number) (IsAbove d.number) (λ e above _. omega (arith, above)) ds h.0),
      ))
      (λ undue. next_more d ds (find is ds) h.0 undue (first_is_next ds h.1))

module _ (number : ℕ) where
  abbrev is_it : Delegation → Bool
  is_it d = d.number == number

  none_after : (low : ℕ) (ds : List Delegation) → number ≤ low → AreAfter low ds → find is_it ds ≡ None
  none_after low [] below h = refl
  none_after low (d ∷ ds) below h =
      cond_both (is_it d) (Some d) (find is_it ds) (λ r. r ≡ None)
      (λ same. absurd (omega (arith, eqb-true d.number number same, h.0, below)))
      (λ _. none_after low ds below h.1)

  -- The first one from a number on has it, or none has it.
  first_is_found : (ds : List Delegation) → StandInOrder ds → option_filter is_it (find (λ d. nat_le number d.number) ds) ≡ find is_it ds
  first_is_found [] h = refl
  first_is_found (d ∷ ds) h =
      cond_both (nat_le number d.number) (Some d) (find (λ e. nat_le number e.number) ds) (λ r. option_filter is_it r ≡ find is_it (d ∷ ds))
      (λ from. sym (ap (λ r. cond (is_it d) (Some d) r) (none_after d.number ds (leb-true number d.number from) h.0)))
      (λ below.
      first_is_found ds h.1
      ∙ sym (ap (λ b. cond b (Some d) (find is_it ds))
      (false_from_ne_true (is_it d) (λ same. omega (arith, eqb-true d.number number same, leb-false number d.number below)))))

  pub none_found : (ds : List Delegation) → StandInOrder ds → find (λ d. nat_le number d.number) ds ≡ None → find is_it ds ≡ None
  none_found ds order none = sym (first_is_found ds order) ∙ ap (option_filter is_it) none

  pub one_found : (ds : List Delegation) (d : Delegation) → StandInOrder ds → find (λ d. nat_le number d.number) ds ≡ Some d → d.number ≡ number
      → find is_it ds ≡ Some d
  one_found ds d order first same =
      sym (first_is_found ds order) ∙ ap (option_filter is_it) first
      ∙ ap (λ b. cond b (Some d) None) (true_from_ne_false (is_it d) (λ no. eqb-false d.number number no same))

  pub other_found : (ds : List Delegation) (d : Delegation) → StandInOrder ds → find (λ d. nat_le number d.number) ds ≡ Some d → (d.number ≡ number → ⊥)
      → find is_it ds ≡ None
  other_found ds d order first differs =
      sym (first_is_found ds order) ∙ ap (option_filter is_it) first
      ∙ ap (λ b. cond b (Some d) None) (false_from_ne_true (is_it d) (λ yes. differs (eqb-true d.number number yes)))

pub some_or_any : (test : Delegation → Bool) (ds : List Delegation) → is_some (find test ds) ≡ list_any test ds
some_or_any test [] = refl
some_or_any test (d ∷ ds) =
    cond_both (test d) (Some d) (find test ds) (λ r. is_some r ≡ (test d || list_any test ds))
    (λ yes. sym (ap (λ b. b || list_any test ds) yes)) (λ no. some_or_any test ds ∙ sym (ap (λ b. b || list_any test ds) no))
