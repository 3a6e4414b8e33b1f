-- Laws of the opens of a file.
use Rattle.std.proofs.Common.{◌≡◌, ℕ, ◌+◌, ◌<◌, Bool, true, false, cond, List, [], ◌∷◌, ◌++◌, drop, length, find, get_or, map, set, take, None, Some, option_map, refl, sym, ◌∙◌, ap}
use Rattle.std.proofs.Common.{inl, inr}
use Rattle.std.proofs.lemmas.Bool.{and_from, eq-eqb, cases_Bool, cond-true, cond-false}
use Rattle.std.proofs.lemmas.List.{get_or_default}
use Rattle.std.proofs.lemmas.List.Edits.{map_over_more}
use Rattle.nfs_share.specs.declared.open_state.OpenState.{OpenState}
use Rattle.std.specs.Prelude.{◌==◌, Option}
use Rattle.std.specs.Option.{option_or}
use Rattle.std.specs.Str.{bytes_eq}
use Rattle.std.proofs.lemmas.List.Folds.{find-append}
use Rattle.std.proofs.lemmas.Slice.Eq.{bytes_eq-Decides}
use Rattle.nfs_forms.specs.declared.open_owner.OpenOwner.{OpenOwner}
use Rattle.nfs_forms.specs.declared.stateid.Stateid.{Stateid}
use Rattle.nfs_share.specs.declared.share.Share.{Share}
use Rattle.nfs_forms.specs.ClientId.{is_same_client}
use Rattle.nfs_forms.specs.OpenOwner.{is_same_owner}
use Rattle.nfs_share.specs.Opens.{first_open, is_of, next_stateid_of, open_of, stateid_of, with_each}

module _ {X : Type 0} (test : X → Bool) (change : X → X) where
  -- the elements, with a change of each that passes the test
  abbrev each : List X → List X
  each xs = map (λ x. cond (test x) (change x) x) xs

  each_more : (old new : List X) (i : ℕ) (d next : X) → i < length old → i < length new
      → new ≡ each (take i old) ++ drop i old
      → next ≡ cond (test (get_or new i d)) (change (get_or new i d)) (get_or new i d)
      → set new i next ≡ each (take (i + 1) old) ++ drop (i + 1) old
  each_more old new i d next below within so_far is =
      ap (set new i) is
      ∙ map_over_more (λ x. cond (test x) (change x) x) old new i (get_or new i d) below so_far (get_or_default new i d (get_or new i d) within)

  -- the loop changes an element that passes the test
  pub changes_one_more : (old new : List X) (i : ℕ) (d next : X) → i < length old → i < length new
      → new ≡ each (take i old) ++ drop i old
      → test (get_or new i d) ≡ true → next ≡ change (get_or new i d)
      → set new i next ≡ each (take (i + 1) old) ++ drop (i + 1) old
  changes_one_more old new i d next below within so_far passes is =
      each_more old new i d next below within so_far (is ∙ sym (cond-true (test (get_or new i d)) (change (get_or new i d)) (get_or new i d) passes))

  -- the loop leaves an element that doesn't
  pub leaves_one_more : (old new : List X) (i : ℕ) (d : X) → i < length old → i < length new
      → new ≡ each (take i old) ++ drop i old
      → test (get_or new i d) ≡ false
      → set new i (get_or new i d) ≡ each (take (i + 1) old) ++ drop (i + 1) old
  leaves_one_more old new i d below within so_far fails =
      each_more old new i d (get_or new i d) below within so_far (sym (cond-false (test (get_or new i d)) (change (get_or new i d)) (get_or new i d) fails))

module _ (test : OpenState → Bool) (change : OpenState → OpenState) where
  -- the first that passes the test, once it is changed
  pub find-with_each : ((o : OpenState) → test (change o) ≡ test o) → (opens : List OpenState)
      → find test (with_each test change opens) ≡ option_map change (find test opens)
  find-with_each same [] = refl
  find-with_each same (o ∷ opens) =
      elim (cases_Bool (test o)) [
        | inl passes ↦
            cond-true (test (cond (test o) (change o) o)) _ _ (ap test (cond-true (test o) (change o) o passes) ∙ same o ∙ passes)
            ∙ ap Some (cond-true (test o) (change o) o passes)
            ∙ ap (option_map change) (sym (cond-true (test o) (Some o) (find test opens) passes))
        | inr fails ↦
            cond-false (test (cond (test o) (change o) o)) _ _ (ap test (cond-false (test o) (change o) o fails) ∙ fails)
            ∙ find-with_each same opens
            ∙ ap (option_map change) (sym (cond-false (test o) (Some o) (find test opens) fails))
      ]

  option_stateid : ((o : OpenState) → stateid_of (change o) ≡ next_stateid_of o) → (found : Option OpenState)
      → option_map stateid_of (option_map change found) ≡ option_map next_stateid_of found
  option_stateid moves None = refl
  option_stateid moves (Some o) = ap Some (moves o)

  -- the stateid of the first that passes the test, once it is changed
  pub stateid-with_each : ((o : OpenState) → test (change o) ≡ test o) → ((o : OpenState) → stateid_of (change o) ≡ next_stateid_of o)
      → (opens : List OpenState) → option_map stateid_of (find test (with_each test change opens)) ≡ option_map next_stateid_of (find test opens)
  stateid-with_each same moves opens =
      ap (option_map stateid_of) (find-with_each same opens) ∙ option_stateid moves (find test opens)

-- an owner is the same as itself
pub is_same_owner_self : (owner : OpenOwner) → is_same_owner owner owner ≡ true
is_same_owner_self owner =
    and_from (is_same_client owner.client owner.client) (bytes_eq owner.name owner.name)
    (and_from (owner.client.epoch == owner.client.epoch) (owner.client.number == owner.client.number) (eq-eqb _ _ refl) (eq-eqb _ _ refl))
    ((bytes_eq-Decides owner.name owner.name).1 refl)

none_found : (f : OpenState → Stateid) (found : Option OpenState) → None ≡ option_map f found → found ≡ None
none_found f None h = refl
none_found f (Some o) h = cc

-- a new open of an owner who had none is the owner's
pub open_of-first : (owner : OpenOwner) (share : Share) (number : ℕ) (opens : List OpenState)
    → None ≡ option_map next_stateid_of (open_of owner opens)
    → open_of owner (opens ++ first_open owner share number ∷ []) ≡ Some (first_open owner share number)
open_of-first owner share number opens absent =
    find-append (is_of owner) opens (first_open owner share number ∷ [])
    ∙ ap (λ found. option_or found (find (is_of owner) (first_open owner share number ∷ []))) (none_found next_stateid_of (open_of owner opens) absent)
    ∙ cond-true (is_same_owner owner owner) (Some (first_open owner share number)) None (is_same_owner_self owner)
