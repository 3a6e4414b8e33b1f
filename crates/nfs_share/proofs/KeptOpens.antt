-- Opens in rows, found by number, by owner and by client.
use Rattle.std.proofs.Common.{◌≡◌, ℕ, ◌+◌, ◌^◌, ◌<◌, Bool, true, false, not, List, [], ◌∷◌, ◌++◌, length, find, map, Option, Some, None, refl, sym, ap, subst, ◌∙◌, arith}
use Rattle.std.specs.Prelude.{⊤, ◌==◌}
use Rattle.std.specs.List.{AllByRecursion}
use Rattle.std.specs.Str.{bytes_eq}
use Rattle.std.specs.declared.hash.RandomState.{RandomState}
use Rattle.std.proofs.lemmas.Bool.{and_parts, eqb-true, eqb-false, false_from_ne_true, true_from_ne_false}
use Rattle.std.proofs.lemmas.Slice.Eq.{bytes_eq-Decides}
use Rattle.nfs_forms.specs.ClientId.{is_same_client}
use Rattle.nfs_forms.specs.OpenOwner.{is_same_owner}
use Rattle.nfs_forms.specs.declared.client_id.ClientId.{ClientId}
use Rattle.nfs_forms.specs.declared.open_owner.OpenOwner.{OpenOwner}
use Rattle.nfs_rows.specs.Rows.{Row, StandInOrder, StandSo, is_numbered as is_row, value_in, with_value, without as rows_without}
use Rattle.nfs_rows.proofs.Each.{all_append, all_filter, all_weaken, so_filter, so_push}
use Rattle.nfs_rows.proofs.Callers.{all_seen, changed_all, changed_seen, with_change_none, with_value_is, without_seen}
use Rattle.nfs_share.specs.declared.open_state.OpenState.{OpenState}
use Rattle.nfs_share.specs.KeptOpens.{AreKept, IsBefore, IsOpen, hash_of_owner, opens_kept, with_change}
use Rattle.nfs_share.specs.Opens.{IsAbove, is_numbered, is_of, is_of_client, open_of, open_with_number}
use Rattle.nfs_share.proofs.OpensLaws.{is_same_owner_self}
use Rattle.nfs_share.proofs.EachElement.{all_always}
use Rattle.nfs_share.proofs.Tallies.{equal_clients}
use Rattle.nfs_share.proofs.AtMostOne.{AtMostOne, all_found, alone, find_alike, none_passes, so_change, so_weaken}

-- owners that are the same are equal

pub equal_owners : (a b : OpenOwner) → is_same_owner a b ≡ true → a ≡ b
equal_owners a b same =
    let each = and_parts (is_same_client a.client b.client) (bytes_eq a.name b.name) same in
    let client = equal_clients a.client b.client each.0 in
    let name = (bytes_eq-Decides a.name b.name).0 each.1 in
    λ i. record { client = client i; name = name i }

-- there are as many opens as rows
pub kept_length : (rows : List (Row OpenState)) → length rows ≡ length (opens_kept rows)
kept_length [] = refl
kept_length (r ∷ rows) = omega (arith, kept_length rows)

-- a row more is an open more
pub kept_append : (rows : List (Row OpenState)) (r : Row OpenState) → opens_kept (rows ++ r ∷ []) ≡ opens_kept rows ++ r.value ∷ []
kept_append [] r = refl
kept_append (s ∷ rows) r = ap (λ os. s.value ∷ os) (kept_append rows r)

module _ (names : RandomState) (rows : List (Row OpenState)) (are : AreKept names rows) where
  -- what a row is found by is what its open is found by

  pub numbers : (number : ℕ) → AllByRecursion (λ r. is_row number r ≡ is_numbered number r.value) rows
  numbers number =
      all_weaken (IsOpen names) (λ r. is_row number r ≡ is_numbered number r.value) (λ r is. ap (λ n. n == number) is.numbered) rows are.each

  pub hashes : (owner : OpenOwner) → AllByRecursion (λ r. is_of owner r.value ≡ true → r.hash ≡ hash_of_owner names owner) rows
  hashes owner =
      all_weaken (IsOpen names) (λ r. is_of owner r.value ≡ true → r.hash ≡ hash_of_owner names owner)
      (λ r is own. is.hashed ∙ ap (hash_of_owner names) (equal_owners r.value.owner owner own)) rows are.each

  pub clients : (client : ClientId) → AllByRecursion (λ r. is_of_client client r.value ≡ true → r.client ≡ client.number) rows
  clients client =
      all_weaken (IsOpen names) (λ r. is_of_client client r.value ≡ true → r.client ≡ client.number)
      (λ r is own. is.of_client ∙ ap (λ (c : ClientId). c.number) (equal_clients r.value.owner.client client own)) rows are.each

  -- one has a number, and one is an owner's

  pub one_numbered : (number : ℕ) → AtMostOne (is_numbered number) (opens_kept rows)
  one_numbered number =
      so_weaken IsBefore (λ a b. is_numbered number a ≡ true → is_numbered number b ≡ false)
      (λ a b before same. false_from_ne_true _ (λ too. omega (arith, before.0, eqb-true a.number number same, eqb-true b.number number too))) (opens_kept rows) are.apart

  pub one_of : (owner : OpenOwner) → AtMostOne (is_of owner) (opens_kept rows)
  one_of owner =
      so_weaken IsBefore (λ a b. is_of owner a ≡ true → is_of owner b ≡ false)
      (λ a b before same. false_from_ne_true _ (λ too. both a.owner b.owner before.1 (equal_owners a.owner owner same) too)) (opens_kept rows) are.apart
    where
      no : true ≡ false → ⊥
      no h = cc

      both : (a b : OpenOwner) → is_same_owner a b ≡ false → a ≡ owner → is_same_owner b owner ≡ true → ⊥
      both a b differ same too = no (sym (subst (λ w. is_same_owner w b ≡ true) (equal_owners b owner too ∙ sym same) (is_same_owner_self b)) ∙ differ)

  -- the open that is the owner's is the one with its number
  pub the_owners : (owner : OpenOwner) (o : OpenState) → Some o ≡ open_of owner (opens_kept rows) → AllByRecursion (λ p. is_numbered o.number p ≡ is_of owner p) (opens_kept rows)
  the_owners owner o found =
      alone (is_of owner) (is_numbered o.number) (opens_kept rows) o (one_of owner) (one_numbered o.number) found (true_from_ne_false _ (λ no. eqb-false o.number o.number no refl))

  -- it is found by its number
  pub numbered_owner : (owner : OpenOwner) (o : OpenState) → Some o ≡ open_of owner (opens_kept rows) → Some o ≡ open_with_number o.number (opens_kept rows)
  numbered_owner owner o found = found ∙ sym (find_alike (is_of owner) (is_numbered o.number) (opens_kept rows) (the_owners owner o found))

  pub owner_is : (owner : OpenOwner) (o : OpenState) → Some o ≡ open_of owner (opens_kept rows) → o.owner ≡ owner
  owner_is owner o found = equal_owners o.owner owner (all_found (λ p. ⊤) (is_of owner) (opens_kept rows) o (all_always (opens_kept rows)) found).1

  pub owners_row : (owner : OpenOwner) (o : OpenState) → Some o ≡ open_of owner (opens_kept rows) → AllByRecursion (λ r. is_row o.number r ≡ is_of owner r.value) rows
  owners_row owner o found =
      all_seen (λ r. r.value) (λ r. is_row o.number r ≡ is_numbered o.number r.value) (λ p. is_numbered o.number p ≡ is_of owner p) (λ r. is_row o.number r ≡ is_of owner r.value)
      (λ r own same. own ∙ same) rows (numbers o.number) (the_owners owner o found)

  -- what the rows are after changes

  pub change_keeps : (number : ℕ) (change : OpenState → OpenState) → ((o : OpenState) → (change o).owner ≡ o.owner) → ((o : OpenState) → (change o).number ≡ o.number)
      → AreKept names (with_change number change rows)
  change_keeps number change same_owner same_number = record {
    each = changed_all (IsOpen names) number change
        (λ r is. record {
          numbered = is.numbered ∙ sym (same_number r.value);
          hashed = is.hashed ∙ ap (hash_of_owner names) (sym (same_owner r.value));
          of_client = is.of_client ∙ ap (λ (w : OpenOwner). w.client.number) (sym (same_owner r.value));
        })
        rows are.each;
    apart = subst (StandSo IsBefore) (sym (changed_seen number change (is_numbered number) rows (numbers number)))
        (so_change IsBefore (is_numbered number) change
        (λ a b before. (omega (arith, before.0, same_number a), ap (λ w. is_same_owner w b.owner) (same_owner a) ∙ before.1))
        (λ a b before. (omega (arith, before.0, same_number b), ap (λ w. is_same_owner a.owner w) (same_owner b) ∙ before.1))
        (opens_kept rows) are.apart);
  }

  pub without_keeps : (test : Row OpenState → Bool) (other : OpenState → Bool) → AllByRecursion (λ r. test r ≡ other r.value) rows → AreKept names (rows_without test rows)
  without_keeps test other same = record {
    each = all_filter (IsOpen names) (λ r. not (test r)) rows are.each;
    apart = subst (StandSo IsBefore) (sym (without_seen (λ r. r.value) test other rows same)) (so_filter IsBefore (λ o. not (other o)) (opens_kept rows) are.apart);
  }

  pub add_keeps : (r : Row OpenState) → IsOpen names r → IsAbove r.value.number (opens_kept rows) → None ≡ open_of r.value.owner (opens_kept rows) → AreKept names (rows ++ r ∷ [])
  add_keeps r is above none = record {
    each = all_append (IsOpen names) rows (r ∷ []) are.each (is, tt);
    apart = subst (StandSo IsBefore) (sym (kept_append rows r))
        (so_push IsBefore (opens_kept rows) r.value (before (opens_kept rows) above (none_passes (is_of r.value.owner) (opens_kept rows) none)) are.apart);
  }
    where
      before : (os : List OpenState) → IsAbove r.value.number os → AllByRecursion (λ o. is_of r.value.owner o ≡ false) os → AllByRecursion (λ o. IsBefore o r.value) os
      before [] h k = tt
      before (o ∷ os) h k = ((h.0, k.0), before os h.1 k.1)

-- there is one less without the last
pub few_marks : {Y : Type 0} (seen : OpenState → Y) (rows more : List (Row OpenState)) (r : Row OpenState) (n : ℕ) → more ≡ rows ++ r ∷ [] → n ≡ length more → n < 2 ^ 64 → length (map seen (opens_kept rows)) + 1 < 2 ^ 64
few_marks seen rows more r n is len few = omega (arith, each rows, ap length is, one_more rows, len, few)
  where
    each : (rs : List (Row OpenState)) → length (map seen (opens_kept rs)) ≡ length rs
    each [] = refl
    each (s ∷ rs) = omega (arith, each rs)

    one_more : (rs : List (Row OpenState)) → length (rs ++ r ∷ []) ≡ length rs + 1
    one_more [] = refl
    one_more (s ∷ rs) = omega (arith, one_more rs)

-- a number above those of the opens is above those of the rows
pub above_rows : (names : RandomState) (number : ℕ) (rows : List (Row OpenState)) → AllByRecursion (IsOpen names) rows → IsAbove number (opens_kept rows) → AllByRecursion (λ r. r.number < number) rows
above_rows names number [] h above = tt
above_rows names number (r ∷ rows) h above = (omega (arith, above.0, h.0.numbered), above_rows names number rows h.1 above.1)

-- what was found by a number
pub found_number : (number n : ℕ) → n ≡ number → (rows : List (Row OpenState)) → {found : Option OpenState} → found ≡ value_in (find (is_row n) rows) → found ≡ value_in (find (is_row number) rows)
found_number number n is rows value = value ∙ ap (λ m. value_in (find (is_row m) rows)) is

module _ (number n : ℕ) (is : n ≡ number) (change : OpenState → OpenState) (rows : List (Row OpenState)) where
  -- an open is written over that was found
  pub changed : (o new : OpenState) → StandInOrder rows → Some o ≡ value_in (find (is_row n) rows) → new ≡ change o → with_value n new rows ≡ with_change number change rows
  changed o new order found new_is =
      (λ i. with_value (is i) (new_is i) rows) ∙ with_value_is number change o rows order (found ∙ ap (λ m. value_in (find (is_row m) rows)) is)

  -- none was found
  pub unchanged : None ≡ value_in (find (is_row n) rows) → rows ≡ with_change number change rows
  unchanged none = sym (with_change_none number change rows (none ∙ ap (λ m. value_in (find (is_row m) rows)) is))
