-- What is found by a client's number among records of different clients, and which number comes next.
use Rattle.std.proofs.Common.{◌≡◌, ℕ, Bool, true, false, ◌&&◌, ◌||◌, cond, List, [], ◌∷◌, ◌++◌, Option, Some, None, filter, find, is_some, map, append_assoc, refl, sym, ap, ◌∙◌, subst, true≢false}
use Rattle.std.specs.Prelude.{◌==◌, option_and_then}
use Rattle.std.specs.List.{IsDistinct, list_any}
use Rattle.std.proofs.lemmas.Bool.{and_from, and_parts, eq-eqb, eqb-true, false_from_ne_true}
use Rattle.std.proofs.lemmas.List.{append-nil}
use Rattle.std.proofs.lemmas.List.Elements.{filter-append}
use Rattle.nfs_forms.specs.ClientId.{is_same_client}
use Rattle.nfs_forms.specs.declared.client_id.ClientId.{ClientId}
use Rattle.nfs_operations.specs.declared.setclientid_confirm.SetclientidConfirm.{SetclientidConfirm}
use Rattle.nfs_rows.proofs.Each.{all_weaken, find_none}
use Rattle.nfs_owners.specs.LiveClients.{IsNextAmong, IsNextUnknown, has_unknown_path, is_unknown}
use Rattle.nfs_owners.specs.Records.{have_same_client}
use Rattle.nfs_owners.specs.Registry.{Registry, is_named_by, is_of_client, record_state}
use Rattle.nfs_owners.specs.declared.client_record.ClientRecord.{ClientRecord}
use Rattle.nfs_owners.specs.declared.client_record.PathMark.{PathMark}
use Rattle.nfs_owners.specs.declared.client_record.PathMark.TheVariants as marks

module _ {X : Type 0} where
  -- whether one is found
  pub found_any : (test : X → Bool) (xs : List X) → is_some (find test xs) ≡ list_any test xs
  found_any test [] = refl
  found_any test (x ∷ xs) = by (test x) (found_any test xs)
    where
      by : (b : Bool) → is_some (find test xs) ≡ list_any test xs → is_some (cond b (Some x) (find test xs)) ≡ b || list_any test xs
      by true rest = refl
      by false rest = rest

  any_filtered : (p u : X → Bool) (xs : List X) → list_any p (filter u xs) ≡ list_any (λ x. p x && u x) xs
  any_filtered p u [] = refl
  any_filtered p u (x ∷ xs) = by (u x) (p x) refl (any_filtered p u xs)
    where
      by : (b a : Bool) → p x ≡ a → list_any p (filter u xs) ≡ list_any (λ y. p y && u y) xs → list_any p (cond b (x ∷ filter u xs) (filter u xs)) ≡ ((a && b) || list_any (λ y. p y && u y) xs)
      by true true is rest = ap (λ c. c || list_any p (filter u xs)) is
      by true false is rest = ap (λ c. c || list_any p (filter u xs)) is ∙ rest
      by false true is rest = rest
      by false false is rest = rest

-- Where each record is of another client, a test that one client's record can pass is passed by that which is found by the
-- client's number, or by none.
pub narrowed : (test : ClientRecord → Bool) (number : ℕ) → ((r : ClientRecord) → test r ≡ true → is_of_client number r ≡ true) → (records : List ClientRecord) → IsDistinct have_same_client records
    → find test records ≡ option_and_then (λ r. cond (test r) (Some r) None) (find (is_of_client number) records)
unfolding IsDistinct
narrowed test number narrower [] distinct = refl
narrowed test number narrower (r ∷ records) distinct = by (is_of_client number r) refl (narrowed test number narrower records distinct.1)
  where
    gone : is_of_client number r ≡ true → find test records ≡ None
    gone here =
        find_none test records (all_weaken (λ s. have_same_client r s ≡ false) (λ s. test s ≡ false)
        (λ s apart. false_from_ne_true (test s) (λ passes. true≢false
        (sym (eq-eqb r.state.client.number s.state.client.number (eqb-true r.state.client.number number here ∙ sym (eqb-true s.state.client.number number (narrower s passes)))) ∙ apart)))
        records distinct.0)

    by : (b : Bool) → is_of_client number r ≡ b → find test records ≡ option_and_then (λ s. cond (test s) (Some s) None) (find (is_of_client number) records)
        → cond (test r) (Some r) (find test records) ≡ option_and_then (λ s. cond (test s) (Some s) None) (cond b (Some r) (find (is_of_client number) records))
    by true here rest = ap (λ w. cond (test r) (Some r) w) (gone here)
    by false here rest =
        ap (λ b. cond b (Some r) (find test records)) (false_from_ne_true (test r) (λ passes. true≢false (sym (narrower r passes) ∙ here))) ∙ rest

pub of_clientid : (client : ClientId) (records : List ClientRecord) (found : Option ClientRecord) → IsDistinct have_same_client records → found ≡ find (is_of_client client.number) records
    → option_and_then (λ r. cond (is_same_client r.state.client client) (Some r) None) found ≡ find (λ r. is_same_client r.state.client client) records
of_clientid client records found distinct is =
    ap (option_and_then (λ r. cond (is_same_client r.state.client client) (Some r) None)) is
    ∙ sym (narrowed (λ r. is_same_client r.state.client client) client.number
    (λ r same. (and_parts (r.state.client.epoch == client.epoch) (r.state.client.number == client.number) same).1) records distinct)

pub of_name : (args : SetclientidConfirm) (records : List ClientRecord) (found : Option ClientRecord) → IsDistinct have_same_client records → found ≡ find (is_of_client args.client.number) records
    → option_and_then (λ r. cond (is_named_by args r) (Some r) None) found ≡ find (is_named_by args) records
of_name args records found distinct is =
    ap (option_and_then (λ r. cond (is_named_by args r) (Some r) None)) is
    ∙ sym (narrowed (is_named_by args) args.client.number
    (λ r same. (and_parts (r.state.client.epoch == args.client.epoch) (r.state.client.number == args.client.number) (and_parts (is_same_client r.state.client args.client) (r.state.confirm == args.confirm) same).0).1)
    records distinct)

-- the record is of the client with this number, and nothing is known of the client's path
abbrev is_unknown_of : ℕ → ClientRecord → Bool
is_unknown_of number r = is_of_client number r && has_unknown_path r

of_unknown : (number : ℕ) (records : List ClientRecord) (found : Option ClientRecord) → IsDistinct have_same_client records → found ≡ find (is_of_client number) records
    → option_and_then (λ r. cond (is_unknown_of number r) (Some r) None) found ≡ find (is_unknown_of number) records
of_unknown number records found distinct is =
    ap (option_and_then (λ r. cond (is_unknown_of number r) (Some r) None)) is
    ∙ sym (narrowed (is_unknown_of number) number (λ r unknown. (and_parts (is_of_client number r) (has_unknown_path r) unknown).0) records distinct)

-- Those of whose paths nothing is known.

unknown_any : (number : ℕ) (records : List ClientRecord) → list_any (is_of_client number) (filter has_unknown_path records) ≡ is_some (find (is_unknown_of number) records)
unknown_any number records = any_filtered (is_of_client number) has_unknown_path records ∙ sym (found_any (is_unknown_of number) records)

passes_found : (test : ClientRecord → Bool) (records : List ClientRecord) (r : ClientRecord) → find test records ≡ Some r → test r ≡ true
passes_found test [] r is = absurd (cc)
passes_found test (s ∷ records) r is = by (test s) refl is (λ later. passes_found test records r later)
  where
    by : (b : Bool) → test s ≡ b → cond b (Some s) (find test records) ≡ Some r → (find test records ≡ Some r → test r ≡ true) → test r ≡ true
    by true here is later = subst (λ x. test x ≡ true) (same_record s r is) here
      where
        same_record : (a b : ClientRecord) → Some a ≡ Some b → a ≡ b
        same_record a b is = cc
    by false here is later = later is

is_unmarked : (path : PathMark) → is_unknown path ≡ true → path ≡ marks.Unknown
is_unmarked marks.Unknown is = refl
is_unmarked marks.Up is = absurd (true≢false (sym is))
is_unmarked marks.Down is = absurd (true≢false (sym is))

the_one : (test : ClientRecord → Bool) (found : Option ClientRecord) (r : ClientRecord) → option_and_then (λ s. cond (test s) (Some s) None) found ≡ Some r → found ≡ Some r
the_one test None r is = absurd (cc)
the_one test (Some s) r is = by (test s) is
  where
    by : (b : Bool) → cond b (Some s) None ≡ Some r → Some s ≡ Some r
    by true is = is
    by false is = absurd (cc)

pub unknown_is_next : (after number : ℕ) (registry : Registry) → IsDistinct have_same_client registry.confirmed → IsNextAmong after (filter has_unknown_path registry.confirmed) (Some number)
    → IsNextUnknown after registry (record_state (find (is_of_client number) registry.confirmed))
unknown_is_next after number registry distinct next = by (find (is_unknown_of number) registry.confirmed) refl
  where
    records : List ClientRecord
    records = registry.confirmed

    by : (found : Option ClientRecord) → find (is_unknown_of number) records ≡ found → IsNextUnknown after registry (record_state (find (is_of_client number) records))
    by None none = absurd (true≢false (sym next.0 ∙ unknown_any number records ∙ ap is_some none))
    by (Some r) found =
        let parts = and_parts (is_of_client number r) (has_unknown_path r) (passes_found (is_unknown_of number) records r found) in
        let same : r.state.client.number ≡ number = eqb-true r.state.client.number number parts.0 in
        let here : find (is_of_client number) records ≡ Some r = the_one (is_unknown_of number) (find (is_of_client number) records) r (of_unknown number records (find (is_of_client number) records) distinct refl ∙ found) in
        let held : find (λ s. is_same_client s.state.client r.state.client) records ≡ Some r =
        sym (of_clientid r.state.client records (Some r) distinct (sym here ∙ ap (λ n. find (is_of_client n) records) (sym same)))
        ∙ ap (λ b. cond b (Some r) None) (and_from (r.state.client.epoch == r.state.client.epoch) (r.state.client.number == r.state.client.number)
        (eq-eqb r.state.client.epoch r.state.client.epoch refl) (eq-eqb r.state.client.number r.state.client.number refl)) in
        subst (λ found. IsNextUnknown after registry (record_state found)) (sym here) (
          subst (λ n. IsNextAmong after (filter has_unknown_path records) (Some n)) (sym same) next,
          ap record_state held,
          is_unmarked r.state.path parts.1,
        )

-- those that pass whatever they are
pub filter_any : {X : Type 0} (xs : List X) → filter (λ x. true) xs ≡ xs
filter_any [] = refl
filter_any (x ∷ xs) = ap (λ rest. x ∷ rest) (filter_any xs)

-- The least number above another among those that pass a test, while the records are looked at.

pub record Walked (test : ClientRecord → Bool) (after : ℕ) (records : List ClientRecord) (left : List (ℕ × ClientRecord)) (next : Option ℕ) : Type 0 where
  pub done : List ClientRecord
  pub whole : done ++ map (λ item. item.1) left ≡ records
  pub least : IsNextAmong after (filter test done) next

module _ (test : ClientRecord → Bool) (after : ℕ) (records : List ClientRecord) where
  pub walked_none : (left : List (ℕ × ClientRecord)) → map (λ item. item.1) left ≡ records → Walked test after records left None
  walked_none left all = record { done = []; whole = all; least = λ number here. absurd (true≢false (sym here)) }

  next_done : (done : List ClientRecord) (item : ℕ × ClientRecord) (left : List (ℕ × ClientRecord)) → done ++ map (λ i. i.1) (item ∷ left) ≡ records → (done ++ item.1 ∷ []) ++ map (λ i. i.1) left ≡ records
  next_done done item left whole = append_assoc done (item.1 ∷ []) (map (λ i. i.1) left) ∙ whole

  pub walked_past : (item : ℕ × ClientRecord) (left : List (ℕ × ClientRecord)) (next : Option ℕ) → test item.1 ≡ false → Walked test after records (item ∷ left) next → Walked test after records left next
  walked_past item left next fails walked = record {
    done = walked.done ++ item.1 ∷ [];
    whole = next_done walked.done item left walked.whole;
    least = subst (λ rs. IsNextAmong after rs next) (sym (filter-append test walked.done (item.1 ∷ []) ∙ ap (λ b. filter test walked.done ++ cond b (item.1 ∷ []) []) fails ∙ append-nil (filter test walked.done))) walked.least;
  }

  pub walked_on : (item : ℕ × ClientRecord) (left : List (ℕ × ClientRecord)) (next nearer : Option ℕ) → test item.1 ≡ true
      → ((rs : List ClientRecord) → IsNextAmong after rs next → IsNextAmong after (rs ++ item.1 ∷ []) nearer) → Walked test after records (item ∷ left) next → Walked test after records left nearer
  walked_on item left next nearer passes keeps walked = record {
    done = walked.done ++ item.1 ∷ [];
    whole = next_done walked.done item left walked.whole;
    least = subst (λ rs. IsNextAmong after rs nearer) (sym (filter-append test walked.done (item.1 ∷ []) ∙ ap (λ b. filter test walked.done ++ cond b (item.1 ∷ []) []) passes)) (keeps (filter test walked.done) walked.least);
  }

  pub walked_all : (next : Option ℕ) → Walked test after records [] next → IsNextAmong after (filter test records) next
  walked_all next walked = subst (λ rs. IsNextAmong after (filter test rs) next) (sym (append-nil walked.done) ∙ walked.whole) walked.least
