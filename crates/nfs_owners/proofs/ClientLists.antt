-- The clients' records: no two of one kind have one id, and each client number is that of one id.
use Rattle.std.proofs.Common.{◌≡◌, ◌⊎◌, ℕ, zero, suc, ◌+◌, ◌≤◌, Bool, true, false, Some, None, replicate, List, [], ◌∷◌, ◌++◌, refl, sym, ap, ◌∙◌, subst, arith, inl, inr}
use Rattle.std.specs.Prelude.{◌&&◌, not, filter, find, IfOk, Option, Result, Ok, Err, option_map, if◌then◌else◌}
use Rattle.std.specs.List.{AllByRecursion, IsDistinct, list_any}
use Rattle.std.proofs.lemmas.Bool.{cases_Bool, cond-false, cond-true, cond_both, not-true}
use Rattle.std.proofs.lemmas.List.{length-replicate}
use Rattle.std.proofs.lemmas.Slice.Eq.{bytes_eq-Decides}
use Rattle.nfs_forms.specs.ClientId.{is_same_client}
use Rattle.nfs_forms.specs.Principal.{is_same_principal}
use Rattle.nfs_forms.specs.declared.client_id.ClientId.{ClientId}
use Rattle.nfs_owners.specs.ClientChange.{with_change, with_confirmed, with_unconfirmed}
use Rattle.nfs_owners.specs.ClientRoom.{FitsRecords}
use Rattle.nfs_owners.specs.Confirmation.{Confirmation, InPlaceOf, InUse, Outcome, Update, confirmation_beside, confirmation_by}
use Rattle.nfs_owners.specs.Registry.{AreRecords, HasOwnNumber, IsClientOf, IsNumberOf, Registry, confirmed_of, have_same_id, is_of, no_clients, record_state, takes_number, without_id}
use Rattle.nfs_owners.specs.declared.client_record.ClientRecord.{ClientRecord}
use Rattle.nfs_owners.specs.declared.client_record.ClientState.{ClientState}
use Rattle.nfs_owners.specs.declared.client_record.PathMark.{PathMark}
use Rattle.nfs_owners.specs.declared.clients.client_change.ClientChange.{ClientChange}
use Rattle.nfs_owners.specs.declared.clients.client_change.ClientChange.TheVariants as changes
use Rattle.nfs_owners.specs.declared.slots.TheConstants.{SLOTS}
use Rattle.nfs_owners.proofs.Lists.{all_both, all_filter, all_find, all_push, all_weaken, distinct_filter, distinct_none, distinct_push, none_each, none_filtered, none_pushed}

of_itself : (r : ClientRecord) → is_of r.id r ≡ true
of_itself r = (bytes_eq-Decides r.id r.id).1 refl

-- whether a record takes another's client number

takes_swap : (r s : ClientRecord) → takes_number r.id r.state.client.number s ≡ false → takes_number s.id s.state.client.number r ≡ false
takes_swap r s apart = grind (arith, apart, bytes_eq-Decides r.id s.id, bytes_eq-Decides s.id r.id)

takes_itself : (r : ClientRecord) → takes_number r.id r.state.client.number r ≡ false
takes_itself r = grind (arith, of_itself r)

-- of records of which none takes this one's number, this one takes none
takes_from_none : (r : ClientRecord) (records : List ClientRecord) → list_any (takes_number r.id r.state.client.number) records ≡ false
    → AllByRecursion (λ s. takes_number s.id s.state.client.number r ≡ false) records
takes_from_none r records own =
    all_weaken (λ s. takes_number r.id r.state.client.number s ≡ false) (λ s. takes_number s.id s.state.client.number r ≡ false) (takes_swap r) records
    (none_each (takes_number r.id r.state.client.number) records own)

-- Records that a test doesn't keep are removed.

pub without_confirmed : (p : ClientRecord → Bool) (old : Registry) → AreRecords old → AreRecords (record old { confirmed = filter p old.confirmed })
without_confirmed p old are =
    let new : Registry = record old { confirmed = filter p old.confirmed } in
    let keeps : (s : ClientRecord) → HasOwnNumber old s → HasOwnNumber new s =
    λ s own. (own.0, none_filtered p (takes_number s.id s.state.client.number) old.confirmed own.1, own.2) in
    record {
      slots = are.slots;
      values = are.values;
      confirmed = distinct_filter have_same_id p old.confirmed are.confirmed;
      unconfirmed = are.unconfirmed;
      confirmed_numbers = all_filter (HasOwnNumber old) (HasOwnNumber new) p (λ s own _. keeps s own) old.confirmed are.confirmed_numbers;
      unconfirmed_numbers = all_weaken (HasOwnNumber old) (HasOwnNumber new) keeps old.unconfirmed are.unconfirmed_numbers;
    }

pub without_unconfirmed : (p : ClientRecord → Bool) (old : Registry) → AreRecords old → AreRecords (record old { unconfirmed = filter p old.unconfirmed })
without_unconfirmed p old are =
    let new : Registry = record old { unconfirmed = filter p old.unconfirmed } in
    let keeps : (s : ClientRecord) → HasOwnNumber old s → HasOwnNumber new s =
    λ s own. (own.0, own.1, none_filtered p (takes_number s.id s.state.client.number) old.unconfirmed own.2) in
    record {
      slots = are.slots;
      values = are.values;
      confirmed = are.confirmed;
      unconfirmed = distinct_filter have_same_id p old.unconfirmed are.unconfirmed;
      confirmed_numbers = all_weaken (HasOwnNumber old) (HasOwnNumber new) keeps old.confirmed are.confirmed_numbers;
      unconfirmed_numbers = all_filter (HasOwnNumber old) (HasOwnNumber new) p (λ s own _. keeps s own) old.unconfirmed are.unconfirmed_numbers;
    }

-- A record is added whose number is its id's, to those of other ids.

abbrev HasOtherId : ClientRecord → ClientRecord → Type 0
HasOtherId r s = have_same_id s r ≡ false

-- the records without that of an id have other ids
others : (r : ClientRecord) (records : List ClientRecord) → AllByRecursion (HasOtherId r) (without_id r.id records)
others r [] = tt
others r (s ∷ records) =
    cond_both (not (is_of r.id s)) (s ∷ without_id r.id records) (without_id r.id records) (AllByRecursion (HasOtherId r))
    (λ kept. (not-true (is_of r.id s) kept, others r records))
    (λ _. others r records)

-- records that have their numbers have them beside this one
beside : (old : Registry) (r : ClientRecord) (records : List ClientRecord) → AllByRecursion (HasOwnNumber old) records → list_any (takes_number r.id r.state.client.number) records ≡ false
    → AllByRecursion (λ s. HasOwnNumber old s × (takes_number s.id s.state.client.number r ≡ false)) records
beside old r records have own =
    all_both (HasOwnNumber old) (λ s. takes_number s.id s.state.client.number r ≡ false) records have (takes_from_none r records own)

push_confirmed : (r : ClientRecord) (old : Registry) → AreRecords old → HasOwnNumber old r → AllByRecursion (HasOtherId r) old.confirmed → AreRecords (record old { confirmed = old.confirmed ++ r ∷ [] })
push_confirmed r old are own other =
    let new : Registry = record old { confirmed = old.confirmed ++ r ∷ [] } in
    let keeps : (s : ClientRecord) → HasOwnNumber old s × (takes_number s.id s.state.client.number r ≡ false) → HasOwnNumber new s =
    λ s h. (h.0.0, none_pushed (takes_number s.id s.state.client.number) old.confirmed r h.0.1 h.1, h.0.2) in
    let Before : ClientRecord → Type 0 = λ s. HasOwnNumber old s × (takes_number s.id s.state.client.number r ≡ false) in
    record {
      slots = are.slots;
      values = are.values;
      confirmed = distinct_push have_same_id old.confirmed r are.confirmed other;
      unconfirmed = are.unconfirmed;
      confirmed_numbers = all_push (HasOwnNumber new) old.confirmed r (all_weaken Before (HasOwnNumber new) keeps old.confirmed (beside old r old.confirmed are.confirmed_numbers own.1)) (keeps r (own, takes_itself r));
      unconfirmed_numbers = all_weaken Before (HasOwnNumber new) keeps old.unconfirmed (beside old r old.unconfirmed are.unconfirmed_numbers own.2);
    }

push_unconfirmed : (r : ClientRecord) (old : Registry) → AreRecords old → HasOwnNumber old r → AllByRecursion (HasOtherId r) old.unconfirmed → AreRecords (record old { unconfirmed = old.unconfirmed ++ r ∷ [] })
push_unconfirmed r old are own other =
    let new : Registry = record old { unconfirmed = old.unconfirmed ++ r ∷ [] } in
    let keeps : (s : ClientRecord) → HasOwnNumber old s × (takes_number s.id s.state.client.number r ≡ false) → HasOwnNumber new s =
    λ s h. (h.0.0, h.0.1, none_pushed (takes_number s.id s.state.client.number) old.unconfirmed r h.0.2 h.1) in
    let Before : ClientRecord → Type 0 = λ s. HasOwnNumber old s × (takes_number s.id s.state.client.number r ≡ false) in
    record {
      slots = are.slots;
      values = are.values;
      confirmed = are.confirmed;
      unconfirmed = distinct_push have_same_id old.unconfirmed r are.unconfirmed other;
      confirmed_numbers = all_weaken Before (HasOwnNumber new) keeps old.confirmed (beside old r old.confirmed are.confirmed_numbers own.1);
      unconfirmed_numbers = all_push (HasOwnNumber new) old.unconfirmed r (all_weaken Before (HasOwnNumber new) keeps old.unconfirmed (beside old r old.unconfirmed are.unconfirmed_numbers own.2)) (keeps r (own, takes_itself r));
    }

pub records_unconfirmed : (r : ClientRecord) (old : Registry) → AreRecords old → HasOwnNumber old r → AreRecords (with_unconfirmed r old)
records_unconfirmed r old are own =
    let p : ClientRecord → Bool = λ s. not (is_of r.id s) in
    push_unconfirmed r (record old { unconfirmed = without_id r.id old.unconfirmed }) (without_unconfirmed p old are)
    (own.0, own.1, none_filtered p (takes_number r.id r.state.client.number) old.unconfirmed own.2) (others r old.unconfirmed)

records_confirmed : (r : ClientRecord) (old : Registry) → AreRecords old → HasOwnNumber old r → AreRecords (with_confirmed r old)
records_confirmed r old are own =
    let p : ClientRecord → Bool = λ s. not (is_of r.id s) in
    let rest : Registry = record old { confirmed = without_id r.id old.confirmed; unconfirmed = without_id r.id old.unconfirmed } in
    let takes : ClientRecord → Bool = takes_number r.id r.state.client.number in
    push_confirmed r rest (without_unconfirmed p (record old { confirmed = without_id r.id old.confirmed }) (without_confirmed p old are))
    (own.0, none_filtered p takes old.confirmed own.1, none_filtered p takes old.unconfirmed own.2) (others r old.confirmed)

-- One more confirm value is given.
confirm_raised : (old : Registry) → AreRecords old → AreRecords (record old { last_confirm = old.last_confirm + 1 })
confirm_raised old are = record {
  slots = are.slots;
  values = all_weaken (λ count. count ≤ old.last_confirm) (λ count. count ≤ old.last_confirm + 1) (λ count within. omega (arith, within)) old.given are.values;
  confirmed = are.confirmed;
  unconfirmed = are.unconfirmed;
  confirmed_numbers = are.confirmed_numbers;
  unconfirmed_numbers = are.unconfirmed_numbers;
}

-- A record of the client of another with its id has the number that is the id's.
own_of : (r : ClientRecord) (old : Registry) (records : List ClientRecord) → AllByRecursion (HasOwnNumber old) records → IsClientOf r.id r.state.client records → HasOwnNumber old r
own_of r old records have of = by (find (is_of r.id) records) refl of
  where
    by : (found : Option ClientRecord) → find (is_of r.id) records ≡ found → option_map (λ (s : ClientRecord). s.state.client) found ≡ Some r.state.client → HasOwnNumber old r
    by None is same = absurd cc
    by (Some s) is same =
        let held = all_find (HasOwnNumber old) (is_of r.id) records s is have in
        let client : s.state.client ≡ r.state.client = search same in
        let id : s.id ≡ r.id = (bytes_eq-Decides s.id r.id).0 held.1 in
        subst (λ (c : ClientId). IsNumberOf r.id c.number old) client (subst (λ i. IsNumberOf i s.state.client.number old) id held.0)

-- An update that fits keeps the records so.

own_updated : (r : ClientRecord) (old : Registry) → AreRecords old → IsClientOf r.id r.state.client old.confirmed → HasOwnNumber old r
own_updated r old are fits = own_of r old old.confirmed are.confirmed_numbers fits

pub update_takes_none : (r : ClientRecord) (old : Registry) → AreRecords old → IsClientOf r.id r.state.client old.confirmed → list_any (takes_number r.id r.state.client.number) old.unconfirmed ≡ false
update_takes_none r old are fits = (own_updated r old are fits).2

pub records_updated : (r : ClientRecord) (old : Registry) → AreRecords old → IsClientOf r.id r.state.client old.confirmed → AreRecords (with_change (changes.Updates r) old)
records_updated r old are fits = confirm_raised (with_unconfirmed r old) (records_unconfirmed r old are (own_updated r old are fits))

-- So do the changes that add a confirmed record.

abbrev Confirms : ClientChange → ClientRecord → Type 0
Confirms change r = (change ≡ changes.Confirms r) ⊎ (change ≡ changes.Refreshes r) ⊎ ((client : ClientId) × (change ≡ changes.Replaces r client))

own_confirmed : (change : ClientChange) (r : ClientRecord) (old : Registry) → AreRecords old → FitsRecords change old → Confirms change r → HasOwnNumber old r
own_confirmed change r old are fits by =
    let fits_as : (c : ClientChange) → change ≡ c → FitsRecords c old = λ c is. subst (λ t. FitsRecords t old) is fits in
    elim by [
      | inl first ↦ own_of r old old.unconfirmed are.unconfirmed_numbers (fits_as (changes.Confirms r) first).1
      | inr again ↦ elim again [
        | inl anew ↦ own_of r old old.confirmed are.confirmed_numbers (fits_as (changes.Refreshes r) anew)
        | inr other ↦ own_of r old old.unconfirmed are.unconfirmed_numbers (fits_as (changes.Replaces r other.0) other.1).1
      ]
    ]

pub confirmed_takes_none : (change : ClientChange) (r : ClientRecord) (old : Registry) → AreRecords old → FitsRecords change old → Confirms change r
    → list_any (takes_number r.id r.state.client.number) old.confirmed ≡ false
confirmed_takes_none change r old are fits by = (own_confirmed change r old are fits by).1

pub records_confirmed_by : (change : ClientChange) (r : ClientRecord) (old : Registry) → AreRecords old → FitsRecords change old → Confirms change r → AreRecords (with_confirmed r old)
records_confirmed_by change r old are fits by = records_confirmed r old are (own_confirmed change r old are fits by)

-- At first there are none.

zeros_within : (n last : ℕ) → AllByRecursion (λ count. count ≤ last) (replicate n 0)
zeros_within zero last = tt
zeros_within (suc n) last = (omega arith, zeros_within n last)

pub records_empty : AreRecords no_clients
records_empty = record {
  slots = length-replicate {A = ℕ} SLOTS 0;
  values = zeros_within SLOTS 0;
  confirmed = distinct_none have_same_id;
  unconfirmed = distinct_none have_same_id;
  confirmed_numbers = tt;
  unconfirmed_numbers = tt;
}

-- a record that is found is the one with its id
pub found_of_id : (test : ClientRecord → Bool) (records : List ClientRecord) (r : ClientRecord) → IsDistinct have_same_id records → find test records ≡ Some r → find (is_of r.id) records ≡ Some r
unfolding IsDistinct
found_of_id test [] r distinct found = absurd cc
found_of_id test (s ∷ records) r distinct found =
    elim (cases_Bool (test s)) [
      | inl here ↦
          let same : Some s ≡ Some r = sym (cond-true (test s) (Some s) (find test records) here) ∙ found in
          let equal : s ≡ r = search same in
          subst (λ (x : ClientRecord). find (is_of x.id) (s ∷ records) ≡ Some x) equal
          (cond-true (is_of s.id s) (Some s) (find (is_of s.id) records) (of_itself s))
      | inr fails ↦
          let later = sym (cond-false (test s) (Some s) (find test records) fails) ∙ found in
          let apart = all_find (λ x. have_same_id s x ≡ false) test records r later distinct.0 in
          cond-false (is_of r.id s) (Some s) (find (is_of r.id) records) apart.0
          ∙ found_of_id test records r distinct.1 later
    ]

pub named_client : (test : ClientRecord → Bool) (records : List ClientRecord) (r : ClientRecord) → IsDistinct have_same_id records → find test records ≡ Some r → IsClientOf r.id r.state.client records
named_client test records r distinct found = ap (option_map (λ (s : ClientRecord). s.state.client)) (found_of_id test records r distinct found)

-- whose client a record is of which this is known
pub client_known : (found : Option ClientRecord) (state : ClientState) → record_state found ≡ Some state → option_map (λ (r : ClientRecord). r.state.client) found ≡ Some state.client
client_known None state is = absurd cc
client_known (Some r) state is =
    let same : r.state ≡ state = search is in
    ap (λ (s : ClientState). Some s.client) same

none_known : (found : Option ClientRecord) → record_state found ≡ None → found ≡ None
none_known None is = refl
none_known (Some r) is = absurd cc

-- what a confirmation changes fits the records
pub confirmation_fits : (registry : Registry) (found : Option ClientState) (r : ClientRecord) (has_state : Bool) (path : PathMark) → record_state (confirmed_of registry r.id) ≡ found → IsClientOf r.id r.state.client registry.unconfirmed
    → FitsRecords (confirmation_by (confirmation_beside found r has_state) path).1 registry
confirmation_fits registry None r has_state path is of = (none_known (confirmed_of registry r.id) is, of)
confirmation_fits registry (Some old) r has_state path is of =
    let P : Confirmation → Type 0 = λ c. FitsRecords (confirmation_by c path).1 registry in
    let held = client_known (confirmed_of registry r.id) old is in
    cond_both (is_same_client old.client r.state.client) (Update old r)
    (if not (is_same_principal old.principal r.state.principal) && has_state then InUse else InPlaceOf old r) P
    (λ _. held)
    (λ _. cond_both (not (is_same_principal old.principal r.state.principal) && has_state) InUse (InPlaceOf old r) P (λ _. tt) (λ _. (held, of)))

-- what holds of a value holds of a result that is it, if it is one
pub fits_as_result : {E : Type 0} (registry : Registry) (x : Outcome × ClientChange) (result : Result (Outcome × ClientChange) E) → FitsRecords x.1 registry → IfOk result (λ r. r ≡ x) → IfOk result (λ r. FitsRecords r.1 registry)
fits_as_result registry x (Ok r) fits is = subst (λ y. FitsRecords y.1 registry) (sym is) fits
fits_as_result registry x (Err e) fits is = tt
