-- A mark of a client's path changes no client.
use Rattle.std.proofs.Common.{◌≡◌, ℕ, Bool, true, false, Option, Some, None, List, [], ◌∷◌, map, refl, sym, ap, ◌∙◌, subst}
use Rattle.std.specs.Prelude.{◌||◌, ◌&&◌, ◌==◌, find, is_some, not, option_and_then, option_map, if◌then◌else◌}
use Rattle.std.specs.List.{AllByRecursion, IsDistinct, list_any}
use Rattle.std.specs.Str.{bytes_eq}
use Rattle.std.proofs.lemmas.Bool.{cond_both}
use Rattle.nfs_forms.specs.ClientId.{is_same_client}
use Rattle.nfs_forms.specs.declared.client_id.ClientId.{ClientId}
use Rattle.nfs_owners.specs.ClientLaws.{MarksKeepClients}
use Rattle.nfs_owners.specs.LiveClients.{can_become_live, other_number, replaced_by, unconfirmed_of_client}
use Rattle.nfs_owners.specs.Registry.{AreRecords, HasOwnNumber, IsNumberOf, Registry, after_mark, confirmed_of, have_same_id, is_live, is_of, is_of_client, record_of, takes_number, was_given, with_mark}
use Rattle.nfs_owners.specs.declared.client_record.ClientRecord.{ClientRecord}
use Rattle.nfs_owners.specs.declared.client_record.PathMark.{PathMark}

-- Lists of which each element is changed.

module _ {X : Type 0} (f : X → X) where
  -- by a change that the test doesn't see
  any_mapped : (test : X → Bool) → ((x : X) → test (f x) ≡ test x)
      → (xs : List X) → list_any test (map f xs) ≡ list_any test xs
  any_mapped test same [] = refl
  any_mapped test same (x ∷ xs) = rw (same x, any_mapped test same xs) refl

  find_mapped : (test : X → Bool) → ((x : X) → test (f x) ≡ test x)
      → (xs : List X) → find test (map f xs) ≡ option_map f (find test xs)
  find_mapped test same [] = refl
  find_mapped test same (x ∷ xs) = by (test x) refl (find_mapped test same xs)
    where
      by : (b : Bool) → test x ≡ b → find test (map f xs) ≡ option_map f (find test xs)
          → find test (map f (x ∷ xs)) ≡ option_map f (find test (x ∷ xs))
      by true passes rest = rw (same x, passes) refl
      by false fails rest = rw (same x, fails) rest

  pub all_mapped : (P Q : X → Type 0) → ((x : X) → P x → Q (f x))
      → (xs : List X) → AllByRecursion P xs → AllByRecursion Q (map f xs)
  all_mapped P Q keeps [] h = tt
  all_mapped P Q keeps (x ∷ xs) h = (keeps x h.0, all_mapped P Q keeps xs h.1)

  pub distinct_mapped : (e : X → X → Bool) → ((x y : X) → e (f x) (f y) ≡ e x y) → (xs : List X)
      → IsDistinct e xs → IsDistinct e (map f xs)
  unfolding IsDistinct
  distinct_mapped e same [] h = tt
  distinct_mapped e same (x ∷ xs) h = (
    all_mapped (λ y. e x y ≡ false) (λ y. e (f x) y ≡ false) (λ y apart. same x y ∙ apart) xs h.0,
    distinct_mapped e same xs h.1,
  )

-- the record stays one of its client and id
pub same_record : (number : ℕ) (path : PathMark) (r : ClientRecord)
    → ((after_mark number path r).id ≡ r.id) × ((after_mark number path r).state.client ≡ r.state.client)
same_record number path r =
    cond_both (is_of_client number r) (record r { state = record r.state { path = path } }) r
    (λ s. (s.id ≡ r.id) × (s.state.client ≡ r.state.client)) (λ _. (refl, refl)) (λ _. (refl, refl))

-- who is live

pub mark_keeps_live : (mark : ℕ) (path : PathMark) (old : Registry) (number : ℕ)
    → is_live number (with_mark mark path old) ≡ is_live number old
mark_keeps_live mark path old number =
    any_mapped (after_mark mark path) (is_of_client number)
    (λ r. ap (λ (c : ClientId). c.number == number) (same_record mark path r).1) old.confirmed

pub mark_keeps_can_become_live : (mark : ℕ) (path : PathMark) (old : Registry) (number : ℕ)
    → can_become_live number (with_mark mark path old) ≡ can_become_live number old
mark_keeps_can_become_live mark path old number =
    ap (λ live. not (was_given number old) || (not live && list_any (is_of_client number) old.unconfirmed))
    (mark_keeps_live mark path old number)

-- which record has a clientid or an id

pub marked_of : (mark : ℕ) (path : PathMark) (old : Registry) (client : ClientId)
    → record_of client (with_mark mark path old) ≡ option_map (after_mark mark path) (record_of client old)
marked_of mark path old client =
    find_mapped (after_mark mark path) (λ r. is_same_client r.state.client client)
    (λ r. ap (λ c. is_same_client c client) (same_record mark path r).1) old.confirmed

pub marked_with_id : (mark : ℕ) (path : PathMark) (old : Registry) (id : List ℕ)
    → confirmed_of (with_mark mark path old) id ≡ option_map (after_mark mark path) (confirmed_of old id)
marked_with_id mark path old id =
    find_mapped (after_mark mark path) (is_of id)
    (λ r. ap (λ i. bytes_eq i id) (same_record mark path r).0) old.confirmed

some_marked : (mark : ℕ) (path : PathMark) (found : Option ClientRecord)
    → is_some (option_map (after_mark mark path) found) ≡ is_some found
some_marked mark path None = refl
some_marked mark path (Some r) = refl

client_marked : (mark : ℕ) (path : PathMark) (found : Option ClientRecord)
    → option_map (λ r. r.state.client) (option_map (after_mark mark path) found)
    ≡ option_map (λ r. r.state.client) found
client_marked mark path None = refl
client_marked mark path (Some r) = ap Some (same_record mark path r).1

other_marked : (mark : ℕ) (path : PathMark) (number : ℕ) (found : Option ClientRecord)
    → option_and_then (other_number number) (option_map (after_mark mark path) found)
    ≡ option_and_then (other_number number) found
other_marked mark path number None = refl
other_marked mark path number (Some r) =
    ap (λ (c : ClientId). if c.number == number then None else Some c.number) (same_record mark path r).1

pub mark_keeps_replaced : (mark : ℕ) (path : PathMark) (old : Registry) (number : ℕ)
    → replaced_by number (with_mark mark path old) ≡ replaced_by number old
mark_keeps_replaced mark path old number = by (unconfirmed_of_client number old)
  where
    by : (found : Option ClientRecord)
        → option_and_then (λ r. option_and_then (other_number number) (confirmed_of (with_mark mark path old) r.id))
        found
        ≡ option_and_then (λ r. option_and_then (other_number number) (confirmed_of old r.id)) found
    by None = refl
    by (Some r) =
        ap (option_and_then (other_number number)) (marked_with_id mark path old r.id)
        ∙ other_marked mark path number (confirmed_of old r.id)

-- which records can be kept together

pub mark_keeps_records : (mark : ℕ) (path : PathMark) (old : Registry)
    → AreRecords old → AreRecords (with_mark mark path old)
mark_keeps_records mark path old are =
    let f = after_mark mark path in
    let new = with_mark mark path old in
    let takes : (id : List ℕ) (number : ℕ) (r : ClientRecord)
    → takes_number id number (f r) ≡ takes_number id number r =
    λ id number r. rw ((same_record mark path r).0, (same_record mark path r).1) refl in
    let keeps : (r : ClientRecord) → HasOwnNumber old r → HasOwnNumber new r =
    λ r own. (
      own.0,
      any_mapped f (takes_number r.id r.state.client.number) (takes r.id r.state.client.number) old.confirmed ∙ own.1,
      own.2,
    ) in
    let marked : (r : ClientRecord) → HasOwnNumber old r → HasOwnNumber new (f r) =
    λ r own. subst (λ i. IsNumberOf i (f r).state.client.number new) (sym (same_record mark path r).0)
    (subst (λ (c : ClientId). IsNumberOf r.id c.number new) (sym (same_record mark path r).1) (keeps r own)) in
    record {
      slots = are.slots;
      values = are.values;
      confirmed = distinct_mapped f have_same_id
          (λ r s. rw ((same_record mark path r).0, (same_record mark path s).0) refl) old.confirmed are.confirmed;
      unconfirmed = are.unconfirmed;
      confirmed_numbers = all_mapped f (HasOwnNumber old) (HasOwnNumber new) marked old.confirmed are.confirmed_numbers;
      unconfirmed_numbers =
          all_same (HasOwnNumber old) (HasOwnNumber new) keeps old.unconfirmed are.unconfirmed_numbers;
    }
  where
    all_same : (P Q : ClientRecord → Type 0) → ((r : ClientRecord) → P r → Q r)
        → (records : List ClientRecord) → AllByRecursion P records → AllByRecursion Q records
    all_same P Q weaken [] h = tt
    all_same P Q weaken (r ∷ records) h = (weaken r h.0, all_same P Q weaken records h.1)

pub marks_keep_clients : MarksKeepClients
marks_keep_clients mark path old = record {
  same = record {
    live = mark_keeps_live mark path old;
    can_come = mark_keeps_can_become_live mark path old;
    replaced = mark_keeps_replaced mark path old;
    known = λ client. ap is_some (marked_of mark path old client) ∙ some_marked mark path (record_of client old);
    client = λ client.
        ap (option_map (λ r. r.state.client)) (marked_of mark path old client)
        ∙ client_marked mark path (record_of client old);
    holder = λ id.
        ap (option_map (λ r. r.state.client)) (marked_with_id mark path old id)
        ∙ client_marked mark path (confirmed_of old id);
    same_given = refl;
    last_value = refl;
  };
  marked = marked_of mark path old;
  records = mark_keeps_records mark path old;
}
