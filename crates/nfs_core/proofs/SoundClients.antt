-- The clients' records: an id has one confirmed and one unconfirmed one at most, a clientid one confirmed one at most, and
-- each client number is the last that was given of its slot, to one id.
use Rattle.std.proofs.Common.{◌≡◌, ℕ, Bool, true, false, List, [], ◌∷◌, ◌++◌, filter, length, refl, sym, ap, ◌∙◌, subst, arith}
use Rattle.std.specs.Prelude.{⊤, ◌+◌, ◌<◌, ◌≤◌, ◌==◌, None, Some, nat_lt, not}
use Rattle.std.specs.List.{AllByRecursion, IsDistinct}
use Rattle.std.specs.Str.{bytes_eq}
use Rattle.std.proofs.lemmas.Bool.{and_from, and_parts, eq-eqb, eqb-false, eqb-true, false_from_ne_true, lt-ltb, not-true}
use Rattle.std.proofs.lemmas.List.{length-replicate, length-set}
use Rattle.std.proofs.lemmas.Slice.Eq.{bytes_eq-Decides}
use Rattle.nfs_core.specs.Safe.{have_same_client}
use Rattle.nfs_core.proofs.LiveLists.{none_any, none_passes}
use Rattle.nfs_core.proofs.SafeDistinct.{distinct_filter, distinct_none, distinct_push}
use Rattle.nfs_core.proofs.SafeLists.{all_always, all_both, all_filter, all_push, all_replicate, all_set, all_weaken, found_holds}
use Rattle.nfs_core.proofs.Slots.{IsLastOf, count_within, counted, last_elsewhere, last_here, slot_below}
use Rattle.nfs_core.proofs.Sound.{HasRecord, IsAloneOf, equal_clients, is_live_in, is_record_of}
use Rattle.nfs_core.proofs.SoundSequences.{never}
use Rattle.nfs_core.proofs.SoundSteps.{CanBeGiven, IsChangeReady, IsClientReady}
use Rattle.nfs_forms.specs.ClientId.{is_same_client}
use Rattle.nfs_forms.specs.declared.client_id.ClientId.{ClientId}
use Rattle.nfs_owners.specs.Choice.{has_slot, is_live_slot, without_unconfirmed_of}
use Rattle.nfs_owners.specs.ClientChange.{with_change, with_confirmed, with_unconfirmed}
use Rattle.nfs_owners.specs.Registry.{AreRecords, HasOwnNumber, HaveValues, Registry, after_mark, given_of, have_same_id, is_of, is_of_client, no_clients, takes_number, with_mark, without_client, without_id}
use Rattle.nfs_owners.specs.laws.Marks.{all_mapped, distinct_mapped, same_record}
use Rattle.nfs_owners.specs.Slots.{generation_of, slot_of}
use Rattle.nfs_owners.specs.declared.client_record.ClientRecord.{ClientRecord}
use Rattle.nfs_owners.specs.declared.client_record.PathMark.{PathMark}
use Rattle.nfs_owners.specs.declared.clients.client_change.ClientChange.{ClientChange}
use Rattle.nfs_owners.specs.declared.clients.client_change.ClientChange.TheVariants as client_changes
use Rattle.nfs_owners.specs.declared.slots.TheConstants.{SLOTS}
use Rattle.nfs_state.specs.Changes.{with_owner_change, with_state_change}
use Rattle.nfs_state.specs.State.{State}
use Rattle.nfs_state.specs.declared.change.Change.{Change}
use Rattle.nfs_state.specs.declared.change.Change.TheVariants as changes
use Rattle.nfs_state.specs.declared.owner_change.OwnerChange.{OwnerChange}
use Rattle.nfs_state.specs.declared.owner_change.OwnerChange.TheVariants as owner_changes

-- it holds of each record, confirmed or not
abbrev pub EachRecord : (ClientRecord → Type 0) → Registry → Type 0
EachRecord P registry = AllByRecursion P registry.confirmed × AllByRecursion P registry.unconfirmed

pub each_weaken : (P Q : ClientRecord → Type 0) → ((r : ClientRecord) → P r → Q r) → (registry : Registry) → EachRecord P registry → EachRecord Q registry
each_weaken P Q weaken registry h = (all_weaken P Q weaken registry.confirmed h.0, all_weaken P Q weaken registry.unconfirmed h.1)

each_both : (P Q : ClientRecord → Type 0) (registry : Registry) → EachRecord P registry → EachRecord Q registry → EachRecord (λ r. P r × Q r) registry
each_both P Q registry h k = (all_both P Q registry.confirmed h.0 k.0, all_both P Q registry.unconfirmed h.1 k.1)

-- with one more record, in place of others of its id, and without those that a test doesn't keep

all_put : (P : ClientRecord → Type 0) (r : ClientRecord) (records : List ClientRecord) → P r → AllByRecursion P records → AllByRecursion P (without_id r.id records ++ r ∷ [])
all_put P r records new h = all_push P (without_id r.id records) r (all_filter P P (λ s. not (is_of r.id s)) (λ s k _. k) records h) new

pub each_unconfirmed : (P : ClientRecord → Type 0) (r : ClientRecord) (old : Registry) → P r → EachRecord P old → EachRecord P (with_unconfirmed r old)
each_unconfirmed P r old new h = (h.0, all_put P r old.unconfirmed new h.1)

pub each_confirmed : (P : ClientRecord → Type 0) (r : ClientRecord) (old : Registry) → P r → EachRecord P old → EachRecord P (with_confirmed r old)
each_confirmed P r old new h = (all_put P r old.confirmed new h.0, all_filter P P (λ s. not (is_of r.id s)) (λ s k _. k) old.unconfirmed h.1)

pub each_left : (P : ClientRecord → Type 0) (client : ℕ) (old : Registry) → EachRecord P old → EachRecord P (without_client client old)
each_left P client old h =
    let q : ClientRecord → Bool = λ r. not (is_of_client client r) in
    (all_filter P P q (λ r k _. k) old.confirmed h.0, all_filter P P q (λ r k _. k) old.unconfirmed h.1)

-- records with one client number have one client and one id
abbrev pub HasSameId : ClientRecord → ClientRecord → Type 0
HasSameId r s = r.state.client.number ≡ s.state.client.number → (r.state.client ≡ s.state.client) × (r.id ≡ s.id)

abbrev pub HaveSameIds : Registry → Type 0
HaveSameIds registry = EachRecord (λ r. EachRecord (HasSameId r) registry) registry

-- the record's client number is the last that was given of its slot, by these counts
abbrev pub HasLastNumber : List ℕ → ClientRecord → Type 0
HasLastNumber given r = IsLastOf given r.state.client.number

-- what holds of the clients' records
pub record HasSingles (registry : Registry) : Type 0 where
  pub slots : length registry.given ≡ SLOTS
  pub values : HaveValues registry
  pub confirmed : IsDistinct have_same_id registry.confirmed
  pub unconfirmed : IsDistinct have_same_id registry.unconfirmed
  pub same : HaveSameIds registry
  pub given : EachRecord (HasLastNumber registry.given) registry

-- A record that is added has the id of all others of its client, and the last number that was given of its slot.
record Joins (registry : Registry) (r : ClientRecord) : Type 0 where
  before : EachRecord (λ s. HasSameId s r) registry
  after : EachRecord (HasSameId r) registry
  given : HasLastNumber registry.given r

-- the record has the clientid and the id of one of these that are there
joins_of_record : (r : ClientRecord) (records : List ClientRecord) (registry : Registry) → HasRecord r.state.client r.id records
    → AllByRecursion (λ s. EachRecord (HasSameId s) registry) records → AllByRecursion (HasLastNumber registry.given) records → Joins registry r
joins_of_record r records registry of same given =
    let held = found_holds (λ s. EachRecord (HasSameId s) registry × HasLastNumber registry.given s) (is_record_of r.state.client r.id) records of
    (all_both (λ s. EachRecord (HasSameId s) registry) (HasLastNumber registry.given) records same given) in
    let s = held.0 in
    let both = and_parts (is_same_client s.state.client r.state.client) (bytes_eq s.id r.id) held.2 in
    let client : s.state.client ≡ r.state.client = equal_clients s.state.client r.state.client both.0 in
    let id : s.id ≡ r.id = (bytes_eq-Decides s.id r.id).0 both.1 in
    let number : s.state.client.number ≡ r.state.client.number = ap (λ (c : ClientId). c.number) client in
    record {
      before = each_weaken (HasSameId s) (λ b. HasSameId b r) (λ b row is. (sym (row (number ∙ sym is)).0 ∙ client, sym (row (number ∙ sym is)).1 ∙ id)) registry held.1.0;
      after = each_weaken (HasSameId s) (HasSameId r) (λ b row is. (sym client ∙ (row (number ∙ is)).0, sym id ∙ (row (number ∙ is)).1)) registry held.1.0;
      given = subst (λ (c : ClientId). IsLastOf registry.given c.number) client held.1.1;
    }

-- one record is added

same_unconfirmed : (r : ClientRecord) (old : Registry) → Joins old r → HaveSameIds old → HaveSameIds (with_unconfirmed r old)
same_unconfirmed r old joins same =
    let new = with_unconfirmed r old in
    each_unconfirmed (λ a. EachRecord (HasSameId a) new) r old (each_unconfirmed (HasSameId r) r old (λ _. (refl, refl)) joins.after)
    (each_weaken (λ a. EachRecord (HasSameId a) old × HasSameId a r) (λ a. EachRecord (HasSameId a) new) (λ a h. each_unconfirmed (HasSameId a) r old h.1 h.0) old
    (each_both (λ a. EachRecord (HasSameId a) old) (λ a. HasSameId a r) old same joins.before))

same_confirmed : (r : ClientRecord) (old : Registry) → Joins old r → HaveSameIds old → HaveSameIds (with_confirmed r old)
same_confirmed r old joins same =
    let new = with_confirmed r old in
    each_confirmed (λ a. EachRecord (HasSameId a) new) r old (each_confirmed (HasSameId r) r old (λ _. (refl, refl)) joins.after)
    (each_weaken (λ a. EachRecord (HasSameId a) old × HasSameId a r) (λ a. EachRecord (HasSameId a) new) (λ a h. each_confirmed (HasSameId a) r old h.1 h.0) old
    (each_both (λ a. EachRecord (HasSameId a) old) (λ a. HasSameId a r) old same joins.before))

ids_put : (r : ClientRecord) (records : List ClientRecord) → IsDistinct have_same_id records → IsDistinct have_same_id (without_id r.id records ++ r ∷ [])
ids_put r records ids =
    let q : ClientRecord → Bool = λ s. not (is_of r.id s) in
    distinct_push have_same_id (filter q records) r (distinct_filter have_same_id q records ids)
    (all_filter (λ s. ⊤) (λ s. have_same_id s r ≡ false) q (λ s _ kept. not-true (bytes_eq s.id r.id) kept) records (all_always records))

singles_unconfirmed : (r : ClientRecord) (old : Registry) → Joins old r → HasSingles old → HasSingles (with_unconfirmed r old)
singles_unconfirmed r old joins h = record {
  slots = h.slots;
  values = h.values;
  confirmed = h.confirmed;
  unconfirmed = ids_put r old.unconfirmed h.unconfirmed;
  same = same_unconfirmed r old joins h.same;
  given = each_unconfirmed (HasLastNumber old.given) r old joins.given h.given;
}

singles_confirmed : (r : ClientRecord) (old : Registry) → Joins old r → HasSingles old → HasSingles (with_confirmed r old)
singles_confirmed r old joins h = record {
  slots = h.slots;
  values = h.values;
  confirmed = ids_put r old.confirmed h.confirmed;
  unconfirmed = distinct_filter have_same_id (λ s. not (is_of r.id s)) old.unconfirmed h.unconfirmed;
  same = same_confirmed r old joins h.same;
  given = each_confirmed (HasLastNumber old.given) r old joins.given h.given;
}

-- no count is above what none was above
values_rise : (last : ℕ) (given : List ℕ) → AllByRecursion (λ count. count ≤ last) given → AllByRecursion (λ count. count ≤ last + 1) given
values_rise last given h = all_weaken (λ count. count ≤ last) (λ count. count ≤ last + 1) (λ count below. omega (arith, below)) given h

-- one more confirm value was given
singles_valued : (old : Registry) → HasSingles old → HasSingles (record old { last_confirm = old.last_confirm + 1 })
singles_valued old h = record {
  slots = h.slots;
  values = values_rise old.last_confirm old.given h.values;
  confirmed = h.confirmed;
  unconfirmed = h.unconfirmed;
  same = h.same;
  given = h.given;
}

-- A newcomer comes.

-- the registry when the newcomer's number was given, and its slot is free
abbrev pub before_newcomer : ClientRecord → Registry → Registry
before_newcomer r old =
    let slot = slot_of r.state.client.number in
    record (without_unconfirmed_of slot old) { given = counted old.given slot; last_confirm = old.last_confirm + 1 }

-- it holds of all records that stay, which have other slots
pub each_before : (P Q : ClientRecord → Type 0) (r : ClientRecord) (old : Registry) → is_live_slot old (slot_of r.state.client.number) ≡ false
    → ((s : ClientRecord) → P s → has_slot (slot_of r.state.client.number) s ≡ false → Q s) → EachRecord P old → EachRecord Q (before_newcomer r old)
each_before P Q r old none_live keeps h =
    let has : ClientRecord → Bool = has_slot (slot_of r.state.client.number) in (
      all_weaken (λ s. P s × (has s ≡ false)) Q (λ s both. keeps s both.0 both.1) old.confirmed
          (all_both P (λ s. has s ≡ false) old.confirmed h.0 (none_passes has old.confirmed none_live)),
      all_filter P Q (λ s. not (has s)) (λ s k other. keeps s k (not-true (has s) other)) old.unconfirmed h.1,
    )

-- the numbers of two slots differ
apart_from : (r s : ClientRecord) → has_slot (slot_of r.state.client.number) s ≡ false → s.state.client.number ≡ r.state.client.number → ⊥
apart_from r s other same =
    eqb-false (slot_of s.state.client.number) (slot_of r.state.client.number) other (ap slot_of same)

joins_fresh : (r : ClientRecord) (old : Registry) → CanBeGiven r.state.client.number old → HasSingles old → Joins (before_newcomer r old) r
joins_fresh r old ready h =
    let n = r.state.client.number in
    let last = HasLastNumber old.given in
    record {
      before = each_before last (λ s. HasSameId s r) r old ready.0.alone (λ s k other is. absurd (apart_from r s other is)) h.given;
      after = each_before last (HasSameId r) r old ready.0.alone (λ s k other is. absurd (apart_from r s other (sym is))) h.given;
      given = last_here old.given n (subst (λ many. slot_of n < many) (sym h.slots) (slot_below n)) ready.0.is_number ready.0.next;
    }

singles_before : (r : ClientRecord) (old : Registry) → CanBeGiven r.state.client.number old → HasSingles old → HasSingles (before_newcomer r old)
singles_before r old ready h =
    let slot = slot_of r.state.client.number in
    let has : ClientRecord → Bool = has_slot slot in
    let new = before_newcomer r old in
    let none_live = ready.0.alone in
    let last = old.last_confirm in
    record {
      slots = length-set old.given slot (given_of old slot + 1) ∙ h.slots;
      values = all_set (λ count. count ≤ last + 1) old.given slot (given_of old slot + 1) (values_rise last old.given h.values)
          (omega (arith, count_within last old.given slot h.values));
      confirmed = h.confirmed;
      unconfirmed = distinct_filter have_same_id (λ s. not (has s)) old.unconfirmed h.unconfirmed;
      same = each_before (λ a. EachRecord (HasSameId a) old) (λ a. EachRecord (HasSameId a) new) r old none_live
          (λ a row _. each_before (HasSameId a) (HasSameId a) r old none_live (λ s k _. k) row) h.same;
      given = each_before (HasLastNumber old.given) (HasLastNumber (counted old.given slot)) r old none_live
          (λ s k other. last_elsewhere old.given slot s.state.client.number (eqb-false (slot_of s.state.client.number) slot other) k) h.given;
    }

-- A change that is ready keeps the records single.
pub singles_changed : (change : ClientChange) (old : Registry) → IsClientReady change old → HasSingles old → HasSingles (with_change change old)
singles_changed client_changes.Nothing old ready h = h
singles_changed (client_changes.Arrives r) old ready h =
    singles_unconfirmed r (before_newcomer r old) (joins_fresh r old ready h) (singles_before r old ready h)
singles_changed (client_changes.Updates r) old ready h =
    let new : Registry = record old { last_confirm = old.last_confirm + 1 } in
    singles_unconfirmed r new (joins_of_record r old.confirmed new ready h.same.0 h.given.0) (singles_valued old h)
singles_changed (client_changes.Confirms r) old ready h =
    singles_confirmed r old (joins_of_record r old.unconfirmed old ready.1 h.same.1 h.given.1) h
singles_changed (client_changes.Refreshes r) old ready h =
    singles_confirmed r old (joins_of_record r old.confirmed old ready.1 h.same.0 h.given.0) h
singles_changed (client_changes.Replaces r client) old ready h =
    singles_confirmed r old (joins_of_record r old.unconfirmed old ready.2 h.same.1 h.given.1) h

-- A mark of a client's path leaves each record its client and its id.

pub each_marked : (number : ℕ) (path : PathMark) (P Q : ClientRecord → Type 0) → ((r : ClientRecord) → P r → Q r) → ((r : ClientRecord) → P r → Q (after_mark number path r)) → (old : Registry)
    → EachRecord P old → EachRecord Q (with_mark number path old)
each_marked number path P Q keeps marked old h = (all_mapped (after_mark number path) P Q marked old.confirmed h.0, all_weaken P Q keeps old.unconfirmed h.1)

same_id_before : (number : ℕ) (path : PathMark) (r s : ClientRecord) → HasSameId r s → HasSameId r (after_mark number path s)
same_id_before number path r s row is =
    let same = same_record number path s in
    let both = row (is ∙ ap (λ (c : ClientId). c.number) same.1) in
    (both.0 ∙ sym same.1, both.1 ∙ sym same.0)

same_id_of : (number : ℕ) (path : PathMark) (r s : ClientRecord) → HasSameId r s → HasSameId (after_mark number path r) s
same_id_of number path r s row is =
    let same = same_record number path r in
    let both = row (sym (ap (λ (c : ClientId). c.number) same.1) ∙ is) in
    (same.1 ∙ both.0, same.0 ∙ both.1)

ids_marked : (number : ℕ) (path : PathMark) (r s : ClientRecord) → have_same_id (after_mark number path r) (after_mark number path s) ≡ have_same_id r s
ids_marked number path r s =
    ap (λ id. bytes_eq id (after_mark number path s).id) (same_record number path r).0 ∙ ap (bytes_eq r.id) (same_record number path s).0

-- the records of one row stay alike, and so do those of each row
row_marked : (number : ℕ) (path : PathMark) (r : ClientRecord) (old : Registry) → EachRecord (HasSameId r) old → EachRecord (HasSameId r) (with_mark number path old)
row_marked number path r old row = each_marked number path (HasSameId r) (HasSameId r) (λ s h. h) (λ s h. same_id_before number path r s h) old row

same_marked : (number : ℕ) (path : PathMark) (old : Registry) → HaveSameIds old → HaveSameIds (with_mark number path old)
same_marked number path old same =
    let new = with_mark number path old in
    each_marked number path (λ r. EachRecord (HasSameId r) old) (λ r. EachRecord (HasSameId r) new)
    (λ r row. row_marked number path r old row)
    (λ r row.
    let marked = after_mark number path r in
    each_weaken (HasSameId r) (HasSameId marked) (λ s h. same_id_of number path r s h) new (row_marked number path r old row)) old same

singles_marked : (number : ℕ) (path : PathMark) (old : Registry) → HasSingles old → HasSingles (with_mark number path old)
singles_marked number path old h =
    let given : ClientRecord → Type 0 = HasLastNumber old.given in
    record {
      slots = h.slots;
      values = h.values;
      confirmed = distinct_mapped (after_mark number path) have_same_id (ids_marked number path) old.confirmed h.confirmed;
      unconfirmed = h.unconfirmed;
      same = same_marked number path old h.same;
      given = each_marked number path given given (λ r k. k)
          (λ r k. subst (λ (c : ClientId). IsLastOf old.given c.number) (sym (same_record number path r).1) k) old h.given;
    }

pub singles_after : (change : Change) (old : State) → IsChangeReady change old → HasSingles old.clients → HasSingles (with_state_change change old).clients
singles_after changes.Nothing old ready h = h
singles_after (changes.Clients change) old ready h = singles_changed change old.clients ready h
singles_after (changes.Expires client) old ready h =
    let registry = old.clients in
    let q : ClientRecord → Bool = λ r. not (is_of_client client.number r) in
    let new = without_client client.number registry in
    record {
      slots = h.slots;
      values = h.values;
      confirmed = distinct_filter have_same_id q registry.confirmed h.confirmed;
      unconfirmed = distinct_filter have_same_id q registry.unconfirmed h.unconfirmed;
      same = each_left (λ a. EachRecord (HasSameId a) new) client.number registry
          (each_weaken (λ a. EachRecord (HasSameId a) registry) (λ a. EachRecord (HasSameId a) new) (λ a row. each_left (HasSameId a) client.number registry row) registry h.same);
      given = each_left (HasLastNumber registry.given) client.number registry h.given;
    }
singles_after (changes.MarksPath client path) old ready h = singles_marked client path old.clients h
-- an OPEN leaves the clients as they are, be a delegation given or not
singles_after (changes.Opens node owner share None) old ready h = h
singles_after (changes.Opens node owner share (Some kind)) old ready h = h
singles_after change old ready h = h

pub singles_owned : (change : OwnerChange) (number : ℕ) (old : State) → HasSingles old.clients → HasSingles (with_owner_change change number old).clients
singles_owned owner_changes.Nothing number old h = h
singles_owned change number old h = h

pub singles_empty : HasSingles no_clients
singles_empty = record {
  slots = length-replicate {A = ℕ} SLOTS 0;
  values = all_replicate (λ count. count ≤ 0) 0 (omega arith) SLOTS;
  confirmed = distinct_none have_same_id;
  unconfirmed = distinct_none have_same_id;
  same = (tt, tt);
  given = (tt, tt);
}

-- All confirmed records with the number of a client that is live are its own.
pub alone : (client : ClientId) (registry : Registry) → is_live_in registry.confirmed client ≡ true → HaveSameIds registry → AllByRecursion (IsAloneOf client) registry.confirmed
alone client registry live same =
    let held = found_holds (λ s. EachRecord (HasSameId s) registry) (λ r. is_same_client r.state.client client) registry.confirmed live same.0 in
    let s = held.0 in
    let is : s.state.client ≡ client = equal_clients s.state.client client held.2 in
    all_weaken (HasSameId s) (IsAloneOf client) (λ b row number. sym (row (ap (λ (c : ClientId). c.number) is ∙ sym number)).0 ∙ is) registry.confirmed held.1.0

-- So a clientid has one confirmed record at most.

client_differs : (r s : ClientRecord) → (have_same_id r s ≡ false) × HasSameId r s → have_same_client r s ≡ false
client_differs r s h =
    false_from_ne_true (have_same_client r s)
    (λ same. never (have_same_id r s) h.0
    ((bytes_eq-Decides r.id s.id).1 (h.1 (ap (λ (c : ClientId). c.number) (equal_clients r.state.client s.state.client same))).1))

distinct_clients : (records : List ClientRecord) → IsDistinct have_same_id records → AllByRecursion (λ r. AllByRecursion (HasSameId r) records) records → IsDistinct have_same_client records
unfolding IsDistinct
distinct_clients [] ids same = tt
distinct_clients (r ∷ records) ids same = (
  all_weaken (λ s. (have_same_id r s ≡ false) × HasSameId r s) (λ s. have_same_client r s ≡ false) (λ s h. client_differs r s h) records
      (all_both (λ s. have_same_id r s ≡ false) (HasSameId r) records ids.0 same.0.1),
  distinct_clients records ids.1
      (all_weaken (λ s. AllByRecursion (HasSameId s) (r ∷ records)) (λ s. AllByRecursion (HasSameId s) records) (λ s h. h.1) records same.1),
)

pub one_of_client : (registry : Registry) → HasSingles registry → IsDistinct have_same_client registry.confirmed
one_of_client registry h =
    distinct_clients registry.confirmed h.confirmed
    (all_weaken (λ r. EachRecord (HasSameId r) registry) (λ r. AllByRecursion (HasSameId r) registry.confirmed) (λ r row. row.0) registry.confirmed h.same.0)

-- And each client number is of one id.

takes_none : (r s : ClientRecord) → HasSameId r s → takes_number r.id r.state.client.number s ≡ false
takes_none r s same =
    false_from_ne_true (takes_number r.id r.state.client.number s)
    (λ takes.
    let both = and_parts (is_of_client r.state.client.number s) (not (is_of r.id s)) takes in
    let ids = (same (sym (eqb-true s.state.client.number r.state.client.number both.0))).1 in
    never (is_of r.id s) (not-true (is_of r.id s) both.1) ((bytes_eq-Decides s.id r.id).1 (sym ids)))

own_number : (registry : Registry) (r : ClientRecord) → EachRecord (HasSameId r) registry × HasLastNumber registry.given r → HasOwnNumber registry r
own_number registry r h =
    let n = r.state.client.number in
    let slot = slot_of n in
    let takes : ClientRecord → Bool = takes_number r.id n in
    let none = each_weaken (HasSameId r) (λ s. takes s ≡ false) (λ s same. takes_none r s same) registry h.0 in (
      and_from (nat_lt 0 slot) (generation_of n + 1 == given_of registry slot) (lt-ltb 0 slot h.1.0) (eq-eqb (generation_of n + 1) (given_of registry slot) h.1.1),
      none_any takes registry.confirmed none.0,
      none_any takes registry.unconfirmed none.1,
    )

pub are_records : (registry : Registry) → HasSingles registry → AreRecords registry
are_records registry h =
    let own = each_weaken (λ r. EachRecord (HasSameId r) registry × HasLastNumber registry.given r) (HasOwnNumber registry) (own_number registry) registry
    (each_both (λ r. EachRecord (HasSameId r) registry) (HasLastNumber registry.given) registry h.same h.given) in
    record {
      slots = h.slots;
      values = h.values;
      confirmed = h.confirmed;
      unconfirmed = h.unconfirmed;
      confirmed_numbers = own.0;
      unconfirmed_numbers = own.1;
    }
