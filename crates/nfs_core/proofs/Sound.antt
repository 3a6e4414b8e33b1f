-- What holds of the state after each entry of a lawful journal, and that it stays: of owners, opens and clients.
use Rattle.std.proofs.Common.{◌≡◌, inl, inr, ℕ, Bool, true, false, cond, Option, Some, None, List, [], ◌∷◌, ◌++◌, map, filter, refl, sym, ap, ◌∙◌, subst}
use Rattle.std.specs.Prelude.{⊤, ◌≤◌, ◌==◌, ◌&&◌, not, find, is_some, option_map, IsFalse}
use Rattle.std.specs.List.{AllByRecursion}
use Rattle.std.specs.Str.{bytes_eq}
use Rattle.std.proofs.lemmas.Bool.{and_parts, and_from, cond_both, cases_Bool, eqb-true, eq-eqb, not-true, not_from_false}
use Rattle.std.proofs.lemmas.Slice.Eq.{bytes_eq-Decides}
use Rattle.nfs_state.specs.Owners.{KnownOwner, confirmed_if_known, has_name, is_confirmed}
use Rattle.nfs_state.specs.State.{State}
use Rattle.nfs_core.specs.Safe.{bears}
use Rattle.nfs_core.proofs.SafeLists.{all_always, all_filter, all_map, all_push, all_weaken, find_filtered, find_mapped, find_more, found_filtered, found_kept, found_map, found_more, pairs_filter, pairs_map}
use Rattle.nfs_forms.specs.ClientId.{is_same_client}
use Rattle.nfs_forms.specs.LockOwner.{is_same_lock_owner}
use Rattle.nfs_forms.specs.OpenOwner.{is_same_owner}
use Rattle.nfs_forms.specs.declared.client_id.ClientId.{ClientId}
use Rattle.nfs_forms.specs.declared.lock_owner.LockOwner.{LockOwner}
use Rattle.nfs_forms.specs.declared.open_owner.OpenOwner.{OpenOwner}
use Rattle.nfs_locks.specs.AllLocks.{locks_of}
use Rattle.nfs_locks.specs.Laws.{AllLocksAreCompatible}
use Rattle.nfs_locks.specs.Locks.{ByteLocks, is_lock_of}
use Rattle.nfs_locks.specs.Locks as locks
use Rattle.nfs_owners.specs.Registry.{after_mark, is_of, is_of_client, without_id}
use Rattle.nfs_owners.specs.StateOwner.{is_same_kind, is_same_state_owner, lock_owner, open_owner}
use Rattle.nfs_owners.specs.declared.client_record.ClientRecord.{ClientRecord}
use Rattle.nfs_owners.specs.declared.client_record.PathMark.{PathMark}
use Rattle.nfs_owners.specs.laws.Marks.{same_record}
use Rattle.nfs_owners.specs.declared.state_owner.OwnerKind.{OwnerKind}
use Rattle.nfs_owners.specs.declared.state_owner.OwnerKind.TheVariants as kinds
use Rattle.nfs_owners.specs.declared.state_owner.StateOwner.{StateOwner}
use Rattle.nfs_share.specs.AllOpens.{opens_of}
use Rattle.nfs_share.specs.Laws.{AllAreCompatible}
use Rattle.nfs_share.specs.Opens.{after_downgrade, after_open, first_open, is_of as is_open_of, is_refused, open_of, with_each, with_next_seqid, with_opening, without}
use Rattle.nfs_share.specs.declared.open_state.OpenState.{OpenState}
use Rattle.nfs_share.specs.declared.share.Share.{Share}

-- the laws by which opens that are compatible stay so
pub record OpensStay : Type 0 where
  pub try_open : (owner : OpenOwner) (share : Share) (number : ℕ) (opens : List OpenState) → AllAreCompatible opens → IsFalse (is_refused owner share opens) → AllAreCompatible (with_opening owner share number opens)
  pub advance : (test : OpenState → Bool) (opens : List OpenState) → AllAreCompatible opens → AllAreCompatible (with_each test with_next_seqid opens)
  pub downgrade : (test : OpenState → Bool) (share : Share) (opens : List OpenState) → AllAreCompatible opens → AllAreCompatible (with_each test (after_downgrade share) opens)
  pub removal : (test : OpenState → Bool) (opens : List OpenState) → AllAreCompatible opens → AllAreCompatible (without test opens)

-- two clientids that are the same are equal
pub equal_clients : (a b : ClientId) → is_same_client a b ≡ true → a ≡ b
equal_clients a b same =
    let both = and_parts (a.epoch == b.epoch) (a.number == b.number) same in
    let epoch = eqb-true a.epoch b.epoch both.0 in
    let number = eqb-true a.number b.number both.1 in
    λ i. record { epoch = epoch i; number = number i }

-- two owners that are the same are equal
pub equal_owners : (a b : OpenOwner) → is_same_owner a b ≡ true → a ≡ b
equal_owners a b same =
    let both = and_parts (is_same_client a.client b.client) (bytes_eq a.name b.name) same in
    let client = equal_clients a.client b.client both.0 in
    let name = (bytes_eq-Decides a.name b.name).0 both.1 in
    λ i. record { client = client i; name = name i }

pub same_client_self : (a : ClientId) → is_same_client a a ≡ true
same_client_self a = and_from (a.epoch == a.epoch) (a.number == a.number) (eq-eqb a.epoch a.epoch refl) (eq-eqb a.number a.number refl)

pub same_owner_self : (a : OpenOwner) → is_same_owner a a ≡ true
same_owner_self a = and_from (is_same_client a.client a.client) (bytes_eq a.name a.name) (same_client_self a.client) ((bytes_eq-Decides a.name a.name).1 refl)

pub equal_lock_owners : (a b : LockOwner) → is_same_lock_owner a b ≡ true → a ≡ b
equal_lock_owners a b same =
    let both = and_parts (is_same_client a.client b.client) (bytes_eq a.name b.name) same in
    let client = equal_clients a.client b.client both.0 in
    let name = (bytes_eq-Decides a.name b.name).0 both.1 in
    λ i. record { client = client i; name = name i }

pub same_lock_owner_self : (a : LockOwner) → is_same_lock_owner a a ≡ true
same_lock_owner_self a = and_from (is_same_client a.client a.client) (bytes_eq a.name a.name) (same_client_self a.client) ((bytes_eq-Decides a.name a.name).1 refl)

equal_kinds : (a b : OwnerKind) → is_same_kind a b ≡ true → a ≡ b
equal_kinds kinds.Open kinds.Open same = refl
equal_kinds kinds.Open kinds.Lock same = absurd cc
equal_kinds kinds.Lock kinds.Open same = absurd cc
equal_kinds kinds.Lock kinds.Lock same = refl

same_kind_self : (a : OwnerKind) → is_same_kind a a ≡ true
same_kind_self kinds.Open = refl
same_kind_self kinds.Lock = refl

-- the same of owners of both kinds
pub equal_names : (a b : StateOwner) → is_same_state_owner a b ≡ true → a ≡ b
equal_names a b same =
    let both = and_parts (is_same_kind a.kind b.kind && is_same_client a.client b.client) (bytes_eq a.name b.name) same in
    let front = and_parts (is_same_kind a.kind b.kind) (is_same_client a.client b.client) both.0 in
    let kind = equal_kinds a.kind b.kind front.0 in
    let client = equal_clients a.client b.client front.1 in
    let name = (bytes_eq-Decides a.name b.name).0 both.1 in
    λ i. record { kind = kind i; client = client i; name = name i }

pub same_name_self : (a : StateOwner) → is_same_state_owner a a ≡ true
same_name_self a =
    and_from (is_same_kind a.kind a.kind && is_same_client a.client a.client) (bytes_eq a.name a.name)
    (and_from (is_same_kind a.kind a.kind) (is_same_client a.client a.client) (same_kind_self a.kind) (same_client_self a.client))
    ((bytes_eq-Decides a.name a.name).1 refl)

-- the client has a confirmed record
abbrev pub is_live_in : List ClientRecord → ClientId → Bool
is_live_in records client = is_some (find (λ r. is_same_client r.state.client client) records)

-- each owner's client is live
abbrev pub AreLive : List ClientRecord → List KnownOwner → Type 0
AreLive records owners = AllByRecursion (λ o. is_live_in records o.name.client ≡ true) owners

-- the owner is known
abbrev pub is_known_in : List KnownOwner → StateOwner → Bool
is_known_in owners name = is_some (find (has_name name) owners)

abbrev pub IsKnownIn : List KnownOwner → OpenState → Type 0
IsKnownIn owners o = is_known_in owners (open_owner o.owner) ≡ true

-- each open's owner is known
abbrev pub AreKnown : List KnownOwner → List (List OpenState) → Type 0
AreKnown owners opens = AllByRecursion (AllByRecursion (IsKnownIn owners)) opens

-- the opens of each node are compatible
abbrev pub AreCompatible : List (List OpenState) → Type 0
AreCompatible opens = AllByRecursion AllAreCompatible opens

-- confirmed records with one id are of one client
abbrev pub HasSameClient : ClientRecord → ClientRecord → Type 0
HasSameClient r s = is_of r.id s ≡ true → is_same_client s.state.client r.state.client ≡ true

abbrev pub AreSingle : List ClientRecord → Type 0
AreSingle records = AllByRecursion (λ r. AllByRecursion (HasSameClient r) records) records

-- the record has this clientid and this id
abbrev pub is_record_of : ClientId → List ℕ → ClientRecord → Bool
is_record_of client id s = is_same_client s.state.client client && bytes_eq s.id id

-- one of the records is such a one
abbrev pub HasRecord : ClientId → List ℕ → List ClientRecord → Type 0
HasRecord client id records = is_some (find (is_record_of client id) records) ≡ true

abbrev pub IsLockerKnownIn : List KnownOwner → ByteLocks → Type 0
IsLockerKnownIn owners l = is_known_in owners (lock_owner l.owner) ≡ true

-- the lock state belongs to one of the opens
abbrev pub StandsUnder : List KnownOwner → List OpenState → ByteLocks → Type 0
StandsUnder owners opens l = is_some (find (bears owners l) opens) ≡ true

-- lock states with one number are of one owner
abbrev pub HasOneOwner : ByteLocks → ByteLocks → Type 0
HasOneOwner a b = locks.is_numbered a.number b ≡ true → is_lock_of a.owner b ≡ true

-- No number is above the last one that was given, and those with one number are of one owner.
abbrev pub AreNumbered : ℕ → List ByteLocks → Type 0
AreNumbered last xs = AllByRecursion (λ l. l.number ≤ last) xs × AllByRecursion (λ a. AllByRecursion (HasOneOwner a) xs) xs

-- what holds of the lock states
pub record HasSoundLocks (owners : List KnownOwner) (opens : List (List OpenState)) (last : ℕ) (locks : List (List ByteLocks)) : Type 0 where
  pub known : AllByRecursion (AllByRecursion (IsLockerKnownIn owners)) locks
  pub compatible : AllByRecursion AllLocksAreCompatible locks
  pub under : (node : ℕ) → AllByRecursion (StandsUnder owners (opens_of node opens)) (locks_of node locks)
  pub numbered : AllByRecursion (AreNumbered last) locks

pub record IsSound (state : State) : Type 0 where
  pub live : AreLive state.clients.confirmed state.owners
  pub known : AreKnown state.owners state.opens
  pub compatible : AreCompatible state.opens
  pub single : AreSingle state.clients.confirmed
  pub locks : HasSoundLocks state.owners state.opens state.last_state state.locks

-- Owners that change, none of them its name.

-- The change keeps the owner's name, and doesn't make it unconfirmed.
pub record KeepsOwner (f : KnownOwner → KnownOwner) : Type 0 where
  pub name : (o : KnownOwner) → (f o).name ≡ o.name
  pub confirmed : (o : KnownOwner) → o.confirmed ≡ true → (f o).confirmed ≡ true

pub name_kept : (change : KnownOwner → KnownOwner) → ((o : KnownOwner) → (change o).name ≡ o.name) → (b : Bool) (o : KnownOwner) → (cond b (change o) o).name ≡ o.name
name_kept change keeps true o = keeps o
name_kept change keeps false o = refl

-- a change of the owners that pass a test
pub keeps_tested : (test : KnownOwner → Bool) (change : KnownOwner → KnownOwner) → KeepsOwner change → KeepsOwner (λ o. cond (test o) (change o) o)
keeps_tested test change keeps = record {
  name = λ o. name_kept change keeps.name (test o) o;
  confirmed = λ o is_set. cond_both (test o) (change o) o (λ k. k.confirmed ≡ true) (λ _. keeps.confirmed o is_set) (λ _. is_set);
}

name_mapped : (f : KnownOwner → KnownOwner) → KeepsOwner f → (owners : List KnownOwner) (name : StateOwner) → is_known_in owners name ≡ true → is_known_in (map f owners) name ≡ true
name_mapped f keeps owners name found =
    found_map (has_name name) f (λ o has. ap (λ n. is_same_state_owner n name) (keeps.name o) ∙ has) owners found

confirmed_still : (f : KnownOwner → KnownOwner) → KeepsOwner f → (found : Option KnownOwner) → confirmed_if_known found ≡ true → confirmed_if_known (option_map f found) ≡ true
confirmed_still f keeps None h = h
confirmed_still f keeps (Some o) h = keeps.confirmed o h

confirmed_mapped : (f : KnownOwner → KnownOwner) → KeepsOwner f → (owners : List KnownOwner) (name : StateOwner) → is_confirmed name owners ≡ true → is_confirmed name (map f owners) ≡ true
confirmed_mapped f keeps owners name h =
    ap confirmed_if_known (find_mapped (has_name name) f (λ o. ap (λ n. is_same_state_owner n name) (keeps.name o)) owners)
    ∙ confirmed_still f keeps (find (has_name name) owners) h

pub mapped_live : (f : KnownOwner → KnownOwner) → KeepsOwner f → (records : List ClientRecord) (owners : List KnownOwner) → AreLive records owners → AreLive records (map f owners)
mapped_live f keeps records owners live =
    all_map (λ o. is_live_in records o.name.client ≡ true) (λ o. is_live_in records o.name.client ≡ true) f
    (λ o h. ap (λ n. is_live_in records n.client) (keeps.name o) ∙ h) owners live

-- One more owner.

name_recorded : (o : KnownOwner) (owners : List KnownOwner) (name : StateOwner) → is_known_in owners name ≡ true → is_known_in (owners ++ o ∷ []) name ≡ true
name_recorded o owners name found = found_more (has_name name) owners (o ∷ []) found

known_confirmed : (found : Option KnownOwner) → confirmed_if_known found ≡ true → is_some found ≡ true
known_confirmed None h = absurd cc
known_confirmed (Some o) h = refl

confirmed_recorded : (o : KnownOwner) (owners : List KnownOwner) (name : StateOwner) → is_confirmed name owners ≡ true → is_confirmed name (owners ++ o ∷ []) ≡ true
confirmed_recorded o owners name h =
    ap confirmed_if_known (find_more (has_name name) owners (o ∷ []) (known_confirmed (find (has_name name) owners) h)) ∙ h

-- Owners that are dropped by a test of their names.

abbrev pub left : (StateOwner → Bool) → List KnownOwner → List KnownOwner
left t owners = filter (λ o. not (t o.name)) owners

stays : (t : StateOwner → Bool) (name : StateOwner) → t name ≡ false → (o : KnownOwner) → has_name name o ≡ true → not (t o.name) ≡ true
stays t name out o has = not_from_false (t o.name) (ap t (equal_names o.name name has) ∙ out)

pub name_left : (t : StateOwner → Bool) (owners : List KnownOwner) (name : StateOwner) → t name ≡ false → is_known_in owners name ≡ true → is_known_in (left t owners) name ≡ true
name_left t owners name out found =
    found_filtered (λ o. ⊤) (has_name name) (λ o. not (t o.name)) (λ o _ has. stays t name out o has) owners (all_always owners) found

pub confirmed_left : (t : StateOwner → Bool) (owners : List KnownOwner) (name : StateOwner) → t name ≡ false → is_confirmed name owners ≡ true → is_confirmed name (left t owners) ≡ true
confirmed_left t owners name out h =
    ap confirmed_if_known (find_filtered (has_name name) (λ o. not (t o.name)) (stays t name out) owners) ∙ h

pub dropped_live : (t : StateOwner → Bool) (records : List ClientRecord) (owners : List KnownOwner) → AreLive records owners → AreLive records (left t owners)
dropped_live t records owners live =
    all_filter (λ o. is_live_in records o.name.client ≡ true) (λ o. is_live_in records o.name.client ≡ true) (λ o. not (t o.name)) (λ o h _. h) owners live

-- All that are known or confirmed stay so.
pub record KeepsOwners (owners new : List KnownOwner) : Type 0 where
  pub known : (name : StateOwner) → is_known_in owners name ≡ true → is_known_in new name ≡ true
  pub confirmed : (name : StateOwner) → is_confirmed name owners ≡ true → is_confirmed name new ≡ true

pub keeps_mapped : (f : KnownOwner → KnownOwner) → KeepsOwner f → (owners : List KnownOwner) → KeepsOwners owners (map f owners)
keeps_mapped f keeps owners = record { known = name_mapped f keeps owners; confirmed = confirmed_mapped f keeps owners }

pub keeps_recorded : (o : KnownOwner) (owners : List KnownOwner) → KeepsOwners owners (owners ++ o ∷ [])
keeps_recorded o owners = record { known = name_recorded o owners; confirmed = confirmed_recorded o owners }

pub keeps_both : (owners mid new : List KnownOwner) → KeepsOwners owners mid → KeepsOwners mid new → KeepsOwners owners new
keeps_both owners mid new first second = record {
  known = λ name h. second.known name (first.known name h);
  confirmed = λ name h. second.confirmed name (first.confirmed name h);
}

-- The opens, where the owners change.

pub renamed_known : (owners new : List KnownOwner) → ((o : OpenOwner) → is_known_in owners (open_owner o) ≡ true → is_known_in new (open_owner o) ≡ true) → (opens : List (List OpenState)) → AreKnown owners opens → AreKnown new opens
renamed_known owners new keeps opens known =
    all_weaken (AllByRecursion (IsKnownIn owners)) (AllByRecursion (IsKnownIn new))
    (λ xs h. all_weaken (IsKnownIn owners) (IsKnownIn new) (λ o found. keeps o.owner found) xs h) opens known

-- owners that are dropped with their opens
pub dropped_known : (t : StateOwner → Bool) (owners : List KnownOwner) (opens : List (List OpenState)) → AreKnown owners opens → AreKnown (left t owners) (map (without (λ o. t (open_owner o.owner))) opens)
dropped_known t owners opens known =
    all_map (AllByRecursion (IsKnownIn owners)) (AllByRecursion (IsKnownIn (left t owners))) (without (λ o. t (open_owner o.owner)))
    (λ xs h. all_filter (IsKnownIn owners) (IsKnownIn (left t owners)) (λ o. not (t (open_owner o.owner)))
    (λ o found out. name_left t owners (open_owner o.owner) (not-true (t (open_owner o.owner)) out) found) xs h) opens known

pub dropped_compatible : OpensStay → (t : OpenState → Bool) (opens : List (List OpenState)) → AreCompatible opens → AreCompatible (map (without t) opens)
dropped_compatible law t opens compatible =
    all_map AllAreCompatible AllAreCompatible (without t) (λ xs h. law.removal t xs h) opens compatible

-- The opens of one node.

owner_kept : (change : OpenState → OpenState) → ((o : OpenState) → (change o).owner ≡ o.owner) → (b : Bool) (o : OpenState) → (cond b (change o) o).owner ≡ o.owner
owner_kept change keeps true o = keeps o
owner_kept change keeps false o = refl

-- a change of some opens of a list, none of whose owners changes
pub each_known : (owners : List KnownOwner) (test : OpenState → Bool) (change : OpenState → OpenState) → ((o : OpenState) → (change o).owner ≡ o.owner) → (xs : List OpenState) → AllByRecursion (IsKnownIn owners) xs → AllByRecursion (IsKnownIn owners) (with_each test change xs)
each_known owners test change keeps xs h =
    all_map (IsKnownIn owners) (IsKnownIn owners) (λ o. cond (test o) (change o) o)
    (λ o found. subst (λ n. is_known_in owners (open_owner n) ≡ true) (sym (owner_kept change keeps (test o) o)) found) xs h

-- an OPEN of an owner that is known
pub opening_known : (owners : List KnownOwner) (owner : OpenOwner) (share : Share) (number : ℕ) → is_known_in owners (open_owner owner) ≡ true → (xs : List OpenState) → AllByRecursion (IsKnownIn owners) xs → AllByRecursion (IsKnownIn owners) (with_opening owner share number xs)
opening_known owners owner share number known xs h =
    cond_both (is_some (open_of owner xs)) (with_each (is_open_of owner) (after_open share) xs) (xs ++ first_open owner share number ∷ []) (AllByRecursion (IsKnownIn owners))
    (λ _. each_known owners (is_open_of owner) (after_open share) (λ o. refl) xs h)
    (λ _. all_push (IsKnownIn owners) xs (first_open owner share number) h known)

-- The records of clients.

-- A record is added, and of the others those stay that a test keeps.
pub single_after : (q : ClientRecord → Bool) (r : ClientRecord) → HasSameClient r r → ((s : ClientRecord) → q s ≡ true → HasSameClient r s × HasSameClient s r) → (records : List ClientRecord) → AreSingle records → AreSingle (filter q records ++ r ∷ [])
single_after q r self beside records single =
    let new = filter q records ++ r ∷ [] in
    all_push (λ a. AllByRecursion (HasSameClient a) new) (filter q records) r
    (all_filter (λ a. AllByRecursion (HasSameClient a) records) (λ a. AllByRecursion (HasSameClient a) new) q
    (λ a h kept. all_push (HasSameClient a) (filter q records) r
    (all_filter (HasSameClient a) (HasSameClient a) q (λ b same _. same) records h) (beside a kept).1) records single)
    (all_push (HasSameClient r) (filter q records) r
    (all_filter (λ b. ⊤) (HasSameClient r) q (λ b _ kept. (beside b kept).0) records (all_always records)) self)

never : (b : Bool) → b ≡ false → b ≡ true → ⊥
never b unset is_set = cc

pub single_confirmed : (r : ClientRecord) → (records : List ClientRecord) → AreSingle records → AreSingle (without_id r.id records ++ r ∷ [])
single_confirmed r records single =
    single_after (λ s. not (is_of r.id s)) r (λ _. same_client_self r.state.client)
    (λ s other. (
      (λ same. absurd (never (bytes_eq s.id r.id) (not-true (bytes_eq s.id r.id) other) same)),
      (λ same. absurd (never (bytes_eq s.id r.id) (not-true (bytes_eq s.id r.id) other) ((bytes_eq-Decides s.id r.id).1 (sym ((bytes_eq-Decides r.id s.id).0 same))))),
    )) records single

-- each confirmed record with this id is one of the client
abbrev pub IsOnlyOf : ClientId → List ℕ → ClientRecord → Type 0
IsOnlyOf client id s = is_of id s ≡ true → is_same_client s.state.client client ≡ true

-- where none has the id, whatever the client
pub none_of : (client : ClientId) (id : List ℕ) (records : List ClientRecord) → AllByRecursion (λ s. is_of id s ≡ false) records → AllByRecursion (IsOnlyOf client id) records
none_of client id records none =
    all_weaken (λ s. is_of id s ≡ false) (IsOnlyOf client id) (λ s other same. absurd (never (is_of id s) other same)) records none

-- A record that is confirmed in place of those of its id, which are all of its client, leaves who is live.

pub still_live : (r : ClientRecord) (records : List ClientRecord) (client : ClientId) → AllByRecursion (IsOnlyOf r.state.client r.id) records → is_live_in records client ≡ true → is_live_in (without_id r.id records ++ r ∷ []) client ≡ true
still_live r records client only live =
    found_kept (IsOnlyOf r.state.client r.id) (λ s. is_same_client s.state.client client) (λ s. not (is_of r.id s)) r
    (λ s is_only passes. elim (cases_Bool (is_of r.id s)) [
      | inl same ↦ inr (subst (λ c. is_same_client c client ≡ true) (equal_clients s.state.client r.state.client (is_only same)) passes)
      | inr other ↦ inl (not_from_false (is_of r.id s) other)
    ]) records only live

pub live_confirmed : (r : ClientRecord) (records : List ClientRecord) (owners : List KnownOwner) → AllByRecursion (IsOnlyOf r.state.client r.id) records → AreLive records owners → AreLive (without_id r.id records ++ r ∷ []) owners
live_confirmed r records owners only live =
    all_weaken (λ o. is_live_in records o.name.client ≡ true) (λ o. is_live_in (without_id r.id records ++ r ∷ []) o.name.client ≡ true)
    (λ o h. still_live r records o.name.client only h) owners live

-- A record that is confirmed in place of those of its id, which are all of another client, leaves who else is live.

pub others_live : (r : ClientRecord) (goes : ClientId) (records : List ClientRecord) (client : ClientId) → AllByRecursion (IsOnlyOf goes r.id) records → not (is_same_client client goes) ≡ true → is_live_in records client ≡ true
    → is_live_in (without_id r.id records ++ r ∷ []) client ≡ true
others_live r goes records client only others live =
    found_kept (IsOnlyOf goes r.id) (λ s. is_same_client s.state.client client) (λ s. not (is_of r.id s)) r
    (λ s is_only passes. elim (cases_Bool (is_of r.id s)) [
      | inl same ↦ absurd (never (is_same_client client goes) (not-true (is_same_client client goes) others)
          (subst (λ c. is_same_client c goes ≡ true) (equal_clients s.state.client client passes) (is_only same)))
      | inr other ↦ inl (not_from_false (is_of r.id s) other)
    ]) records only live

pub live_replaced : (r : ClientRecord) (client : ClientId) (records : List ClientRecord) (owners : List KnownOwner) → AllByRecursion (IsOnlyOf client r.id) records → AreLive records owners → AreLive (without_id r.id records ++ r ∷ []) (filter (λ o. not (is_same_client o.name.client client)) owners)
live_replaced r client records owners only live =
    all_filter (λ o. is_live_in records o.name.client ≡ true) (λ o. is_live_in (without_id r.id records ++ r ∷ []) o.name.client ≡ true) (λ o. not (is_same_client o.name.client client))
    (λ o h others. others_live r client records o.name.client only others h) owners live

-- A client expires.

-- the record, if it has the client's number, is one of the client
abbrev pub IsAloneOf : ClientId → ClientRecord → Type 0
IsAloneOf client r = r.state.client.number ≡ client.number → r.state.client ≡ client

-- the records without those that a test removes
pub single_left : (p : ClientRecord → Bool) (records : List ClientRecord) → AreSingle records → AreSingle (filter (λ r. not (p r)) records)
single_left p records single = pairs_filter HasSameClient (λ r. not (p r)) records single

-- The records with the client's number, which are all its own, leave who else is live.

pub live_without : (goes : ClientId) (records : List ClientRecord) (client : ClientId) → AllByRecursion (IsAloneOf goes) records → not (is_same_client client goes) ≡ true → is_live_in records client ≡ true
    → is_live_in (filter (λ r. not (is_of_client goes.number r)) records) client ≡ true
live_without goes records client alone others live =
    let gone : ClientRecord → Bool = is_of_client goes.number in
    found_filtered (IsAloneOf goes) (λ s. is_same_client s.state.client client) (λ r. not (gone r))
    (λ s is_alone passes. elim (cases_Bool (gone s)) [
      | inl same ↦
          let is : s.state.client ≡ goes = is_alone (eqb-true s.state.client.number goes.number same) in
          let of_client : is_same_client s.state.client goes ≡ true = subst (λ c. is_same_client c goes ≡ true) (sym is) (same_client_self goes) in
          absurd (never (is_same_client client goes) (not-true (is_same_client client goes) others)
          (subst (λ c. is_same_client c goes ≡ true) (equal_clients s.state.client client passes) of_client))
      | inr other ↦ not_from_false (gone s) other
    ]) records alone live

pub live_expired : (client : ClientId) (records : List ClientRecord) (owners : List KnownOwner) → AllByRecursion (IsAloneOf client) records → AreLive records owners
    → AreLive (filter (λ r. not (is_of_client client.number r)) records) (filter (λ o. not (is_same_client o.name.client client)) owners)
live_expired client records owners alone live =
    all_filter (λ o. is_live_in records o.name.client ≡ true) (λ o. is_live_in (filter (λ r. not (is_of_client client.number r)) records) o.name.client ≡ true) (λ o. not (is_same_client o.name.client client))
    (λ o h others. live_without client records o.name.client alone others h) owners live

-- The path of a client is marked.

pub marked_live : (number : ℕ) (path : PathMark) (client : ClientId) (records : List ClientRecord) → is_live_in records client ≡ true → is_live_in (map (after_mark number path) records) client ≡ true
marked_live number path client records live =
    found_map (λ r. is_same_client r.state.client client) (after_mark number path) (λ r same. ap (λ c. is_same_client c client) (same_record number path r).1 ∙ same) records live

-- a mark leaves who is live
pub live_marked : (number : ℕ) (path : PathMark) (records : List ClientRecord) (owners : List KnownOwner) → AreLive records owners → AreLive (map (after_mark number path) records) owners
live_marked number path records owners live =
    all_weaken (λ o. is_live_in records o.name.client ≡ true) (λ o. is_live_in (map (after_mark number path) records) o.name.client ≡ true)
    (λ o h. marked_live number path o.name.client records h) owners live

-- and of which client each id is
pub single_marked : (number : ℕ) (path : PathMark) (records : List ClientRecord) → AreSingle records → AreSingle (map (after_mark number path) records)
single_marked number path records single =
    pairs_map HasSameClient (after_mark number path)
    (λ r s same of.
    let first = same_record number path r in
    let second = same_record number path s in
    let was : is_of r.id s ≡ true = subst (λ i. is_of i s ≡ true) first.0 (subst (λ i. bytes_eq i (after_mark number path r).id ≡ true) second.0 of) in
    subst (λ c. is_same_client (after_mark number path s).state.client c ≡ true) (sym first.1)
    (subst (λ c. is_same_client c r.state.client ≡ true) (sym second.1) (same was))) records single
