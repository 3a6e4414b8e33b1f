-- An entry's changes keep the state sound, given what its rule makes sure of.
use Rattle.std.proofs.Common.{◌≡◌, ℕ, Bool, true, false, cond, Option, Some, None, List, [], ◌∷◌, refl, ap, arith}
use Rattle.std.proofs.lemmas.Bool.{and_from, and_parts, cond_both}
use Rattle.std.specs.Prelude.{⊤, ◌+◌, ◌≤◌, ◌&&◌, find, is_some, length, map, nat_lt, not, if◌then◌else◌}
use Rattle.std.specs.List.{AllByRecursion}
use Rattle.nfs_state.specs.declared.change.Change.{Change}
use Rattle.nfs_state.specs.declared.change.Change.TheVariants as changes
use Rattle.nfs_rules.specs.declared.decision.Decision.{Decision}
use Rattle.nfs_state.specs.declared.effect.Effect.{Effect}
use Rattle.nfs_state.specs.declared.owner_change.OwnerChange.{OwnerChange}
use Rattle.nfs_state.specs.declared.owner_change.OwnerChange.TheVariants as owner_changes
use Rattle.nfs_state.specs.Owners.{KnownOwner, has_name, is_confirmed, with_confirmation, with_kept_entry, with_record, without_owner}
use Rattle.nfs_state.specs.Changes.{after, last_state_after, with_grant, with_open, with_owner_change, with_state_change}
use Rattle.nfs_state.specs.Changes as state_changes
use Rattle.nfs_state.specs.Places.{has_state_place}
use Rattle.nfs_state.specs.State.{State}
use Rattle.nfs_core.specs.Safe.{HasAccess, bears}
use Rattle.nfs_core.proofs.SafeFiles.{lists_at, set_lists}
use Rattle.nfs_core.proofs.SafeLists.{all_filter, all_push, all_set, all_weaken}
use Rattle.nfs_core.proofs.Sound.{AreKnown, AreLive, IsAloneOf, HasRecord, IsKnownIn, IsLockerKnownIn, IsOnlyOf, IsSound, StandsUnder, KeepsOwner, KeepsOwners, OpensStay, confirmed_left, dropped_compatible, dropped_known, dropped_live, each_known, is_known_in, is_live_in, keeps_mapped, keeps_recorded, keeps_tested, live_confirmed, live_expired, live_marked, live_replaced, mapped_live, name_left, none_of, opening_known, renamed_known, single_confirmed, single_left, single_marked}
use Rattle.nfs_core.proofs.SoundLocks.{LocksStay, locks_begun, locks_changed, locks_closed, locks_numbered, locks_owned, locks_released, locks_reopened, locks_without, locks_without_client, under_each, under_opening}
use Rattle.nfs_forms.specs.ClientId.{is_same_client}
use Rattle.nfs_forms.specs.declared.client_id.ClientId.{ClientId}
use Rattle.nfs_forms.specs.OpenOwner.{is_same_owner}
use Rattle.nfs_forms.specs.declared.lock_owner.LockOwner.{LockOwner}
use Rattle.nfs_forms.specs.declared.open_owner.OpenOwner.{OpenOwner}
use Rattle.nfs_forms.specs.declared.stateid.Stateid.{Stateid}
use Rattle.nfs_locks.specs.AllLocks.{is_full_for, locks_of}
use Rattle.nfs_locks.specs.Laws.{IsFreeFor}
use Rattle.nfs_locks.specs.Locks.{ByteLocks, first_state, is_lock_of, lock_of}
use Rattle.nfs_locks.specs.Locks as locks
use Rattle.nfs_owners.specs.Choice.{IsNextNumber, has_number_left}
use Rattle.nfs_owners.specs.Registry.{Registry, is_of, is_of_client}
use Rattle.nfs_owners.specs.Slots.{slot_of}
use Rattle.nfs_owners.specs.StateOwner.{is_same_state_owner, lock_owner, open_owner}
use Rattle.nfs_owners.specs.declared.clients.client_change.ClientChange.{ClientChange}
use Rattle.nfs_owners.specs.declared.clients.client_change.ClientChange.TheVariants as client_changes
use Rattle.nfs_owners.specs.declared.owner.TheConstants.{OWNER_LIMIT}
use Rattle.nfs_owners.specs.declared.state_owner.StateOwner.{StateOwner}
use Rattle.nfs_rules.specs.Lending.{has_lending_place}
use Rattle.nfs_rules.specs.operations.Open.{has_open, has_open_place}
use Rattle.nfs_share.specs.AllOpens.{delegations_of, opens_of}
use Rattle.nfs_share.specs.Delegations.{can_delegate, has_conflict}
use Rattle.nfs_share.specs.declared.delegation.DelegationKind.{DelegationKind}
use Rattle.nfs_share.specs.declared.delegation.FileUse.TheVariants as uses
use Rattle.nfs_share.specs.declared.share.Share.{Share}
use Rattle.nfs_tree.specs.declared.tree.TheConstants.{TEXT_LIMIT}
use Rattle.nfs_share.specs.Laws.{AllAreCompatible}
use Rattle.nfs_share.specs.Shares.{IsLawfulDowngrade}
use Rattle.nfs_share.specs.Opens as opens
use Rattle.nfs_share.specs.declared.open_state.OpenState.{OpenState}
use Rattle.nfs_share.specs.Opens.{after_downgrade, is_numbered, is_refused, open_named_by, open_of, with_each, with_next_seqid, with_opening, without}

-- The client of an owner that becomes known is live, there is a place for the owner, and it wasn't known. An owner that is
-- dropped isn't confirmed.
abbrev pub IsOwnerReady : OwnerChange → State → Type 0
IsOwnerReady (owner_changes.Introduces name newcomer) state =
    (is_live_in state.clients.confirmed newcomer.client ≡ true) × (nat_lt (length state.owners) OWNER_LIMIT ≡ true)
    × (is_known_in state.owners newcomer ≡ false)
IsOwnerReady (owner_changes.Records name confirmed) state =
    (is_live_in state.clients.confirmed name.client ≡ true) × (nat_lt (length state.owners) OWNER_LIMIT ≡ true)
    × (is_known_in state.owners (open_owner name) ≡ false)
IsOwnerReady (owner_changes.Restarts name confirmed) state =
    (is_live_in state.clients.confirmed name.client ≡ true) × (is_confirmed (open_owner name) state.owners ≡ false)
    × (nat_lt (length (without_owner (open_owner name) state.owners)) OWNER_LIMIT ≡ true)
IsOwnerReady (owner_changes.Drops name) state = is_confirmed (open_owner name) state.owners ≡ false
IsOwnerReady change state = ⊤

-- the next number of a slot in which no client is live, and which has a generation left
abbrev pub CanBeGiven : ℕ → Registry → Type 0
CanBeGiven number registry = IsNextNumber number registry × (has_number_left registry (slot_of number) ≡ true)

-- A new record has a number that can be given, and any other the clientid and the id of one that is there. One is confirmed
-- as the first of its id, in place of one of its own client, or in place of one of the client that it replaces.
abbrev pub IsClientReady : ClientChange → Registry → Type 0
IsClientReady client_changes.Nothing registry = ⊤
IsClientReady (client_changes.Arrives r) registry = CanBeGiven r.state.client.number registry
IsClientReady (client_changes.Updates r) registry = HasRecord r.state.client r.id registry.confirmed
IsClientReady (client_changes.Confirms r) registry =
    AllByRecursion (λ s. is_of r.id s ≡ false) registry.confirmed × HasRecord r.state.client r.id registry.unconfirmed
IsClientReady (client_changes.Refreshes r) registry =
    AllByRecursion (IsOnlyOf r.state.client r.id) registry.confirmed × HasRecord r.state.client r.id registry.confirmed
IsClientReady (client_changes.Replaces r client) registry =
    AllByRecursion (IsOnlyOf client r.id) registry.confirmed × HasRecord client r.id registry.confirmed
    × HasRecord r.state.client r.id registry.unconfirmed × (is_same_client client r.state.client ≡ false)

-- a delegation of this kind may be lent to the client, if one is lent
abbrev pub CanLend : ℕ → ClientId → Option DelegationKind → State → Type 0
CanLend node client None state = ⊤
CanLend node client (Some kind) state =
    can_delegate client kind (opens_of node state.opens) (delegations_of node state.delegations) ≡ true

-- The owner's OPEN isn't refused, and there is a place for an open that it makes; no delegation is in its way, and there is a
-- place for one that is lent, which may be lent. Its share has access.
abbrev pub MayOpen : ℕ → OpenOwner → Share → Option DelegationKind → State → Type 0
MayOpen node owner share lent state =
    (is_refused owner share (opens_of node state.opens) ≡ false)
    × (has_open_place state owner node ≡ true)
    × (has_conflict (uses.Open owner.client share) (delegations_of node state.delegations) ≡ false)
    × (has_lending_place state (has_open state owner node) lent ≡ true)
    × CanLend node owner.client lent state
    × HasAccess share

-- A stateid names one of the opens, which has the number, and the share is the union of some of its own.
abbrev pub MayDowngrade : ℕ → Share → List OpenState → Type 0
MayDowngrade number share here =
    (id : Stateid) × (o : OpenState)
    × (open_named_by id here ≡ Some o)
    × (o.number ≡ number)
    × IsLawfulDowngrade o.shares share

-- none of the opens is the owner's
abbrev pub HasNoOpen : OpenOwner → List (List OpenState) → Type 0
HasNoOpen owner opens = AllByRecursion (AllByRecursion (λ o. is_same_owner o.owner owner ≡ false)) opens

-- The owner of an open is known, and its OPEN may come next, as may an OPEN_DOWNGRADE. The owner of a lock state that begins is known, an open of the
-- node is there for it, the bytes are free for it, it has no lock state of the file, and there is a place for one; those of
-- another change are free for the owner of a lock state with the number, and leave its runs within the limit. What is written
-- ends within the limit of a file. A client that expires is live, and no other has its number. An owner that is forgotten has
-- no open.
abbrev pub IsChangeReady : Change → State → Type 0
IsChangeReady (changes.Clients change) state = IsClientReady change state.clients
IsChangeReady (changes.Opens node owner share lent) state =
    (is_known_in state.owners (open_owner owner) ≡ true) × MayOpen node owner share lent state
IsChangeReady (changes.Downgrades node number share) state = MayDowngrade number share (opens_of node state.opens)
IsChangeReady (changes.Begins node first) state =
    (is_known_in state.owners (lock_owner first.owner) ≡ true)
    × StandsUnder state.owners (opens_of node state.opens) (first_state first (state.last_state + 1))
    × IsFreeFor first.owner first.change (locks_of node state.locks)
    × (is_some (lock_of first.owner (locks_of node state.locks)) ≡ false)
    × (has_state_place state ≡ true)
IsChangeReady (changes.Locks node number change) state =
    (owner : LockOwner)
    × (is_some (find (λ l. locks.is_numbered number l && is_lock_of owner l) (locks_of node state.locks)) ≡ true)
    × IsFreeFor owner change (locks_of node state.locks)
    × (is_full_for number change (locks_of node state.locks) ≡ false)
IsChangeReady (changes.Writes node offset bytes) state = offset + length bytes ≤ TEXT_LIMIT
IsChangeReady (changes.Cuts node size) state = size ≤ TEXT_LIMIT
IsChangeReady (changes.Expires client) state =
    (is_live_in state.clients.confirmed client ≡ true) × AllByRecursion (IsAloneOf client) state.clients.confirmed
IsChangeReady (changes.Forgets owner) state = HasNoOpen owner state.opens
IsChangeReady change state = ⊤

abbrev pub IsEffectReady : ℕ → State → Effect → Type 0
IsEffectReady number old effect =
    IsOwnerReady effect.owner old × IsChangeReady effect.change (with_owner_change effect.owner number old)

abbrev pub IsReady : ℕ → State → Decision → Type 0
IsReady number old decision = IsEffectReady number old decision.effect

-- The owners change, and all that are known or confirmed stay so.
sound_owners : (new : List KnownOwner) (old : State) → AreLive old.clients.confirmed new → KeepsOwners old.owners new → IsSound old → IsSound (record old { owners = new })
sound_owners new old live keeps sound = record {
  live = live;
  known = renamed_known old.owners new (λ o found. keeps.known (open_owner o) found) old.opens sound.known;
  compatible = sound.compatible;
  single = sound.single;
  locks = locks_owned old.owners new old.opens old.last_state old.locks keeps sound.locks;
}

-- the change of the owner with a name, by its kept entry or its confirmation

pub keeps_kept : (number : ℕ) (name : StateOwner) → KeepsOwner (λ o. if has_name name o then record o { kept_entry = number } else o)
keeps_kept number name =
    keeps_tested (has_name name) (λ o. record o { kept_entry = number }) (record { name = λ o. refl; confirmed = λ o is_set. is_set })

pub keeps_confirmed : (name : StateOwner) → KeepsOwner (λ o. if has_name name o then record o { confirmed = true } else o)
keeps_confirmed name =
    keeps_tested (has_name name) (λ o. record o { confirmed = true }) (record { name = λ o. refl; confirmed = λ o is_set. refl })

sound_mapped : (f : KnownOwner → KnownOwner) → KeepsOwner f → (old : State) → IsSound old → IsSound (record old { owners = map f old.owners })
sound_mapped f keeps old sound =
    sound_owners (map f old.owners) old (mapped_live f keeps old.clients.confirmed old.owners sound.live) (keeps_mapped f keeps old.owners) sound

-- what an entry means for an owner

sound_kept : (number : ℕ) (name : StateOwner) (old : State) → IsSound old → IsSound (record old { owners = with_kept_entry number name old.owners })
sound_kept number name old sound =
    sound_mapped (λ o. if has_name name o then record o { kept_entry = number } else o) (keeps_kept number name) old sound

sound_recorded : (number : ℕ) (name : StateOwner) (confirmed : Bool) (old : State) → is_live_in old.clients.confirmed name.client ≡ true → IsSound old → IsSound (record old { owners = with_record number name confirmed old.owners })
sound_recorded number name confirmed old live sound =
    let new : KnownOwner = record { name = name; confirmed = confirmed; recording_entry = number; kept_entry = number } in
    sound_owners (with_record number name confirmed old.owners) old
    (all_push (λ o. is_live_in old.clients.confirmed o.name.client ≡ true) old.owners new sound.live live) (keeps_recorded new old.owners) sound

sound_dropped : OpensStay → (name : OpenOwner) (old : State) → is_confirmed (open_owner name) old.owners ≡ false → IsSound old → IsSound (state_changes.without name old)
sound_dropped law name old unset sound =
    let t : StateOwner → Bool = λ n. is_same_state_owner n (open_owner name) in
    record {
      live = dropped_live t old.clients.confirmed old.owners sound.live;
      known = dropped_known t old.owners old.opens sound.known;
      compatible = dropped_compatible law (λ o. is_same_owner o.owner name) old.opens sound.compatible;
      single = sound.single;
      locks = locks_without name old.owners old.opens old.last_state old.locks unset sound.locks;
    }

-- what an entry means for an owner keeps the state sound
pub sound_owner : OpensStay → (change : OwnerChange) (number : ℕ) (old : State) → IsOwnerReady change old → IsSound old → IsSound (with_owner_change change number old)
sound_owner law owner_changes.Nothing number old ready sound = sound
sound_owner law (owner_changes.Keeps name) number old ready sound = sound_kept number name old sound
sound_owner law (owner_changes.KeepsBoth name newcomer) number old ready sound =
    sound_kept number newcomer (record old { owners = with_kept_entry number name old.owners }) (sound_kept number name old sound)
sound_owner law (owner_changes.Introduces name newcomer) number old ready sound =
    sound_recorded number newcomer false (record old { owners = with_kept_entry number name old.owners }) ready.0 (sound_kept number name old sound)
sound_owner law (owner_changes.Records name confirmed) number old ready sound = sound_recorded number (open_owner name) confirmed old ready.0 sound
sound_owner law (owner_changes.Restarts name confirmed) number old ready sound =
    sound_recorded number (open_owner name) confirmed (state_changes.without name old) ready.0 (sound_dropped law name old ready.1 sound)
sound_owner law (owner_changes.Drops name) number old ready sound = sound_dropped law name old ready sound

-- A change of the clients' records keeps the state sound.

sound_clients : OpensStay → LocksStay → (change : ClientChange) (old : State) → IsClientReady change old.clients → IsSound old → IsSound (with_state_change (changes.Clients change) old)
sound_clients law lock_law client_changes.Nothing old ready sound = record {
  live = sound.live;
  known = sound.known;
  compatible = sound.compatible;
  single = sound.single;
  locks = sound.locks;
}
sound_clients law lock_law (client_changes.Arrives r) old ready sound = record {
  live = sound.live;
  known = sound.known;
  compatible = sound.compatible;
  single = sound.single;
  locks = sound.locks;
}
sound_clients law lock_law (client_changes.Updates r) old ready sound = record {
  live = sound.live;
  known = sound.known;
  compatible = sound.compatible;
  single = sound.single;
  locks = sound.locks;
}
sound_clients law lock_law (client_changes.Confirms r) old ready sound = record {
  live = live_confirmed r old.clients.confirmed old.owners (none_of r.state.client r.id old.clients.confirmed ready.0) sound.live;
  known = sound.known;
  compatible = sound.compatible;
  single = single_confirmed r old.clients.confirmed sound.single;
  locks = sound.locks;
}
sound_clients law lock_law (client_changes.Refreshes r) old ready sound = record {
  live = live_confirmed r old.clients.confirmed old.owners ready.0 sound.live;
  known = sound.known;
  compatible = sound.compatible;
  single = single_confirmed r old.clients.confirmed sound.single;
  locks = sound.locks;
}
sound_clients law lock_law (client_changes.Replaces r client) old ready sound = record {
  live = live_replaced r client old.clients.confirmed old.owners ready.0 sound.live;
  known = dropped_known (λ n. is_same_client n.client client) old.owners old.opens sound.known;
  compatible = dropped_compatible law (λ o. is_same_client o.owner.client client) old.opens sound.compatible;
  single = single_confirmed r old.clients.confirmed sound.single;
  locks = locks_without_client lock_law client old.owners old.opens old.last_state old.locks sound.locks;
}

-- An operation's own change keeps the state sound.

rises : (has_open : Bool) (last : ℕ) → last ≤ last_state_after has_open last
rises true last = omega arith
rises false last = omega arith

sound_opened : OpensStay → (node : ℕ) (owner : OpenOwner) (share : Share) (old : State) → is_known_in old.owners (open_owner owner) ≡ true → is_refused owner share (opens_of node old.opens) ≡ false
    → IsSound old → IsSound (with_open node owner share old)
sound_opened law node owner share old known free sound =
    let here = opens_of node old.opens in
    let change = with_opening owner share (old.last_state + 1) in
    let last = last_state_after (is_some (open_of owner here)) old.last_state in
    record {
      live = sound.live;
      known = set_lists (AllByRecursion (IsKnownIn old.owners)) tt change (opening_known old.owners owner share (old.last_state + 1) known) node old.opens sound.known;
      compatible = all_set AllAreCompatible old.opens node (change here) sound.compatible
          (law.try_open owner share (old.last_state + 1) here (lists_at AllAreCompatible tt node old.opens sound.compatible) free);
      single = sound.single;
      locks = locks_reopened node change old.owners old.opens last old.locks (under_opening old.owners owner share (old.last_state + 1))
          (locks_numbered old.owners old.opens old.last_state last old.locks (rises (is_some (open_of owner here)) old.last_state) sound.locks);
    }

sound_granted : (node : ℕ) (client : ClientId) (lent : Option DelegationKind) (old : State) → IsSound old → IsSound (with_grant node client lent old)
sound_granted node client None old sound = sound
sound_granted node client (Some kind) old sound = record {
  live = sound.live;
  known = sound.known;
  compatible = sound.compatible;
  single = sound.single;
  locks = locks_numbered old.owners old.opens old.last_state (old.last_state + 1) old.locks (omega arith) sound.locks;
}

-- An owner that has no open is forgotten.

forgotten_known : (owner : OpenOwner) (owners : List KnownOwner) (xs : List OpenState) → AllByRecursion (λ o. is_same_owner o.owner owner ≡ false) xs → AllByRecursion (IsKnownIn owners) xs
    → AllByRecursion (IsKnownIn (without_owner (open_owner owner) owners)) xs
forgotten_known owner owners [] none known = tt
forgotten_known owner owners (o ∷ xs) none known =
    (name_left (λ n. is_same_state_owner n (open_owner owner)) owners (open_owner o.owner) none.0 known.0, forgotten_known owner owners xs none.1 known.1)

all_forgotten_known : (owner : OpenOwner) (owners : List KnownOwner) (opens : List (List OpenState)) → HasNoOpen owner opens → AreKnown owners opens → AreKnown (without_owner (open_owner owner) owners) opens
all_forgotten_known owner owners [] none known = tt
all_forgotten_known owner owners (xs ∷ opens) none known = (forgotten_known owner owners xs none.0 known.0, all_forgotten_known owner owners opens none.1 known.1)

under_forgotten : (owner : OpenOwner) (owners : List KnownOwner) (l : ByteLocks) (xs : List OpenState) → AllByRecursion (λ o. is_same_owner o.owner owner ≡ false) xs → StandsUnder owners xs l
    → StandsUnder (without_owner (open_owner owner) owners) xs l
under_forgotten owner owners l [] none under = under
under_forgotten owner owners l (o ∷ xs) none under = by (bears owners l o) refl under (λ there. under_forgotten owner owners l xs none.1 there)
  where
    left_owners : List KnownOwner
    left_owners = without_owner (open_owner owner) owners

    own : Bool
    own = is_numbered l.open_number o && opens.is_of_client l.owner.client o

    still : bears owners l o ≡ true → bears left_owners l o ≡ true
    still bears_it =
        let parts = and_parts own (is_confirmed (open_owner o.owner) owners) bears_it in
        and_from own (is_confirmed (open_owner o.owner) left_owners) parts.0
        (confirmed_left (λ n. is_same_state_owner n (open_owner owner)) owners (open_owner o.owner) none.0 parts.1)

    by : (b : Bool) → bears owners l o ≡ b → is_some (cond b (Some o) (find (bears owners l) xs)) ≡ true → (is_some (find (bears owners l) xs) ≡ true → is_some (find (bears left_owners l) xs) ≡ true)
        → is_some (cond (bears left_owners l o) (Some o) (find (bears left_owners l) xs)) ≡ true
    by true is here rest = ap (λ b. is_some (cond b (Some o) (find (bears left_owners l) xs))) (still is)
    by false is there rest =
        cond_both (bears left_owners l o) (Some o) (find (bears left_owners l) xs) (λ found. is_some found ≡ true) (λ _. refl) (λ _. rest there)

sound_forgotten : (owner : OpenOwner) (old : State) → HasNoOpen owner old.opens → IsSound old → IsSound (record old { owners = without_owner (open_owner owner) old.owners })
sound_forgotten owner old none sound =
    let t : StateOwner → Bool = λ n. is_same_state_owner n (open_owner owner) in
    let left_owners = without_owner (open_owner owner) old.owners in
    record {
      live = dropped_live t old.clients.confirmed old.owners sound.live;
      known = all_forgotten_known owner old.owners old.opens none sound.known;
      compatible = sound.compatible;
      single = sound.single;
      locks = record {
        known = all_weaken (AllByRecursion (IsLockerKnownIn old.owners)) (AllByRecursion (IsLockerKnownIn left_owners))
            (λ ls h. all_weaken (IsLockerKnownIn old.owners) (IsLockerKnownIn left_owners) (λ l found. name_left t old.owners (lock_owner l.owner) refl found) ls h) old.locks sound.locks.known;
        compatible = sound.locks.compatible;
        under = λ node.
            let xs = opens_of node old.opens in
            all_weaken (StandsUnder old.owners xs) (StandsUnder left_owners xs)
            (λ l under. under_forgotten owner old.owners l xs (lists_at (AllByRecursion (λ o. is_same_owner o.owner owner ≡ false)) tt node old.opens none) under) (locks_of node old.locks) (sound.locks.under node);
        numbered = sound.locks.numbered;
      };
    }

sound_changed : OpensStay → LocksStay → (change : Change) (old : State) → IsChangeReady change old → IsSound old → IsSound (with_state_change change old)
sound_changed law lock_law changes.Nothing old ready sound = sound
sound_changed law lock_law (changes.Clients change) old ready sound = sound_clients law lock_law change old ready sound
sound_changed law lock_law (changes.Opens node owner share lent) old ready sound =
    sound_granted node owner.client lent (with_open node owner share old) (sound_opened law node owner share old ready.0 ready.1.0 sound)
sound_changed law lock_law (changes.Confirms node number owner) old ready sound =
    let f : KnownOwner → KnownOwner = λ o. if has_name (open_owner owner) o then record o { confirmed = true } else o in
    let confirmed = sound_mapped f (keeps_confirmed (open_owner owner)) old sound in
    let owners = with_confirmation (open_owner owner) old.owners in
    record {
      live = confirmed.live;
      known = set_lists (AllByRecursion (IsKnownIn owners)) tt (with_each (is_numbered number) with_next_seqid)
          (each_known owners (is_numbered number) with_next_seqid (λ o. refl)) node old.opens confirmed.known;
      compatible = set_lists AllAreCompatible tt (with_each (is_numbered number) with_next_seqid) (law.advance (is_numbered number)) node old.opens sound.compatible;
      single = sound.single;
      locks = locks_reopened node (with_each (is_numbered number) with_next_seqid) owners old.opens old.last_state old.locks
          (under_each owners (is_numbered number) with_next_seqid (λ l o h. h)) confirmed.locks;
    }
sound_changed law lock_law (changes.Downgrades node number share) old ready sound = record {
  live = sound.live;
  known = set_lists (AllByRecursion (IsKnownIn old.owners)) tt (with_each (is_numbered number) (after_downgrade share))
      (each_known old.owners (is_numbered number) (after_downgrade share) (λ o. refl)) node old.opens sound.known;
  compatible = set_lists AllAreCompatible tt (with_each (is_numbered number) (after_downgrade share)) (law.downgrade (is_numbered number) share) node old.opens sound.compatible;
  single = sound.single;
  locks = locks_reopened node (with_each (is_numbered number) (after_downgrade share)) old.owners old.opens old.last_state old.locks
      (under_each old.owners (is_numbered number) (after_downgrade share) (λ l o h. h)) sound.locks;
}
sound_changed law lock_law (changes.Closes node number) old ready sound = record {
  live = sound.live;
  known = set_lists (AllByRecursion (IsKnownIn old.owners)) tt (without (is_numbered number))
      (λ xs h. all_filter (IsKnownIn old.owners) (IsKnownIn old.owners) (λ o. not (is_numbered number o)) (λ o known _. known) xs h) node old.opens sound.known;
  compatible = set_lists AllAreCompatible tt (without (is_numbered number)) (law.removal (is_numbered number)) node old.opens sound.compatible;
  single = sound.single;
  locks = locks_closed lock_law node number old.owners old.opens old.last_state old.locks sound.locks;
}
sound_changed law lock_law (changes.Begins node first) old ready sound = record {
  live = sound.live;
  known = sound.known;
  compatible = sound.compatible;
  single = sound.single;
  locks = locks_begun lock_law node first old.owners old.opens old.last_state old.locks ready.0 ready.1 ready.2 sound.locks;
}
sound_changed law lock_law (changes.Locks node number change) old ready sound = record {
  live = sound.live;
  known = sound.known;
  compatible = sound.compatible;
  single = sound.single;
  locks = locks_changed lock_law node number change ready.0 old.owners old.opens old.last_state old.locks ready.1 ready.2 sound.locks;
}
sound_changed law lock_law (changes.Releases owner) old ready sound = record {
  live = dropped_live (λ n. is_same_state_owner n (lock_owner owner)) old.clients.confirmed old.owners sound.live;
  known = renamed_known old.owners (without_owner (lock_owner owner) old.owners)
      (λ o found. name_left (λ n. is_same_state_owner n (lock_owner owner)) old.owners (open_owner o) refl found) old.opens sound.known;
  compatible = sound.compatible;
  single = sound.single;
  locks = locks_released lock_law owner old.owners old.opens old.last_state old.locks sound.locks;
}
sound_changed law lock_law (changes.Expires client) old ready sound = record {
  live = live_expired client old.clients.confirmed old.owners ready.1 sound.live;
  known = dropped_known (λ n. is_same_client n.client client) old.owners old.opens sound.known;
  compatible = dropped_compatible law (λ o. is_same_client o.owner.client client) old.opens sound.compatible;
  single = single_left (is_of_client client.number) old.clients.confirmed sound.single;
  locks = locks_without_client lock_law client old.owners old.opens old.last_state old.locks sound.locks;
}
sound_changed law lock_law (changes.Forgets owner) old ready sound = sound_forgotten owner old ready sound
sound_changed law lock_law (changes.Recalls node file_use moment) old ready sound = record {
  live = sound.live;
  known = sound.known;
  compatible = sound.compatible;
  single = sound.single;
  locks = sound.locks;
}
sound_changed law lock_law (changes.Returns node number) old ready sound = record {
  live = sound.live;
  known = sound.known;
  compatible = sound.compatible;
  single = sound.single;
  locks = sound.locks;
}
sound_changed law lock_law (changes.Writes node offset bytes) old ready sound = record {
  live = sound.live;
  known = sound.known;
  compatible = sound.compatible;
  single = sound.single;
  locks = sound.locks;
}
sound_changed law lock_law (changes.Cuts node size) old ready sound = record {
  live = sound.live;
  known = sound.known;
  compatible = sound.compatible;
  single = sound.single;
  locks = sound.locks;
}
sound_changed law lock_law (changes.MarksPath client path) old ready sound = record {
  live = live_marked client path old.clients.confirmed old.owners sound.live;
  known = sound.known;
  compatible = sound.compatible;
  single = single_marked client path old.clients.confirmed sound.single;
  locks = sound.locks;
}

-- an entry keeps the state sound
pub sound_after : OpensStay → LocksStay → (number : ℕ) (effect : Effect) (old : State) → IsEffectReady number old effect → IsSound old → IsSound (after number effect old)
sound_after law lock_law number effect old ready sound =
    sound_changed law lock_law effect.change (with_owner_change effect.owner number old) ready.1
    (sound_owner law effect.owner number old ready.0 sound)
