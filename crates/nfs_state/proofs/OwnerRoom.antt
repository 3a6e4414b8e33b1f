-- What an entry means for an owner: its room among the stored owners, and the limits of the change after it.
use Rattle.std.proofs.Common.{◌≡◌, ◌<◌, ◌≤◌, ℕ, suc, Bool, true, false, Option, None, Some, List, [], ◌∷◌, filter, length, map, refl, sym, ap, ◌∙◌, subst, arith}
use Rattle.std.specs.Prelude.{◌||◌, ◌+◌, is_some, not, nat_lt, if◌then◌else◌}
use Rattle.std.proofs.lemmas.Bool.{cond-true, cond_both}
use Rattle.std.proofs.lemmas.List.{length-map}
use Rattle.nfs_owners.specs.declared.owner.TheConstants.{OWNER_LIMIT}
use Rattle.nfs_state.specs.declared.change.Change.{Change}
use Rattle.nfs_state.specs.declared.owner_update.OwnerUpdate.{OwnerUpdate}
use Rattle.nfs_state.specs.declared.owner_update.OwnerUpdate.TheVariants as updates
use Rattle.nfs_state.specs.declared.change.Change.TheVariants as changes
use Rattle.nfs_state.specs.declared.owner_change.OwnerChange.{OwnerChange}
use Rattle.nfs_state.specs.declared.owner_change.OwnerChange.TheVariants as owner_changes
use Rattle.nfs_state.specs.declared.tables.Tables.{Tables}
use Rattle.nfs_state.specs.Kept.{CanBeKept, owners_after, update_by, update_of}
use Rattle.nfs_state.specs.Owners as known
use Rattle.nfs_forms.specs.OpenOwner.{is_same_owner}
use Rattle.nfs_forms.specs.declared.open_owner.OpenOwner.{OpenOwner}
use Rattle.nfs_locks.specs.AllLocks.{is_full_for, locks_of}
use Rattle.nfs_state.specs.Room.{IsWithinLimits, HasGivenNumbers, HasOwnerPlace, HasOwnerRoom, CanKeep, HasUpdateRoom, IsNewcomer, is_known as is_known_in, state_of}
use Rattle.nfs_share.specs.AllOpens.{IsAboveAll, IsAboveAllLent}
use Rattle.nfs_share.specs.Delegations.{IsAboveLent}
use Rattle.nfs_share.specs.declared.delegation.Delegation.{Delegation}
use Rattle.nfs_share.specs.Opens.{IsAbove}
use Rattle.nfs_share.specs.declared.open_state.OpenState.{OpenState}
use Rattle.nfs_state.specs.Changes.{with_owner_change, without}
use Rattle.nfs_state.specs.State.{State}
use Rattle.nfs_state.specs.Stored.{known_owner}
use Rattle.nfs_owners.specs.StateOwner.{open_owner}
use Rattle.nfs_owners.specs.declared.state_owner.OwnerKind.{OwnerKind}
use Rattle.nfs_owners.specs.declared.state_owner.StateOwner.{StateOwner}
use Rattle.nfs_owners.specs.ClientRoom.{FitsRecords, HasNumbersFor}
use Rattle.nfs_owners.specs.Kept.{Kept}
use Rattle.nfs_owners.specs.declared.kept.KeptSummary.{KeptSummary}
use Rattle.nfs_owners.specs.declared.owner.Owner.{Owner}
use Rattle.nfs_owners.specs.declared.owner.OwnerState.{OwnerState}
use Rattle.nfs_owners.specs.Owner.{has_name, is_known, with_request}
use Rattle.nfs_owners.specs.Owners.{RoomyOwners, has_place, with_change, with_kept}

-- the state knows the owners that are stored
known_alike : (name : StateOwner) (owners : List Owner) → is_some (known.owner_of name (map known_owner owners)) ≡ is_known name owners
known_alike name [] = refl
known_alike name (o ∷ owners) = grind (arith, known_alike name owners)

count_alike : (owners : List Owner) → length (map known_owner owners) ≡ length owners
count_alike [] = refl
count_alike (o ∷ owners) = ap suc (count_alike owners)

known_place : (name : StateOwner) (owners : List Owner) → is_some (known.owner_of name (map known_owner owners)) ≡ true → has_place name owners ≡ true
known_place name owners is = grind (arith, known_alike name owners, is)

-- an owner that is known can keep a request, and so can a new one for which there is memory
can_keep : (name : StateOwner) (tables : Tables) → is_known_in name (state_of tables) ≡ true → CanKeep name tables.owners
can_keep name tables place =
    (known_place name tables.owners.owners place, λ unknown. absurd (grind (arith, known_alike name tables.owners.owners, place, unknown)))

new_can_keep : (name : StateOwner) (tables : Tables) → IsNewcomer name (state_of tables) → 0 < tables.owners.room → CanKeep name tables.owners
new_can_keep name tables place room =
    (grind (arith, place.1, count_alike tables.owners.owners), λ unknown. room)

-- where there is a place for what an entry means for an owner, and memory for it, the stored owners have room for it
update_room : (change : OwnerChange) (kept : OwnerKind → Kept) (tables : Tables) → HasOwnerPlace change (state_of tables) → HasOwnerRoom change tables → HasUpdateRoom (update_of change kept) tables
update_room owner_changes.Nothing kept tables place room = tt
update_room (owner_changes.Keeps name) kept tables place room = can_keep name tables place
update_room (owner_changes.KeepsBoth name newcomer) kept tables place room =
    (sym (known_alike name tables.owners.owners) ∙ place.0, can_keep newcomer tables place.1)
update_room (owner_changes.Introduces name newcomer) kept tables place room =
    (sym (known_alike name tables.owners.owners) ∙ place.0, new_can_keep newcomer tables place.1 room)
update_room (owner_changes.Records name confirmed) kept tables place room = new_can_keep (open_owner name) tables place room
update_room (owner_changes.Restarts name confirmed) kept tables place room = (known_place (open_owner name) tables.owners.owners place, room)
update_room (owner_changes.Drops name) kept tables place room = tt

pub update_room_by : (change : OwnerChange) (found : Option (OwnerKind → Kept)) (tables : Tables) → HasOwnerPlace change (state_of tables) → HasOwnerRoom change tables → HasUpdateRoom (update_by change found) tables
update_room_by change None tables place room = tt
update_room_by change (Some kept) tables place room = update_room change kept tables place room

-- what means nothing for the owners leaves them as they are, whatever there is to keep
pub nothing_kept : (found : Option (OwnerKind → Kept)) (number : ℕ) (owners : List Owner) → owners_after (update_by owner_changes.Nothing found) number owners ≡ owners
nothing_kept None number owners = refl
nothing_kept (Some kept) number owners = refl

-- an entry that may be kept changes the owners as its effect says
pub owners_changed : (update : OwnerUpdate) (change : OwnerChange) (found : Option (OwnerKind → Kept)) (number : ℕ) (old new : State) → update ≡ update_by change found → CanBeKept found change
    → ((change : OwnerChange) (kept : OwnerKind → Kept) → update ≡ update_of change kept → HasOwnerPlace change old → new ≡ with_owner_change change number old)
    → (update ≡ updates.Nothing → new ≡ old) → HasOwnerPlace change old → new ≡ with_owner_change change number old
owners_changed update change None number old new is nothing keeps same place =
    same is ∙ ap (λ c. with_owner_change c number old) (sym nothing)
owners_changed update change (Some kept) number old new is sendable keeps same place =
    keeps change kept is place

-- what an entry means for an owner passes no limit of the change after it
limits_alike : (change : Change) (old new : State) → new.clients ≡ old.clients → new.last_state ≡ old.last_state → new.locks ≡ old.locks → IsWithinLimits change old → IsWithinLimits change new
limits_alike (changes.Clients change) old new clients states locks has =
    subst (λ registry. HasNumbersFor change registry × FitsRecords change registry) (sym clients) has
limits_alike (changes.Opens node owner share lent) old new clients states locks has = omega (arith, states, has)
limits_alike changes.Nothing old new clients states locks has = tt
limits_alike (changes.Confirms node number owner) old new clients states locks has = tt
limits_alike (changes.Downgrades node number share) old new clients states locks has = tt
limits_alike (changes.Closes node number) old new clients states locks has = tt
limits_alike (changes.Begins node first) old new clients states locks has = omega (arith, states, has)
limits_alike (changes.Locks node number change) old new clients states locks has =
    ap (λ all. is_full_for number change (locks_of node all)) locks ∙ has
limits_alike (changes.Releases owner) old new clients states locks has = tt
limits_alike (changes.Expires client) old new clients states locks has = tt
limits_alike (changes.Forgets owner) old new clients states locks has = tt
limits_alike (changes.Recalls node file_use moment) old new clients states locks has = tt
limits_alike (changes.Returns node number) old new clients states locks has = tt
limits_alike (changes.Writes node offset bytes) old new clients states locks has = has
limits_alike (changes.Cuts node size) old new clients states locks has = has
limits_alike (changes.MarksPath client path) old new clients states locks has = tt

same_clients : (owner : OwnerChange) (number : ℕ) (old : State) → (with_owner_change owner number old).clients ≡ old.clients
same_clients owner_changes.Nothing number old = refl
same_clients owner number old = refl

same_last_state : (owner : OwnerChange) (number : ℕ) (old : State) → (with_owner_change owner number old).last_state ≡ old.last_state
same_last_state owner_changes.Nothing number old = refl
same_last_state owner number old = refl

same_locks : (owner : OwnerChange) (number : ℕ) (old : State) → (with_owner_change owner number old).locks ≡ old.locks
same_locks owner_changes.Nothing number old = refl
same_locks owner number old = refl

pub limits_after : (change : Change) (owner : OwnerChange) (number : ℕ) (old : State) → IsWithinLimits change old → IsWithinLimits change (with_owner_change owner number old)
limits_after change owner number old has =
    limits_alike change old (with_owner_change owner number old) (same_clients owner number old) (same_last_state owner number old) (same_locks owner number old) has

-- nor does it change a file
pub same_files : (owner : OwnerChange) (number : ℕ) (old : State) → (with_owner_change owner number old).files ≡ old.files
same_files owner_changes.Nothing number old = refl
same_files owner number old = refl

-- nor does it give a number to a state
above_left : (number : ℕ) (keep : OpenState → Bool) (opens : List OpenState) → IsAbove number opens → IsAbove number (filter keep opens)
above_left number keep [] above = tt
above_left number keep (o ∷ opens) above =
    cond_both (keep o) (o ∷ filter keep opens) (filter keep opens) (IsAbove number)
    (λ _. (above.0, above_left number keep opens above.1))
    (λ _. above_left number keep opens above.1)

all_above_left : (number : ℕ) (keep : OpenState → Bool) (opens : List (List OpenState)) → IsAboveAll number opens → IsAboveAll number (map (λ opens. filter keep opens) opens)
all_above_left number keep [] above = tt
all_above_left number keep (here ∷ opens) above = (above_left number keep here above.0, all_above_left number keep opens above.1)

given_without : (name : OpenOwner) (old : State) → HasGivenNumbers old → IsAboveAll (old.last_state + 1) (without name old).opens
given_without name old given = all_above_left (old.last_state + 1) (λ o. not (is_same_owner o.owner name)) old.opens given.of_opens

pub given_after : (owner : OwnerChange) (number : ℕ) (old : State) → HasGivenNumbers old → HasGivenNumbers (with_owner_change owner number old)
given_after owner_changes.Nothing number old given = given
given_after (owner_changes.Restarts name confirmed) number old given = record { of_opens = given_without name old given; of_locks = given.of_locks; of_delegations = given.of_delegations }
given_after (owner_changes.Drops name) number old given = record { of_opens = given_without name old given; of_locks = given.of_locks; of_delegations = given.of_delegations }
given_after owner number old given = record { of_opens = given.of_opens; of_locks = given.of_locks; of_delegations = given.of_delegations }

-- an owner that keeps a request, which is known before it, leaves who is known and how many they are
known_after_change : (change : OwnerState → OwnerState) (name other : StateOwner) (owners : List Owner) → is_known other (with_change change name owners) ≡ is_known other owners
known_after_change change name other [] = refl
known_after_change change name other (o ∷ owners) =
    let rest = known_after_change change name other owners in
    elim (has_name name o) as (λ b. (has_name other (if b then record o { state = change o.state } else o) || is_known other (with_change change name owners)) ≡ (has_name other o || is_known other owners)) [
      | true ↦ λ i. has_name other o || rest i
      | false ↦ λ i. has_name other o || rest i
    ]

pub can_keep_beside : (name other : StateOwner) (number : ℕ) (kept : KeptSummary) (confirmed : Bool) (old new : RoomyOwners) → new.owners ≡ with_kept name number kept confirmed old.owners
    → (is_known name old.owners ≡ true → new.room ≡ old.room) → is_known name old.owners ≡ true → CanKeep other old → CanKeep other new
can_keep_beside name other number kept confirmed old new is room known can =
    let change = with_request number kept in
    let changed : new.owners ≡ with_change change name old.owners = is ∙ cond-true (is_known name old.owners) _ _ known in
    let same : is_known other new.owners ≡ is_known other old.owners = ap (is_known other) changed ∙ known_after_change change name other old.owners in
    let many : length new.owners ≡ length old.owners = ap length changed ∙ length-map old.owners (λ o. if has_name name o then record o { state = change o.state } else o) in
    ((λ i. same i || nat_lt (many i) OWNER_LIMIT) ∙ can.0, λ unknown. omega (arith, room known, can.1 (sym same ∙ unknown)))

-- delegations whose numbers are below a number are below a higher one
lent_below : (number more : ℕ) (lent : List Delegation) → number ≤ more → IsAboveLent number lent → IsAboveLent more lent
lent_below number more [] rises above = tt
lent_below number more (d ∷ lent) rises above = (omega (arith, above.0, rises), lent_below number more lent rises above.1)

pub all_lent_below : (number more : ℕ) (all : List (List Delegation)) → number ≤ more → IsAboveAllLent number all → IsAboveAllLent more all
all_lent_below number more [] rises above = tt
all_lent_below number more (here ∷ all) rises above = (lent_below number more here rises above.0, all_lent_below number more all rises above.1)
