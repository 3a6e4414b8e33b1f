-- What is stored of the owners, and the owners as the rules see them.
use Rattle.std.proofs.Common.{◌≡◌, ℕ, ◌<◌, Bool, true, false, List, [], ◌∷◌, length, map, ◌⊎◌, inl, inr, refl, sym, ap, subst, ◌∙◌, arith}
use Rattle.std.specs.Prelude.{filter, is_some, not, if◌then◌else◌}
use Rattle.std.proofs.lemmas.List.{length-map, map-append}
use Rattle.nfs_locks.specs.Locks as locks
use Rattle.nfs_locks.specs.StoredLocks.{StoredLock, byte_locks}
use Rattle.nfs_state.specs.Kept.{Agrees, IsKeptIn, kept_by, update_of}
use Rattle.nfs_state.specs.declared.owner_update.Keeping.{Keeping}
use Rattle.nfs_state.specs.Owners as known
use Rattle.nfs_state.specs.Owners.{KnownOwner}
use Rattle.nfs_state.specs.Room.{HasOwnerPlace}
use Rattle.nfs_state.specs.Changes.{with_owner_change, without, with_state_change, without_client}
use Rattle.nfs_state.specs.State.{History, State}
use Rattle.nfs_state.specs.declared.change.Change.{Change}
use Rattle.nfs_state.specs.declared.change.Change.TheVariants as own_changes
use Rattle.nfs_state.specs.Stored.{Stored, known_owner, meaning}
use Rattle.nfs_state.specs.declared.owner_change.OwnerChange.{OwnerChange}
use Rattle.nfs_state.specs.declared.owner_change.OwnerChange.TheVariants as changes
use Rattle.nfs_state.specs.declared.owner_update.OwnerUpdate.TheVariants as updates
use Rattle.nfs_forms.specs.declared.client_id.ClientId.{ClientId}
use Rattle.nfs_forms.specs.declared.lock_owner.LockOwner.{LockOwner}
use Rattle.nfs_forms.specs.declared.open_owner.OpenOwner.{OpenOwner}
use Rattle.nfs_forms.specs.ClientId.{is_same_client}
use Rattle.nfs_owners.specs.Kept.{Kept}
use Rattle.nfs_owners.specs.declared.kept.KeptSummary.{KeptSummary}
use Rattle.nfs_owners.specs.StateOwner.{lock_owner, open_owner}
use Rattle.nfs_owners.specs.declared.state_owner.OwnerKind.{OwnerKind}
use Rattle.nfs_owners.specs.declared.state_owner.StateOwner.{StateOwner}
use Rattle.nfs_owners.specs.declared.owner.Owner.{Owner}
use Rattle.nfs_owners.specs.declared.owner.OwnerState.{OwnerState}
use Rattle.nfs_owners.specs.declared.owner.TheConstants.{OWNER_LIMIT}
use Rattle.nfs_owners.specs.Owner.{has_name, is_known, new_owner, with_request}
use Rattle.nfs_owners.specs.Owners.{AreBefore, has_place, with_change, with_confirmed, with_kept, without_owner, without_owners_of}
use Rattle.nfs_share.specs.AllOpens.{with_opens}
use Rattle.nfs_share.specs.Delegations.{is_lent_to, without_lent}
use Rattle.nfs_share.specs.declared.delegation.Delegation.{Delegation}
use Rattle.nfs_share.specs.Opens as opens
use Rattle.nfs_share.specs.declared.open_state.OpenState.{OpenState}
use Rattle.std.proofs.lemmas.Bool.{cond_both}

-- a filter that looks at what the rules see is the same before and after
filter_seen : (p : KnownOwner → Bool) (owners : List Owner) → map known_owner (filter (λ o. p (known_owner o)) owners) ≡ filter p (map known_owner owners)
filter_seen p [] = refl
filter_seen p (o ∷ owners) =
    elim (p (known_owner o)) as (λ b. map known_owner (if b then o ∷ filter (λ o. p (known_owner o)) owners else filter (λ o. p (known_owner o)) owners) ≡ (if b then known_owner o ∷ filter p (map known_owner owners) else filter p (map known_owner owners))) [
      | true ↦ ap (λ rest. known_owner o ∷ rest) (filter_seen p owners)
      | false ↦ filter_seen p owners
    ]

pub without_seen : (name : StateOwner) (owners : List Owner) → map known_owner (without_owner name owners) ≡ known.without_owner name (map known_owner owners)
without_seen name owners = filter_seen (λ o. not (known.has_name name o)) owners

pub without_client_seen : (client : ClientId) (owners : List Owner) → map known_owner (without_owners_of client owners) ≡ filter (λ o. not (is_same_client o.name.client client)) (map known_owner owners)
without_client_seen client owners = filter_seen (λ o. not (is_same_client o.name.client client)) owners

-- a change of the owners of one name, as the rules see it
change_seen : (change : OwnerState → OwnerState) (seen : KnownOwner → KnownOwner) → ((o : Owner) → known_owner (record o { state = change o.state }) ≡ seen (known_owner o)) → (name : StateOwner) (owners : List Owner)
    → map known_owner (with_change change name owners) ≡ map (λ o. if known.has_name name o then seen o else o) (map known_owner owners)
change_seen change seen same name [] = refl
change_seen change seen same name (o ∷ owners) =
    elim (has_name name o) as (λ b. known_owner (if b then record o { state = change o.state } else o) ∷ map known_owner (with_change change name owners) ≡ (if b then seen (known_owner o) else known_owner o) ∷ map (λ o. if known.has_name name o then seen o else o) (map known_owner owners)) [
      | true ↦ ap (λ first. first ∷ map known_owner (with_change change name owners)) (same o) ∙ ap (λ rest. seen (known_owner o) ∷ rest) (change_seen change seen same name owners)
      | false ↦ ap (λ rest. known_owner o ∷ rest) (change_seen change seen same name owners)
    ]

pub confirmed_seen : (name : StateOwner) (owners : List Owner) → map known_owner (with_confirmed name owners) ≡ known.with_confirmation name (map known_owner owners)
confirmed_seen name owners = change_seen (λ s. record s { confirmed = true }) (λ o. record o { confirmed = true }) (λ o. refl) name owners

-- an owner is stored exactly if the rules know it
pub known_seen : (name : StateOwner) (owners : List Owner) → is_some (known.owner_of name (map known_owner owners)) ≡ is_known name owners
known_seen name [] = refl
known_seen name (o ∷ owners) = grind (arith, known_seen name owners)

pub kept_seen : (name : StateOwner) (number : ℕ) (kept : KeptSummary) (confirmed : Bool) (owners : List Owner) → is_known name owners ≡ true
    → map known_owner (with_kept name number kept confirmed owners) ≡ known.with_kept_entry number name (map known_owner owners)
kept_seen name number kept confirmed owners is =
    rw is (change_seen (with_request number kept) (λ o. record o { kept_entry = number }) (λ o. refl) name owners)

pub record_seen : (name : StateOwner) (number : ℕ) (kept : KeptSummary) (confirmed : Bool) (owners : List Owner) → is_known name owners ≡ false
    → map known_owner (with_kept name number kept confirmed owners) ≡ known.with_record number name confirmed (map known_owner owners)
record_seen name number kept confirmed owners none = rw none (map-append known_owner owners (new_owner name number kept confirmed ∷ []))

-- without its owner, a name isn't known
pub unknown_without : (name : StateOwner) (owners : List Owner) → is_known name (without_owner name owners) ≡ false
unknown_without name [] = refl
unknown_without name (o ∷ owners) = grind (arith, unknown_without name owners)

-- an owner that is known has a place, and so has one that is yet to be recorded where there are fewer than the limit
pub place_known : (name : StateOwner) (owners : List Owner) → is_known name owners ≡ true → has_place name owners ≡ true
place_known name owners is = grind (arith, is)

pub place_below : (name : StateOwner) (owners : List Owner) → length (map known_owner owners) < OWNER_LIMIT → has_place name owners ≡ true
place_below name owners below = grind (arith, length-map owners known_owner, below)

-- What is kept of the owners agrees with the journal after some are removed, and after one is confirmed.
pub agrees_filter : (journal : History) (p : Owner → Bool) (owners : List Owner) → Agrees journal owners → Agrees journal (filter p owners)
agrees_filter journal p [] agrees = tt
agrees_filter journal p (o ∷ owners) agrees =
    cond_both (p o) (o ∷ filter p owners) (filter p owners) (Agrees journal)
    (λ passes. (agrees.0, agrees_filter journal p owners agrees.1))
    (λ fails. agrees_filter journal p owners agrees.1)

confirmed_kept : (journal : History) (b : Bool) (o : Owner) → IsKeptIn journal o → IsKeptIn journal (if b then record o { state = record o.state { confirmed = true } } else o)
confirmed_kept journal true o is = record { kept = is.kept; entry = is.entry; sendable = is.sendable; stored = is.stored; recorded = is.recorded }
confirmed_kept journal false o is = is

pub agrees_confirmed : (journal : History) (name : StateOwner) (owners : List Owner) → Agrees journal owners → Agrees journal (with_confirmed name owners)
agrees_confirmed journal name [] agrees = agrees
agrees_confirmed journal name (o ∷ owners) agrees =
    (confirmed_kept journal (has_name name o) o agrees.0, agrees_confirmed journal name owners agrees.1)

-- an owner that is known before another one keeps a request is known after it, and one that isn't known is not
known_beside : (n m : StateOwner) (number : ℕ) (owners : List KnownOwner)
    → is_some (known.owner_of m (known.with_kept_entry number n owners)) ≡ is_some (known.owner_of m owners)
known_beside n m number [] = refl
known_beside n m number (o ∷ owners) =
    elim (known.has_name n o) as (λ b. is_some (known.owner_of m ((if b then record o { kept_entry = number } else o) ∷ known.with_kept_entry number n owners)) ≡ is_some (known.owner_of m (o ∷ owners))) [
      | true ↦ grind (arith, known_beside n m number owners)
      | false ↦ grind (arith, known_beside n m number owners)
    ]

-- what is stored, with an entry that is kept for an owner that is known, and for one that isn't
kept_known : (old : Stored) (k : Keeping) (number : ℕ) (new : Stored) → new ≡ record old { owners = kept_by k number old.owners }
    → is_some (known.owner_of k.owner (map known_owner old.owners)) ≡ true
    → meaning new ≡ record (meaning old) { owners = known.with_kept_entry number k.owner (map known_owner old.owners) }
kept_known old k number new is place =
    ap meaning is
    ∙ ap (λ (owners : List KnownOwner). record (meaning old) { owners = owners })
    (kept_seen k.owner number k.kept k.confirmed old.owners (sym (known_seen k.owner old.owners) ∙ place))

kept_new : (old : Stored) (k : Keeping) (number : ℕ) (new : Stored) → new ≡ record old { owners = kept_by k number old.owners }
    → is_some (known.owner_of k.owner (map known_owner old.owners)) ≡ false
    → meaning new ≡ record (meaning old) { owners = known.with_record number k.owner k.confirmed (map known_owner old.owners) }
kept_new old k number new is place =
    ap meaning is
    ∙ ap (λ (owners : List KnownOwner). record (meaning old) { owners = owners })
    (record_seen k.owner number k.kept k.confirmed old.owners (sym (known_seen k.owner old.owners) ∙ place))

-- what is stored, with an entry that is kept for an owner
pub keeps_seen : (old new : Stored) (k : Keeping) (number : ℕ) → new ≡ record old { owners = kept_by k number old.owners }
    → (change : OwnerChange) (other : OwnerKind → Kept) → updates.Keeps k ≡ update_of change other → HasOwnerPlace change (meaning old)
    → meaning new ≡ with_owner_change change number (meaning old)
keeps_seen old new k number is changes.Nothing other update place = cc
keeps_seen old new k number is (changes.Keeps n) other update place =
    let same : k.owner ≡ n = search update in
    kept_known old k number new is (ap (λ m. is_some (known.owner_of m (map known_owner old.owners))) same ∙ place)
    ∙ ap (λ m. record (meaning old) { owners = known.with_kept_entry number m (map known_owner old.owners) }) same
keeps_seen old new k number is (changes.KeepsBoth n m) other update place = cc
keeps_seen old new k number is (changes.Introduces n m) other update place = cc
keeps_seen old new k number is (changes.Records n confirmed) other update place =
    let same : k.owner ≡ open_owner n = search update in
    let alike : k.confirmed ≡ confirmed = search update in
    kept_new old k number new is (ap (λ m. is_some (known.owner_of m (map known_owner old.owners))) same ∙ place.0)
    ∙ (λ i. record (meaning old) { owners = known.with_record number (same i) (alike i) (map known_owner old.owners) })
keeps_seen old new k number is (changes.Restarts n confirmed) other update place = cc
keeps_seen old new k number is (changes.Drops n) other update place = cc

-- what is stored, with an entry that is kept for two owners
pub keeps_both_seen : (old middle new : Stored) (k j : Keeping) (number : ℕ)
    → middle ≡ record old { owners = kept_by k number old.owners } → new ≡ record middle { owners = kept_by j number middle.owners }
    → (change : OwnerChange) (other : OwnerKind → Kept) → updates.KeepsBoth k j ≡ update_of change other → HasOwnerPlace change (meaning old)
    → meaning new ≡ with_owner_change change number (meaning old)
keeps_both_seen old middle new k j number first second changes.Nothing other update place = cc
keeps_both_seen old middle new k j number first second (changes.Keeps n) other update place = cc
keeps_both_seen old middle new k j number first second (changes.KeepsBoth n m) other update place =
    let one : k.owner ≡ n = search update in
    let two : j.owner ≡ m = search update in
    let known_one = ap (λ o. is_some (known.owner_of o (map known_owner old.owners))) one ∙ place.0 in
    let seen = kept_known old k number middle first known_one in
    let owners : map known_owner middle.owners ≡ known.with_kept_entry number k.owner (map known_owner old.owners) = ap (λ (s : State). s.owners) seen in
    let known_two = ap (λ all. is_some (known.owner_of j.owner all)) owners ∙ known_beside k.owner j.owner number (map known_owner old.owners)
    ∙ ap (λ o. is_some (known.owner_of o (map known_owner old.owners))) two ∙ place.1 in
    kept_known middle j number new second known_two
    ∙ ap (λ (s : State). record s { owners = known.with_kept_entry number j.owner s.owners }) seen
    ∙ (λ i. record (meaning old) { owners = known.with_kept_entry number (two i) (known.with_kept_entry number (one i) (map known_owner old.owners)) })
keeps_both_seen old middle new k j number first second (changes.Introduces n m) other update place =
    let one : k.owner ≡ n = search update in
    let two : j.owner ≡ m = search update in
    let fresh : j.confirmed ≡ false = search update in
    let known_one = ap (λ o. is_some (known.owner_of o (map known_owner old.owners))) one ∙ place.0 in
    let seen = kept_known old k number middle first known_one in
    let owners : map known_owner middle.owners ≡ known.with_kept_entry number k.owner (map known_owner old.owners) = ap (λ (s : State). s.owners) seen in
    let unknown_two = ap (λ all. is_some (known.owner_of j.owner all)) owners ∙ known_beside k.owner j.owner number (map known_owner old.owners)
    ∙ ap (λ o. is_some (known.owner_of o (map known_owner old.owners))) two ∙ place.1.0 in
    kept_new middle j number new second unknown_two
    ∙ ap (λ (s : State). record s { owners = known.with_record number j.owner j.confirmed s.owners }) seen
    ∙ (λ i. record (meaning old) { owners = known.with_record number (two i) (fresh i) (known.with_kept_entry number (one i) (map known_owner old.owners)) })
keeps_both_seen old middle new k j number first second (changes.Records n confirmed) other update place = cc
keeps_both_seen old middle new k j number first second (changes.Restarts n confirmed) other update place = cc
keeps_both_seen old middle new k j number first second (changes.Drops n) other update place = cc

-- what is stored without an owner and its opens
abbrev pub stored_without : OpenOwner → Stored → Stored
stored_without name old = record old {
  owners = without_owner (open_owner name) old.owners;
  opens = map (opens.without (opens.is_of name)) old.opens;
}

without_owner_seen : (old : Stored) (name : OpenOwner) → meaning (stored_without name old) ≡ without name (meaning old)
without_owner_seen old name = ap (λ (owners : List KnownOwner). record (without name (meaning old)) { owners = owners }) (without_seen (open_owner name) old.owners)

pub drops_seen : (old new : Stored) (name : OpenOwner) (number : ℕ) → new ≡ stored_without name old
    → (change : OwnerChange) (other : OwnerKind → Kept) → updates.Drops name ≡ update_of change other
    → meaning new ≡ with_owner_change change number (meaning old)
drops_seen old new name number is changes.Nothing other update = cc
drops_seen old new name number is (changes.Keeps n) other update = cc
drops_seen old new name number is (changes.KeepsBoth n m) other update = cc
drops_seen old new name number is (changes.Introduces n m) other update = cc
drops_seen old new name number is (changes.Records n confirmed) other update = cc
drops_seen old new name number is (changes.Restarts n confirmed) other update = cc
drops_seen old new name number is (changes.Drops n) other update =
    let same : name ≡ n = search update in
    ap meaning is ∙ without_owner_seen old name ∙ ap (λ m. without m (meaning old)) same

pub restarts_seen : (old removed : Stored) (name : OpenOwner) (number : ℕ) (kept : KeptSummary) (confirmed : Bool) (new : List Owner) → removed ≡ stored_without name old → new ≡ with_kept (open_owner name) number kept confirmed removed.owners
    → (change : OwnerChange) (other : OwnerKind → Kept) → updates.Restarts name kept confirmed ≡ update_of change other
    → meaning (record removed { owners = new }) ≡ with_owner_change change number (meaning old)
restarts_seen old removed name number kept confirmed new removes is changes.Nothing other update = cc
restarts_seen old removed name number kept confirmed new removes is (changes.Keeps n) other update = cc
restarts_seen old removed name number kept confirmed new removes is (changes.KeepsBoth n m) other update = cc
restarts_seen old removed name number kept confirmed new removes is (changes.Introduces n m) other update = cc
restarts_seen old removed name number kept confirmed new removes is (changes.Records n b) other update = cc
restarts_seen old removed name number kept confirmed new removes is (changes.Drops n) other update = cc
restarts_seen old removed name number kept confirmed new removes is (changes.Restarts n b) other update =
    let same : name ≡ n = search update in
    let alike : confirmed ≡ b = search update in
    let owner = open_owner name in
    let unknown : is_known owner removed.owners ≡ false = ap (λ (s : Stored). is_known owner s.owners) removes ∙ unknown_without owner old.owners in
    let recorded : State → State = λ s. record s { owners = known.with_record number owner confirmed s.owners } in
    ap (λ (owners : List KnownOwner). record (meaning removed) { owners = owners }) (ap (map known_owner) is ∙ record_seen owner number kept confirmed removed.owners unknown)
    ∙ ap recorded (ap meaning removes ∙ without_owner_seen old name)
    ∙ (λ i. with_owner_change (changes.Restarts (same i) (alike i)) number (meaning old))

-- what is stored after an owner and its open are confirmed
pub confirms_seen : (old : Stored) (node number : ℕ) (name : OpenOwner) (new : List Owner) (opened : List (List OpenState)) (lent : List (List Delegation)) → new ≡ with_confirmed (open_owner name) old.owners
    → opened ≡ with_opens node (opens.with_each (opens.is_numbered number) opens.with_next_seqid) old.opens
    → lent ≡ old.delegations → (change : Change) → change ≡ own_changes.Confirms node number name
    → meaning (record old { owners = new; opens = opened; delegations = lent }) ≡ with_state_change change (meaning old)
confirms_seen old node number name new opened lent confirmed advanced stay change is =
    ap (λ (all : List (List Delegation)). meaning (record old { owners = new; opens = opened; delegations = all })) stay
    ∙ ap (λ (owners : List KnownOwner). record (meaning old) { owners = owners; opens = opened }) (ap (map known_owner) confirmed ∙ confirmed_seen (open_owner name) old.owners)
    ∙ ap (λ (all : List (List OpenState)). record (meaning old) { owners = known.with_confirmation (open_owner name) (map known_owner old.owners); opens = all }) advanced
    ∙ ap (λ ch. with_state_change ch (meaning old)) (sym is)

-- what is stored after a lock owner is forgotten with its lock states
pub releases_seen : (old : Stored) (name : LockOwner) (new : List Owner) (locked : List (List StoredLock))
    → new ≡ without_owner (lock_owner name) old.owners
    → map (map byte_locks) locked ≡ map (locks.without (locks.is_lock_of name)) (map (map byte_locks) old.locks)
    → (change : Change) → change ≡ own_changes.Releases name
    → meaning (record old { owners = new; locks = locked }) ≡ with_state_change change (meaning old)
releases_seen old name new locked fewer freed change is =
    (λ i. record (meaning old) { owners = (ap (map known_owner) fewer ∙ without_seen (lock_owner name) old.owners) i; locks = freed i })
    ∙ ap (λ ch. with_state_change ch (meaning old)) (sym is)

-- what is stored after an open owner is forgotten
pub forgets_seen : (old : Stored) (name : OpenOwner) (new : List Owner) → new ≡ without_owner (open_owner name) old.owners
    → (change : Change) → change ≡ own_changes.Forgets name
    → meaning (record old { owners = new }) ≡ with_state_change change (meaning old)
forgets_seen old name new fewer change is =
    (λ i. record (meaning old) { owners = (ap (map known_owner) fewer ∙ without_seen (open_owner name) old.owners) i })
    ∙ ap (λ ch. with_state_change ch (meaning old)) (sym is)

-- owners that were recorded before an entry, without some, and after one of them keeps a request
pub before_filter : (entry : ℕ) (p : Owner → Bool) (owners : List Owner) → AreBefore entry owners → AreBefore entry (filter p owners)
before_filter entry p [] before = tt
before_filter entry p (o ∷ owners) before =
    cond_both (p o) (o ∷ filter p owners) (filter p owners) (AreBefore entry)
    (λ passes. (before.0, before_filter entry p owners before.1))
    (λ fails. before_filter entry p owners before.1)

pub before_change : (entry : ℕ) (change : OwnerState → OwnerState) → ((s : OwnerState) → (change s).recorded ≡ s.recorded) → (name : StateOwner) (owners : List Owner) → AreBefore entry owners
    → AreBefore entry (with_change change name owners)
before_change entry change keeps name [] before = tt
before_change entry change keeps name (o ∷ owners) before = (
  cond_both (has_name name o) (record o { state = change o.state }) o (λ (x : Owner). x.state.recorded < entry)
      (λ has. omega (arith, keeps o.state, before.0)) (λ _. before.0),
  before_change entry change keeps name owners before.1,
)

-- what is stored without the owners, the opens, the lock states and the delegations of a client
pub left_seen : (old : Stored) (client : ClientId) (new : List Owner) (opened : List (List OpenState)) (locked : List (List StoredLock)) (lent : List (List Delegation)) → new ≡ without_owners_of client old.owners
    → opened ≡ map (opens.without (opens.is_of_client client)) old.opens
    → map (map byte_locks) locked ≡ map (locks.without (locks.is_lock_of_client client)) (map (map byte_locks) old.locks)
    → lent ≡ map (without_lent (is_lent_to client)) old.delegations
    → meaning (record old { owners = new; opens = opened; locks = locked; delegations = lent }) ≡ without_client client (meaning old)
left_seen old client new opened locked lent fewer closed freed returned =
    λ i. record (meaning old) { owners = (ap (map known_owner) fewer ∙ without_client_seen client old.owners) i; opens = closed i; locks = freed i; delegations = returned i }

-- A change for which there is an owner's place has a place among the stored owners.
pub introduces_place : (old : Stored) (name newcomer : StateOwner) (change : OwnerChange) → change ≡ changes.Introduces name newcomer
    → HasOwnerPlace change (meaning old) → has_place newcomer old.owners ≡ true
introduces_place old name newcomer change introduces place =
    let place_here = subst (λ c. HasOwnerPlace c (meaning old)) introduces place in
    place_below newcomer old.owners place_here.1.1

pub records_place : (old : Stored) (name : OpenOwner) (change : OwnerChange)
    → ((confirmed : Bool) × (change ≡ changes.Records name confirmed)) ⊎ ((confirmed : Bool) × (change ≡ changes.Restarts name confirmed))
    → HasOwnerPlace change (meaning old) → has_place (open_owner name) old.owners ≡ true
records_place old name change (inl records) place =
    let place_here = subst (λ c. HasOwnerPlace c (meaning old)) records.1 place in
    place_below (open_owner name) old.owners place_here.1
records_place old name change (inr restarts) place =
    let place_here = subst (λ c. HasOwnerPlace c (meaning old)) restarts.1 place in
    place_known (open_owner name) old.owners (sym (known_seen (open_owner name) old.owners) ∙ place_here)
