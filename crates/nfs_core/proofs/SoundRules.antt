-- What the rules of the operations decide is ready to keep the state sound.
use Rattle.std.proofs.Common.{◌≡◌, inl, inr, ℕ, Bool, true, false, Option, Some, None, List, [], ◌∷◌, ◌++◌, Result, Ok, Err, refl, sym, ap, ◌∙◌, subst}
use Rattle.std.specs.Prelude.{⊤, ◌&&◌, find, not, is_some, IfSome, option_map, if◌then◌else◌}
use Rattle.std.specs.List.{AllByRecursion, list_all}
use Rattle.std.specs.Str.{bytes_eq}
use Rattle.std.proofs.lemmas.Bool.{and_from, cases_Bool, cond-false, cond-true, cond_both, and_parts}
use Rattle.std.proofs.lemmas.Slice.Eq.{bytes_eq-Decides}
use Rattle.nfs_state.specs.declared.change.Change.TheVariants as changes
use Rattle.nfs_rules.specs.declared.decision.Decision.{Decision}
use Rattle.nfs_rules.specs.declared.opening.Opening.{Opening}
use Rattle.nfs_state.specs.declared.owner_change.OwnerChange.TheVariants as owner_changes
use Rattle.nfs_rules.specs.declared.passage.Passage.{Passage}
use Rattle.nfs_rules.specs.declared.passage.Passage.TheVariants as passages
use Rattle.nfs_state.specs.declared.request.Request.{Request}
use Rattle.nfs_rules.specs.declared.ruling.Ruling.{Ruling}
use Rattle.nfs_rules.specs.operations.{IsRuled}
use Rattle.nfs_rules.specs.Newcomers.{Newcomer, Nobody, newcomer_of}
use Rattle.nfs_rules.specs.operations.Close as close
use Rattle.nfs_rules.specs.Lending.{goes_on, has_lending_place, has_path_up, if_all_hold, is_null, kind_for, lending_conditions, lent}
use Rattle.nfs_rules.specs.operations.Delegreturn as delegreturn
use Rattle.nfs_rules.specs.operations.Lock as lock
use Rattle.nfs_rules.specs.operations.Lockt as lockt
use Rattle.nfs_rules.specs.operations.Locku as locku
use Rattle.nfs_rules.specs.operations.Open as opening
use Rattle.nfs_rules.specs.operations.OpenConfirm as open_confirm
use Rattle.nfs_rules.specs.operations.OpenDowngrade as open_downgrade
use Rattle.nfs_rules.specs.operations.ReleaseLockowner as release
use Rattle.nfs_rules.specs.operations.Setclientid as setclientid
use Rattle.nfs_rules.specs.operations.SetclientidConfirm as confirm
use Rattle.nfs_state.specs.Owners.{KnownOwner, has_name, is_confirmed, without_owner}
use Rattle.nfs_rules.specs.Sequences.{Owner, Refused, before_own, decision_of, is_ok_status, is_open, owner_change_of, requester_of_open, requester_of_stateid}
use Rattle.nfs_state.specs.Changes.{change_alone, with_owner_change}
use Rattle.nfs_rules.specs.Refusing.{◌>>=◌}
use Rattle.nfs_rules.specs.Stateids.{any_open, as_open, confirmed_open, target_of, verdict}
use Rattle.nfs_state.specs.State.{State, History, record_has_state}
use Rattle.nfs_core.proofs.Choosing.{chosen_next}
use Rattle.nfs_core.proofs.ShareAccess.{valid_access}
use Rattle.nfs_core.proofs.Transferring.{each_read, each_setattr, each_write}
use Rattle.nfs_core.proofs.SafeLists.{all_always, all_find, all_none, all_weaken, found_last, found_some}
use Rattle.nfs_core.proofs.Sound.{AreSingle, HasSameClient, HasRecord, IsOnlyOf, IsSound, is_live_in, is_record_of, same_client_self, same_name_self}
use Rattle.nfs_core.proofs.SoundClients.{HasSingles}
use Rattle.nfs_core.proofs.SoundLocking.{lock_ready, lock_sequenced, locku_ready, stateid_of}
use Rattle.nfs_core.specs.Safe.{HasAccess}
use Rattle.nfs_core.proofs.SoundSequences.{IsFit, IsOf, IsOwnReady, any_owners_ready, as_decided, continues_ready, continuing, never, place_for_nobody, quiet_ready, sequenced_ready, some_equal}
use Rattle.nfs_core.proofs.SoundSteps.{CanBeGiven, CanLend, IsChangeReady, IsClientReady, IsOwnerReady, IsReady, MayOpen}
use Rattle.nfs_core.proofs.SoundTargets.{bound, named_open, ok_equal, open_found, unrefused}
use Rattle.nfs_forms.specs.ClientId.{is_same_client}
use Rattle.nfs_forms.specs.declared.client_id.ClientId.{ClientId}
use Rattle.nfs_forms.specs.declared.answer.Answer.TheVariants.{Done}
use Rattle.nfs_xdr.specs.declared.op_result.OpResult.TheVariants as results
use Rattle.nfs_forms.specs.Principal.{is_same_principal}
use Rattle.nfs_forms.specs.declared.open_owner.OpenOwner.{OpenOwner}
use Rattle.nfs_forms.specs.declared.stateid.Stateid.{Stateid}
use Rattle.nfs_operations.specs.declared.lockt.Lockt.{Lockt}
use Rattle.nfs_operations.specs.declared.release_lockowner.ReleaseLockowner.{ReleaseLockowner}
use Rattle.nfs_operations.specs.declared.setclientid.Setclientid.{Setclientid}
use Rattle.nfs_operations.specs.declared.setclientid_confirm.SetclientidConfirm.{SetclientidConfirm}
use Rattle.nfs_forms.specs.declared.principal.Principal.{Principal}
use Rattle.nfs_locks.specs.AllLocks.{holds}
use Rattle.nfs_owners.specs.Addresses.{is_within_limit}
use Rattle.nfs_owners.specs.Choice.{choice}
use Rattle.nfs_owners.specs.Confirmation as confirmations
use Rattle.nfs_owners.specs.Confirmation.{Confirmation, Stale, InUse, Retransmission, First, Update, InPlaceOf, confirmation_before, confirmation_beside, confirmation_by}
use Rattle.nfs_owners.specs.Registration as registrations
use Rattle.nfs_owners.specs.Registration.{arrival, registration_by}
use Rattle.nfs_owners.specs.Registry.{Registry, confirmed_named_by, confirmed_of, is_named_by, is_of, record_of, record_state, unconfirmed_named_by}
use Rattle.nfs_owners.specs.StateOwner.{as_open_owner, open_owner}
use Rattle.nfs_owners.specs.declared.client_record.ClientRecord.{ClientRecord}
use Rattle.nfs_owners.specs.declared.client_record.ClientState.{ClientState}
use Rattle.nfs_owners.specs.declared.client_record.PathMark.{PathMark}
use Rattle.nfs_owners.specs.declared.clients.client_change.ClientChange.{ClientChange}
use Rattle.nfs_owners.specs.declared.state_owner.StateOwner.{StateOwner}
use Rattle.nfs_operations.specs.declared.open_downgrade.OpenDowngrade.{OpenDowngrade}
use Rattle.nfs_operations.specs.declared.«open».Open.{Open}
use Rattle.nfs_forms.specs.declared.status.Refusal.{Refusal}
use Rattle.nfs_forms.specs.declared.status.Refusal.TheVariants as refusals
use Rattle.nfs_forms.specs.declared.status.Status.{Status}
use Rattle.nfs_ranges.specs.declared.range.Range.{Range}
use Rattle.nfs_share.specs.AllOpens.{DelegationAt, OpenAt, delegations_of, opens_of}
use Rattle.nfs_share.specs.Delegations.{can_delegate, has_conflict}
use Rattle.nfs_share.specs.declared.delegation.DelegationKind.{DelegationKind}
use Rattle.nfs_share.specs.declared.delegation.FileUse.TheVariants as uses
use Rattle.nfs_share.specs.Opens.{is_refused, open_named_by}
use Rattle.nfs_share.specs.Share.{share_of_numbers}
use Rattle.nfs_share.specs.declared.share.Share.{Share}
use Rattle.nfs_tree.specs.Tree.{resolution}
use Rattle.nfs_xdr.specs.OpResult.{status_of}
use Rattle.nfs_xdr.specs.declared.op.Op.{Op}
use Rattle.nfs_xdr.specs.declared.op.Op.TheVariants as ops

-- SETCLIENTID

-- what is found passes the test
found_passes : {X : Type 0} (test : X → Bool) (xs : List X) (x : X) → find test xs ≡ Some x → test x ≡ true
found_passes test xs x is = (all_find (λ y. ⊤) test xs x is (all_always xs)).1

-- a record that is found, of this client and this id, is there
found_record : (test : ClientRecord → Bool) (client : ClientId) (id : List ℕ) (records : List ClientRecord) (r : ClientRecord) → find test records ≡ Some r → bytes_eq r.id id ≡ true → is_same_client r.state.client client ≡ true → HasRecord client id records
found_record test client id records r is of same =
    found_some test (is_record_of client id) records r is (and_from (is_same_client r.state.client client) (bytes_eq r.id id) same of)

-- a record that is there has the id and the clientid that is updated
abbrev IsFound : Registry → Setclientid → registrations.Finding → Type 0
IsFound registry args (registrations.Update client) =
    HasRecord client args.id registry.confirmed
IsFound registry args found = ⊤

finding_found : (registry : Registry) (args : Setclientid) (found : Option ClientRecord) (has_state : Bool) (principal : Principal) → confirmed_of registry args.id ≡ found → IsFound registry args (registrations.finding (record_state found) has_state principal args)
finding_found registry args None has_state principal is = tt
finding_found registry args (Some r) has_state principal is =
    let P : registrations.Finding → Type 0 = IsFound registry args in
    let there : P (registrations.Update r.state.client) = found_record (is_of args.id) r.state.client args.id registry.confirmed r is
    (found_passes (is_of args.id) registry.confirmed r is) (same_client_self r.state.client) in
    cond_both (is_same_principal r.state.principal principal) (if bytes_eq r.state.verifier.0 args.verifier.0 then registrations.Update r.state.client else registrations.Arrival)
    (if has_state then registrations.InUse r.state.callback.address else registrations.Arrival) P
    (λ _. cond_both (bytes_eq r.state.verifier.0 args.verifier.0) (registrations.Update r.state.client) registrations.Arrival P (λ _. there) (λ _. tt))
    (λ _. cond_both has_state (registrations.InUse r.state.callback.address) registrations.Arrival P (λ _. tt) (λ _. tt))

-- a newcomer's number can be given
arrives : (epoch : ℕ) (registry : Registry) (principal : Principal) (args : Setclientid) (chosen : Option ℕ) → IfSome chosen (λ number. CanBeGiven number registry)
    → IfSome (option_map (arrival epoch registry principal args) chosen) (λ x. IsClientReady x.1 registry)
arrives epoch registry principal args None next = tt
arrives epoch registry principal args (Some number) next = next

registered : (found : registrations.Finding) (epoch : ℕ) (registry : Registry) (principal : Principal) (args : Setclientid) → HasSingles registry → IsFound registry args found
    → IfSome (registration_by found epoch registry principal args) (λ x. IsClientReady x.1 registry)
registered (registrations.InUse address) epoch registry principal args singles found = tt
registered (registrations.Update client) epoch registry principal args singles found =
    cond_both (is_within_limit args.callback.address) _ None (λ o. IfSome o (λ x. IsClientReady x.1 registry)) (λ _. found) (λ _. tt)
registered registrations.Arrival epoch registry principal args singles found =
    cond_both (is_within_limit args.callback.address) _ None (λ o. IfSome o (λ x. IsClientReady x.1 registry))
    (λ _. arrives epoch registry principal args (choice args.id registry) (chosen_next args.id registry singles.given)) (λ _. tt)

registers : (number : ℕ) (old : State) (d : Decision) (o : Option (registrations.Outcome × ClientChange)) → IfSome o (λ x. IsClientReady x.1 old.clients) → Some d ≡ option_map setclientid.decision_of o → IsReady number old d
registers number old d None ready is = absurd cc
registers number old d (Some x) ready is = as_decided number old d (setclientid.decision_of x) is (tt, ready)

-- SETCLIENTID_CONFIRM

-- the id's confirmed record has this state
abbrev IsHolder : Registry → List ℕ → ClientState → Type 0
IsHolder registry id state = (holder : ClientRecord) × (confirmed_of registry id ≡ Some holder) × (holder.state ≡ state)

-- The confirmed record with the id is the one that the case speaks of, and the one that is confirmed is there.
abbrev IsFitting : Registry → Confirmation → Type 0
IsFitting registry (First r) = (confirmed_of registry r.id ≡ None) × HasRecord r.state.client r.id registry.unconfirmed
IsFitting registry (Update old r) = IsHolder registry r.id old
IsFitting registry (InPlaceOf old r) =
    IsHolder registry r.id old × HasRecord r.state.client r.id registry.unconfirmed × (is_same_client old.client r.state.client ≡ false)
IsFitting registry confirmation = ⊤

beside_fits : (registry : Registry) (found : Option ClientRecord) (r : ClientRecord) (has_state : Bool) → HasRecord r.state.client r.id registry.unconfirmed → confirmed_of registry r.id ≡ found
    → IsFitting registry (confirmation_beside (record_state found) r has_state)
beside_fits registry None r has_state of is = (is, of)
beside_fits registry (Some old) r has_state of is =
    let P : Confirmation → Type 0 = IsFitting registry in
    cond_both (is_same_client old.state.client r.state.client) (Update old.state r)
    (if not (is_same_principal old.state.principal r.state.principal) && has_state then InUse else InPlaceOf old.state r) P (λ _. (old, is, refl))
    (λ other. cond_both (not (is_same_principal old.state.principal r.state.principal) && has_state) InUse (InPlaceOf old.state r) P (λ _. tt) (λ _. ((old, is, refl), of, other)))

before_fits : (registry : Registry) (found : Option ClientState) (principal : Principal) → IsFitting registry (confirmation_before found principal)
before_fits registry None principal = tt
before_fits registry (Some s) principal =
    let P : Confirmation → Type 0 = IsFitting registry in
    cond_both (is_same_principal s.principal principal) Retransmission InUse P (λ _. tt) (λ _. tt)

finding_fits : (registry : Registry) (named : Option ClientRecord) (has_state : Bool) (principal : Principal) (args : SetclientidConfirm) → unconfirmed_named_by args registry ≡ named
    → IsFitting registry (confirmations.finding named registry has_state principal args)
finding_fits registry (Some r) has_state principal args is =
    let P : Confirmation → Type 0 = IsFitting registry in
    let of : HasRecord r.state.client r.id registry.unconfirmed =
    found_record (is_named_by args) r.state.client r.id registry.unconfirmed r is ((bytes_eq-Decides r.id r.id).1 refl) (same_client_self r.state.client) in
    cond_both (is_same_principal r.state.principal principal) (confirmation_beside (record_state (confirmed_of registry r.id)) r has_state) InUse P
    (λ _. beside_fits registry (confirmed_of registry r.id) r has_state of refl) (λ _. tt)
finding_fits registry None has_state principal args is = before_fits registry (record_state (confirmed_named_by args registry)) principal

-- all confirmed records with the holder's id are of its client, and it is there
held : (registry : Registry) (id : List ℕ) (state : ClientState) → AreSingle registry.confirmed → IsHolder registry id state
    → AllByRecursion (IsOnlyOf state.client id) registry.confirmed × HasRecord state.client id registry.confirmed
held registry id state single holds =
    let old = holds.0 in
    let found = all_find (λ r. AllByRecursion (HasSameClient r) registry.confirmed) (is_of id) registry.confirmed old holds.1 single in
    let ids : old.id ≡ id = (bytes_eq-Decides old.id id).0 found.1 in
    subst (λ (s : ClientState). AllByRecursion (IsOnlyOf s.client id) registry.confirmed × HasRecord s.client id registry.confirmed) holds.2 (
      all_weaken (HasSameClient old) (IsOnlyOf old.state.client id)
          (λ s same of. same (subst (λ i. bytes_eq s.id i ≡ true) (sym ids) of)) registry.confirmed found.0,
      found_record (is_of id) old.state.client id registry.confirmed old holds.1 found.1 (same_client_self old.state.client),
    )

pub confirms : (registry : Registry) (case : Confirmation) (path : PathMark) → AreSingle registry.confirmed → IsFitting registry case → IsClientReady (confirmation_by case path).1 registry
confirms registry Stale path single fits = tt
confirms registry InUse path single fits = tt
confirms registry Retransmission path single fits = tt
confirms registry (First r) path single fits = (all_none (is_of r.id) registry.confirmed fits.0, fits.1)
confirms registry (Update old r) path single fits = held registry r.id old single fits
confirms registry (InPlaceOf old r) path single fits =
    let holds = held registry r.id old single fits.0 in
    (holds.0, holds.1, fits.1, fits.2)

-- OPEN_CONFIRM and CLOSE: what they change is always ready.

same_ruling : (r u : Ruling) → r ≡ u → (s : State) → IsChangeReady u.change s → IsChangeReady r.change s
same_ruling r u same s ready = subst (λ (x : Ruling). IsChangeReady x.change s) (sym same) ready

as_ruled : (r u : Ruling) → Some r ≡ Some u → ((s : State) → IsChangeReady u.change s) → (s : State) → IsChangeReady r.change s
as_ruled r u same ready s = same_ruling r u (some_equal r u same) s (ready s)

closing_quiet : (found : Result OpenAt Refusal) (s : State) → IsChangeReady (close.closing found).change s
closing_quiet (Err refusal) s = tt
closing_quiet (Ok at) s = tt

confirmation_quiet : (state : State) (found : Result OpenAt Refusal) (s : State) → IsChangeReady (open_confirm.confirmation state found).change s
confirmation_quiet state (Err refusal) s = tt
confirmation_quiet state (Ok at) s =
    cond_both (is_confirmed (open_owner at.state.owner) state.owners) (open_confirm.refusal_of refusals.BadStateId) _ (λ (r : Ruling). IsChangeReady r.change s) (λ _. tt) (λ _. tt)

-- OPEN_DOWNGRADE: the open that its stateid names may be downgraded.

downgrade_ready : (state : State) (id : Stateid) (at : OpenAt) (share : Option Share) (ruling : Ruling) → open_named_by id (opens_of at.node state.opens) ≡ Some at.state → open_downgrade.IsDowngrade at share ruling
    → (owners : List KnownOwner) → IsChangeReady ruling.change (record state { owners = owners })
downgrade_ready state id at None ruling named is owners = same_ruling ruling _ is (record state { owners = owners }) tt
downgrade_ready state id at (Some share) ruling named (inl is) owners =
    same_ruling ruling _ is.1 (record state { owners = owners }) (id, at.state, named, refl, is.0)
downgrade_ready state id at (Some share) ruling named (inr is) owners = same_ruling ruling _ is.1 (record state { owners = owners }) tt

found_ready : (state : State) (found : Result OpenAt Refusal) (args : OpenDowngrade) (ruling : Ruling) → ((at : OpenAt) → found ≡ Ok at → open_named_by args.stateid (opens_of at.node state.opens) ≡ Some at.state)
    → open_downgrade.IsFound found args ruling → (owners : List KnownOwner) → IsChangeReady ruling.change (record state { owners = owners })
found_ready state (Err refusal) args ruling named is owners = same_ruling ruling _ is (record state { owners = owners }) tt
found_ready state (Ok at) args ruling named is owners =
    downgrade_ready state args.stateid at (share_of_numbers args.access args.deny) ruling (named at refl) is owners

-- OPEN

-- the share isn't refused, and has access
abbrev IsAllowed : State → OpenOwner → Opening → Type 0
IsAllowed state owner o = (is_refused owner o.share (opens_of o.node state.opens) ≡ false) × HasAccess o.share

-- What may be opened isn't refused.
allowed : (state : State) (owner : OpenOwner) (share : Share) (node : ℕ) (o : Opening) → HasAccess share → opening.unless_denied state owner share node ≡ Ok o → IsAllowed state owner o
allowed state owner share node o access is =
    let new : Opening = record { node = node; share = share } in
    let free = unrefused (is_refused owner share (opens_of node state.opens)) refusals.ShareDenied (Ok new) o is in
    subst (IsAllowed state owner) (ok_equal new o free.1) (free.0, access)

opening_allowed : (journal : History) (state : State) (node : ℕ) (args : Open) (o : Opening) → opening.opening journal state node args ≡ Ok o → IsAllowed state args.owner o
opening_allowed journal state node args o is =
    let P : Type 0 = IsAllowed state args.owner o in
    bound P (opening.name_of args.claim) _ o (λ name _.
    bound P (opening.share_or_inval (share_of_numbers args.access args.deny)) _ o (λ share valid.
    bound P (opening.found_by args.how (resolution journal.nodes node name)) _ o (λ found _.
    bound P (opening.file_at journal args.how found) _ o (λ file _.
    bound P (opening.claimed journal state args.owner.client args.claim file) _ o (λ at _.
    allowed state args.owner share at o (valid_access args.access args.deny (share_of_numbers args.access args.deny) share refl valid)))))) is

-- The owner whose client is live may become known where there is a place, and one that isn't confirmed may be dropped.
owner_ready : (journal : History) (state : State) (op : Op) (owner : OpenOwner) (passage : Passage) (status : Status) → IsSound state → is_live_in state.clients.confirmed owner.client ≡ true
    → IsFit state op (open_owner owner) passage → newcomer_of journal state owner.client op ≡ Nobody
    → (is_ok_status status ≡ true → opening.has_owner_place passage (before_own passage owner state) ≡ true)
    → IsOwnerReady (owner_change_of passage (open_owner owner) (newcomer_of journal state owner.client op) status) state
owner_ready journal state op owner passages.Continues status sound live fit nobody place =
    continues_ready journal state op (open_owner owner) status sound fit (place_for_nobody state (newcomer_of journal state owner.client op) status nobody)
owner_ready journal state op owner passages.Begins status sound live fit nobody place =
    cond_both (is_ok_status status) (owner_changes.Records (as_open_owner (open_owner owner)) false) owner_changes.Nothing (λ c. IsOwnerReady c state) (λ ok. (live, place ok, fit.1)) (λ _. tt)
owner_ready journal state op owner passages.Restarts status sound live fit nobody place =
    cond_both (is_ok_status status) (owner_changes.Restarts (as_open_owner (open_owner owner)) false) (owner_changes.Drops (as_open_owner (open_owner owner))) (λ c. IsOwnerReady c state)
    (λ ok. (live, fit.1, place ok)) (λ _. fit.1)

-- the owners are nothing to what an OPEN may do
may_still : (node : ℕ) (owner : OpenOwner) (share : Share) (lent : Option DelegationKind) (owners : List KnownOwner) (state : State) → MayOpen node owner share lent state → MayOpen node owner share lent (record state { owners = owners })
may_still node owner share None owners state may = may
may_still node owner share (Some kind) owners state may = may

-- After what its entry means for the owner, the owner of an OPEN is known, and the opens and the delegations are those that
-- the OPEN saw.
opens_ready : (number : ℕ) (state : State) (op : Op) (owner : OpenOwner) (passage : Passage) (newcomer : Newcomer) (status : Status) (node : ℕ) (share : Share) (lent : Option DelegationKind) → is_ok_status status ≡ true
    → IsFit state op (open_owner owner) passage → MayOpen node owner share lent (before_own passage owner state)
    → IsChangeReady (changes.Opens node owner share lent) (with_owner_change (owner_change_of passage (open_owner owner) newcomer status) number state)
opens_ready number state op owner passages.Continues newcomer status node share lent ok fit may =
    let goes = continuing number state (open_owner owner) newcomer status in
    subst (IsChangeReady (changes.Opens node owner share lent)) (sym goes.state) (goes.keeps.known (open_owner owner) fit, may_still node owner share lent goes.owners state may)
opens_ready number state op owner passages.Begins newcomer status node share lent ok fit may =
    let name = open_owner owner in
    let new : KnownOwner = record { name = name; confirmed = false; recording_entry = number; kept_entry = number } in
    subst (λ c. IsChangeReady (changes.Opens node owner share lent) (with_owner_change c number state))
    (sym (cond-true (is_ok_status status) (owner_changes.Records (as_open_owner name) false) owner_changes.Nothing ok))
    (found_last (has_name name) state.owners new (same_name_self name), may_still node owner share lent (state.owners ++ new ∷ []) state may)
opens_ready number state op owner passages.Restarts newcomer status node share lent ok fit may =
    let name = open_owner owner in
    let new : KnownOwner = record { name = name; confirmed = false; recording_entry = number; kept_entry = number } in
    subst (λ c. IsChangeReady (changes.Opens node owner share lent) (with_owner_change c number state))
    (sym (cond-true (is_ok_status status) (owner_changes.Restarts (as_open_owner name) false) (owner_changes.Drops (as_open_owner name)) ok)) (
      found_last (has_name name) (without_owner name state.owners) new (same_name_self name),
      may_still node owner share lent (without_owner name state.owners ++ new ∷ []) (before_own passages.Restarts owner state) may,
    )

-- a delegation that is lent may be
may_lend : (state : State) (passage : Passage) (args : Open) (node : ℕ) (kind : Option DelegationKind) → CanLend node args.owner.client (if_all_hold (lending_conditions state passage args node) kind) state
may_lend state passage args node None = tt
may_lend state passage args node (Some kind) =
    let goes = goes_on passage in
    let null = is_null args.claim in
    let up = has_path_up args.owner.client state.clients in
    let can = can_delegate args.owner.client kind (opens_of node state.opens) (delegations_of node state.delegations) in
    cond_both (list_all (λ holds. holds) (lending_conditions state passage args node kind)) (Some kind) None (λ lends. CanLend node args.owner.client lends state)
    (λ all. (and_parts can true (and_parts up (can && true) (and_parts null (up && (can && true)) (and_parts goes (null && (up && (can && true))) all).1).1).1).0) (λ _. tt)

-- an OPEN that is granted, if there are places for all that it makes
grant_ready : (number : ℕ) (journal : History) (state : State) (op : Op) (args : Open) (passage : Passage) (o : Opening) (ruling : Ruling)
    → IsSound state → is_live_in state.clients.confirmed args.owner.client ≡ true → IsFit state op (open_owner args.owner) passage
    → newcomer_of journal state args.owner.client op ≡ Nobody
    → IsAllowed (before_own passage args.owner state) args.owner o
    → has_conflict (uses.Open args.owner.client o.share) (delegations_of o.node (before_own passage args.owner state).delegations) ≡ false
    → Some ruling ≡ opening.ruling_of journal (before_own passage args.owner state) passage args (Ok o)
    → IsReady number state (decision_of passage (open_owner args.owner) (newcomer_of journal state args.owner.client op) ruling)
grant_ready number journal state op args passage o ruling sound live fit nobody free apart rules =
    let seen = before_own passage args.owner state in
    let newcomer = newcomer_of journal state args.owner.client op in
    let kind = lent journal seen passage args o in
    let owner_place = opening.has_owner_place passage seen in
    let open_place = opening.has_open_place seen args.owner o.node in
    let lending_place = has_lending_place seen (opening.has_open seen args.owner o.node) kind in
    let given = opening.granted seen passage args.owner o kind in
    let places = opening.has_places seen passage args.owner o.node kind in
    elim (cases_Bool places) [
      | inl has ↦
          let both = and_parts (owner_place && open_place) lending_place has in
          let first = and_parts owner_place open_place both.0 in
          subst (λ r. IsReady number state (decision_of passage (open_owner args.owner) newcomer r))
          (sym (some_equal ruling given (rules ∙ cond-true places (Some given) None has))) (
            owner_ready journal state op args.owner passage (status_of given.answer) sound live fit nobody (λ _. first.0),
            opens_ready number state op args.owner passage newcomer (status_of given.answer) o.node o.share kind refl fit
                (free.0, first.1, apart, both.1, may_lend seen passage args o.node (kind_for journal.policy.delegations o.share), free.1),
          )
      | inr full ↦
          let none : Some ruling ≡ None = rules ∙ cond-false places (Some given) None full in
          absurd cc
    ]

-- an OPEN that makes nothing
refusal_ready : (number : ℕ) (journal : History) (state : State) (op : Op) (args : Open) (passage : Passage) (u ruling : Ruling)
    → IsSound state → is_live_in state.clients.confirmed args.owner.client ≡ true → IsFit state op (open_owner args.owner) passage
    → newcomer_of journal state args.owner.client op ≡ Nobody
    → is_ok_status (status_of u.answer) ≡ false → ((s : State) → IsChangeReady u.change s) → Some ruling ≡ Some u
    → IsReady number state (decision_of passage (open_owner args.owner) (newcomer_of journal state args.owner.client op) ruling)
refusal_ready number journal state op args passage u ruling sound live fit nobody fails quiet is =
    let newcomer = newcomer_of journal state args.owner.client op in
    let status = status_of u.answer in
    subst (λ r. IsReady number state (decision_of passage (open_owner args.owner) newcomer r)) (sym (some_equal ruling u is)) (
      owner_ready journal state op args.owner passage status sound live fit nobody (λ ok. absurd (never (is_ok_status status) fails ok)),
      quiet (with_owner_change (owner_change_of passage (open_owner args.owner) newcomer status) number state),
    )

-- the rule of OPEN, by what it opens or why it opens nothing
ruling_ready : (number : ℕ) (journal : History) (state : State) (op : Op) (args : Open) (passage : Passage) (directory moment : ℕ) (ruling : Ruling) (result : Result Opening Refusal)
    → IsSound state → is_live_in state.clients.confirmed args.owner.client ≡ true → IsFit state op (open_owner args.owner) passage
    → newcomer_of journal state args.owner.client op ≡ Nobody
    → opening.opening journal (before_own passage args.owner state) directory args ≡ result
    → Some ruling ≡ opening.ruling_of journal (before_own passage args.owner state) passage args (opening.opening_or_ruling (before_own passage args.owner state) moment args.owner.client result)
    → IsReady number state (decision_of passage (open_owner args.owner) (newcomer_of journal state args.owner.client op) ruling)
ruling_ready number journal state op args passage directory moment ruling (Err refusal) sound live fit nobody is rules =
    refusal_ready number journal state op args passage (opening.refused refusal) ruling sound live fit nobody refl (λ s. tt) rules
ruling_ready number journal state op args passage directory moment ruling (Ok o) sound live fit nobody is rules =
    let seen = before_own passage args.owner state in
    let client = args.owner.client in
    let meets = has_conflict (uses.Open client o.share) (delegations_of o.node seen.delegations) in
    let delay = opening.delayed moment client o in
    elim (cases_Bool meets) [
      | inl there ↦
          refusal_ready number journal state op args passage delay ruling sound live fit nobody refl (λ s. tt)
          (rules ∙ ap (opening.ruling_of journal seen passage args) (cond-true meets (Err delay) (Ok o) there))
      | inr apart ↦
          grant_ready number journal state op args passage o ruling sound live fit nobody (opening_allowed journal seen directory args o is) apart
          (rules ∙ ap (opening.ruling_of journal seen passage args) (cond-false meets (Err delay) (Ok o) apart))
    ]

-- the owner of an OPEN is the one in its arguments, whose client is live
requests_open : (state : State) (owner : OpenOwner) (seqid : ℕ) (name : StateOwner) → IsOf name (requester_of_open state owner seqid) → (name ≡ open_owner owner) × (is_live_in state.clients.confirmed owner.client ≡ true)
requests_open state owner seqid name is =
    let live = is_live_in state.clients.confirmed owner.client in
    let own = Owner (open_owner owner) seqid in
    elim (cases_Bool live) [
      | inl there ↦
          let same : own ≡ Owner name is.0 = sym (cond-true live own (Refused refusals.StaleClientId) there) ∙ is.1 in
          (search same, there)
      | inr gone ↦
          let same : Refused refusals.StaleClientId ≡ Owner name is.0 = sym (cond-false live own (Refused refusals.StaleClientId) gone) ∙ is.1 in
          absurd cc
    ]

open_ready : (number : ℕ) (journal : History) (state : State) (op : Op) (args : Open) (request : Request) → IsSound state → op ≡ ops.Open args → IsOwnReady number journal state (requester_of_open state args.owner args.seqid) op (opening.own journal state args request)
open_ready number journal state op args request sound is node passage name ruling of fit h =
    let asked = requests_open state args.owner args.seqid name of in
    let fits : IsFit state op (open_owner args.owner) passage = subst (λ n. IsFit state op n passage) asked.0 fit in
    let nobody : newcomer_of journal state args.owner.client op ≡ Nobody = ap (newcomer_of journal state args.owner.client) is in
    subst (λ (n : StateOwner). IsReady number state (decision_of passage n (newcomer_of journal state n.client op) ruling)) (sym asked.0)
    (ruling_ready number journal state op args passage node request.moment ruling (opening.opening journal (before_own passage args.owner state) node args) sound asked.1 fits nobody refl h)

-- LOCKT and RELEASE_LOCKOWNER

tests_ready : (number : ℕ) (state : State) (args : Lockt) (node : ℕ) (range : Option Range) (d : Decision) → lockt.IsOfRange state args node range (Some d) → IsReady number state d
tests_ready number state args node None d is = as_decided number state d _ is (tt, tt)
tests_ready number state args node (Some range) d is = as_decided number state d (lockt.only (lockt.answer_of is.0)) is.2 (tt, tt)

test_ready : (number : ℕ) (state : State) (args : Lockt) (result : Result ℕ Refusal) (d : Decision) → lockt.IsTest state args result (Some d) → IsReady number state d
test_ready number state args (Err refusal) d is = as_decided number state d _ is (tt, tt)
test_ready number state args (Ok node) d is = tests_ready number state args node is.0 d is.2

release_ready : (number : ℕ) (state : State) (args : ReleaseLockowner) → IsReady number state (release.decision_of state args)
release_ready number state args =
    let forgets : Decision = record { answer = results.ReleaseLockowner (Done tt); effect = change_alone (changes.Releases args.owner) } in
    cond_both (not (is_some (record_of args.owner.client state.clients))) (release.refusal_of refusals.StaleClientId)
    (if holds args.owner state.locks then release.refusal_of refusals.LocksHeld else forgets) (IsReady number state) (λ _. (tt, tt))
    (λ _. cond_both (holds args.owner state.locks) (release.refusal_of refusals.LocksHeld) forgets (IsReady number state) (λ _. (tt, tt)) (λ _. (tt, tt)))

-- DELEGRETURN

returns_ready : (number : ℕ) (state : State) (found : Result DelegationAt Refusal) (d : Decision) → Some d ≡ Some (delegreturn.returning found) → IsReady number state d
returns_ready number state (Err refusal) d is = as_decided number state d _ is (tt, tt)
returns_ready number state (Ok at) d is = as_decided number state d _ is (tt, tt)

-- what a rule decides is ready to keep the state sound
pub ruled_ready : (number : ℕ) (journal : History) (state : State) (op : Op) (request : Request) (d : Decision) → request.op ≡ op → IsSound state → HasSingles state.clients → IsRuled op journal state request (Some d) → IsReady number state d
ruled_ready number journal state (ops.Getattr mask) request d same sound singles is =
    as_decided number state d _ is (tt, tt)
ruled_ready number journal state (ops.Delegreturn args) request d same sound singles is =
    returns_ready number state (delegreturn.delegation_at journal state request.filehandle args) d is
ruled_ready number journal state (ops.Setclientid args) request d same sound singles is =
    let holder = record_state (confirmed_of state.clients args.id) in
    let has_state = record_has_state state holder in
    registers number state d (registrations.registration journal.epoch has_state state.clients request.principal args)
    (registered (registrations.finding holder has_state request.principal args) journal.epoch state.clients request.principal args singles
    (finding_found state.clients args (confirmed_of state.clients args.id) has_state request.principal refl)) is
ruled_ready number journal state (ops.SetclientidConfirm args) request d same sound singles is =
    let path = confirm.path_of journal.policy.callbacks in
    let named = unconfirmed_named_by args state.clients in
    let has_state = record_has_state state (record_state (confirmations.holder_of named state.clients)) in
    as_decided number state d _ is (
      tt,
      confirms state.clients (confirmations.finding named state.clients has_state request.principal args) path sound.single
          (finding_fits state.clients named has_state request.principal args refl),
    )
ruled_ready number journal state (ops.Open args) request d same sound singles is =
    sequenced_ready number journal state (requester_of_open state args.owner args.seqid) request (opening.own journal state args)
    (open_ready number journal state request.op args request sound same) d is
ruled_ready number journal state (ops.OpenConfirm args) request d same sound singles is =
    sequenced_ready number journal state (requester_of_stateid journal state args.stateid args.seqid) request (open_confirm.own journal state args)
    (quiet_ready number journal state (requester_of_stateid journal state args.stateid args.seqid) request.op (open_confirm.own journal state args request) sound (ap is_open same) (λ client. ap (newcomer_of journal state client) same)
    (λ node passage ruling h. as_ruled ruling _ h (confirmation_quiet state (verdict (any_open node) journal.epoch state args.stateid >>= as_open)))) d is
ruled_ready number journal state (ops.OpenDowngrade args) request d same sound singles is =
    sequenced_ready number journal state (requester_of_stateid journal state args.stateid args.seqid) request (open_downgrade.own journal state args)
    (any_owners_ready number journal state (requester_of_stateid journal state args.stateid args.seqid) request.op (open_downgrade.own journal state args request) sound (ap is_open same) (λ client. ap (newcomer_of journal state client) same)
    (λ node ruling h.
    let target = target_of journal.epoch state args.stateid in
    found_ready state (verdict (confirmed_open node) journal.epoch state args.stateid >>= as_open) args ruling
    (λ at found. named_open journal.epoch state args.stateid at (open_found (confirmed_open node) state args.stateid target at found).0) h)) d is
ruled_ready number journal state (ops.Close args) request d same sound singles is =
    sequenced_ready number journal state (requester_of_stateid journal state args.stateid args.seqid) request (close.own journal state args)
    (quiet_ready number journal state (requester_of_stateid journal state args.stateid args.seqid) request.op (close.own journal state args request) sound (ap is_open same) (λ client. ap (newcomer_of journal state client) same)
    (λ node passage ruling h. as_ruled ruling _ h (closing_quiet (verdict (confirmed_open node) journal.epoch state args.stateid >>= as_open >>= close.unless_held journal.policy.close_locks state)))) d is
ruled_ready number journal state (ops.Lock args) request d same sound singles is =
    let sequenced = lock_sequenced args args.locker journal state request (Some d) is in
    sequenced_ready number journal state (requester_of_stateid journal state (stateid_of args.locker) sequenced.0) request (lock.own journal state args)
    (lock_ready number journal state request.op args request sequenced.0 sound same) d sequenced.1
ruled_ready number journal state (ops.Lockt args) request d same sound singles is =
    test_ready number state args (lockt.lockt_file journal state request.filehandle args) d is
ruled_ready number journal state (ops.Locku args) request d same sound singles is =
    sequenced_ready number journal state (requester_of_stateid journal state args.stateid args.seqid) request (locku.own journal state args)
    (locku_ready number journal state request.op args request sound same) d is
ruled_ready number journal state (ops.ReleaseLockowner args) request d same sound singles is =
    as_decided number state d _ is (release_ready number state args)
ruled_ready number journal state (ops.Read args) request d same sound singles is =
    as_decided number state d _ is (each_read (IsReady number state) journal state request args (λ refusal. (tt, tt)) (λ node. (tt, tt)) (λ node. (tt, tt)))
ruled_ready number journal state (ops.Write args) request d same sound singles is =
    as_decided number state d _ is (each_write (IsReady number state) journal state request args (λ refusal. (tt, tt)) (λ node. (tt, tt)) (tt, tt) (λ node short. (tt, short)))
ruled_ready number journal state (ops.Readdir args) request d same sound singles is = as_decided number state d _ is (tt, tt)
ruled_ready number journal state (ops.Setattr args) request d same sound singles is =
    as_decided number state d _ is (each_setattr (IsReady number state) journal state request args (λ refusal. (tt, tt)) (λ node. (tt, tt)) (λ asked. (tt, tt)) (λ asked node size short. (tt, short)))
ruled_ready number journal state op request d same sound singles is = absurd cc
