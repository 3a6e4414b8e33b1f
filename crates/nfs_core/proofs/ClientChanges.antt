-- What the rule of an operation may change in the clients' records: SETCLIENTID and SETCLIENTID_CONFIRM alone change them; and
-- what OPEN may change.
use Rattle.std.proofs.Common.{◌≡◌, inl, inr, ℕ, Bool, true, false, Option, Some, None, List, Result, Ok, Err, refl, sym, ap, ◌∙◌, subst}
use Rattle.std.specs.Prelude.{⊤, ◌&&◌, ◌==◌, is_some, not, IfSome, IsTrue, option_and_then, option_map, if◌then◌else◌}
use Rattle.std.specs.List.{AllByRecursion}
use Rattle.std.proofs.lemmas.Bool.{and_parts, cond-false, cond_both, eq-eqb, eqb-true, false_from_ne_true}
use Rattle.nfs_core.proofs.Openings.{IsOpening, opening_opens}
use Rattle.nfs_core.proofs.Transferring.{each_read, each_setattr, each_write}
use Rattle.nfs_core.proofs.SafeLists.{all_always, all_find, found_some}
use Rattle.nfs_core.proofs.Sound.{equal_clients, same_client_self}
use Rattle.nfs_core.proofs.SoundClients.{EachRecord, HasSameId, HasSingles}
use Rattle.nfs_core.proofs.SoundLocking.{lock_sequenced, placed, stateid_of, unless}
use Rattle.nfs_core.proofs.SoundSequences.{never, some_equal}
use Rattle.nfs_forms.specs.ClientId.{is_same_client}
use Rattle.nfs_forms.specs.Principal.{is_same_principal}
use Rattle.nfs_forms.specs.declared.client_id.ClientId.{ClientId}
use Rattle.nfs_forms.specs.declared.principal.Principal.{Principal}
use Rattle.nfs_forms.specs.declared.status.Refusal.{Refusal}
use Rattle.nfs_forms.specs.declared.status.Refusal.TheVariants as refusals
use Rattle.nfs_locks.specs.AllLocks.{LockAt, holds, is_full_for, locks_of}
use Rattle.nfs_locks.specs.Locks.{ByteLocks}
use Rattle.nfs_locks.specs.Report.{Report}
use Rattle.nfs_operations.specs.declared.lock.Lock.{Lock}
use Rattle.nfs_operations.specs.declared.lockt.Lockt.{Lockt}
use Rattle.nfs_operations.specs.declared.locku.Locku.{Locku}
use Rattle.nfs_operations.specs.declared.«open».Open.{Open}
use Rattle.nfs_operations.specs.declared.open_downgrade.OpenDowngrade.{OpenDowngrade}
use Rattle.nfs_operations.specs.declared.release_lockowner.ReleaseLockowner.{ReleaseLockowner}
use Rattle.nfs_operations.specs.declared.setclientid.Setclientid.{Setclientid}
use Rattle.nfs_operations.specs.declared.setclientid_confirm.SetclientidConfirm.{SetclientidConfirm}
use Rattle.nfs_owners.specs.Addresses.{is_within_limit}
use Rattle.nfs_owners.specs.Choice.{choice}
use Rattle.nfs_owners.specs.Confirmation as confirmations
use Rattle.nfs_owners.specs.Confirmation.{Confirmation, InPlaceOf, InUse, Retransmission, Update, confirmation_before, confirmation_beside, confirmation_by}
use Rattle.nfs_owners.specs.LiveClients.{other_number, replaced_by, unconfirmed_of_client}
use Rattle.nfs_owners.specs.Registration as registrations
use Rattle.nfs_owners.specs.Registration.{arrival, registration_by}
use Rattle.nfs_owners.specs.Registry.{Registry, confirmed_named_by, confirmed_of, is_named_by, is_of, is_of_client, record_of, record_state, unconfirmed_named_by}
use Rattle.nfs_owners.specs.StateOwner.{lock_owner, open_owner}
use Rattle.nfs_owners.specs.declared.client_record.ClientRecord.{ClientRecord}
use Rattle.nfs_owners.specs.declared.client_record.ClientState.{ClientState}
use Rattle.nfs_owners.specs.declared.client_record.PathMark.{PathMark}
use Rattle.nfs_owners.specs.declared.clients.client_change.ClientChange.{ClientChange}
use Rattle.nfs_owners.specs.declared.clients.client_change.ClientChange.TheVariants as client_changes
use Rattle.nfs_ranges.specs.declared.range.Range.{Range}
use Rattle.nfs_rules.specs.Refusing.{◌>>=◌}
use Rattle.nfs_rules.specs.Sequences.{Answered, GoesOn, IsDecided, IsSequence, IsSequenced, IsUnder, Own, Requester, SequenceStep, before_own, decision_of, is_open, requester_of_open, requester_of_stateid}
use Rattle.nfs_rules.specs.Newcomers.{newcomer_of}
use Rattle.nfs_rules.specs.Stateids.{any_open, as_lock, as_open, confirmed_open, lock_state, verdict}
use Rattle.nfs_rules.specs.declared.decision.Decision.{Decision}
use Rattle.nfs_rules.specs.declared.passage.Passage.{Passage}
use Rattle.nfs_rules.specs.declared.ruling.Ruling.{Ruling}
use Rattle.nfs_rules.specs.operations.{IsRuled}
use Rattle.nfs_rules.specs.operations.Close as close
use Rattle.nfs_rules.specs.operations.Delegreturn as delegreturn
use Rattle.nfs_rules.specs.Locking.{lock_of_bytes, unlock_of_bytes}
use Rattle.nfs_rules.specs.operations.Lock as lock
use Rattle.nfs_rules.specs.operations.Lock.{Locking}
use Rattle.nfs_rules.specs.operations.Lockt as lockt
use Rattle.nfs_rules.specs.operations.Locku as locku
use Rattle.nfs_rules.specs.operations.Open as opening
use Rattle.nfs_rules.specs.operations.OpenConfirm as open_confirm
use Rattle.nfs_rules.specs.operations.OpenDowngrade as open_downgrade
use Rattle.nfs_rules.specs.operations.ReleaseLockowner as release
use Rattle.nfs_rules.specs.operations.Setclientid as setclientid
use Rattle.nfs_rules.specs.operations.SetclientidConfirm as confirm
use Rattle.nfs_share.specs.AllOpens.{DelegationAt, OpenAt, opens_of}
use Rattle.nfs_share.specs.Opens.{open_with_number}
use Rattle.nfs_share.specs.Share.{share_of_numbers}
use Rattle.nfs_share.specs.declared.share.Share.{Share}
use Rattle.nfs_state.specs.Owners.{is_confirmed}
use Rattle.nfs_state.specs.Places.{has_owner_place, has_state_place}
use Rattle.nfs_state.specs.State.{State, History, record_has_state}
use Rattle.nfs_state.specs.declared.change.Change.{Change}
use Rattle.nfs_state.specs.declared.change.Change.TheVariants as changes
use Rattle.nfs_state.specs.declared.request.Request.{Request}
use Rattle.nfs_tree.specs.declared.node.Node.{Node}
use Rattle.nfs_xdr.specs.declared.op.Op.{Op}
use Rattle.nfs_xdr.specs.declared.op.Op.TheVariants as ops

-- the change opens nothing, and leaves the clients' records as they are
abbrev pub IsOrdinary : Change → Type 0
IsOrdinary (changes.Clients change) = ⊥
IsOrdinary (changes.Opens node owner share lent) = ⊥
IsOrdinary (changes.Expires client) = ⊥
IsOrdinary (changes.MarksPath client path) = ⊥
IsOrdinary change = ⊤

-- SETCLIENTID confirms nobody, and a new client is one of this epoch.
abbrev pub IsArrival : ℕ → ClientChange → Type 0
IsArrival epoch client_changes.Nothing = ⊤
IsArrival epoch (client_changes.Arrives r) = r.state.client.epoch ≡ epoch
IsArrival epoch (client_changes.Updates r) = ⊤
IsArrival epoch (client_changes.Confirms r) = ⊥
IsArrival epoch (client_changes.Refreshes r) = ⊥
IsArrival epoch (client_changes.Replaces r client) = ⊥

-- SETCLIENTID_CONFIRM confirms the client that it names, and may replace one client.
abbrev pub IsConfirmation : Registry → SetclientidConfirm → ClientChange → Type 0
IsConfirmation registry args client_changes.Nothing = ⊤
IsConfirmation registry args (client_changes.Arrives r) = ⊥
IsConfirmation registry args (client_changes.Updates r) = ⊥
IsConfirmation registry args (client_changes.Confirms r) = r.state.client.number ≡ args.client.number
IsConfirmation registry args (client_changes.Refreshes r) = ⊤
IsConfirmation registry args (client_changes.Replaces r client) =
    (r.state.client.number ≡ args.client.number) × (replaced_by args.client.number registry ≡ Some client.number)

abbrev pub IsClientsFor : ℕ → Registry → Op → ClientChange → Type 0
IsClientsFor epoch registry (ops.Setclientid args) change = IsArrival epoch change
IsClientsFor epoch registry (ops.SetclientidConfirm args) change = IsConfirmation registry args change
IsClientsFor epoch registry op change = ⊥

-- what an operation may change, as far as the clients' records go; OPEN alone opens anything
abbrev pub IsFor : ℕ → Registry → Op → Change → Type 0
IsFor epoch registry op (changes.Clients change) = IsClientsFor epoch registry op change
IsFor epoch registry op (changes.Opens node owner share lent) = IsTrue (is_open op)
IsFor epoch registry op (changes.Expires client) = ⊥
IsFor epoch registry op (changes.MarksPath client path) = ⊥
IsFor epoch registry op change = ⊤

keeps_for : (epoch : ℕ) (registry : Registry) (op : Op) (change : Change) → IsOrdinary change → IsFor epoch registry op change
keeps_for epoch registry op (changes.Clients change) keeps = absurd keeps
keeps_for epoch registry op (changes.Opens node owner share lent) keeps = absurd keeps
keeps_for epoch registry op (changes.Expires client) keeps = absurd keeps
keeps_for epoch registry op (changes.MarksPath client path) keeps = absurd keeps
keeps_for epoch registry op change keeps = tt

opening_for : (epoch : ℕ) (registry : Registry) (args : Open) (nodes : List Node) (change : Change) → IsOpening nodes change → IsFor epoch registry (ops.Open args) change
opening_for epoch registry args nodes changes.Nothing is = tt
opening_for epoch registry args nodes (changes.Recalls node file_use moment) is = tt
opening_for epoch registry args nodes (changes.Opens node owner share lent) is = refl
opening_for epoch registry args nodes change is = absurd is

decided_for : (epoch : ℕ) (registry : Registry) (op : Op) (d e : Decision) → Some d ≡ Some e → IsFor epoch registry op e.effect.change → IsFor epoch registry op d.effect.change
decided_for epoch registry op d e same h = subst (λ (x : Decision). IsFor epoch registry op x.effect.change) (sym (some_equal d e same)) h

-- a decision that leaves the clients' records as they are
decided_keeps : (d e : Decision) → Some d ≡ Some e → IsOrdinary e.effect.change → IsOrdinary d.effect.change
decided_keeps d e same h = subst (λ (x : Decision). IsOrdinary x.effect.change) (sym (some_equal d e same)) h

ruled_keeps : (r u : Ruling) → Some r ≡ Some u → IsOrdinary u.change → IsOrdinary r.change
ruled_keeps r u same h = subst (λ (x : Ruling). IsOrdinary x.change) (sym (some_equal r u same)) h

equal_keeps : (r u : Ruling) → r ≡ u → IsOrdinary u.change → IsOrdinary r.change
equal_keeps r u same h = subst (λ (x : Ruling). IsOrdinary x.change) (sym same) h

-- Sequenced operations.

-- what holds where nothing changes, and of what the own rule of the operation changes
each_sequenced : (P : Change → Type 0) → P changes.Nothing → (journal : History) (state : State) (requester : Requester) (request : Request) (own : Own)
    → ((node : ℕ) (passage : Passage) (ruling : Ruling) → own request node passage (Some ruling) → P ruling.change)
    → (d : Decision) → IsSequenced journal state requester own request (Some d) → P d.effect.change
each_sequenced P nothing journal state requester request own each d h = by request.filehandle h
  where
    same : (e : Decision) → Some d ≡ Some e → P e.effect.change → P d.effect.change
    same e is there = subst (λ (x : Decision). P x.effect.change) (sym (some_equal d e is)) there

    gives : (node : ℕ) (sequence : SequenceStep) → IsDecided sequence (λ client. newcomer_of journal state client request.op) (own request node) (Some d) → P d.effect.change
    gives node (Answered answer) is = same _ is nothing
    gives node (GoesOn passage owner) is = ruled is.0 is.1 is.2
      where
        ruled : (ruling : Option Ruling) → own request node passage ruling → Some d ≡ option_map (decision_of passage owner (newcomer_of journal state owner.client request.op)) ruling → P d.effect.change
        ruled None rules is = absurd cc
        ruled (Some ruling) rules is = same (decision_of passage owner (newcomer_of journal state owner.client request.op) ruling) is (each node passage ruling rules)

    by : (filehandle : Option ℕ) → IsUnder filehandle request.op (λ node. (sequence : SequenceStep) × IsSequence journal state requester request sequence × IsDecided sequence (λ client. newcomer_of journal state client request.op) (own request node) (Some d)) (Some d) → P d.effect.change
    by None is = same _ is nothing
    by (Some node) is = gives node is.0 is.2

-- no own rule of the operation opens anything, or changes the clients' records
sequenced_keeps : (journal : History) (state : State) (requester : Requester) (request : Request) (own : Own)
    → ((node : ℕ) (passage : Passage) (ruling : Ruling) → own request node passage (Some ruling) → IsOrdinary ruling.change)
    → (d : Decision) → IsSequenced journal state requester own request (Some d) → IsOrdinary d.effect.change
sequenced_keeps journal state requester request own keeps d h = each_sequenced IsOrdinary tt journal state requester request own keeps d h

closing_keeps : (found : Result OpenAt Refusal) → IsOrdinary (close.closing found).change
closing_keeps (Err refusal) = tt
closing_keeps (Ok at) = tt

confirmation_keeps : (state : State) (found : Result OpenAt Refusal) → IsOrdinary (open_confirm.confirmation state found).change
confirmation_keeps state (Err refusal) = tt
confirmation_keeps state (Ok at) =
    cond_both (is_confirmed (open_owner at.state.owner) state.owners) (open_confirm.refusal_of refusals.BadStateId) _ (λ (r : Ruling). IsOrdinary r.change) (λ _. tt) (λ _. tt)

downgrade_keeps : (at : OpenAt) (share : Option Share) (ruling : Ruling) → open_downgrade.IsDowngrade at share ruling → IsOrdinary ruling.change
downgrade_keeps at None ruling is = equal_keeps ruling _ is tt
downgrade_keeps at (Some share) ruling (inl is) = equal_keeps ruling _ is.1 tt
downgrade_keeps at (Some share) ruling (inr is) = equal_keeps ruling _ is.1 tt

found_keeps : (found : Result OpenAt Refusal) (args : OpenDowngrade) (ruling : Ruling) → open_downgrade.IsFound found args ruling → IsOrdinary ruling.change
found_keeps (Err refusal) args ruling is = equal_keeps ruling _ is tt
found_keeps (Ok at) args ruling is = downgrade_keeps at (share_of_numbers args.access args.deny) ruling is

-- what an OPEN may change
pub open_opens : (journal : History) (state : State) (args : Open) (request : Request) (d : Decision) → IsRuled (ops.Open args) journal state request (Some d) → IsOpening journal.nodes d.effect.change
open_opens journal state args request d is =
    each_sequenced (IsOpening journal.nodes) tt journal state (requester_of_open state args.owner args.seqid) request (opening.own journal state args)
    (λ node passage ruling h.
    let seen = before_own passage args.owner state in
    opening_opens journal seen passage node request.moment args (opening.opening journal seen node args) ruling refl h) d is

-- LOCK and LOCKU

granting_keeps : (state : State) (locking : Locking) (range : Range) (found : Option ByteLocks) (ruling : Ruling) → Some ruling ≡ lock.grant state locking range found → IsOrdinary ruling.change
granting_keeps state locking range None ruling is =
    equal_keeps ruling _ (placed (has_owner_place (lock_owner locking.owner) state && has_state_place state) _ ruling is).1 tt
granting_keeps state locking range (Some l) ruling is =
    equal_keeps ruling _ (unless (is_full_for l.number (lock_of_bytes locking.mode range) (locks_of locking.node state.locks)) _ ruling is).1 tt

reporting_keeps : (state : State) (locking : Locking) (range : Range) (report : Option Report) (ruling : Ruling) → Some ruling ≡ lock.unless_denied state locking range report → IsOrdinary ruling.change
reporting_keeps state locking range None ruling is = granting_keeps state locking range locking.state ruling is
reporting_keeps state locking range (Some report) ruling is = ruled_keeps ruling _ is tt

allowing_keeps : (b : Bool) (state : State) (locking : Locking) (range : Range) (ruling : Ruling) → lock.IsAllowed b state locking range (Some ruling) → IsOrdinary ruling.change
allowing_keeps false state locking range ruling is = ruled_keeps ruling _ is tt
allowing_keeps true state locking range ruling is = reporting_keeps state locking range is.0 ruling is.2

ranging_keeps : (state : State) (locking : Locking) (range : Option Range) (ruling : Ruling) → lock.IsOfRange state locking range (Some ruling) → IsOrdinary ruling.change
ranging_keeps state locking None ruling is = ruled_keeps ruling _ is tt
ranging_keeps state locking (Some range) ruling is =
    allowing_keeps (lock.allows locking.mode (open_with_number locking.open_number (opens_of locking.node state.opens))) state locking range ruling is

locking_keeps : (state : State) (args : Lock) (found : Result Locking Refusal) (ruling : Ruling) → lock.IsLock state args found (Some ruling) → IsOrdinary ruling.change
locking_keeps state args (Err refusal) ruling is = ruled_keeps ruling _ is tt
locking_keeps state args (Ok locking) ruling is = ranging_keeps state locking is.0 ruling is.2

unlocking_keeps : (state : State) (at : LockAt) (range : Option Range) (ruling : Ruling) → Some ruling ≡ locku.unlocking state at range → IsOrdinary ruling.change
unlocking_keeps state at None ruling is = ruled_keeps ruling _ is tt
unlocking_keeps state at (Some range) ruling is =
    equal_keeps ruling _ (unless (is_full_for at.state.number (unlock_of_bytes range) (locks_of at.node state.locks)) _ ruling is).1 tt

unlock_keeps : (state : State) (args : Locku) (found : Result LockAt Refusal) (ruling : Ruling) → locku.IsUnlock state args found (Some ruling) → IsOrdinary ruling.change
unlock_keeps state args (Err refusal) ruling is = ruled_keeps ruling _ is tt
unlock_keeps state args (Ok at) ruling is = unlocking_keeps state at is.0 ruling is.2

-- LOCKT, RELEASE_LOCKOWNER and DELEGRETURN

testing_keeps : (state : State) (args : Lockt) (node : ℕ) (range : Option Range) (d : Decision) → lockt.IsOfRange state args node range (Some d) → IsOrdinary d.effect.change
testing_keeps state args node None d is = decided_keeps d _ is tt
testing_keeps state args node (Some range) d is = decided_keeps d _ is.2 tt

test_keeps : (state : State) (args : Lockt) (found : Result ℕ Refusal) (d : Decision) → lockt.IsTest state args found (Some d) → IsOrdinary d.effect.change
test_keeps state args (Err refusal) d is = decided_keeps d _ is tt
test_keeps state args (Ok node) d is = testing_keeps state args node is.0 d is.2

release_keeps : (state : State) (args : ReleaseLockowner) → IsOrdinary (release.decision_of state args).effect.change
release_keeps state args =
    let P : Decision → Type 0 = λ d. IsOrdinary d.effect.change in
    cond_both (not (is_some (record_of args.owner.client state.clients))) (release.refusal_of refusals.StaleClientId) _ P (λ _. tt)
    (λ _. cond_both (holds args.owner state.locks) (release.refusal_of refusals.LocksHeld) _ P (λ _. tt) (λ _. tt))

returning_keeps : (found : Result DelegationAt Refusal) → IsOrdinary (delegreturn.returning found).effect.change
returning_keeps (Err refusal) = tt
returning_keeps (Ok at) = tt

-- SETCLIENTID

arrives : (found : registrations.Finding) (epoch : ℕ) (registry : Registry) (principal : Principal) (args : Setclientid) → IfSome (registration_by found epoch registry principal args) (λ x. IsArrival epoch x.1)
arrives (registrations.InUse address) epoch registry principal args = tt
arrives (registrations.Update client) epoch registry principal args =
    cond_both (is_within_limit args.callback.address) _ None (λ o. IfSome o (λ x. IsArrival epoch x.1)) (λ _. tt) (λ _. tt)
arrives registrations.Arrival epoch registry principal args =
    cond_both (is_within_limit args.callback.address) _ None (λ o. IfSome o (λ x. IsArrival epoch x.1)) (λ _. by (choice args.id registry)) (λ _. tt)
  where
    by : (chosen : Option ℕ) → IfSome (option_map (arrival epoch registry principal args) chosen) (λ x. IsArrival epoch x.1)
    by None = tt
    by (Some number) = refl

registers_for : (epoch : ℕ) (registry : Registry) (args : Setclientid) (d : Decision) (o : Option (registrations.Outcome × ClientChange)) → IfSome o (λ x. IsArrival epoch x.1) → Some d ≡ option_map setclientid.decision_of o
    → IsFor epoch registry (ops.Setclientid args) d.effect.change
registers_for epoch registry args d None arrival is = absurd cc
registers_for epoch registry args d (Some x) arrival is = decided_for epoch registry (ops.Setclientid args) d (setclientid.decision_of x) is arrival

-- SETCLIENTID_CONFIRM

number_of_client : (a b : ClientId) → is_same_client a b ≡ true → a.number ≡ b.number
number_of_client a b same = ap (λ (c : ClientId). c.number) (equal_clients a b same)

-- the confirmed record of another client is the one that is replaced
replaces : (registry : Registry) (args : SetclientidConfirm) (r old : ClientRecord) → HasSingles registry → unconfirmed_named_by args registry ≡ Some r → confirmed_of registry r.id ≡ Some old → is_same_client old.state.client r.state.client ≡ false
    → replaced_by args.client.number registry ≡ Some old.state.client.number
replaces registry args r old singles named held other =
    let n = args.client.number in
    let own = all_find (λ s. EachRecord (HasSameId s) registry) (is_named_by args) registry.unconfirmed r named singles.same.1 in
    let number : r.state.client.number ≡ n = number_of_client r.state.client args.client (and_parts (is_same_client r.state.client args.client) (r.state.confirm == args.confirm) own.1).0 in
    let there : is_some (unconfirmed_of_client n registry) ≡ true =
    found_some (is_named_by args) (is_of_client n) registry.unconfirmed r named (eq-eqb r.state.client.number n number) in
    let row = all_find (HasSameId r) (is_of r.id) registry.confirmed old held own.0.0 in
    let apart : (old.state.client.number == n) ≡ false =
    false_from_ne_true (old.state.client.number == n)
    (λ same. never (is_same_client old.state.client r.state.client) other
    (subst (λ c. is_same_client c r.state.client ≡ true) (row.0 (number ∙ sym (eqb-true old.state.client.number n same))).0 (same_client_self r.state.client))) in
    by (unconfirmed_of_client n registry) refl there number own.0.1 apart
  where
    by : (found : Option ClientRecord) → unconfirmed_of_client args.client.number registry ≡ found → is_some found ≡ true → r.state.client.number ≡ args.client.number
        → AllByRecursion (HasSameId r) registry.unconfirmed → (old.state.client.number == args.client.number) ≡ false → replaced_by args.client.number registry ≡ Some old.state.client.number
    by None is some number row apart = absurd cc
    by (Some s) is some number row apart =
        let n = args.client.number in
        let held_by = all_find (HasSameId r) (is_of_client n) registry.unconfirmed s is row in
        let id : r.id ≡ s.id = (held_by.0 (number ∙ sym (eqb-true s.state.client.number n held_by.1))).1 in
        let after : ClientRecord → Option ℕ = λ x. option_and_then (other_number n) (confirmed_of registry x.id) in
        ap (option_and_then after) is
        ∙ ap (λ i. option_and_then (other_number n) (confirmed_of registry i)) (sym id)
        ∙ ap (option_and_then (other_number n)) held
        ∙ cond-false (old.state.client.number == n) None (Some old.state.client.number) apart

beside_for : (registry : Registry) (args : SetclientidConfirm) (r : ClientRecord) (found : Option ClientRecord) (has_state : Bool) (path : PathMark) → HasSingles registry → unconfirmed_named_by args registry ≡ Some r → r.state.client.number ≡ args.client.number → confirmed_of registry r.id ≡ found
    → IsConfirmation registry args (confirmation_by (confirmation_beside (record_state found) r has_state) path).1
beside_for registry args r None has_state path singles named number held = number
beside_for registry args r (Some old) has_state path singles named number held =
    let P : Confirmation → Type 0 = λ c. IsConfirmation registry args (confirmation_by c path).1 in
    cond_both (is_same_client old.state.client r.state.client) (Update old.state r)
    (if not (is_same_principal old.state.principal r.state.principal) && has_state then InUse else InPlaceOf old.state r) P
    (λ _. tt)
    (λ other. cond_both (not (is_same_principal old.state.principal r.state.principal) && has_state) InUse (InPlaceOf old.state r) P (λ _. tt)
    (λ _. (number, replaces registry args r old singles named held other)))

before_for : (registry : Registry) (args : SetclientidConfirm) (found : Option ClientState) (principal : Principal) (path : PathMark) → IsConfirmation registry args (confirmation_by (confirmation_before found principal) path).1
before_for registry args None principal path = tt
before_for registry args (Some s) principal path =
    let P : Confirmation → Type 0 = λ c. IsConfirmation registry args (confirmation_by c path).1 in
    cond_both (is_same_principal s.principal principal) Retransmission InUse P (λ _. tt) (λ _. tt)

confirms_for : (registry : Registry) (args : SetclientidConfirm) (named : Option ClientRecord) (has_state : Bool) (principal : Principal) (path : PathMark) → HasSingles registry → unconfirmed_named_by args registry ≡ named
    → IsConfirmation registry args (confirmation_by (confirmations.finding named registry has_state principal args) path).1
confirms_for registry args None has_state principal path singles is = before_for registry args (record_state (confirmed_named_by args registry)) principal path
confirms_for registry args (Some r) has_state principal path singles is =
    let P : Confirmation → Type 0 = λ c. IsConfirmation registry args (confirmation_by c path).1 in
    let passes = (all_find (λ s. ⊤) (is_named_by args) registry.unconfirmed r is (all_always registry.unconfirmed)).1 in
    let named = and_parts (is_same_client r.state.client args.client) (r.state.confirm == args.confirm) passes in
    cond_both (is_same_principal r.state.principal principal) (confirmation_beside (record_state (confirmed_of registry r.id)) r has_state) InUse P
    (λ _. beside_for registry args r (confirmed_of registry r.id) has_state path singles is (number_of_client r.state.client args.client named.0) refl) (λ _. tt)

-- what the rule of a request may change in the clients' records
pub ruled_for : (journal : History) (state : State) (op : Op) (request : Request) (d : Decision) → HasSingles state.clients → IsRuled op journal state request (Some d) → IsFor journal.epoch state.clients op d.effect.change
ruled_for journal state (ops.Getattr mask) request d singles is =
    decided_for journal.epoch state.clients (ops.Getattr mask) d _ is tt
ruled_for journal state (ops.Setclientid args) request d singles is =
    let holder = record_state (confirmed_of state.clients args.id) in
    let has_state = record_has_state state holder in
    registers_for journal.epoch state.clients args d (registrations.registration journal.epoch has_state state.clients request.principal args)
    (arrives (registrations.finding holder has_state request.principal args) journal.epoch state.clients request.principal args) is
ruled_for journal state (ops.SetclientidConfirm args) request d singles is =
    let path = confirm.path_of journal.policy.callbacks in
    let named = unconfirmed_named_by args state.clients in
    let has_state = record_has_state state (record_state (confirmations.holder_of named state.clients)) in
    decided_for journal.epoch state.clients (ops.SetclientidConfirm args) d _ is
    (confirms_for state.clients args named has_state request.principal path singles refl)
ruled_for journal state (ops.Open args) request d singles is =
    opening_for journal.epoch state.clients args journal.nodes d.effect.change (open_opens journal state args request d is)
ruled_for journal state (ops.OpenConfirm args) request d singles is =
    keeps_for journal.epoch state.clients (ops.OpenConfirm args) d.effect.change
    (sequenced_keeps journal state (requester_of_stateid journal state args.stateid args.seqid) request (open_confirm.own journal state args)
    (λ node passage ruling h. ruled_keeps ruling _ h (confirmation_keeps state (verdict (any_open node) journal.epoch state args.stateid >>= as_open))) d is)
ruled_for journal state (ops.OpenDowngrade args) request d singles is =
    keeps_for journal.epoch state.clients (ops.OpenDowngrade args) d.effect.change
    (sequenced_keeps journal state (requester_of_stateid journal state args.stateid args.seqid) request (open_downgrade.own journal state args)
    (λ node passage ruling h. found_keeps (verdict (confirmed_open node) journal.epoch state args.stateid >>= as_open) args ruling h) d is)
ruled_for journal state (ops.Close args) request d singles is =
    keeps_for journal.epoch state.clients (ops.Close args) d.effect.change
    (sequenced_keeps journal state (requester_of_stateid journal state args.stateid args.seqid) request (close.own journal state args)
    (λ node passage ruling h. ruled_keeps ruling _ h (closing_keeps (verdict (confirmed_open node) journal.epoch state args.stateid >>= as_open >>= close.unless_held journal.policy.close_locks state))) d is)
ruled_for journal state (ops.Lock args) request d singles is =
    let sequenced = lock_sequenced args args.locker journal state request (Some d) is in
    keeps_for journal.epoch state.clients (ops.Lock args) d.effect.change
    (sequenced_keeps journal state (requester_of_stateid journal state (stateid_of args.locker) sequenced.0) request (lock.own journal state args)
    (λ node passage ruling h. locking_keeps state args (lock.locking_of journal state node args args.locker) ruling h) d sequenced.1)
ruled_for journal state (ops.Lockt args) request d singles is =
    keeps_for journal.epoch state.clients (ops.Lockt args) d.effect.change (test_keeps state args (lockt.lockt_file journal state request.filehandle args) d is)
ruled_for journal state (ops.Locku args) request d singles is =
    keeps_for journal.epoch state.clients (ops.Locku args) d.effect.change
    (sequenced_keeps journal state (requester_of_stateid journal state args.stateid args.seqid) request (locku.own journal state args)
    (λ node passage ruling h. unlock_keeps state args (verdict (lock_state node) journal.epoch state args.stateid >>= as_lock) ruling h) d is)
ruled_for journal state (ops.ReleaseLockowner args) request d singles is =
    keeps_for journal.epoch state.clients (ops.ReleaseLockowner args) d.effect.change (decided_keeps d _ is (release_keeps state args))
ruled_for journal state (ops.Delegreturn args) request d singles is =
    keeps_for journal.epoch state.clients (ops.Delegreturn args) d.effect.change
    (decided_keeps d _ is (returning_keeps (delegreturn.delegation_at journal state request.filehandle args)))
ruled_for journal state (ops.Read args) request d singles is =
    decided_for journal.epoch state.clients (ops.Read args) d _ is
    (each_read (λ e. IsFor journal.epoch state.clients (ops.Read args) e.effect.change) journal state request args (λ refusal. tt) (λ node. tt) (λ node. tt))
ruled_for journal state (ops.Write args) request d singles is =
    decided_for journal.epoch state.clients (ops.Write args) d _ is
    (each_write (λ e. IsFor journal.epoch state.clients (ops.Write args) e.effect.change) journal state request args (λ refusal. tt) (λ node. tt) tt (λ node short. tt))
ruled_for journal state (ops.Readdir args) request d singles is = decided_for journal.epoch state.clients (ops.Readdir args) d _ is tt
ruled_for journal state (ops.Setattr args) request d singles is =
    decided_for journal.epoch state.clients (ops.Setattr args) d _ is
    (each_setattr (λ e. IsFor journal.epoch state.clients (ops.Setattr args) e.effect.change) journal state request args (λ refusal. tt) (λ node. tt) (λ asked. tt) (λ asked node size short. tt))
ruled_for journal state op request d singles is = absurd cc
