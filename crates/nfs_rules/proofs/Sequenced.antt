-- What is decided for a sequenced operation, from whether it is answered without its own rule, and from that rule.
use Rattle.std.proofs.Common.{inl, inr, ◌≡◌, ℕ, ◌<◌, Bool, true, false, nat_lt, Option, Some, None, Result, Ok, Err, length, refl, sym, ap, ◌∙◌, subst, arith}
use Rattle.std.specs.List.{list_any}
use Rattle.std.specs.Result.{IsErr, IsErrAnd}
use Rattle.std.specs.Prelude.{⊤, ◌⊎◌, IsTrue, IsFalse, is_some, not, ◌&&◌, ◌||◌, if◌then◌else◌}
use Rattle.std.proofs.lemmas.Bool.{and_parts, ltb-true}
use Rattle.nfs_forms.specs.ClientId.{is_same_client}
use Rattle.nfs_forms.specs.declared.lock_owner.LockOwner.{LockOwner}
use Rattle.nfs_forms.specs.declared.locker.Locker.{Locker}
use Rattle.nfs_forms.specs.declared.locker.Locker.TheVariants as lockers
use Rattle.nfs_forms.specs.declared.locker.NewLocker.{NewLocker}
use Rattle.nfs_locks.specs.AllLocks.{locks_of}
use Rattle.nfs_locks.specs.Locks.{lock_of}
use Rattle.nfs_locks.specs.Report.{Report}
use Rattle.nfs_operations.specs.declared.lock.Lock.{Lock}
use Rattle.nfs_operations.specs.declared.«open».Open.{Open}
use Rattle.nfs_ranges.specs.declared.range.Range.{Range}
use Rattle.nfs_rules.specs.Newcomers.{Newcomer, Nobody, Known, Unknown, has_turn, is_next, newcomer_by, newcomer_if, newcomer_in, newcomer_of}
use Rattle.nfs_rules.specs.Refusing.{◌>>=◌, refused_if}
use Rattle.nfs_rules.specs.Stateids.{as_open, confirmed_open, verdict}
use Rattle.nfs_rules.specs.operations.Lock as lock
use Rattle.nfs_rules.specs.operations.Lock.{IsAllowed, IsLock, Locking, allows, grant, introduction, locking_of, unless_denied}
use Rattle.nfs_share.specs.AllOpens.{OpenAt, delegations_of, opens_of}
use Rattle.nfs_share.specs.Delegations.{conflicts}
use Rattle.nfs_share.specs.declared.delegation.FileUse.TheVariants as uses
use Rattle.nfs_share.specs.Opens.{open_with_number}
use Rattle.nfs_state.specs.Places.{has_owner_place, has_state_place}
use Rattle.nfs_state.specs.declared.owner_change.OwnerChange.{OwnerChange}
use Rattle.nfs_rules.proofs.Uniqueness.{IsSequencedUnder}
use Rattle.nfs_rules.specs.declared.decision.Decision.{Decision}
use Rattle.nfs_rules.specs.declared.opening.Opening.{Opening}
use Rattle.nfs_state.specs.declared.owner_change.OwnerChange.TheVariants.{Nothing, Keeps, Introduces, Records, Restarts, Drops}
use Rattle.nfs_rules.specs.declared.passage.Passage.{Passage}
use Rattle.nfs_rules.specs.declared.passage.Passage.TheVariants as passages
use Rattle.nfs_state.specs.declared.request.Request.{Request}
use Rattle.nfs_rules.specs.declared.ruling.Ruling.{Ruling}
use Rattle.nfs_state.specs.declared.shortage.Shortage.{Shortage}
use Rattle.nfs_state.specs.declared.shortage.Shortage.TheVariants.{Limit, Memory}
use Rattle.nfs_rules.specs.Deciding.{ByOwnRule, Decides, HasAnswer, HasPassage, IsPassage, IsRequesterOf, IsSendableSequence}
use Rattle.nfs_state.specs.Entries.{IsSendable}
use Rattle.nfs_rules.specs.operations.{own_of}
use Rattle.nfs_rules.specs.operations.Open.{delayed, has_open, has_open_place, opening, opening_or_ruling, ruling_of}
use Rattle.nfs_rules.specs.Lending.{has_lending_place, lent}
use Rattle.nfs_state.specs.Owners.{KnownOwner, owner_of}
use Rattle.nfs_state.specs.Room.{HasOwnerPlace, IsNewcomer, is_known}
use Rattle.nfs_rules.specs.Sequences.{Answered, GoesOn, IsJudged, IsOfKnown, IsOfOwner, IsSequence, Own, Owner, Refused, Requester, SequenceStep, counts, decision_of, is_ok_status, is_open, kept_with, only, owner_change_of}
use Rattle.nfs_state.specs.Kept.{kept_for}
use Rattle.nfs_state.specs.State.{State, History}
use Rattle.nfs_forms.specs.declared.client_id.ClientId.{ClientId}
use Rattle.nfs_owners.specs.StateOwner.{as_open_owner, lock_owner, open_owner}
use Rattle.nfs_owners.specs.declared.state_owner.StateOwner.{StateOwner}
use Rattle.nfs_forms.specs.declared.status.Refusal.{Refusal}
use Rattle.nfs_forms.specs.declared.status.Status.{Status}
use Rattle.nfs_forms.specs.declared.status.Refusal.TheVariants as refusals
use Rattle.nfs_owners.specs.Kept.{Kept}
use Rattle.nfs_owners.specs.declared.kept.Verdict.TheVariants as verdicts
use Rattle.nfs_owners.specs.declared.owner.TheConstants.{OWNER_LIMIT}
use Rattle.nfs_xdr.specs.declared.op.Op.{Op}
use Rattle.nfs_xdr.specs.declared.op.Op.TheVariants as ops
use Rattle.nfs_xdr.specs.declared.op_result.OpResult.{OpResult}
use Rattle.nfs_xdr.specs.Op.{opnum_of}
use Rattle.nfs_xdr.specs.OpResult.{refusal_of, status_of}
use Rattle.nfs_rules.proofs.Sequencing.{refusal_sendable}

-- without a current filehandle the operation is refused
pub without_filehandle : (own : Own) (journal : History) (state : State) (requester : Requester) (request : Request) (filehandle : Option ℕ) (answer : OpResult) (decision : Decision) → ((node : ℕ) → filehandle ≡ Some node → ⊥) → answer ≡ refusal_of (opnum_of request.op) refusals.NoFileHandle → decision ≡ only answer → Decides (IsSequencedUnder journal state requester own filehandle request) state request.op (Ok decision)
without_filehandle own journal state requester request (Some node) answer decision none is made = absurd (none node refl)
without_filehandle own journal state requester request None answer decision none is made =
    let P : Decision → Type 0 = λ d. Decides (IsSequencedUnder journal state requester own None request) state request.op (Ok d) in
    let with_answer : OpResult → Option Decision = λ a. Some (only a) in
    let sendable : IsSendable request.op answer = refusal_sendable request.op refusals.NoFileHandle answer (λ e. cc) is in
    subst P (sym made) (ap with_answer is, sendable, tt, tt)

-- a request that is answered without the operation's own rule
pub answered : (own : Own) (journal : History) (state : State) (requester : Requester) (request : Request) (filehandle : Option ℕ) (node : ℕ) (sequence : SequenceStep) (answer : OpResult) (decision : Decision) → filehandle ≡ Some node → sequence ≡ Answered answer → IsSequence journal state requester request sequence → IsSendableSequence request.op sequence → decision ≡ only answer → Decides (IsSequencedUnder journal state requester own filehandle request) state request.op (Ok decision)
answered own journal state requester request None node sequence answer decision has is sequenced sendable made = absurd cc
answered own journal state requester request (Some at) node sequence answer decision has is sequenced sendable made =
    let P : Decision → Type 0 = λ d. Decides (IsSequencedUnder journal state requester own (Some at) request) state request.op (Ok d) in
    let Q : SequenceStep → Type 0 = λ s. IsSequence journal state requester request s in
    let S : SequenceStep → Type 0 = λ s. IsSendableSequence request.op s in
    subst P (sym made) ((Answered answer, subst Q is sequenced, refl), subst S is sendable, tt, tt)

judged_goes_on : (kept : Kept) (name owner : StateOwner) (seqid : ℕ) (request : Request) → IsJudged kept name seqid request (GoesOn passages.Begins owner) → ⊥
judged_goes_on kept name owner seqid request (verdicts.New, is, same) = absurd cc
judged_goes_on kept name owner seqid request (verdicts.Replay answer, is, same) = absurd cc
judged_goes_on kept name owner seqid request (verdicts.Bad, is, same) = absurd cc

known_goes_on : (is_restart : Bool) (kept : Kept) (name owner : StateOwner) (seqid : ℕ) (request : Request) → IsOfKnown is_restart kept name seqid request (GoesOn passages.Begins owner) → ⊥
known_goes_on true kept name owner seqid request is = absurd cc
known_goes_on false kept name owner seqid request is = judged_goes_on kept name owner seqid request is

begins_by : (b : Bool) (name owner : StateOwner) (answer : OpResult) → GoesOn passages.Begins owner ≡ (if b then GoesOn passages.Begins name else Answered answer) → b ≡ true
begins_by true name owner answer same = refl
begins_by false name owner answer same = absurd cc

owner_begins : (journal : History) (found : Option KnownOwner) (name owner : StateOwner) (seqid : ℕ) (request : Request) → IsOfOwner journal found name seqid request (GoesOn passages.Begins owner) → is_open request.op ≡ true
owner_begins journal None name owner seqid request is = begins_by (is_open request.op) name owner _ is
owner_begins journal (Some o) name owner seqid request is =
    absurd (known_goes_on (is_open request.op && not o.confirmed) is.0 name owner seqid request is.2)

-- only an OPEN comes from an owner that isn't known
begins_open : (journal : History) (state : State) (requester : Requester) (request : Request) (owner : StateOwner) → IsSequence journal state requester request (GoesOn passages.Begins owner) → is_open request.op ≡ true
begins_open journal state (Refused refusal) request owner is = absurd cc
begins_open journal state (Owner name seqid) request owner is = owner_begins journal (owner_of name state.owners) name owner seqid request is

place_by : (owners limit : ℕ) (place more again : Bool) (r : Option Ruling) (ruling : Ruling) → nat_lt owners limit ≡ place → Some ruling ≡ (if place && more && again then r else None) → owners < limit
place_by owners limit true more again r ruling is same = search (arith, is)
place_by owners limit false more again r ruling is same = absurd cc

-- the ruling's answer is NFS4_OK
abbrev is_done : Option Ruling → Bool
is_done None = false
is_done (Some ruling) = is_ok_status (status_of ruling.answer)

ruling_place : (journal : History) (state : State) (moment : ℕ) (args : Open) (found : Result Opening Refusal) (ruling : Ruling) → Some ruling ≡ ruling_of journal state passages.Begins args (opening_or_ruling state moment args.owner.client found) → is_ok_status (status_of ruling.answer) ≡ true → length state.owners < OWNER_LIMIT
ruling_place journal state moment args (Err refusal) ruling same ok = let never : false ≡ true = sym (ap is_done same) ∙ ok in absurd cc
ruling_place journal state moment args (Ok o) ruling same ok =
    by (list_any (conflicts (uses.Open args.owner.client o.share)) (delegations_of o.node state.delegations)) same
  where
    by : (b : Bool) → Some ruling ≡ ruling_of journal state passages.Begins args (if b then Err (delayed moment args.owner.client o) else Ok o) → length state.owners < OWNER_LIMIT
    by true same = let never : false ≡ true = sym (ap is_done same) ∙ ok in absurd cc
    by false same =
        let kind = lent journal state passages.Begins args o in
        place_by (length state.owners) OWNER_LIMIT (nat_lt (length state.owners) OWNER_LIMIT) (has_open_place state args.owner o.node) (has_lending_place state (has_open state args.owner o.node) kind) _ ruling refl same

-- an OPEN that is granted to an owner that isn't known has a place for it
place_of : (op : Op) (journal : History) (state : State) (request : Request) (node : ℕ) (ruling : Ruling) → is_open op ≡ true → own_of op journal state request node passages.Begins (Some ruling) → is_ok_status (status_of ruling.answer) ≡ true → length state.owners < OWNER_LIMIT
place_of (ops.Open args) journal state request node ruling is own ok = ruling_place journal state request.moment args (opening journal state node args) ruling own ok
place_of (ops.Access v) journal state request node ruling is own ok = absurd cc
place_of op journal state request node ruling is own ok = absurd cc

-- What a LOCK introduces, by what is known of the lock owner.
if_known : (journal : History) (locker : NewLocker) (found : Option KnownOwner) (l : LockOwner) → newcomer_if journal locker found ≡ Known l
    → (l ≡ locker.lock_owner) × (is_some found ≡ true)
if_known journal locker None l is = absurd cc
if_known journal locker (Some o) l is =
    elim (is_next locker.lock_seqid (kept_for journal o)) as (λ b. (if b then Known locker.lock_owner else Nobody) ≡ Known l → (l ≡ locker.lock_owner) × (true ≡ true)) [
      | true ↦ λ same. (search same, refl)
      | false ↦ λ same. absurd cc
    ] is

if_unknown : (journal : History) (locker : NewLocker) (found : Option KnownOwner) (l : LockOwner) → newcomer_if journal locker found ≡ Unknown l
    → (l ≡ locker.lock_owner) × (is_some found ≡ false)
if_unknown journal locker None l is = (search is, refl)
if_unknown journal locker (Some o) l is =
    elim (is_next locker.lock_seqid (kept_for journal o)) as (λ b. (if b then Known locker.lock_owner else Nobody) ≡ Unknown l → (l ≡ locker.lock_owner) × (true ≡ false)) [
      | true ↦ λ same. absurd cc
      | false ↦ λ same. absurd cc
    ] is

of_client : (same : Bool) (found newcomer : Newcomer) → (if same then found else Nobody) ≡ newcomer → (newcomer ≡ Nobody → ⊥) → found ≡ newcomer
of_client true found newcomer is somebody = is
of_client false found newcomer is somebody = absurd (somebody (sym is))

known_somebody : (l : LockOwner) → Known l ≡ Nobody → ⊥
known_somebody l same = cc

unknown_somebody : (l : LockOwner) → Unknown l ≡ Nobody → ⊥
unknown_somebody l same = cc

-- a newcomer that is known is so in the state
newcomer_known : (journal : History) (state : State) (client : ClientId) (op : Op) (l : LockOwner) → newcomer_of journal state client op ≡ Known l → IsTrue (is_known (lock_owner l) state)
newcomer_known journal state client (ops.Lock args) l is = by args.locker is
  where
    by : (locker : Locker) → newcomer_in journal state client locker ≡ Known l → IsTrue (is_known (lock_owner l) state)
    by (lockers.Known locker) is = absurd cc
    by (lockers.New locker) is =
        let found = of_client (is_same_client locker.lock_owner.client client) (newcomer_by journal state locker) (Known l) is (known_somebody l) in
        let both = if_known journal locker (owner_of (lock_owner locker.lock_owner) state.owners) l found in
        ap (λ o. is_known (lock_owner o) state) both.0 ∙ both.1
newcomer_known journal state client op l is = absurd cc

-- one that isn't known comes with a LOCK, as its new lock owner
newcomer_unknown : (journal : History) (state : State) (client : ClientId) (op : Op) (l : LockOwner) → newcomer_of journal state client op ≡ Unknown l
    → (args : Lock) × (locker : NewLocker) × (op ≡ ops.Lock args) × (args.locker ≡ lockers.New locker) × (l ≡ locker.lock_owner) × IsFalse (is_known (lock_owner l) state)
newcomer_unknown journal state client (ops.Lock args) l is = by args.locker refl is
  where
    by : (locker : Locker) → args.locker ≡ locker → newcomer_in journal state client locker ≡ Unknown l
        → (a : Lock) × (locker : NewLocker) × (ops.Lock args ≡ ops.Lock a) × (a.locker ≡ lockers.New locker) × (l ≡ locker.lock_owner) × IsFalse (is_known (lock_owner l) state)
    by (lockers.Known locker) same is = absurd cc
    by (lockers.New locker) same is =
        let found = of_client (is_same_client locker.lock_owner.client client) (newcomer_by journal state locker) (Unknown l) is (unknown_somebody l) in
        let both = if_unknown journal locker (owner_of (lock_owner locker.lock_owner) state.owners) l found in
        (args, locker, refl, same, both.0, ap (λ o. is_known (lock_owner o) state) both.0 ∙ both.1)
newcomer_unknown journal state client op l is = absurd cc

-- A LOCK that is granted to a new lock owner has a place for it.
next_ok : {A B : Type 0} (r : Result A Refusal) (next : A → Result B Refusal) (b : B) → (r >>= next) ≡ Ok b → (a : A) × (next a ≡ Ok b)
next_ok (Err refusal) next b is = absurd cc
next_ok (Ok a) next b is = (a, is)

let_in : {A : Type 0} (test : Bool) (refusal : Refusal) (a b : A) → refused_if test refusal a ≡ Ok b → a ≡ b
let_in true refusal a b is = absurd cc
let_in false refusal a b is = search is

introduced_is : (journal : History) (state : State) (args : Lock) (locker : NewLocker) (at : OpenAt) (locking : Locking) → introduction journal state args locker at ≡ Ok locking
    → (locking.owner ≡ locker.lock_owner) × (locking.state ≡ None)
introduced_is journal state args locker at locking is =
    let first = next_ok (refused_if args.reclaim refusals.NoGrace at) _ locking is in
    let second = next_ok (refused_if (not (is_same_client locker.lock_owner.client first.0.state.owner.client)) refusals.Inval first.0) _ locking first.1 in
    let third = next_ok (refused_if (is_some (lock_of locker.lock_owner (locks_of second.0.node state.locks))) refusals.BadSeqId second.0) _ locking second.1 in
    let equal = let_in (not (has_turn journal state locker)) refusals.BadSeqId _ locking third.1 in
    (ap (λ (l : Locking). l.owner) (sym equal), ap (λ (l : Locking). l.state) (sym equal))

verdict_then : (journal : History) (state : State) (args : Lock) (locker : NewLocker) (found : Result OpenAt Refusal) (locking : Locking)
    → (found >>= λ at. introduction journal state args locker at) ≡ Ok locking → (locking.owner ≡ locker.lock_owner) × (locking.state ≡ None)
verdict_then journal state args locker (Err refusal) locking is = absurd cc
verdict_then journal state args locker (Ok at) locking is = introduced_is journal state args locker at locking is

new_locking : (journal : History) (state : State) (node : ℕ) (args : Lock) (locker : NewLocker) (locking : Locking) → args.locker ≡ lockers.New locker
    → locking_of journal state node args args.locker ≡ Ok locking → (locking.owner ≡ locker.lock_owner) × (locking.state ≡ None)
new_locking journal state node args locker locking new is =
    verdict_then journal state args locker (verdict (confirmed_open node) journal.epoch state locker.open_stateid >>= as_open) locking
    (sym (ap (locking_of journal state node args) new) ∙ is)

begins_place : (place more : Bool) (r : Option Ruling) (ruling : Ruling) → Some ruling ≡ (if place && more then r else None) → place ≡ true
begins_place true more r ruling same = refl
begins_place false more r ruling same = absurd cc

allowed_place : (allowed : Bool) (state : State) (locking : Locking) (range : Range) (ruling : Ruling) → locking.state ≡ None → IsAllowed allowed state locking range (Some ruling)
    → is_ok_status (status_of ruling.answer) ≡ true → has_owner_place (lock_owner locking.owner) state ≡ true
allowed_place false state locking range ruling new is ok = let never : false ≡ true = sym (ap is_done is) ∙ ok in absurd cc
allowed_place true state locking range ruling new is ok = by is.0 is.2
  where
    by : (report : Option Report) → Some ruling ≡ unless_denied state locking range report → has_owner_place (lock_owner locking.owner) state ≡ true
    by (Some report) same = let never : false ≡ true = sym (ap is_done same) ∙ ok in absurd cc
    by None same =
        begins_place (has_owner_place (lock_owner locking.owner) state) (has_state_place state) _ ruling
        (same ∙ ap (grant state locking range) new)

ranged_place : (state : State) (locking : Locking) (range : Option Range) (ruling : Ruling) → locking.state ≡ None → lock.IsOfRange state locking range (Some ruling)
    → is_ok_status (status_of ruling.answer) ≡ true → has_owner_place (lock_owner locking.owner) state ≡ true
ranged_place state locking None ruling new is ok = let never : false ≡ true = sym (ap is_done is) ∙ ok in absurd cc
ranged_place state locking (Some range) ruling new is ok =
    allowed_place (allows locking.mode (open_with_number locking.open_number (opens_of locking.node state.opens))) state locking range ruling new is ok

lock_place : (journal : History) (state : State) (args : Lock) (locker : NewLocker) (node : ℕ) (found : Result Locking Refusal) (ruling : Ruling)
    → args.locker ≡ lockers.New locker → locking_of journal state node args args.locker ≡ found → IsLock state args found (Some ruling)
    → is_ok_status (status_of ruling.answer) ≡ true → has_owner_place (lock_owner locker.lock_owner) state ≡ true
lock_place journal state args locker node (Err refusal) ruling new found is ok = let never : false ≡ true = sym (ap is_done is) ∙ ok in absurd cc
lock_place journal state args locker node (Ok locking) ruling new found is ok =
    let made = new_locking journal state node args locker locking new found in
    ap (λ o. has_owner_place (lock_owner o) state) (sym made.0) ∙ ranged_place state locking is.0 ruling made.1 is.2 ok

newcomer_below : (known below : Bool) → known ≡ false → (known || below) ≡ true → below ≡ true
newcomer_below true below unknown place = absurd cc
newcomer_below false below unknown place = place

-- what a new lock owner that isn't known has a place for, where the LOCK is granted
newcomer_place : (journal : History) (state : State) (client : ClientId) (op : Op) (request : Request) (node : ℕ) (passage : Passage) (ruling : Ruling) (l : LockOwner)
    → newcomer_of journal state client op ≡ Unknown l → own_of op journal state request node passage (Some ruling)
    → is_ok_status (status_of ruling.answer) ≡ true → IsNewcomer (lock_owner l) state
newcomer_place journal state client op request node passage ruling l is own ok =
    let new = newcomer_unknown journal state client op l is in
    let args = new.0 in
    let locker = new.1 in
    let own_lock = subst (λ o. own_of o journal state request node passage (Some ruling)) new.2 own in
    let place = lock_place journal state args locker node (locking_of journal state node args args.locker) ruling new.3 refl own_lock ok in
    let place_here : has_owner_place (lock_owner l) state ≡ true = ap (λ o. has_owner_place (lock_owner o) state) new.4 ∙ place in
    (new.5, ltb-true _ _ (newcomer_below (is_known (lock_owner l) state) (nat_lt (length state.owners) OWNER_LIMIT) new.5 place_here))

-- what an answer that counts means for the owners has a place
kept_place : (state : State) (name : StateOwner) (newcomer : Newcomer) (status : Status) → IsTrue (is_known name state)
    → ((l : LockOwner) → newcomer ≡ Known l → IsTrue (is_known (lock_owner l) state))
    → ((l : LockOwner) → newcomer ≡ Unknown l → is_ok_status status ≡ true → IsNewcomer (lock_owner l) state)
    → HasOwnerPlace (kept_with name newcomer status) state
kept_place state name Nobody status known is_known_there is_new = known
kept_place state name (Known l) status known is_known_there is_new = (known, is_known_there l refl)
kept_place state name (Unknown l) status known is_known_there is_new = by (is_ok_status status) refl
  where
    by : (b : Bool) → is_ok_status status ≡ b → HasOwnerPlace (if b then Introduces name (lock_owner l) else Keeps name) state
    by true ok = (known, is_new l refl ok)
    by false ok = known

counted_place : (b : Bool) (change : OwnerChange) (state : State) → HasOwnerPlace change state → HasOwnerPlace (if b then change else Nothing) state
counted_place true change state place = place
counted_place false change state place = tt

records_place : (b : Bool) (name : StateOwner) (state : State) → name ≡ open_owner (as_open_owner name) → IsFalse (is_known name state) → (b ≡ true → length state.owners < OWNER_LIMIT) → HasOwnerPlace (if b then Records (as_open_owner name) false else Nothing) state
records_place true name state is_open_one unknown place = (ap (λ n. is_known n state) (sym is_open_one) ∙ unknown, place refl)
records_place false name state is_open_one unknown place = tt

restarts_place : (b : Bool) (name : StateOwner) (state : State) → name ≡ open_owner (as_open_owner name) → IsTrue (is_known name state) → HasOwnerPlace (if b then Restarts (as_open_owner name) false else Drops (as_open_owner name)) state
restarts_place true name state is_open_one known = ap (λ n. is_known n state) (sym is_open_one) ∙ known
restarts_place false name state is_open_one known = tt

-- an owner that begins or starts anew is an open owner
abbrev IsOpenOwner : Passage → StateOwner → Type 0
IsOpenOwner passages.Continues name = ⊤
IsOpenOwner passage name = name ≡ open_owner (as_open_owner name)

judged_continues : (kept : Kept) (n name : StateOwner) (seqid : ℕ) (request : Request) (passage : Passage) → IsJudged kept n seqid request (GoesOn passage name) → (name ≡ n) × (passage ≡ passages.Continues)
judged_continues kept n name seqid request passage (verdicts.New, is, same) = (search same, search same)
judged_continues kept n name seqid request passage (verdicts.Replay answer, is, same) = absurd cc
judged_continues kept n name seqid request passage (verdicts.Bad, is, same) = absurd cc

known_cases : (b : Bool) (kept : Kept) (n name : StateOwner) (seqid : ℕ) (request : Request) (passage : Passage) → (b ≡ true → is_open request.op ≡ true) → IsOfKnown b kept n seqid request (GoesOn passage name)
    → (name ≡ n) × ((passage ≡ passages.Continues) ⊎ (is_open request.op ≡ true))
known_cases true kept n name seqid request passage opens is = (is.2, inr (opens refl))
known_cases false kept n name seqid request passage opens is =
    let both = judged_continues kept n name seqid request passage is in
    (both.0, inl both.1)

unknown_cases : (b : Bool) (n name : StateOwner) (passage : Passage) (answer : OpResult) → GoesOn passage name ≡ (if b then GoesOn passages.Begins n else Answered answer) → (name ≡ n) × (b ≡ true)
unknown_cases true n name passage answer same = (search same, refl)
unknown_cases false n name passage answer same = absurd cc

owner_cases : (journal : History) (found : Option KnownOwner) (n name : StateOwner) (seqid : ℕ) (request : Request) (passage : Passage) → IsOfOwner journal found n seqid request (GoesOn passage name)
    → (name ≡ n) × ((passage ≡ passages.Continues) ⊎ (is_open request.op ≡ true))
owner_cases journal None n name seqid request passage is =
    let both = unknown_cases (is_open request.op) n name passage _ is in
    (both.0, inr both.1)
owner_cases journal (Some o) n name seqid request passage is =
    known_cases (is_open request.op && not o.confirmed) is.0 n name seqid request passage
    (λ both. (and_parts (is_open request.op) (not o.confirmed) both).0) is.2

open_name : (op : Op) (n : StateOwner) (seqid : ℕ) → IsRequesterOf op (Owner n seqid) → is_open op ≡ true → n ≡ open_owner (as_open_owner n)
open_name (ops.Open args) n seqid is opens = subst (λ m. m ≡ open_owner (as_open_owner m)) (sym is) refl
open_name op n seqid is opens = absurd cc

open_owner_of : (journal : History) (state : State) (requester : Requester) (request : Request) (passage : Passage) (name : StateOwner) → IsRequesterOf request.op requester
    → IsSequence journal state requester request (GoesOn passage name) → IsOpenOwner passage name
open_owner_of journal state (Refused refusal) request passage name asked is = absurd cc
open_owner_of journal state (Owner n seqid) request passage name asked is =
    let cases = owner_cases journal (owner_of n state.owners) n name seqid request passage is in
    let named : is_open request.op ≡ true → name ≡ open_owner (as_open_owner name) =
    λ opens. subst (λ m. m ≡ open_owner (as_open_owner m)) (sym cases.0) (open_name request.op n seqid asked opens) in
    by passage cases.1 named
  where
    by : (passage : Passage) → (passage ≡ passages.Continues) ⊎ (is_open request.op ≡ true) → (is_open request.op ≡ true → name ≡ open_owner (as_open_owner name)) → IsOpenOwner passage name
    by passages.Continues which named = tt
    by passages.Begins (inl same) named = absurd cc
    by passages.Begins (inr opens) named = named opens
    by passages.Restarts (inl same) named = absurd cc
    by passages.Restarts (inr opens) named = named opens

owner_place : (journal : History) (state : State) (requester : Requester) (request : Request) (node : ℕ) (passage : Passage) (name : StateOwner) (ruling : Ruling) → IsSequence journal state requester request (GoesOn passage name) → IsPassage passage name state → IsOpenOwner passage name → own_of request.op journal state request node passage (Some ruling) → HasOwnerPlace (owner_change_of passage name (newcomer_of journal state name.client request.op) (status_of ruling.answer)) state
owner_place journal state requester request node passages.Continues name ruling sequenced known kind own =
    let newcomer = newcomer_of journal state name.client request.op in
    let status = status_of ruling.answer in
    counted_place (counts status) (kept_with name newcomer status) state
    (kept_place state name newcomer status known (newcomer_known journal state name.client request.op)
    (λ l is ok. newcomer_place journal state name.client request.op request node passages.Continues ruling l is own ok))
owner_place journal state requester request node passages.Begins name ruling sequenced unknown kind own =
    records_place (is_ok_status (status_of ruling.answer)) name state kind unknown
    (λ ok. place_of request.op journal state request node ruling (begins_open journal state requester request name sequenced) own ok)
owner_place journal state requester request node passages.Restarts name ruling sequenced known kind own =
    restarts_place (is_ok_status (status_of ruling.answer)) name state kind known

-- what is decided by the operation's own rule
pub goes_on : (journal : History) (state : State) (requester : Requester) (request : Request) (filehandle : Option ℕ) (node : ℕ) (sequence : SequenceStep) (passage : Passage) (name : StateOwner) (ruling : Ruling) (decision : Decision) → filehandle ≡ Some node → IsRequesterOf request.op requester → sequence ≡ GoesOn passage name → IsSequence journal state requester request sequence → HasPassage state sequence → ByOwnRule (own_of request.op journal state request node passage) state request.op (Ok ruling) → decision ≡ decision_of passage name (newcomer_of journal state name.client request.op) ruling → Decides (IsSequencedUnder journal state requester (own_of request.op journal state) filehandle request) state request.op (Ok decision)
goes_on journal state requester request filehandle node sequence passage name ruling decision has asked is sequenced passes ruled made =
    let own = own_of request.op journal state in
    let newcomer = newcomer_of journal state name.client request.op in
    let P : Decision → Type 0 = λ d. Decides (IsSequencedUnder journal state requester own filehandle request) state request.op (Ok d) in
    let F : Option ℕ → Type 0 = λ f. Decides (IsSequencedUnder journal state requester own f request) state request.op (Ok (decision_of passage name newcomer ruling)) in
    let Q : SequenceStep → Type 0 = λ s. IsSequence journal state requester request s in
    let H : SequenceStep → Type 0 = λ s. HasPassage state s in
    let on : IsSequence journal state requester request (GoesOn passage name) = subst Q is sequenced in
    subst P (sym made) (subst F (sym has) (
      (GoesOn passage name, on, (Some ruling, ruled.0, refl)),
      ruled.1,
      ruled.2,
      owner_place journal state requester request node passage name ruling on (subst H is passes) (open_owner_of journal state requester request passage name asked on) ruled.0,
    ))

-- where the own rule gives a ruling, there is a decision
pub ruled_decides : (journal : History) (state : State) (requester : Requester) (own : Own) (request : Request) (filehandle : Option ℕ) (node : ℕ) (sequence : SequenceStep) (passage : Passage) (name : StateOwner) (ruling : Ruling) → filehandle ≡ Some node → sequence ≡ GoesOn passage name → IsSequence journal state requester request sequence → own request node passage (Some ruling) → (decision : Decision) × IsSequencedUnder journal state requester own filehandle request (Some decision)
ruled_decides journal state requester own request filehandle node sequence passage name ruling has is sequenced ruled =
    let decision = decision_of passage name (newcomer_of journal state name.client request.op) ruling in
    let Q : SequenceStep → Type 0 = λ s. IsSequence journal state requester request s in
    let F : Option ℕ → Type 0 = λ f. IsSequencedUnder journal state requester own f request (Some decision) in
    (decision, subst F (sym has) (GoesOn passage name, subst Q is sequenced, (Some ruling, ruled, refl)))

-- what is decided where the own rule fails
pub fails_on : (journal : History) (state : State) (requester : Requester) (own : Own) (request : Request) (filehandle : Option ℕ) (node : ℕ) (sequence : SequenceStep) (passage : Passage) (name : StateOwner) (shortage : Shortage) → filehandle ≡ Some node → sequence ≡ GoesOn passage name → IsSequence journal state requester request sequence → ByOwnRule (own request node passage) state request.op (Err shortage) → Decides (IsSequencedUnder journal state requester own filehandle request) state request.op (Err shortage)
fails_on journal state requester own request filehandle node sequence passage name Limit has is sequenced none =
    let Q : SequenceStep → Type 0 = λ s. IsSequence journal state requester request s in
    let F : Option ℕ → Type 0 = λ f. IsSequencedUnder journal state requester own f request None in
    subst F (sym has) (GoesOn passage name, subst Q is sequenced, (None, none, refl))
fails_on journal state requester own request filehandle node sequence passage name Memory has is sequenced ruled =
    ruled_decides journal state requester own request filehandle node sequence passage name ruled.0 has is sequenced ruled.1

-- what is decided where a call fails for this
pub fails_as : (ruled : Option Decision → Type 0) (state : State) (op : Op) (shortage : Shortage) (result : Result Decision Shortage) → IsErr result → IsErrAnd result (λ e. e ≡ shortage) → Decides ruled state op (Err shortage) → Decides ruled state op result
fails_as ruled state op shortage (Ok decision) err same decides = absurd cc
fails_as ruled state op shortage (Err e) err same decides =
    let P : Shortage → Type 0 = λ s. Decides ruled state op (Err s) in
    subst P (sym same) decides

-- what an own rule says where a call fails for this
pub rules_fail : (own : Option Ruling → Type 0) (state : State) (op : Op) (shortage : Shortage) (result : Result Ruling Shortage) → IsErr result → IsErrAnd result (λ e. e ≡ shortage) → ByOwnRule own state op (Err shortage) → ByOwnRule own state op result
rules_fail own state op shortage (Ok ruling) err same rules = absurd cc
rules_fail own state op shortage (Err e) err same rules =
    let P : Shortage → Type 0 = λ s. ByOwnRule own state op (Err s) in
    subst P (sym same) rules

-- a request that is answered without its own rule has a decision
pub answered_decides : (own : Own) (journal : History) (state : State) (requester : Requester) (request : Request) (filehandle : Option ℕ) (node : ℕ) → filehandle ≡ Some node → HasAnswer (IsSequence journal state requester request) → (decision : Decision) × IsSequencedUnder journal state requester own filehandle request (Some decision)
answered_decides own journal state requester request filehandle node has is =
    let decision = only is.0 in
    let F : Option ℕ → Type 0 = λ f. IsSequencedUnder journal state requester own f request (Some decision) in
    (decision, subst F (sym has) (Answered is.0, is.1, refl))

-- what one relation of an own rule says, another one says too
pub rules_onto : (P Q : Option Ruling → Type 0) (state : State) (op : Op) (result : Result Ruling Shortage) → ((r : Option Ruling) → P r → Q r) → ByOwnRule P state op result → ByOwnRule Q state op result
rules_onto P Q state op (Ok ruling) onto h = (onto (Some ruling) h.0, h.1, h.2)
rules_onto P Q state op (Err Limit) onto h = onto None h
rules_onto P Q state op (Err Memory) onto h = (h.0, onto (Some h.0) h.1)

-- the rule of an operation that is known to be this one
pub rules_of : (op op' : Op) (journal : History) (state : State) (request : Request) (node : ℕ) (passage : Passage) (result : Result Ruling Shortage) → op ≡ op' → ByOwnRule (own_of op' journal state request node passage) state op' result → ByOwnRule (own_of op journal state request node passage) state op result
rules_of op op' journal state request node passage result same rules =
    let P : Op → Type 0 = λ o. ByOwnRule (own_of o journal state request node passage) state o result in
    subst P (sym same) rules
