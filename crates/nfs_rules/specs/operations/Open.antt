-- OPEN (RFC 7530, section 16.16): opens a file for an owner.
use Rattle.std.specs.Prelude.{◌≡◌, ℕ, ◌+◌, nat_lt, Bool, true, false, ◌&&◌, ◌||◌, List, [], length, Option, Some, None, is_some, Result, Ok, Err, if◌then◌else◌}
use Rattle.std.specs.List.{list_any}
use Rattle.nfs_state.specs.declared.change.Change.TheVariants.{Nothing, Opens, Recalls}
use Rattle.nfs_rules.specs.declared.passage.Passage.{Passage}
use Rattle.nfs_rules.specs.declared.passage.Passage.TheVariants.{Continues}
use Rattle.nfs_state.specs.Places.{has_state_place}
use Rattle.nfs_rules.specs.declared.opening.Opening.{Opening}
use Rattle.nfs_rules.specs.declared.ruling.Ruling.{Ruling}
use Rattle.nfs_rules.specs.Lending.{delegation_with, has_lending_place, lending_number, lent}
use Rattle.nfs_rules.specs.Refusing.{◌>>=◌}
use Rattle.nfs_rules.specs.Sequences.{Own, before_own}
use Rattle.nfs_rules.specs.Stateids.{delegation_of, verdict}
use Rattle.nfs_state.specs.State.{State, History}
use Rattle.nfs_owners.specs.declared.owner.TheConstants.{OWNER_LIMIT}
use Rattle.nfs_share.specs.declared.open_state.OpenState.{OpenState}
use Rattle.nfs_share.specs.declared.delegation.DelegationKind.{DelegationKind}
use Rattle.nfs_share.specs.declared.delegation.FileUse.TheVariants as uses
use Rattle.nfs_share.specs.declared.share.Share.{Share}
use Rattle.nfs_share.specs.AllOpens.{delegations_of, opens_of}
use Rattle.nfs_share.specs.Delegations.{conflicts}
use Rattle.nfs_share.specs.Opens.{is_refused, next_stateid_of, open_of}
use Rattle.nfs_share.specs.Share.{share_of_numbers}
use Rattle.nfs_tree.specs.Tree.{is_directory, resolution}
use Rattle.nfs_forms.specs.declared.answer.Answer.TheVariants.{Done, Refused}
use Rattle.nfs_forms.specs.declared.claim.Claim.{Claim}
use Rattle.nfs_forms.specs.declared.claim.Claim.TheVariants as claims
use Rattle.nfs_forms.specs.declared.create_how.CreateHow.TheVariants as creates
use Rattle.nfs_xdr.specs.declared.op_result.OpResult.TheVariants as results
use Rattle.nfs_forms.specs.declared.open_how.OpenHow.{OpenHow}
use Rattle.nfs_forms.specs.declared.open_how.OpenHow.TheVariants as hows
use Rattle.nfs_forms.specs.declared.client_id.ClientId.{ClientId}
use Rattle.nfs_forms.specs.declared.open_owner.OpenOwner.{OpenOwner}
use Rattle.nfs_operations.specs.declared.«open».Open.{Open}
use Rattle.nfs_operations.specs.declared.«open».OpenOk.{OpenOk}
use Rattle.nfs_forms.specs.declared.stateid.Stateid.{Stateid}
use Rattle.nfs_forms.specs.declared.status.Refusal.{Refusal}
use Rattle.nfs_forms.specs.declared.status.Refusal.TheVariants as refusals

-- The name that the claim opens. Nothing can be reclaimed, since the server keeps no state from one run to the next:
-- NFS4ERR_NO_GRACE. CLAIM_DELEGATE_PREV isn't supported: NFS4ERR_NOTSUPP.
abbrev pub name_of : Claim → Result (List ℕ) Refusal
name_of (claims.Null name) = Ok name
name_of (claims.Previous delegation) = Err refusals.NoGrace
name_of (claims.DelegateCur id name) = Ok name
name_of (claims.DelegatePrev name) = Err refusals.NotSupp

-- NFS4ERR_INVAL for numbers that are no access or no denial
abbrev pub share_or_inval : Option Share → Result Share Refusal
share_or_inval None = Err refusals.Inval
share_or_inval (Some share) = Ok share

-- No file can be created: where there is none with the name, OPEN4_CREATE is NFS4ERR_ACCESS.
abbrev pub found_by : OpenHow → Result ℕ Refusal → Result ℕ Refusal
found_by (hows.Create how) (Err refusals.NoEnt) = Err refusals.Access
found_by how found = found

-- GUARDED4 and EXCLUSIVE4 want a new file: NFS4ERR_EXIST for one that is there.
abbrev pub wants_new : OpenHow → Bool
wants_new (hows.Create (creates.Guarded attributes)) = true
wants_new (hows.Create (creates.Exclusive verifier)) = true
wants_new how = false

-- Files can be opened: NFS4ERR_ISDIR for a directory, and NFS4ERR_EXIST for a file where a new one is wanted.
abbrev pub file_at : History → OpenHow → ℕ → Result ℕ Refusal
file_at journal how node =
    if is_directory journal.nodes node then Err refusals.IsDir
    else if wants_new how then Err refusals.Exist
    else Ok node

-- The file, if the claim may open it: the stateid in a CLAIM_DELEGATE_CUR has to name a delegation of it to the client,
-- be it called back or not.
abbrev pub claimed : History → State → ClientId → Claim → ℕ → Result ℕ Refusal
claimed journal state client (claims.DelegateCur id name) node =
    verdict (delegation_of client node) journal.epoch state id >>= λ found. Ok node
claimed journal state client claim node = Ok node

-- NFS4ERR_SHARE_DENIED if an open of another owner conflicts with the share of this OPEN alone (section 9.9)
abbrev pub unless_denied : State → OpenOwner → Share → ℕ → Result Opening Refusal
unless_denied state owner share node =
    if is_refused owner share (opens_of node state.opens) then Err refusals.ShareDenied
    else Ok (record { node = node; share = share })

-- What an OPEN under this current filehandle opens, or the first of its refusals, before delegations and limits are
-- looked at.
abbrev pub opening : History → State → ℕ → Open → Result Opening Refusal
opening journal state directory args =
    name_of args.claim >>= λ name.
    share_or_inval (share_of_numbers args.access args.deny) >>= λ share.
    found_by args.how (resolution journal.nodes directory name) >>= λ found.
    file_at journal args.how found >>= λ file.
    claimed journal state args.owner.client args.claim file >>= λ node.
    unless_denied state args.owner share node

-- an OPEN with one of these refusals changes nothing
abbrev pub refused : Refusal → Ruling
refused refusal = record { answer = results.Open (Refused refusal); change = Nothing }

-- NFS4ERR_DELAY: what is in the way is called back at this moment
abbrev pub delayed : ℕ → ClientId → Opening → Ruling
delayed moment client o = record {
  answer = results.Open (Refused refusals.Delay);
  change = Recalls o.node (uses.Open client o.share) moment;
}

-- what an OPEN of the client opens, unless a delegation of another client is in the way (RFC 7530, section 10.4.4)
abbrev pub unless_lent : State → ℕ → ClientId → Opening → Result Opening Ruling
unless_lent state moment client o =
    if list_any (conflicts (uses.Open client o.share)) (delegations_of o.node state.delegations)
    then Err (delayed moment client o)
    else Ok o

-- what an OPEN opens, or the ruling of its refusal
abbrev pub opening_or_ruling : State → ℕ → ClientId → Result Opening Refusal
    → Result Opening Ruling
opening_or_ruling state moment client (Err refusal) = Err (refused refusal)
opening_or_ruling state moment client (Ok o) = unless_lent state moment client o

-- the stateid that the owner gets for the file: that of its open with the next seqid, or that of a new open
abbrev pub stateid_after : State → OpenOwner → Option OpenState → Stateid
stateid_after state owner None =
    record { seqid = 1; client = owner.client; number = state.last_state + 1 }
stateid_after state owner (Some o) = next_stateid_of o

-- OPEN4_RESULT_LOCKTYPE_POSIX, which is 4, and OPEN4_RESULT_CONFIRM, which is 2, for an owner that isn't confirmed: one
-- that begins, or that starts anew
abbrev pub rflags_of : Passage → ℕ
rflags_of Continues = 4
rflags_of passage = 4 + 2

-- the owner has an open of the node's file already
abbrev pub has_open : State → OpenOwner → ℕ → Bool
has_open state owner node = is_some (open_of owner (opens_of node state.opens))

-- the answer, with the delegation that is given, if one is; the number of a new open is given first
abbrev pub answer_of : State → Passage → OpenOwner → ℕ → Option DelegationKind → OpenOk
answer_of state passage owner node kind = record {
  stateid = stateid_after state owner (open_of owner (opens_of node state.opens));
  change = record { atomic = true; before = 0; after = 0 };
  rflags = rflags_of passage;
  attrset = [];
  delegation = delegation_with (lending_number state (has_open state owner node)) owner.client kind;
}

-- There is a place for the owner, if this OPEN records it. An owner that starts anew has left its own place.
abbrev pub has_owner_place : Passage → State → Bool
has_owner_place Continues state = true
has_owner_place passage state = nat_lt (length state.owners) OWNER_LIMIT

-- the owner has an open of the file already, or there is a place for one
abbrev pub has_open_place : State → OpenOwner → ℕ → Bool
has_open_place state owner node = has_open state owner node || has_state_place state

-- there are places for all that the OPEN makes
abbrev pub has_places : State → Passage → OpenOwner → ℕ → Option DelegationKind → Bool
has_places state passage owner node kind =
    has_owner_place passage state && has_open_place state owner node
    && has_lending_place state (has_open state owner node) kind

-- what is decided of an OPEN that is granted with this delegation, or with none
abbrev pub granted : State → Passage → OpenOwner → Opening → Option DelegationKind → Ruling
granted state passage owner o kind = record {
  answer = results.Open (Done (answer_of state passage owner o.node kind));
  change = Opens o.node owner o.share kind;
}

-- what is decided of such an OPEN, or `None` if a limit would be exceeded
abbrev pub granted_within : State → Passage → OpenOwner → Opening → Option DelegationKind
    → Option Ruling
granted_within state passage owner o kind =
    if has_places state passage owner o.node kind then Some (granted state passage owner o kind)
    else None

-- the answer and the change of an OPEN, or `None` if a limit would be exceeded
abbrev pub ruling_of : History → State → Passage → Open → Result Opening Ruling → Option Ruling
ruling_of journal state passage args (Err ruling) = Some ruling
ruling_of journal state passage args (Ok o) =
    granted_within state passage args.owner o (lent journal state passage args o)

-- the rule of OPEN under the current filehandle, in the state without an owner that starts anew
abbrev pub own : History → State → Open → Own
own journal state args request node passage ruling =
    let seen = before_own passage args.owner state in
    ruling ≡ ruling_of journal seen passage args
    (opening_or_ruling seen request.moment args.owner.client (opening journal seen node args))
