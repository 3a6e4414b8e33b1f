-- Which delegation an OPEN is given (RFC 7530, section 10.4).
use Rattle.std.specs.Prelude.{ℕ, ◌+◌, Bool, true, false, ◌||◌, List, [], ◌∷◌, Option, Some, None, if◌then◌else◌}
use Rattle.std.specs.List.{list_all}
use Rattle.nfs_forms.specs.declared.claim.Claim.{Claim}
use Rattle.nfs_forms.specs.declared.claim.Claim.TheVariants as claims
use Rattle.nfs_forms.specs.declared.client_id.ClientId.{ClientId}
use Rattle.nfs_forms.specs.declared.open_delegation.OpenDelegation.{OpenDelegation}
use Rattle.nfs_forms.specs.declared.open_delegation.OpenDelegation.TheVariants as delegations
use Rattle.nfs_forms.specs.declared.stateid.Stateid.{Stateid}
use Rattle.nfs_operations.specs.declared.«open».Open.{Open}
use Rattle.nfs_owners.specs.Registry.{Registry, record_of}
use Rattle.nfs_owners.specs.declared.client_record.ClientRecord.{ClientRecord}
use Rattle.nfs_owners.specs.declared.client_record.PathMark.{PathMark}
use Rattle.nfs_owners.specs.declared.client_record.PathMark.TheVariants as paths
use Rattle.nfs_rules.specs.declared.opening.Opening.{Opening}
use Rattle.nfs_rules.specs.declared.passage.Passage.{Passage}
use Rattle.nfs_rules.specs.declared.passage.Passage.TheVariants as passages
use Rattle.nfs_share.specs.AllOpens.{delegations_of, opens_of}
use Rattle.nfs_share.specs.Delegations.{can_delegate}
use Rattle.nfs_share.specs.declared.delegation.DelegationKind.{DelegationKind}
use Rattle.nfs_share.specs.declared.delegation.DelegationKind.TheVariants as kinds
use Rattle.nfs_share.specs.declared.share.Share.{Share}
use Rattle.nfs_state.specs.Changes.{last_state_after}
use Rattle.nfs_state.specs.Places.{has_state_place_beside}
use Rattle.nfs_state.specs.State.{State, History}
use Rattle.nfs_tree.specs.declared.policy.Delegations.{Delegations}
use Rattle.nfs_tree.specs.declared.policy.Delegations.TheVariants as policies

-- a read delegation goes with an OPEN that denies nothing
abbrev pub read_kind : Share → Option DelegationKind
read_kind share = if share.deny.read || share.deny.write then None else Some kinds.Read

-- The kind of delegation that goes with an OPEN for this share: one for writing if it may write, otherwise one for
-- reading, as far as the policy gives these.
abbrev pub kind_for : Delegations → Share → Option DelegationKind
kind_for policies.None share = None
kind_for policies.Read share = if share.access.write then None else read_kind share
kind_for policies.All share = if share.access.write then Some kinds.Write else read_kind share

-- the owner is known, and was confirmed before this OPEN
abbrev pub goes_on : Passage → Bool
goes_on passages.Continues = true
goes_on passage = false

abbrev pub is_null : Claim → Bool
is_null (claims.Null name) = true
is_null claim = false

abbrev pub is_up : PathMark → Bool
is_up paths.Up = true
is_up path = false

abbrev pub is_reached : Option ClientRecord → Bool
is_reached None = false
is_reached (Some r) = is_up r.state.path

-- callbacks reach the client
abbrev pub has_path_up : ClientId → Registry → Bool
has_path_up client registry = is_reached (record_of client registry)

-- What has to hold for an OPEN to be given a delegation of this kind: its owner was confirmed before, it opens the file
-- by its name alone, callbacks reach the client, it would be in the way of no other client's open, no other client's
-- delegation is in its way, and the client has none of the file.
abbrev pub lending_conditions : State → Passage → Open → ℕ → DelegationKind → List Bool
lending_conditions state passage args node kind =
    goes_on passage
    ∷ is_null args.claim
    ∷ has_path_up args.owner.client state.clients
    ∷ can_delegate args.owner.client kind (opens_of node state.opens)
    (delegations_of node state.delegations)
    ∷ []

-- this kind of delegation, if all of the conditions hold for it
abbrev pub if_all_hold : (DelegationKind → List Bool) → Option DelegationKind
    → Option DelegationKind
if_all_hold conditions None = None
if_all_hold conditions (Some kind) =
    if list_all (λ holds. holds) (conditions kind) then Some kind else None

-- the kind of delegation that an OPEN without a refusal is given, if it is given one
abbrev pub lent : History → State → Passage → Open → Opening → Option DelegationKind
lent journal state passage args o =
    if_all_hold (lending_conditions state passage args o.node)
    (kind_for journal.policy.delegations o.share)

-- how many opens an OPEN of the node's file by the owner makes: none if it has one
abbrev pub new_opens : Bool → ℕ
new_opens has_open = if has_open then 0 else 1

-- there is a place for the delegation, if one is given, beside that of the open
abbrev pub has_lending_place : State → Bool → Option DelegationKind → Bool
has_lending_place state has_open None = true
has_lending_place state has_open (Some kind) = has_state_place_beside (new_opens has_open) state

-- the number that a delegation is given: a new open's is given before
abbrev pub lending_number : State → Bool → ℕ
lending_number state has_open = last_state_after has_open state.last_state + 1

-- the stateid of a new state of the client
abbrev pub first_stateid : ℕ → ClientId → Stateid
first_stateid number client = record { seqid = 1; client = client; number = number }

-- the delegation as the answer has it, with this number if one is given
abbrev pub delegation_with : ℕ → ClientId → Option DelegationKind → OpenDelegation
delegation_with number client None = delegations.None
delegation_with number client (Some kinds.Read) = delegations.Read (first_stateid number client)
delegation_with number client (Some kinds.Write) = delegations.Write (first_stateid number client)
