-- How an OPEN without a refusal is granted; used only in the contracts of this crate's own functions.
use Rattle.std.specs.Prelude.{ℕ, true, ◌&&◌, [], Option, Some, None, if◌then◌else◌}
use Rattle.nfs_state.specs.Places.{has_state_place}
use Rattle.nfs_rules.specs.Lending.{delegation_with, lending_number}
use Rattle.nfs_rules.specs.declared.passage.Passage.{Passage}
use Rattle.nfs_rules.specs.operations.Open.{has_open, has_open_place, has_owner_place, has_places, rflags_of, stateid_after}
use Rattle.nfs_state.specs.State.{State}
use Rattle.nfs_share.specs.AllOpens.{opens_of}
use Rattle.nfs_share.specs.Opens.{open_of}
use Rattle.nfs_share.specs.declared.delegation.DelegationKind.{DelegationKind}
use Rattle.nfs_forms.specs.declared.answer.Answer.TheVariants.{Done}
use Rattle.nfs_forms.specs.declared.open_delegation.OpenDelegation.{OpenDelegation}
use Rattle.nfs_forms.specs.declared.open_owner.OpenOwner.{OpenOwner}
use Rattle.nfs_forms.specs.declared.stateid.Stateid.{Stateid}
use Rattle.nfs_xdr.specs.declared.op_result.OpResult.{OpResult}
use Rattle.nfs_xdr.specs.declared.op_result.OpResult.TheVariants as results

-- the stateid of a new open, if there is a place for one
abbrev pub new_stateid : State → OpenOwner → Option Stateid
new_stateid state owner =
    if has_state_place state then Some (stateid_after state owner None)
    else None

-- the stateid that the owner gets for the file, unless a limit would be exceeded by it
abbrev pub granted_stateid : Passage → State → OpenOwner → ℕ → Option Stateid
granted_stateid passage state owner node =
    if has_owner_place passage state && has_open_place state owner node
    then Some (stateid_after state owner (open_of owner (opens_of node state.opens)))
    else None

-- the stateid and the delegation that the owner gets for the file, unless a limit would be exceeded
abbrev pub opened : Passage → State → OpenOwner → ℕ → Option DelegationKind
    → Option (Stateid × OpenDelegation)
opened passage state owner node kind =
    if has_places state passage owner node kind
    then Some (
      stateid_after state owner (open_of owner (opens_of node state.opens)),
      delegation_with (lending_number state (has_open state owner node)) owner.client kind,
    )
    else None

-- the answer to an OPEN that is granted with this stateid and this delegation
abbrev pub ok_answer : Passage → Stateid → OpenDelegation → OpResult
ok_answer passage id delegation = results.Open (Done (record {
  stateid = id;
  change = record { atomic = true; before = 0; after = 0 };
  rflags = rflags_of passage;
  attrset = [];
  delegation = delegation;
}))
