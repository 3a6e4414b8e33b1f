-- GETATTR (RFC 7530, section 16.7): the attributes of the current filehandle; the state doesn't change.
use Rattle.std.specs.Prelude.{ℕ, List, Option, Some, None, if◌then◌else◌}
use Rattle.nfs_state.specs.declared.change.Change.TheVariants.{Nothing}
use Rattle.nfs_rules.specs.declared.decision.Decision.{Decision}
use Rattle.nfs_state.specs.Changes.{change_alone}
use Rattle.nfs_state.specs.Files.{change_of, file_of, size_of}
use Rattle.nfs_state.specs.State.{State, History}
use Rattle.nfs_tree.specs.declared.subject.Subject.{Subject}
use Rattle.nfs_tree.specs.Attributes.{attributes_of, is_readable}
use Rattle.nfs_tree.specs.Tree.{is_directory, node_count}
use Rattle.nfs_forms.specs.declared.answer.Answer.TheVariants.{Done, Refused}
use Rattle.nfs_forms.specs.declared.fattr.Fattr.{Fattr}
use Rattle.nfs_xdr.specs.declared.op_result.OpResult.TheVariants as results
use Rattle.nfs_forms.specs.declared.status.Refusal.TheVariants.{Inval, NoFileHandle}
use Rattle.nfs_forms.specs.Answer.{PlainAnswer}

-- the node with the size and the change number that its file has now
abbrev pub subject_of : History → State → ℕ → Subject
subject_of journal state node =
    let file = file_of state.files node in
    record {
      node = node;
      is_directory = is_directory journal.nodes node;
      change = change_of file;
      size = size_of file;
      lease = journal.lease;
      nodes = node_count journal.nodes;
      profile = journal.policy.profile;
    }

-- The attributes of the current filehandle's node: NFS4ERR_NOFILEHANDLE where there is none, NFS4ERR_INVAL where one is
-- asked for that can only be set.
abbrev pub attributes : History → State → Option ℕ → List ℕ → PlainAnswer Fattr
attributes journal state None mask = Refused NoFileHandle
attributes journal state (Some node) mask =
    if is_readable journal.policy.profile mask
    then Done (attributes_of (subject_of journal state node) mask)
    else Refused Inval

-- the rule of GETATTR
abbrev pub rule : History → State → Option ℕ → List ℕ → Option Decision
rule journal state filehandle mask =
    let answer = results.Getattr (attributes journal state filehandle mask) in
    Some (record { answer = answer; effect = change_alone Nothing })
