use Rattle.std.proofs.Common.{◌∙◌, ap}
use Rattle.nfs_rules.specs.operations.Delegreturn.{returning}
use Rattle.nfs_rules.proofs.Sendable.{returned_decides}
use Rattle.nfs_rules.proofs.operations.delegreturn.decide.Goals as goal
use Rattle.nfs_state.specs.Room.{state_of}

pub returns : goal.returns
returns c =
    returned_decides c.args.store.now.journal.history (state_of c.args.store.now.tables) c.args.filehandle c.args.args.now c.returning.result
    (c.returning.ensures ∙ ap returning c.delegation_at.ensures)
