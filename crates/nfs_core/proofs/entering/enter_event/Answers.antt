use Rattle.std.proofs.Common.{subst}
use Rattle.nfs_core.proofs.entering.enter_event.Goals as goal
use Rattle.nfs_core.specs.Server.{Enters, server_of}
use Rattle.nfs_state.specs.declared.entry.Entry.{Entry}

pub returns-in-Ok-commit-clause-entered : goal.returns-in-Ok-commit-clause-entered
returns-in-Ok-commit-clause-entered c =
    subst (λ (e : Entry). Enters (server_of c.args.held.now) (server_of c.commit.new.held) e c.in-Ok-commit.number) c.into_entry.ensures
    c.in-Ok-commit.ensures.entered.0
