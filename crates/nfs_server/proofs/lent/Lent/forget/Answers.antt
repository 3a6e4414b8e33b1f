-- What is said of the core is said of the value that is lent.
use Rattle.std.proofs.Common.{subst}
use Rattle.std.specs.Prelude.{IfOk}
use Rattle.nfs_core.specs.Events.{IsForgotten}
use Rattle.nfs_server.proofs.lent.Lent.forget.Goals as goal
use Rattle.nfs_server.specs.Leases.{LentCore}

pub returns-clause-forgotten : goal.returns-clause-forgotten
returns-clause-forgotten c =
    subst (λ (l : LentCore). IfOk c.forget.result (IsForgotten l.core c.forget.new.self.core c.args.now))
    c.self.view_is c.forget.ensures.forgotten
