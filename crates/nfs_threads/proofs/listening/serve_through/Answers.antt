use Rattle.std.proofs.Common.{subst}
use Rattle.std.proofs.lemmas.Result.{IfOk-weaker}
use Rattle.nfs_threads.specs.Run.{IsRun}
use Rattle.nfs_threads.proofs.listening.serve_through.Goals as goal

pub returns-clause-served : goal.returns-clause-served
returns-clause-served g c =
    IfOk-weaker c.run.result _ _
    (λ r h. (c.new-links.result, c.new-links.ensures, subst (λ n. IsRun c.new-links.result c.args.tree.now n c.args.core r) c.workers-workers.ensures h))
    c.run.ensures.served
