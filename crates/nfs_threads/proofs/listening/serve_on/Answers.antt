use Rattle.std.proofs.lemmas.Result.{IfOk-weaker}
use Rattle.nfs_threads.proofs.listening.serve_on.Goals as goal

pub returns-clause-served : goal.returns-clause-served
returns-clause-served g c =
    IfOk-weaker c.run.result _ _ (λ r h. (c.new-links.result, c.new-links.ensures, h)) c.run.ensures.served
