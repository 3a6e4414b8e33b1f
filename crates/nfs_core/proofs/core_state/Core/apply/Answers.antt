use Rattle.std.proofs.Common.{subst}
use Rattle.nfs_core.specs.Server.{Applies}
use Rattle.nfs_core.proofs.core_state.Core.apply.Goals as goal
use Rattle.nfs_state.specs.declared.request.Request.{Request}

pub returns-in-Ok-clause-applies : goal.returns-in-Ok-clause-applies
returns-in-Ok-clause-applies c =
    let answered = c.answer_by_number.result in
    subst (λ (request : Request). Applies c.args.self.now c.answer_by_number.new.self request answered.0 answered.1) c.in-Ok.ensures c.answer_by_number.ensures.applies
