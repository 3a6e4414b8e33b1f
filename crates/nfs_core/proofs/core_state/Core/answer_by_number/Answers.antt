use Rattle.std.proofs.Common.{Option, Some, subst}
use Rattle.nfs_core.specs.Entered.{Answers}
use Rattle.nfs_core.specs.declared.entered.Entered.{Entered}
use Rattle.nfs_core.proofs.core_state.Core.answer_by_number.Goals as goal

pub returns-in-Some-clause-applies : goal.returns-in-Some-clause-applies
returns-in-Some-clause-applies c =
    let old = c.args.self.now in
    let new = c.answer-answer.new.self in
    let answer = c.answer-answer.result.0 in
    let entered = subst (λ (told : Option Entered). Answers old new c.args.request answer told) c.in-Some.is c.answer-answer.ensures.answers in
    entered.0
