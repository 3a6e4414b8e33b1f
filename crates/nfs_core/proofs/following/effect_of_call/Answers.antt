use Rattle.std.proofs.Common.{◌≡◌, Err, ap, rules}
use Rattle.std.proofs.lemmas.Result.{err_from_is_err_and}
use Rattle.nfs_core.proofs.NextEntries.{limit_not_next, memory_runs_out, not_asked, with_same_answer}
use Rattle.nfs_core.specs.Following.{error_of}
use Rattle.nfs_core.specs.declared.following.FollowError.TheVariants as errors
use Rattle.nfs_state.specs.declared.shortage.Shortage.{Shortage}
use Rattle.nfs_core.proofs.following.effect_of_call.Goals as goal
use Rattle.nfs_state.specs.Room.{state_of}

pub returns-then-is_same-clause-next : goal.returns-then-is_same-clause-next
returns-then-is_same-clause-next c =
    let call = c.args.call.now in
    with_same_answer c.args.held.now.store.journal.history (state_of c.args.held.now.store.tables) call.request c.in_ok-answer.field-0.answer call.answer c.in_ok-answer.field-0.effect c.in_ok-answer.ensures.next (search rules)

pub returns-in_err-answer-clause-not_next : goal.returns-in_err-answer-clause-not_next
returns-in_err-answer-clause-not_next c not_next =
    let shortage = c.in_err-answer.field-0.0 in
    let failed = err_from_is_err_and c.from_residual.result c.from_residual.ensures.1 in
    let is : failed.0 ≡ error_of shortage = failed.2 in
    let limit : error_of shortage ≡ errors.NotNext = cc (failed.1, is, not_next) in
    c.in_err-answer.ensures.limit (ap (λ (s : Shortage). Err s) (limit_not_next shortage limit)) c.args.call.now.answer

pub returns-in_err-answer-clause-memory : goal.returns-in_err-answer-clause-memory
returns-in_err-answer-clause-memory c is_memory =
    let shortage = c.in_err-answer.field-0.0 in
    let failed = err_from_is_err_and c.from_residual.result c.from_residual.ensures.1 in
    let is : failed.0 ≡ error_of shortage = failed.2 in
    let memory : error_of shortage ≡ errors.Memory = cc (failed.1, is, is_memory) in
    (search rules, c.in_err-answer.ensures.memory (ap (λ (s : Shortage). Err s) (memory_runs_out shortage memory)))

pub returns-then-not-can_be_asked-clause-not_next : goal.returns-then-not-can_be_asked-clause-not_next
returns-then-not-can_be_asked-clause-not_next c is =
    not_asked c.args.held.now.store.journal.history (state_of c.args.held.now.store.tables) c.args.call.now (search (rules, c.can_be_asked.ensures))
