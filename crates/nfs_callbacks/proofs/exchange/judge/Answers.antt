use Rattle.std.proofs.Common.{List, ℕ, subst}
use Rattle.nfs_callbacks.proofs.Replies.{one_reply}
use Rattle.nfs_callbacks.specs.Exchanges.{HasReply}
use Rattle.nfs_callbacks.specs.Faults.{IsAnswer}
use Rattle.nfs_callbacks.proofs.exchange.judge.Goals as goal

pub returns-in-Ok-Some : goal.returns-in-Ok-Some
returns-in-Ok-Some c =
    let message = c.in-Ok-Some.message.items in
    let first : HasReply c.args.bytes.now message = (rw c.in-Ok-Some.field-0-is at c.in-Ok-Some.ensures).some in
    let taken = subst (λ (m : List ℕ). IsAnswer c.args.is_compound c.args.xid m c.read_answer.result) c.as_slice.ensures.value c.read_answer.ensures in
    (message, first, taken, λ other reply. one_reply c.one_split.ensures c.args.bytes.now message other first reply)
