use Rattle.std.proofs.Common.{inl}
use Rattle.nfs_rpc.specs.CallbackReply.{OK}
use Rattle.nfs_callbacks.proofs.reply.read_answer.Goals as goal

pub returns-in-Refused : goal.returns-in-Refused
returns-in-Refused c = (c.in-Refused.ensures.1, c.refusal.ensures c.args.is_compound c.in-Refused.ensures)

pub returns-in-Unreadable : goal.returns-in-Unreadable
returns-in-Unreadable c =
    (λ ok. c.in-Unreadable.ensures (inl (OK, ok)), c.unreadable.ensures c.args.is_compound c.in-Unreadable.ensures)
