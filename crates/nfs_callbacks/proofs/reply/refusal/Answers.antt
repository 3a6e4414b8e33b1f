use Rattle.std.proofs.Common.{sym, subst}
use Rattle.nfs_callbacks.proofs.Reasons.{accepted_says, denied_says, no_reply}
use Rattle.nfs_callbacks.specs.Faults.{Says}
use Rattle.nfs_callbacks.specs.declared.fault.Fault.{Fault}
use Rattle.nfs_callbacks.proofs.reply.refusal.Goals as goal

pub returns-in-Ok : goal.returns-in-Ok
returns-in-Ok c compound refused =
    subst (λ (fault : Fault). Says compound c.args.xid c.args.message.now fault) (sym c.fault_of_accepted.ensures)
    (accepted_says compound c.args.xid c.in-Ok.state c.in-Ok.rest.now c.args.message.now c.in-Ok.ensures.ok refused)

pub returns-in-Ok-read_denied : goal.returns-in-Ok-read_denied
returns-in-Ok-read_denied c compound refused =
    subst (λ (fault : Fault). Says compound c.args.xid c.args.message.now fault) (sym c.fault_of_denied.ensures)
    (denied_says compound c.args.xid c.in-Ok-read_denied.state c.args.message.now c.in-Ok-read_denied.ensures.ok refused.0)

pub returns-in-Err-read_denied : goal.returns-in-Err-read_denied
returns-in-Err-read_denied c compound refused =
    absurd (no_reply compound c.args.xid c.args.message.now c.in-Err.field-0 c.in-Err-read_denied.field-0 c.in-Err.ensures.err
    c.in-Err-read_denied.ensures.err refused.0)
