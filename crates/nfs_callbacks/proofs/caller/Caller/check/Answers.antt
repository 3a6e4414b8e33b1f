use Rattle.nfs_callbacks.proofs.Stepping.{and_then}
use Rattle.nfs_callbacks.specs.Steps.{rules}
use Rattle.nfs_callbacks.proofs.caller.Caller.check.Goals as goal

pub checked-preserved : goal.checked-preserved
checked-preserved g c =
    let r = rules g.S.CallbackSource.answers g.D.Network.carries in
    and_then r _ _ _ c.checked.invariant (and_then r _ _ _ c.check_one.ensures c.notice.ensures)
