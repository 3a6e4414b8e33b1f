use Rattle.nfs_callbacks.proofs.Stepping.{and_then}
use Rattle.nfs_callbacks.specs.Steps.{rules}
use Rattle.nfs_callbacks.proofs.caller.Caller.give_place.Goals as goal

pub returns-then-cancel_dead : goal.returns-then-cancel_dead
returns-then-cancel_dead g c = and_then (rules g.S.CallbackSource.answers g.D.Network.carries) _ _ _ c.asked.invariant c.cancel_dead.ensures

pub asked-preserved : goal.asked-preserved
asked-preserved g c = and_then (rules g.S.CallbackSource.answers g.D.Network.carries) _ _ _ c.asked.invariant c.cancel_dead.ensures
