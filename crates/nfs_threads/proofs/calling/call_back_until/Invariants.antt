use Rattle.nfs_callbacks.specs.Callers.{idle, scene_of}
use Rattle.nfs_callbacks.specs.Steps.{Happens}
use Rattle.nfs_threads.specs.Calling.{calling, unused}
use Rattle.nfs_threads.proofs.calling.call_back_until.Given as goal

abbrev pub invariant-looks : goal.invariant-looks
invariant-looks g l = Happens (calling g.N.Naming.start) (idle unused tt) (scene_of l.caller)
