use Rattle.std.proofs.Common.{refl, [], ◌∙◌, subst}
use Rattle.nfs_callbacks.specs.Callers.{idle, scene_of}
use Rattle.nfs_callbacks.specs.Steps.{Goes}
use Rattle.nfs_threads.specs.Calling.{calling, unused}
use Rattle.nfs_threads.proofs.calling.call_back_until.Goals as goal

pub looks-preserved : goal.looks-preserved
looks-preserved g c = c.steps_join.ensures _ _ _ c.looks.invariant c.look.ensures

pub returns-in_default : goal.returns-in_default
returns-in_default g c = record { steps = []; last = idle unused tt; goes = refl; is = c.requires.unused }

pub returns : goal.returns
returns g c = record {
  steps = c.looks.invariant.0;
  last = scene_of c.looks.caller;
  goes = c.looks.invariant.1;
  is = c.source.view_is ∙ c.into_parts-source.ensures.source;
}
