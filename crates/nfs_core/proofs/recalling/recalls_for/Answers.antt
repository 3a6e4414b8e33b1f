use Rattle.std.proofs.Common.{arith}
use Rattle.std.proofs.lemmas.Grind.{common_steps}
use Rattle.std.proofs.lemmas.List.Elements.{filter_map-append}
use Rattle.nfs_core.proofs.recalling.recalls_for.Goals as goal

pub loop-lent-preserved : goal.loop-lent-preserved
loop-lent-preserved c = grind (arith, common_steps, filter_map-append)
