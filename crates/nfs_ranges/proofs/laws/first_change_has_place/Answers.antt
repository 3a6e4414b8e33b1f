use Rattle.std.proofs.Common.{refl, []}
use Rattle.nfs_ranges.specs.Modes.{modes_of}
use Rattle.nfs_ranges.proofs.Changes.{one_run_at_most}
use Rattle.nfs_ranges.proofs.laws.first_change_has_place.Goals as goal

pub returns : goal.returns
returns c change = one_run_at_most change.range change.mode (modes_of []) (λ byte. refl)
