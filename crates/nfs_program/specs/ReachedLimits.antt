-- The limits that a run has reached.
use Rattle.std.specs.Prelude.{Bool, if◌then◌else◌}
use Rattle.nfs_program.specs.declared.reached_limits.Reach.{Reach}
use Rattle.nfs_program.specs.declared.reached_limits.Reach.TheVariants.{Below, Reached, Told}

-- a limit of which this is seen
abbrev pub noted : Reach → Bool → Reach
noted Below is_reached = if is_reached then Reached else Below
noted Reached is_reached = Reached
noted Told is_reached = Told

-- once it was told where that is due
abbrev pub after_telling : Reach → Reach
after_telling Below = Below
after_telling Reached = Told
after_telling Told = Told
