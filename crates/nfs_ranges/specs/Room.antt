-- The room of the two lists in which runs are kept.
use Rattle.std.specs.Prelude.{◌≡◌, ℕ, ◌+◌, ◌≤◌, vec_capacity, vec_len}
use Rattle.nfs_ranges.specs.declared.runs.Runs.{Runs}

-- all runs, and so many more, have place in each of the lists
abbrev pub IsRoomy : ℕ → Runs → Type 0
IsRoomy more runs =
    (vec_len runs.before + vec_len runs.behind + more ≤ vec_capacity runs.before)
    × (vec_len runs.before + vec_len runs.behind + more ≤ vec_capacity runs.behind)

-- each list has the capacity that it had
abbrev pub HaveCapacityOf : Runs → Runs → Type 0
HaveCapacityOf old new =
    (vec_capacity new.before ≡ vec_capacity old.before)
    × (vec_capacity new.behind ≡ vec_capacity old.behind)
