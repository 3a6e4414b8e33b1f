-- What is let go of open owners that have no open (RFC 7530, section 9.1.10).
use Rattle.std.specs.Prelude.{◌≡◌, ℕ, ◌<◌, length, Option, Some, None}
use Rattle.nfs_core.specs.Events.{forget_of}
use Rattle.nfs_core.specs.declared.forgetting.IdleOwner.{IdleOwner}
use Rattle.nfs_rules.specs.entries.Forget.{IsForgetting, NoneIdle, NoneIdleBefore, recording_entry_of}
use Rattle.nfs_state.specs.Changes.{change_alone}
use Rattle.nfs_state.specs.State.{State, History}
use Rattle.nfs_state.specs.declared.change.Change.TheVariants as changes
use Rattle.nfs_state.specs.declared.entry.TheConstants.{JOURNAL_LIMIT}

-- What was found before an owner is forgotten: there is room in the journal, and this owner may be forgotten, and none
-- that an earlier entry recorded; or no owner may.
abbrev pub IsFound : History → State → ℕ → Option IdleOwner → Type 0
IsFound journal state now None = NoneIdle journal state now
IsFound journal state now (Some idle) =
    (length journal.entries < JOURNAL_LIMIT)
    × (idle.copy ≡ idle.owner)
    × IsForgetting journal state (forget_of idle.owner now)
    (change_alone (changes.Forgets idle.owner))
    × NoneIdleBefore idle.recorded journal state now
    × (recording_entry_of idle.owner state ≡ Some idle.recorded)
