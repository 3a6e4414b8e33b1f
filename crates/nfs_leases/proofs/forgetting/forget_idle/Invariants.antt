use Rattle.std.proofs.Common.{◌≡◌, ◌-◌, List, length}
use Rattle.nfs_core.specs.Events.{NoneIsIdleBefore}
use Rattle.nfs_core.specs.Server.{IsLawful}
use Rattle.nfs_forms.specs.declared.open_owner.OpenOwner.{OpenOwner}
use Rattle.nfs_leases.proofs.ForgottenOwners.{Forgets}
use Rattle.nfs_leases.proofs.forgetting.forget_idle.Given as goal
use Rattle.nfs_state.specs.declared.entry.TheConstants.{JOURNAL_LIMIT}

abbrev pub invariant-loop-forgotten : goal.invariant-loop-forgotten
invariant-loop-forgotten l =
    (owners : List OpenOwner) × (l.count ≡ length owners) × Forgets l.now owners l.fn.core l.core
    × NoneIsIdleBefore l.entry l.core l.now × IsLawful l.core
    × (l.core.recalls ≡ l.fn.core.recalls)

abbrev pub decreases-loop-forgotten : goal.decreases-loop-forgotten
decreases-loop-forgotten l = JOURNAL_LIMIT - length l.core.journal.entries
