use Rattle.std.proofs.Common.{◌≡◌, ℕ, ◌-◌, List, length}
use Rattle.nfs_core.specs.Server.{IsLawful}
use Rattle.nfs_leases.proofs.RevokedDelegations.{Revokes}
use Rattle.nfs_leases.proofs.revoking.revoke_due.Given as goal
use Rattle.nfs_state.specs.declared.entry.TheConstants.{JOURNAL_LIMIT}

abbrev pub invariant-loop-count : goal.invariant-loop-count
invariant-loop-count l =
    (numbers : List ℕ) × (l.count ≡ length numbers) × Revokes l.now numbers l.fn.core l.core × IsLawful l.core
    × (l.core.recalls ≡ l.fn.core.recalls)

abbrev pub decreases-loop-count : goal.decreases-loop-count
decreases-loop-count l = JOURNAL_LIMIT - length l.core.journal.entries
