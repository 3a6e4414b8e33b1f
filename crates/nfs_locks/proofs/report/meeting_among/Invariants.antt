use Rattle.std.proofs.Common.{map, option_map}
use Rattle.nfs_locks.specs.Report.{IsMeeting}
use Rattle.nfs_locks.specs.ReportSeen.{meeting_seen}
use Rattle.nfs_locks.specs.StoredLocks.{lock_seen}
use Rattle.nfs_locks.proofs.report.meeting_among.Given as goal

-- the first meeting with those visited so far
abbrev pub invariant-loop-state : goal.invariant-loop-state
invariant-loop-state l =
    IsMeeting (map (λ p. lock_seen p.1.now) l.yielded) l.owner l.range l.mode (option_map meeting_seen l.first)
