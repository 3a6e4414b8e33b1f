use Rattle.std.proofs.Common.{◌≡◌, ◌∙◌, ◌&&◌, ℕ, Some, None, false, true, not, ap, sym}
use Rattle.std.specs.Cmp.{tied_itself}
use Rattle.std.specs.Ordering.{is_gt}
use Rattle.std.proofs.lemmas.Bool.{and_from, cond-true, false≢true}
use Rattle.nfs_locks.specs.Locks.{is_lock_of}
use Rattle.nfs_locks.specs.Report.{refuses, refuses_for}
use Rattle.nfs_locks.specs.StoredLocks.{lock_seen}
use Rattle.nfs_locks.proofs.Compatible.{same_self}
use Rattle.nfs_locks.proofs.Meetings.{owners_total}
use Rattle.nfs_locks.proofs.report.meeting_at.Goals as goal
use Rattle.nfs_ranges.specs.Modes.{conflicts}

pub returns : goal.returns
returns c =
    let mode = c.args.mode in
    let l = lock_seen c.args.state.now in
    let owner = c.args.owner.now in
    let other : is_lock_of owner l ≡ false = sym c.is_of.ensures ∙ c.if-is_of.false in
    let refuses_as : (byte : ℕ) → refuses owner mode byte l ≡ conflicts mode (l.modes byte) =
    λ byte. ap (λ own. not own && conflicts mode (l.modes byte)) other in
    let byte = c.args.byte in
    let passes : refuses_for l.owner owner mode byte l ≡ true =
    and_from (is_lock_of l.owner l) (refuses owner mode byte l) (same_self l.owner) (refuses_as byte ∙ c.requires.1) in
    let found = cond-true (refuses_for l.owner owner mode byte l) (Some l) None passes in (
      c.requires.0,
      ((λ byte from below. refuses_as byte ∙ c.requires.2 byte from below), tt),
      ((λ refused. ap is_gt (tied_itself owners_total l.owner)), tt),
      (l, found, c.in_ok-run.ensures),
    )
