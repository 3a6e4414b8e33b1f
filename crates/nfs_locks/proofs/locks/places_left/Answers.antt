use Rattle.std.proofs.Common.{◌-◌, arith}
use Rattle.nfs_locks.specs.AllLocks.{lock_count}
use Rattle.nfs_locks.proofs.Files.{all_counted, place_taken, seen_in}
use Rattle.nfs_locks.proofs.locks.places_left.Goals as goal

pub loop-file-preserved : goal.loop-file-preserved
loop-file-preserved c =
    let files = c.args.files.now in
    place_taken files c.loop-file.file-index c.file-item.result c.loop-file.left c.len.result c.saturating_sub-left.result
    (c.args.limit - lock_count (seen_in files)) c.loop-file-test.true c.file-item.is c.len.ensures
    (omega (arith, c.saturating_sub-left.ensures)) c.loop-file.invariant

pub returns : goal.returns
returns c = all_counted c.args.files.now c.loop-file.left c.args.limit c.loop-file.file-index c.loop-file-test.false c.loop-file.invariant
