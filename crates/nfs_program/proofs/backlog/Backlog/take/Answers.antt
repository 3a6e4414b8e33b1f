use Rattle.std.proofs.Common.{arith}
use Rattle.nfs_program.proofs.Backlogs.{is_entry, no_place_at}
use Rattle.nfs_program.proofs.Putting.{on_err}
use Rattle.nfs_program.proofs.backlog.Backlog.take.Goals as goal

pub returns-in_err-put-clause-err : goal.returns-in_err-put-clause-err
returns-in_err-put-clause-err c =
    on_err c.from_residual.result _
    (no_place_at c.args.self.now c.loop-entry.self c.put.new.self c.args.journal.now.history.entries c.piece_from-piece.result.now c.loop-entry.entry-index c.entry-item.result
    c.piece_from-piece.ensures c.loop-entry-test.true c.entry-item.is c.loop-entry.invariant.count c.loop-entry.invariant.room
    c.in_err-put.ensures.0 c.in_err-put.ensures.1 c.in_err-put.ensures.2)

pub put-requires : goal.put-requires
put-requires c =
    omega (arith, c.loop-entry.invariant.count, c.len-end.ensures, is_entry c.args.self.now.count c.loop-entry.entry-index c.args.journal.now.history.entries c.piece_from-piece.result.now c.piece_from-piece.ensures c.loop-entry-test.true)
