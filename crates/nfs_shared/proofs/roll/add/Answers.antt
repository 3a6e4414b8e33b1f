use Rattle.std.proofs.Common.{◌+◌, ◌==◌, sym, subst, arith}
use mathlib.Core.Option.{some}
use prog.Atomic.{either}
use Rattle.atomic_table.specs.Table.{step, Allows, Me}
use Rattle.nfs_shared.specs.declared.receipt.Receipt.{Receipt}
use Rattle.nfs_shared.specs.declared.roll.View.{View}
use Rattle.nfs_shared.specs.Roll.{Kept, Added}
use Rattle.nfs_shared.proofs.Moves.{adds}
use Rattle.nfs_shared.proofs.roll.add.Goals as goal

pub compare_exchange_with-requires : goal.compare_exchange_with-requires
compare_exchange_with-requires c =
    let slots = c.args.roll.now.shared.table_id.slots in
    let count = c.args.count in
    let writer = c.args.writer.now in (
      c.requires.writer.0.0,
      omega (arith, c.requires.writer.0.1),
      subst (λ (me : Me Receipt View). Allows Kept slots writer.id me 0 (λ n. either (n == count) (count + 1) n) (Added (step slots 0 count (count + 1) (some c.args.receipt.now)) me)) (sym c.requires.writer.1) (adds slots writer.id writer.me.0.list _ count c.args.receipt.now c.requires.count.0),
    )
