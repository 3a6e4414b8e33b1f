use Rattle.std.proofs.Common.{◌≡◌, ◌≤◌, length}
use Rattle.nfs_orders.proofs.order.Order.read.Given as goal

abbrev pub invariant-loop-text : goal.invariant-loop-text
invariant-loop-text l = (l.count ≤ 4) × (length l.words ≡ 4)
