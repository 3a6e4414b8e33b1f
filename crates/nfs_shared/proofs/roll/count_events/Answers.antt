use Rattle.std.proofs.Common.{arith}
use Rattle.nfs_shared.proofs.Moves.{counts}
use Rattle.nfs_shared.proofs.roll.count_events.Goals as goal

pub split_seat-requires : goal.split_seat-requires
split_seat-requires g c = (c.requires.token.0.0, omega (arith, c.requires.token.0.1), counts c.args.token.now.id c.args.token.now.me.0 g.C.Counted.count)
