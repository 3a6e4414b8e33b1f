use Rattle.std.proofs.Common.{◌∙◌, ap, sym, arith}
use Rattle.nfs_shared.proofs.Moves.{copies}
use Rattle.nfs_shared.proofs.shared.new_seat.Goals as goal

pub split_seat-token-requires : goal.split_seat-token-requires
split_seat-token-requires g c =
    (c.requires.writer.0.0 ∙ sym c.requires.roll, omega (arith, ap (λ t. t.words) c.requires.roll, c.requires.writer.0.1), copies c.args.writer.now.id c.args.writer.now.me.0)
