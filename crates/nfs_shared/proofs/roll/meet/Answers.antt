use Rattle.std.proofs.Common.{◌∙◌, ap, arith}
use Rattle.nfs_shared.proofs.Moves.{copies, puts_beside, compares}
use Rattle.nfs_shared.proofs.roll.meet.Goals as goal

pub split_seat-note-requires : goal.split_seat-note-requires
split_seat-note-requires c = (c.requires.token.0.0, omega (arith, c.requires.token.0.1), copies c.args.token.now.id c.args.token.now.me.0)

pub join_seat-requires : goal.join_seat-requires
join_seat-requires c =
    let note = c.split_seat-note in
    (c.requires.writer.0.0, note.ensures.3 ∙ c.requires.token.0.0, ap (λ m. m.1) note.ensures.4, omega (arith, c.requires.token.0.1), puts_beside c.args.writer.now.id c.args.writer.now.me.0 note.result.id note.result.me.0)

pub load-requires : goal.load-requires
load-requires c =
    let joined = c.join_seat in
    (joined.ensures.0 ∙ c.requires.writer.0.0, omega (arith, c.requires.token.0.1), compares _ joined.new.seat.id joined.new.seat.me.0 joined.new.seat.me.1 (ap (λ m. m.0.writes) joined.ensures.2 ∙ ap (λ m. m.0.writes) c.requires.writer.1))
