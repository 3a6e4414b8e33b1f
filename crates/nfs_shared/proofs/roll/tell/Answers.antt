use Rattle.std.proofs.Common.{◌∙◌, ap, arith}
use Rattle.nfs_shared.proofs.Moves.{copies, takes_longer}
use Rattle.nfs_shared.proofs.roll.tell.Goals as goal

pub split_seat-note-requires : goal.split_seat-note-requires
split_seat-note-requires c = (c.requires.writer.0.0, omega (arith, c.requires.token.0.1), copies c.args.writer.now.id c.args.writer.now.me.0)

pub join_seat-requires : goal.join_seat-requires
join_seat-requires c =
    let note = c.split_seat-note in
    (c.requires.token.0.0, note.ensures.3 ∙ c.requires.writer.0.0, ap (λ m. m.1) note.ensures.4, omega (arith, c.requires.token.0.1), takes_longer c.args.token.now.id c.args.token.now.me.0 note.result.id note.result.me.0)
