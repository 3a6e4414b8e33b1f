use Rattle.std.proofs.Common.{◌∙◌, ap, sym}
use Rattle.std.specs.Option.{option_copied_mut}
use Rattle.nfs_share.specs.Opens.{with_next_seqid}
use Rattle.nfs_share.proofs.KeptOpens.{changed, unchanged}
use Rattle.nfs_share.proofs.changes.advance_in.Goals as goal

pub returns-in-Some : goal.returns-in-Some
returns-in-Some c =
    let found = c.find_mut.ensures in
    ap (λ rows. record { rows = rows; room = c.args.opens.now.room })
    (changed c.args.number c.from.result c.from.ensures with_next_seqid c.args.opens.now.rows c.in-Some.open.now c.advance.new.self found.order
    (sym (ap option_copied_mut c.in-Some.is) ∙ found.value) c.advance.ensures)

pub returns-in_default : goal.returns-in_default
returns-in_default c =
    ap (λ rows. record { rows = rows; room = c.args.opens.now.room })
    (unchanged c.args.number c.from.result c.from.ensures with_next_seqid c.args.opens.now.rows (sym (ap option_copied_mut c.in_default.is) ∙ c.find_mut.ensures.value))
