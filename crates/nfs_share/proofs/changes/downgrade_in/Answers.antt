use Rattle.std.proofs.Common.{◌∙◌, ap, sym}
use Rattle.std.specs.Option.{option_copied_mut}
use Rattle.nfs_share.specs.Opens.{after_downgrade, share_of}
use Rattle.nfs_share.specs.declared.open_state.OpenState.{OpenState}
use Rattle.nfs_share.proofs.AtMostOne.{same_some}
use Rattle.nfs_share.proofs.KeptOpens.{changed, found_number, unchanged}
use Rattle.nfs_share.proofs.changes.downgrade_in.Goals as goal

pub returns-in-Some-clause-rows : goal.returns-in-Some-clause-rows
returns-in-Some-clause-rows c =
    let found = c.find_mut.ensures in
    ap (λ rows. record { rows = rows; room = c.args.opens.now.room })
    (changed c.args.number c.from.result c.from.ensures (after_downgrade c.args.share) c.args.opens.now.rows c.in-Some.open.now c.downgrade.new.self found.order
    (sym (ap option_copied_mut c.in-Some.is) ∙ found.value) c.downgrade.ensures)

pub returns-in-Some-clause-some : goal.returns-in-Some-clause-some
returns-in-Some-clause-some c = λ o is.
    c.share.ensures ∙ ap share_of c.downgrade.ensures
    ∙ ap (λ (p : OpenState). share_of (after_downgrade c.args.share p))
    (same_some c.in-Some.open.now o (sym (ap option_copied_mut c.in-Some.is) ∙ found_number c.args.number c.from.result c.from.ensures c.args.opens.now.rows c.find_mut.ensures.value ∙ sym is))

pub returns-in-None-clause-rows : goal.returns-in-None-clause-rows
returns-in-None-clause-rows c =
    ap (λ rows. record { rows = rows; room = c.args.opens.now.room })
    (unchanged c.args.number c.from.result c.from.ensures (after_downgrade c.args.share) c.args.opens.now.rows (sym (ap option_copied_mut c.in-None.is) ∙ c.find_mut.ensures.value))

pub returns-in-None-clause-none : goal.returns-in-None-clause-none
returns-in-None-clause-none c =
    sym (ap option_copied_mut c.in-None.is) ∙ found_number c.args.number c.from.result c.from.ensures c.args.opens.now.rows c.find_mut.ensures.value
