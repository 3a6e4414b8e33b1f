use Rattle.std.proofs.Common.{◌∙◌, ap, find, option_copied, sym}
use Rattle.std.specs.Prelude.{nat_eq}
use Rattle.indexmap.specs.IndexMap.{get}
use Rattle.nfs_owners.specs.Closers.{closed_of}
use Rattle.nfs_owners.specs.Kept.{summary_closes}
use Rattle.nfs_owners.specs.OwnerRows.{RoomyOwnerRows, owners_in}
use Rattle.nfs_owners.proofs.Closing.{closer_found, closer_missed, no_number, none_closed}
use Rattle.nfs_owners.proofs.owner_rows.OwnerRows.closer_of.Goals as goal

pub returns-in_err-row : goal.returns-in_err-row
returns-in_err-row c =
    ap option_copied c.from_residual.ensures
    ∙ none_closed c.args.client c.args.number (get nat_eq c.self.inside.closers.index) c.self.inside.rows.rows c.len-rows.ensures.order (c.self.invariant.1 c.if-self.false) (sym c.in_err-row.ensures)
    ∙ ap (λ (o : RoomyOwnerRows). find (λ o. summary_closes c.args.client c.args.number o.state.kept) (owners_in o.rows)) c.self.view_is

pub returns-in_err-owner : goal.returns-in_err-owner
returns-in_err-owner c =
    absurd (no_number c.args.number (ap closed_of c.in_err-owner.ensures ∙ (c.self.invariant.1 c.if-self.false).own c.args.number c.in_ok-row.row (sym c.in_ok-row.ensures)))

pub returns-then-closes : goal.returns-then-closes
returns-then-closes c =
    closer_found c.args.client c.args.number c.in_ok-row.row c.in_ok-owner.owner.now (get nat_eq c.self.inside.closers.index) c.self.inside.rows.rows c.len-rows.ensures.order (c.self.invariant.1 c.if-self.false)
    (sym c.in_ok-row.ensures) c.in_ok-owner.ensures (sym c.closes.ensures ∙ c.if-closes.true)
    ∙ ap (λ (o : RoomyOwnerRows). find (λ o. summary_closes c.args.client c.args.number o.state.kept) (owners_in o.rows)) c.self.view_is

pub returns-else-closes : goal.returns-else-closes
returns-else-closes c =
    closer_missed c.args.client c.args.number c.in_ok-row.row c.in_ok-owner.owner.now (get nat_eq c.self.inside.closers.index) c.self.inside.rows.rows c.len-rows.ensures.order (c.self.invariant.1 c.if-self.false)
    (sym c.in_ok-row.ensures) c.in_ok-owner.ensures (sym c.closes.ensures ∙ c.if-closes.false)
    ∙ ap (λ (o : RoomyOwnerRows). find (λ o. summary_closes c.args.client c.args.number o.state.kept) (owners_in o.rows)) c.self.view_is
