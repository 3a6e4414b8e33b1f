use Rattle.std.proofs.Common.{◌≡◌, ◌&&◌, ◌∙◌, Bool, ap, false, map, nat_lt, not, refl, sym, true}
use Rattle.nfs_share.specs.Delegations.{bars}
use Rattle.nfs_share.specs.KeptOpens.{RoomyOpens, mark_in, opens_kept}
use Rattle.nfs_share.specs.Opens.{is_of_client}
use Rattle.nfs_share.specs.Tally.{is_own}
use Rattle.nfs_share.specs.declared.count.Count.{Count}
use Rattle.nfs_share.specs.declared.delegation.DelegationKind.TheVariants as kinds
use Rattle.nfs_share.proofs.Counting.{some_or_more}
use Rattle.nfs_share.proofs.ShareSums.{any_alike, any_map}
use Rattle.nfs_share.proofs.open_table.OpenTable.bars.Goals as goal

and_true : (b : Bool) → b ≡ (b && true)
and_true true = refl
and_true false = refl

pub returns-in-Read : goal.returns-in-Read
returns-in-Read c =
    let client = c.args.client in
    let opens = opens_kept c.self.inside.rows.rows in
    ap (λ (n : Count). nat_lt 0 n.marked) (c.others-others.ensures (map mark_in opens) c.self.invariant.tally)
    ∙ some_or_more (λ m. not (is_own client m) && m.marked) (map mark_in opens)
    ∙ sym (any_map mark_in (λ m. not (is_own client m) && m.marked) opens)
    ∙ ap (λ (t : RoomyOpens). bars client kinds.Read t.opens) c.self.view_is
    ∙ ap (λ kind. bars client kind c.args.self.now.opens) (sym c.in-Read.is)

pub returns-in-Write : goal.returns-in-Write
returns-in-Write c =
    let client = c.args.client in
    let opens = opens_kept c.self.inside.rows.rows in
    ap (λ (n : Count). nat_lt 0 n.all) (c.others-others.ensures (map mark_in opens) c.self.invariant.tally)
    ∙ some_or_more (λ m. not (is_own client m)) (map mark_in opens)
    ∙ sym (any_map mark_in (λ m. not (is_own client m)) opens)
    ∙ any_alike (λ o. not (is_of_client client o)) (λ o. not (is_of_client client o) && true) (λ o. and_true (not (is_of_client client o))) opens
    ∙ ap (λ (t : RoomyOpens). bars client kinds.Write t.opens) c.self.view_is
    ∙ ap (λ kind. bars client kind c.args.self.now.opens) (sym c.in-Write.is)
