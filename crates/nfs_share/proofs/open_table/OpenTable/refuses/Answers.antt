use Rattle.std.proofs.Common.{◌≡◌, ◌∙◌, ap, false, map, rules, sym}
use Rattle.std.specs.List.{list_any}
use Rattle.std.specs.Prelude.{not}
use Rattle.nfs_share.specs.KeptOpens.{RoomyOpens, opens_kept}
use Rattle.nfs_share.specs.Opens.{is_of, is_refused, share_of, without}
use Rattle.nfs_share.specs.Share.{conflicts_with}
use Rattle.nfs_share.proofs.ShareSums.{any_map, any_without, conflict_of_one, none_of_both}
use Rattle.nfs_share.proofs.open_table.OpenTable.refuses.Goals as goal

pub returns-then-not-conflicts_with : goal.returns-then-not-conflicts_with
returns-then-not-conflicts_with c =
    let share = c.args.share in
    let opens = opens_kept c.self.inside.rows.rows in
    let passed : c.conflicts_with.result ≡ false = search rules in
    let none : list_any (λ o. conflicts_with share (share_of o)) opens ≡ false =
    any_map share_of (conflicts_with share) opens
    ∙ conflict_of_one share (map share_of opens)
    ∙ ap (conflicts_with share) (sym (c.union.ensures (map share_of opens) c.self.invariant.counts_are))
    ∙ sym c.conflicts_with.ensures ∙ passed in
    sym (none_of_both (λ o. not (is_of c.args.owner.now o)) (λ o. conflicts_with share (share_of o)) opens none)
    ∙ ap (λ (t : RoomyOpens). is_refused c.args.owner.now share t.opens) c.self.view_is

pub returns : goal.returns
returns c =
    let owner = c.args.owner.now in
    let share = c.args.share in
    let opens = c.args.self.now.opens in
    let left = without (is_of owner) opens in
    c.conflicts_with-2.ensures ∙ ap (conflicts_with share) c.share_of_others.ensures
    ∙ sym (conflict_of_one share (map share_of left))
    ∙ sym (any_map share_of (conflicts_with share) left)
    ∙ sym (any_without (is_of owner) (λ o. conflicts_with share (share_of o)) opens)
