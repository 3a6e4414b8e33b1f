use Rattle.std.proofs.Common.{◌∙◌, ap, map, nat_lt, sym}
use Rattle.std.specs.List.{list_any}
use Rattle.nfs_share.specs.KeptOpens.{RoomyOpens, mark_in, opens_kept}
use Rattle.nfs_share.specs.Opens.{is_of_client}
use Rattle.nfs_share.specs.Tally.{is_own}
use Rattle.nfs_share.specs.declared.count.Count.{Count}
use Rattle.nfs_share.proofs.Counting.{some_or_more}
use Rattle.nfs_share.proofs.ShareSums.{any_map}
use Rattle.nfs_share.proofs.open_table.OpenTable.has_client.Goals as goal

pub returns : goal.returns
returns c =
    let client = c.args.client in
    let opens = opens_kept c.self.inside.rows.rows in
    ap (λ (n : Count). nat_lt 0 n.all) (c.own.ensures (map mark_in opens) c.self.invariant.tally)
    ∙ some_or_more (is_own client) (map mark_in opens)
    ∙ sym (any_map mark_in (is_own client) opens)
    ∙ ap (λ (t : RoomyOpens). list_any (is_of_client client) t.opens) c.self.view_is
