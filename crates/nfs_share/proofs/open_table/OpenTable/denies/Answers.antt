use Rattle.std.proofs.Common.{◌∙◌, ap, map, sym}
use Rattle.nfs_share.specs.KeptOpens.{RoomyOpens, opens_kept}
use Rattle.nfs_share.specs.Modes.{meets}
use Rattle.nfs_share.specs.Opens.{is_denied, share_of}
use Rattle.nfs_share.specs.declared.share.Share.{Share}
use Rattle.nfs_share.proofs.ShareSums.{any_map, denied_by_one}
use Rattle.nfs_share.proofs.open_table.OpenTable.denies.Goals as goal

pub returns : goal.returns
returns c =
    let modes = c.args.modes in
    let opens = opens_kept c.self.inside.rows.rows in
    c.meets.ensures ∙ ap (λ (s : Share). meets s.deny modes) (c.union.ensures (map share_of opens) c.self.invariant.counts_are)
    ∙ sym (denied_by_one modes (map share_of opens))
    ∙ sym (any_map share_of (λ s. meets s.deny modes) opens)
    ∙ ap (λ (t : RoomyOpens). is_denied modes t.opens) c.self.view_is
