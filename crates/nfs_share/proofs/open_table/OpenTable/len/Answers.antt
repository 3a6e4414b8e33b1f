use Rattle.std.proofs.Common.{◌∙◌, ap, length}
use Rattle.nfs_share.specs.KeptOpens.{RoomyOpens}
use Rattle.nfs_share.proofs.KeptOpens.{kept_length}
use Rattle.nfs_share.proofs.open_table.OpenTable.len.Goals as goal

pub returns : goal.returns
returns c =
    c.len.ensures.len ∙ kept_length c.self.inside.rows.rows
    ∙ ap (λ (t : RoomyOpens). length t.opens) c.self.view_is
