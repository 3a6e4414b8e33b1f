use Rattle.std.proofs.Common.{◌∙◌, ap, find}
use Rattle.nfs_rows.specs.Rows.{is_numbered as is_row, value_in}
use Rattle.nfs_rows.proofs.Callers.{find_seen}
use Rattle.nfs_share.specs.KeptOpens.{RoomyOpens}
use Rattle.nfs_share.specs.Opens.{is_numbered, open_with_number}
use Rattle.nfs_share.proofs.KeptOpens.{numbers}
use Rattle.nfs_share.proofs.open_table.OpenTable.find.Goals as goal

pub returns : goal.returns
returns c =
    let rows = c.self.inside.rows.rows in
    c.find.ensures ∙ ap (λ n. value_in (find (is_row n) rows)) c.from.ensures
    ∙ find_seen (λ r. r.value) (is_row c.args.number) (is_numbered c.args.number) rows (numbers c.self.inside.names rows c.self.invariant.kept c.args.number)
    ∙ ap (λ (t : RoomyOpens). open_with_number c.args.number t.opens) c.self.view_is
