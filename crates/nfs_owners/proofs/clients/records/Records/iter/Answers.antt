use Rattle.std.proofs.Common.{◌∙◌, ap, map}
use Rattle.nfs_rows.proofs.Callers.{values_shown}
use Rattle.nfs_owners.specs.Records.{RoomyRecords}
use Rattle.nfs_owners.proofs.clients.records.Records.iter.Goals as goal

pub returns : goal.returns
returns c = ap (map (λ item. item.1)) c.iter.ensures ∙ values_shown c.self.inside.rows.rows ∙ ap (λ (s : RoomyRecords). s.records) c.self.view_is
