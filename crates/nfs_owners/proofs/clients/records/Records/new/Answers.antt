use Rattle.nfs_owners.proofs.RecordRows.{rows_none}
use Rattle.nfs_owners.proofs.clients.records.Records.new.Goals as goal

pub invariant_of-result : goal.invariant_of-result
invariant_of-result c = rows_none c.args.ids c.new.result c.new-2.result c.new.ensures c.new-2.ensures.empty
