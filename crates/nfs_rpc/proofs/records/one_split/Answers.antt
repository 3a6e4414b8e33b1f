use Rattle.nfs_rpc.proofs.Splitting.{one_split}
use Rattle.nfs_rpc.proofs.records.one_split.Goals as goal

pub returns : goal.returns
returns c = one_split
