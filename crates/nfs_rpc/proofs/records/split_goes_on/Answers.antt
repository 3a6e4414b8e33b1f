use Rattle.nfs_rpc.proofs.Splitting.{split_goes_on}
use Rattle.nfs_rpc.proofs.records.split_goes_on.Goals as goal

pub returns : goal.returns
returns c = split_goes_on
