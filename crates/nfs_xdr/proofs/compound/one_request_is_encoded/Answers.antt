use Rattle.nfs_xdr.proofs.ArgOps.{one_operation}
use Rattle.nfs_xdr.proofs.Compounds.{one_compound}
use Rattle.nfs_xdr.proofs.compound.one_request_is_encoded.Goals as goal

pub returns-clause-operation : goal.returns-clause-operation
returns-clause-operation c = one_operation

pub returns-clause-compound : goal.returns-clause-compound
returns-clause-compound c = one_compound
