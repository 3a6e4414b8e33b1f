use Rattle.nfs_xdr.proofs.Refusals.{unsupported_encoding, unsupported_fits, unsupported_numbers, written_as}
use Rattle.nfs_xdr.proofs.op_result.write_unsupported.Goals as goal

pub returns : goal.returns
returns c = written_as c.args.out.now c.write_two.new.out c.write_two.result _ _ _ _ (unsupported_encoding c.args.op) (unsupported_numbers c.args.op) (unsupported_fits c.args.op) c.write_two.ensures
