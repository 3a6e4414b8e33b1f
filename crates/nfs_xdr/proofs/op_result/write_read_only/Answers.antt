use Rattle.std.proofs.Common.{ap, sym, ◌∙◌}
use Rattle.nfs_xdr.proofs.Refusals.{read_only_encoding, read_only_fits, read_only_numbers, written_as}
use Rattle.nfs_xdr.proofs.op_result.write_read_only.Goals as goal
use Rattle.nfs_xdr.specs.Opnum.{opnum}
use Rattle.nfs_xdr.specs.declared.opnum.Opnum.TheVariants as opnums
use Rattle.nfs_xdr.specs.declared.opnum.Unsupported.{Unsupported}
use Rattle.xdr.specs.Form.{◌and◌, u32}

pub returns : goal.returns
returns c =
    let encoded = read_only_encoding c.args.change ∙ ap (λ (o : Unsupported). (opnum and u32).encoding (opnums.Unsupported o, 30)) (sym c.operation.ensures) in
    written_as c.args.out.now c.write_two.new.out c.write_two.result _ _ _ _ encoded (read_only_numbers c.operation.result) (read_only_fits c.args.change) c.write_two.ensures
