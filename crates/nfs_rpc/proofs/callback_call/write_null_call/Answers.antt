use Rattle.std.proofs.Common.{rules, ◌≤◌, length, arith}
use Rattle.nfs_rpc.specs.CallbackCall.{null_call}
use Rattle.nfs_rpc.specs.RpcCall.{header}
use Rattle.nfs_rpc.specs.declared.callback_call.TheConstants.{CB_NULL}
use Rattle.nfs_forms.specs.declared.principal.Principal.TheVariants.{AuthNone}
use Rattle.nfs_rpc.proofs.Callbacks.{header_len}
use Rattle.nfs_rpc.proofs.WrittenRecords.{fits_fragment, header_space, record_after}
use Rattle.xdr.specs.Writing.{written_u32}
use Rattle.nfs_rpc.proofs.callback_call.write_null_call.Goals as goal

pub end_record-requires-clause-short : goal.end_record-requires-clause-short
end_record-requires-clause-short c =
    let space = c.in_ok-write_u32.ensures in
    let written = c.in-Ok.ensures.call in
    let short : length (header.encoding (null_call c.args.xid c.args.program)) ≤ 60 = header_len c.args.xid c.args.program CB_NULL AuthNone in
    fits_fragment c.args.out.now.items (written_u32 0) c.write_u32.new.out.items (header.encoding (null_call c.args.xid c.args.program)) c.write_callback_header.new.out.items c.len-start.result
    (search rules) header_space space.0.0 written.0.0 (omega (arith, short))

pub returns-in-Ok-clause-call : goal.returns-in-Ok-clause-call
returns-in-Ok-clause-call c =
    let space = c.in_ok-write_u32.ensures in
    let written = c.in-Ok.ensures.call in (
      (
        record_after c.args.out.now.items (written_u32 0) c.write_u32.new.out.items (header.encoding (null_call c.args.xid c.args.program)) c.write_callback_header.new.out.items
            c.end_record.new.out.items c.len-start.result (search rules) header_space space.0.0 written.0.0 c.end_record.ensures.record,
        written.0.1,
      ),
      tt,
      search rules,
      search rules,
      search rules,
      omega (arith, space.5, written.5, c.end_record.ensures.room),
    )
