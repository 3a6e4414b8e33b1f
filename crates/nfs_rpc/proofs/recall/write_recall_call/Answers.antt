use Rattle.std.proofs.Common.{rules, ◌≤◌, length, arith}
use Rattle.nfs_rpc.specs.CallbackCall.{recall_call, recall_form}
use Rattle.nfs_forms.specs.declared.file_handle.TheConstants.{FILE_HANDLE_LIMIT}
use Rattle.nfs_rpc.proofs.Callbacks.{recall_len}
use Rattle.nfs_rpc.proofs.WrittenRecords.{fits_fragment, header_space, record_after}
use Rattle.xdr.specs.Writing.{written_u32}
use Rattle.nfs_rpc.proofs.recall.write_recall_call.Goals as goal

pub end_record-requires-clause-short : goal.end_record-requires-clause-short
end_record-requires-clause-short c =
    let space = c.in_ok-write_u32.ensures in
    let written = c.in-Ok.ensures.message in
    let few : length c.args.recall.now.handle ≤ FILE_HANDLE_LIMIT = written.0.1.1.1.1.1.0 in
    fits_fragment c.args.out.now.items (written_u32 0) c.write_u32.new.out.items (recall_form.encoding (recall_call c.args.xid c.args.recall.now)) c.write_recall_message.new.out.items
    c.len-start.result (search rules) header_space space.0.0 written.0.0 (recall_len c.args.xid c.args.recall.now few)

pub returns-in-Ok-clause-call : goal.returns-in-Ok-clause-call
returns-in-Ok-clause-call c =
    let space = c.in_ok-write_u32.ensures in
    let written = c.in-Ok.ensures.message in (
      (
        record_after c.args.out.now.items (written_u32 0) c.write_u32.new.out.items (recall_form.encoding (recall_call c.args.xid c.args.recall.now)) c.write_recall_message.new.out.items
            c.end_record.new.out.items c.len-start.result (search rules) header_space space.0.0 written.0.0 c.end_record.ensures.record,
        written.0.1,
      ),
      tt,
      search rules,
      search rules,
      search rules,
      omega (arith, space.5, written.5, c.end_record.ensures.room),
    )
