-- The messages of the calls to a client are short enough for one fragment.
use Rattle.std.proofs.Common.{ℕ, ◌≤◌, [], ◌∷◌, length, arith}
use Rattle.std.proofs.lemmas.List.{length-append, length-take}
use Rattle.xdr.specs.Writing.{written_number, written_opaque, zeros}
use Rattle.xdr.specs.Layout.{padding_of}
use Rattle.nfs_rpc.specs.AuthSys.{auth_sys}
use Rattle.nfs_rpc.specs.CallbackCall.{callback_header, recall_args, recall_call, recall_form}
use Rattle.nfs_rpc.specs.RpcCall.{body, header, start}
use Rattle.nfs_rpc.specs.declared.callback_call.TheConstants.{CB_COMPOUND}
use Rattle.nfs_rpc.specs.declared.recall.Recall.{Recall}
use Rattle.nfs_forms.specs.declared.file_handle.TheConstants.{FILE_HANDLE_LIMIT}
use Rattle.nfs_forms.specs.declared.principal.Principal.{Principal}
use Rattle.nfs_forms.specs.declared.principal.Principal.TheVariants.{AuthNone, AuthSys}
use Rattle.nfs_forms.specs.ClientId.{client_id}
use Rattle.nfs_forms.specs.Stateid.{stateid}

pub header_len : (xid program procedure : ℕ) (principal : Principal) → length (header.encoding (callback_header xid program procedure principal)) ≤ 60
unfolding written_number written_opaque start body auth_sys
header_len xid program procedure AuthNone = omega arith
header_len xid program procedure (AuthSys uid) = omega arith

pub recall_len : (xid : ℕ) (recall : Recall) → length recall.handle ≤ FILE_HANDLE_LIMIT → length (recall_form.encoding (recall_call xid recall)) ≤ 240
unfolding written_number written_opaque stateid client_id
recall_len xid recall few =
    let call = recall_call xid recall in
    let front : length (header.encoding call.0) ≤ 60 = header_len xid recall.callback.program CB_COMPOUND recall.principal in
    let padding : length (zeros (padding_of (length recall.handle))) ≤ 4 = omega (arith, length-take {A = ℕ} (padding_of (length recall.handle)) (0 ∷ 0 ∷ 0 ∷ 0 ∷ [])) in
    let all = length-append (header.encoding call.0) (recall_args.encoding call.1) in
    let handle = length-append recall.handle (zeros (padding_of (length recall.handle))) in
    omega (arith, all, handle, padding, front, few)
