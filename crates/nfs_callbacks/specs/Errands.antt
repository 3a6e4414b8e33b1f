-- What a callback to a client is for.
use Rattle.std.specs.Prelude.{ℕ, Bool, true, false, List}
use Rattle.nfs_callbacks.specs.declared.errand.Errand.{Errand}
use Rattle.nfs_callbacks.specs.declared.errand.Errand.TheVariants.{Recall, Null}
use Rattle.nfs_forms.specs.declared.callback.Callback.{Callback}
use Rattle.nfs_rpc.specs.CallbackCall.{null_call, recall_call, recall_form}
use Rattle.nfs_rpc.specs.Reply.{written_record}
use Rattle.nfs_rpc.specs.RpcCall.{header}

-- how the client is called
abbrev pub callback_of : Errand → Callback
callback_of (Recall recall) = recall.callback
callback_of (Null callback) = callback

-- whether the call is a CB_COMPOUND
abbrev pub is_compound : Errand → Bool
is_compound (Recall recall) = true
is_compound (Null callback) = false

-- the record of the call with this xid
abbrev pub call_of : ℕ → Errand → List ℕ
call_of xid (Recall recall) = written_record (recall_form.encoding (recall_call xid recall))
call_of xid (Null callback) = written_record (header.encoding (null_call xid callback.program))
