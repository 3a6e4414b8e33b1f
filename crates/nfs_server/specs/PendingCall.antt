-- A record and the call in it, as contracts see a call that waits for its answer.
use Rattle.std.specs.Prelude.{◌≡◌, ℕ, ◌≤◌, List, [], vec_capacity}
use Rattle.std.specs.Global.{Vec}
use Rattle.nfs_rpc.specs.RpcCall.{IsCall, IsCallWithinLimits}
use Rattle.nfs_rpc.specs.declared.records.TheConstants.{RECORD_LIMIT}
use Rattle.nfs_rpc.specs.declared.rpc_call.RpcCall.{RpcCall}
use Rattle.nfs_rpc.specs.declared.rpc_call.RpcCall.TheVariants as calls
use Rattle.nfs_xdr.specs.declared.compound.TheConstants.{OPERATION_LIMIT}
use Rattle.nfs_xdr.specs.declared.op_result.OpResult.{OpResult}

pub record PendingView : Type 0 where
  pub message : List ℕ
  pub call : RpcCall

-- the record was read as this call, which is within the limits of a record's
abbrev pub IsRead : PendingView → Type 0
IsRead pending = IsCall pending.message pending.call × IsCallWithinLimits RECORD_LIMIT pending.call

-- for a COMPOUND the list is empty, and has room for the results of as many operations as it may have
abbrev pub HasResultRoom : RpcCall → Vec OpResult → Type 0
HasResultRoom (calls.Compound xid principal c) results =
    (results.items ≡ []) × (OPERATION_LIMIT ≤ vec_capacity results)
HasResultRoom call results = Unit {0}
