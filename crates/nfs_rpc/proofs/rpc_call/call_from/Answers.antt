use Rattle.std.proofs.Common.{arith}
use Rattle.nfs_rpc.specs.declared.reply.TheConstants.{ACCEPTED_PROC_UNAVAIL, ACCEPTED_PROG_UNAVAIL}
use Rattle.nfs_rpc.proofs.Limits.{accepted_is_short, auth_error_is_short, prog_mismatch_is_short, rpc_mismatch_is_short}
use Rattle.nfs_rpc.proofs.rpc_call.call_from.Goals as goal

pub returns-then-start-ne-RPC_VERSION-clause-limits : goal.returns-then-start-ne-RPC_VERSION-clause-limits
returns-then-start-ne-RPC_VERSION-clause-limits c = (rpc_mismatch_is_short c.in-Ok.start.xid, omega arith)

pub returns-in_default-principal-clause-limits : goal.returns-in_default-principal-clause-limits
returns-in_default-principal-clause-limits c = (auth_error_is_short c.in-Ok.start.xid, omega arith)

pub returns-then-header-ne-NFS_PROGRAM-clause-limits : goal.returns-then-header-ne-NFS_PROGRAM-clause-limits
returns-then-header-ne-NFS_PROGRAM-clause-limits c = (accepted_is_short c.in-Ok.start.xid ACCEPTED_PROG_UNAVAIL, omega arith)

pub returns-then-header-ne-NFS_VERSION-clause-limits : goal.returns-then-header-ne-NFS_VERSION-clause-limits
returns-then-header-ne-NFS_VERSION-clause-limits c = (prog_mismatch_is_short c.in-Ok.start.xid, omega arith)

pub returns-in_default-procedure-clause-limits : goal.returns-in_default-procedure-clause-limits
returns-in_default-procedure-clause-limits c = (accepted_is_short c.in-Ok.start.xid ACCEPTED_PROC_UNAVAIL, omega arith)
