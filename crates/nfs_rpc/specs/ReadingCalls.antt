-- How the call is read from a record, check by check, in the order of the code. It gives what `CallsFor` says.
use Rattle.std.specs.Prelude.{ℕ, ◌==◌, not, List, Option, Some, None, Result, Ok, Err, if◌then◌else◌}
use Rattle.nfs_rpc.specs.declared.rpc_call.RpcCall.{RpcCall}
use Rattle.nfs_rpc.specs.declared.rpc_call.RpcCall.TheVariants.{Silent, Null, Compound, Answer}
use Rattle.nfs_rpc.specs.declared.rpc_call.Header.{Header}
use Rattle.nfs_rpc.specs.declared.rpc_call.Start.{Start}
use Rattle.nfs_rpc.specs.declared.rpc_call.TheConstants.{NFS_PROGRAM, NFS_VERSION, PROC_COMPOUND, PROC_NULL, RPC_VERSION}
use Rattle.nfs_rpc.specs.declared.reply.Reply.TheVariants.{RpcMismatch, AuthError, ProgUnavail, ProgMismatch, ProcUnavail, GarbageArgs}
use Rattle.nfs_rpc.specs.RpcCall.{Body, body, start}
use Rattle.nfs_rpc.specs.Credential.{principal_of}
use Rattle.nfs_forms.specs.declared.principal.Principal.{Principal}
use Rattle.nfs_xdr.specs.Compound.{compound_at}
use Rattle.nfs_xdr.specs.declared.compound.Compound.{Compound as CompoundArgs}
use Rattle.xdr.specs.declared.wire_error.WireError.{WireError}
use Rattle.xdr.specs.Reading.{Read, as_value}

-- what is kept of a header after the RPC version
abbrev pub header_of : Body → Header
header_of b =
    record {
      program = b.program;
      version = b.version;
      procedure = b.procedure;
      principal = principal_of b.credential;
    }

abbrev pub header_at : List ℕ → Read Header
header_at = as_value header_of body.at

-- the next check if the value could be read, and otherwise the given call
abbrev pub read_or : {A : Type 0} → RpcCall → Read A → (A → List ℕ → RpcCall) → RpcCall
read_or call (Ok x) check = check x.0 x.1
read_or call (Err e) check = call

abbrev pub some_or : {A : Type 0} → RpcCall → Option A → (A → RpcCall) → RpcCall
some_or call (Some x) check = check x
some_or call None check = call

-- a COMPOUND if its arguments can be read, and otherwise garbage
abbrev pub compound_or_garbage : ℕ → Principal → Result CompoundArgs WireError → RpcCall
compound_or_garbage xid principal (Ok compound) = Compound xid principal compound
compound_or_garbage xid principal (Err e) = Answer xid GarbageArgs

-- the call of a header whose credential is accepted
abbrev pub procedure_call : ℕ → Header → List ℕ → Principal → RpcCall
procedure_call xid h rest principal =
    if not (h.program == NFS_PROGRAM) then Answer xid ProgUnavail
    else if not (h.version == NFS_VERSION) then Answer xid ProgMismatch
    else if h.procedure == PROC_NULL then Null xid
    else if not (h.procedure == PROC_COMPOUND) then Answer xid ProcUnavail
    else compound_or_garbage xid principal (compound_at rest)

-- the call of a header whose RPC version is accepted
abbrev pub header_call : ℕ → Header → List ℕ → RpcCall
header_call xid h rest = some_or (Answer xid AuthError) h.principal (procedure_call xid h rest)

abbrev pub start_call : Start → List ℕ → RpcCall
start_call s rest =
    if not (s.rpc_version == RPC_VERSION) then Answer s.xid RpcMismatch
    else read_or Silent (header_at rest) (header_call s.xid)

abbrev pub call_of : List ℕ → RpcCall
call_of message = read_or Silent (start.at message) start_call
