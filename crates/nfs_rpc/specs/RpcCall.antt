-- RPC calls (RFC 5531, section 9): which call a record is, and how it is to be handled.
use Rattle.std.specs.Prelude.{◌≡◌, ℕ, ◌+◌, ◌≤◌, ◌⊎◌, List, [], ◌∷◌, length}
use Rattle.std.proofs.Common.{refl}
use Rattle.nfs_rpc.specs.declared.rpc_call.RpcCall.{RpcCall}
use Rattle.nfs_rpc.specs.declared.rpc_call.RpcCall.TheVariants.{Silent, Null, Compound, Answer}
use Rattle.nfs_rpc.specs.declared.rpc_call.Start.{Start}
use Rattle.nfs_rpc.specs.declared.rpc_call.TheConstants.{MESSAGE_CALL, NFS_PROGRAM, NFS_VERSION, PROC_COMPOUND, PROC_NULL, RPC_VERSION}
use Rattle.nfs_rpc.specs.declared.reply.Reply.{Reply}
use Rattle.nfs_rpc.specs.declared.reply.Reply.TheVariants.{RpcMismatch, AuthError, ProgUnavail, ProgMismatch, ProcUnavail, GarbageArgs, SystemError}
use Rattle.nfs_rpc.specs.declared.reply.TheConstants.{SHORT_REPLY_LEN}
use Rattle.nfs_rpc.specs.Credential.{IsOf, OpaqueAuth, opaque_auth}
use Rattle.nfs_rpc.specs.Reply.{IsWritable, written_reply}
use Rattle.nfs_forms.specs.declared.principal.Principal.{Principal}
use Rattle.nfs_xdr.specs.Compound.{IsCompound}
use Rattle.nfs_xdr.specs.declared.compound.Compound.{Compound as CompoundArgs}
use Rattle.nfs_xdr.specs.declared.compound.CompoundRequest.{CompoundRequest}
use Rattle.nfs_xdr.specs.declared.compound.CompoundRequest.TheVariants.{MinorVersion, TooMany, Operations}
use Rattle.nfs_xdr.specs.declared.compound.TheConstants.{OPERATION_LIMIT}
use Rattle.xdr.specs.Form.{Form, ◌and◌, of, u32, constant}
use Rattle.xdr.specs.Reading.{Begins}

-- struct rpc_msg { unsigned int xid; union switch (msg_type mtype)
--   { case CALL: call_body cbody; case REPLY: reply_body rbody; } body; };
-- struct call_body { unsigned int rpcvers; unsigned int prog; unsigned int vers; unsigned int proc;
--   opaque_auth cred; opaque_auth verf; /* procedure-specific parameters start here */ };

-- the beginning of a call: xid, CALL and rpcvers, which is checked no matter what follows
unfoldable pub start : Form Start
start =
    of (λ p. record { xid = p.0; rpc_version = p.1.1 }) (λ s. (s.xid, (tt, s.rpc_version)))
    (λ p. refl) (λ s. refl)
    (u32 and constant MESSAGE_CALL and u32)

-- the rest of a header: prog, vers, proc, cred, verf
pub record Body : Type 0 where
  pub program : ℕ
  pub version : ℕ
  pub procedure : ℕ
  pub credential : OpaqueAuth
  pub verifier : OpaqueAuth

unfoldable pub body : Form Body
body =
    of
    (λ p. record {
      program = p.0;
      version = p.1.0;
      procedure = p.1.1.0;
      credential = p.1.1.1.0;
      verifier = p.1.1.1.1;
    })
    (λ b. (b.program, (b.version, (b.procedure, (b.credential, b.verifier)))))
    (λ p. refl) (λ b. refl)
    (u32 and u32 and u32 and opaque_auth and opaque_auth)

-- everything before the arguments
abbrev pub CallHeader : Type 0
CallHeader = Start × Body

abbrev pub header : Form CallHeader
header = start and body

-- The rules that decide what is to be done with a record, in the order in which they are tried.

-- A call of another version of RPC is denied.
abbrev pub HasAnotherRpc : List ℕ → RpcCall → Type 0
HasAnotherRpc message call =
    (s : Start) × (rest : List ℕ) × Begins (start.layout s) message rest
    × (s.rpc_version ≡ RPC_VERSION → ⊥) × (call ≡ Answer s.xid RpcMismatch)

-- A record without a whole header gets no reply.
abbrev pub HasNoHeader : List ℕ → RpcCall → Type 0
HasNoHeader message call =
    ((h : CallHeader) (rest : List ℕ) → Begins (header.layout h) message rest → ⊥) × (call ≡ Silent)

-- the message begins with a header, and this holds for the header and the bytes after it
abbrev pub HasHeader : (CallHeader → List ℕ → Type 0) → List ℕ → Type 0
HasHeader Is message =
    (h : CallHeader) × (rest : List ℕ) × Begins (header.layout h) message rest × Is h rest

-- A call is denied if no principal belongs to its credential.
abbrev pub HasNoPrincipal : List ℕ → RpcCall → Type 0
HasNoPrincipal message call =
    HasHeader (λ h rest.
    ((p : Principal) → IsOf h.1.credential p → ⊥) × (call ≡ Answer h.0.xid AuthError)) message

abbrev pub HasAnotherProgram : List ℕ → RpcCall → Type 0
HasAnotherProgram message call =
    HasHeader (λ h rest.
    (h.1.program ≡ NFS_PROGRAM → ⊥) × (call ≡ Answer h.0.xid ProgUnavail)) message

abbrev pub HasAnotherVersion : List ℕ → RpcCall → Type 0
HasAnotherVersion message call =
    HasHeader (λ h rest.
    (h.1.version ≡ NFS_VERSION → ⊥) × (call ≡ Answer h.0.xid ProgMismatch)) message

abbrev pub HasNull : List ℕ → RpcCall → Type 0
HasNull message call =
    HasHeader (λ h rest. (h.1.procedure ≡ PROC_NULL) × (call ≡ Null h.0.xid)) message

abbrev pub HasAnotherProcedure : List ℕ → RpcCall → Type 0
HasAnotherProcedure message call =
    HasHeader (λ h rest.
    (h.1.procedure ≡ PROC_COMPOUND → ⊥) × (call ≡ Answer h.0.xid ProcUnavail)) message

-- After the header come the arguments of a COMPOUND.
abbrev pub HasCompound : List ℕ → RpcCall → Type 0
HasCompound message call =
    HasHeader (λ h rest.
    (principal : Principal) × (compound : CompoundArgs)
    × IsOf h.1.credential principal × IsCompound compound rest
    × (call ≡ Compound h.0.xid principal compound)) message

-- Any other arguments of a COMPOUND are garbage.
abbrev pub HasGarbage : List ℕ → RpcCall → Type 0
HasGarbage message call = HasHeader (λ h rest. call ≡ Answer h.0.xid GarbageArgs) message

-- the value that the first rule that applies gives
abbrev pub First : {V : Type 0} → List (V → Type 0) → V → Type 0
First [] value = ⊥
First {V = V} (rule ∷ rules) value = rule value ⊎ (((any : V) → rule any → ⊥) × First rules value)

-- The call that a record is. Each rule is used only if none before it applies.
abbrev pub CallsFor : List ℕ → RpcCall → Type 0
CallsFor message =
    First (
    HasAnotherRpc message ∷ HasNoHeader message ∷ HasNoPrincipal message
    ∷ HasAnotherProgram message ∷ HasAnotherVersion message
    ∷ HasNull message ∷ HasAnotherProcedure message ∷ HasCompound message ∷ HasGarbage message ∷ [])

-- each record is exactly one call
abbrev pub OneCall : Type 0
OneCall =
    (message : List ℕ)
    → (call : RpcCall) × CallsFor message call
    × ((other : RpcCall) → CallsFor message other → other ≡ call)

-- The call itself, or SYSTEM_ERR in place of a COMPOUND for which memory ran out.
abbrev pub OrSystemError : (RpcCall → Type 0) → RpcCall → Type 0
OrSystemError Is call =
    Is call
    ⊎ ((xid : ℕ) × (principal : Principal) × (compound : CompoundArgs)
    × Is (Compound xid principal compound) × (call ≡ Answer xid SystemError))

-- The call that is read. SYSTEM_ERR is answered only to a COMPOUND, and garbage is always answered GARBAGE_ARGS.
abbrev pub IsCall : List ℕ → RpcCall → Type 0
IsCall message = OrSystemError (CallsFor message)

-- there are no more operations than a COMPOUND may have
abbrev pub HasFewOperations : CompoundRequest → Type 0
HasFewOperations (MinorVersion minor) = Unit {0}
HasFewOperations (TooMany count) = Unit {0}
HasFewOperations (Operations ops) = length ops ≤ OPERATION_LIMIT

-- a reply that needs no service is short
abbrev pub IsShortReply : ℕ → Reply → Type 0
IsShortReply xid reply = (length (written_reply xid reply) ≤ SHORT_REPLY_LEN) × IsWritable xid reply

-- A record that is a COMPOUND has, besides its tag, the 40 bytes of a header with empty bodies, and the 12 bytes of the
-- tag's length, the minor version and the count.
abbrev pub IsWithinLimits : ℕ → CompoundArgs → Type 0
IsWithinLimits len c = (length c.tag + 52 ≤ len) × HasFewOperations c.request

abbrev pub IsCallWithinLimits : ℕ → RpcCall → Type 0
IsCallWithinLimits len (Compound xid principal c) = IsWithinLimits len c
IsCallWithinLimits len (Answer xid reply) = IsShortReply xid reply
IsCallWithinLimits len call = Unit {0}
