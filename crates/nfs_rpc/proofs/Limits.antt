-- In a COMPOUND that matches its layout the tag and the list of operations have limited lengths. Reading a header
-- leaves at least 40 bytes fewer.
use Rattle.std.proofs.Common.{◌≡◌, ℕ, zero, suc, ◌+◌, ◌≤◌, Bool, true, false, List, [], ◌∷◌, length, Result, Ok, Err, refl, ap, ◌∙◌, arith}
use Rattle.std.specs.Prelude.{MatchBool, IfOk}
use Rattle.std.proofs.lemmas.List.{length-append}
use Rattle.xdr.specs.declared.wire_error.WireError.{WireError}
use Rattle.xdr.specs.Layout.{Opaque}
use Rattle.xdr.specs.Reading.{Read, Reads, Answers, ◌>>=◌}
use Rattle.xdr.specs.Writing.{written_number, written_opaque}
use Rattle.xdr.specs.laws.Reads.{ok_is}
use Rattle.nfs_rpc.specs.declared.rpc_call.Header.{Header}
use Rattle.nfs_rpc.specs.declared.rpc_call.Start.{Start}
use Rattle.nfs_rpc.specs.declared.credential.TheConstants.{BODY_LIMIT}
use Rattle.nfs_rpc.specs.declared.reply.Reply.TheVariants as replies
use Rattle.nfs_rpc.specs.Credential.{OpaqueAuth, opaque_auth}
use Rattle.nfs_xdr.specs.declared.compound.Compound.{Compound}
use Rattle.nfs_xdr.specs.declared.compound.CompoundRequest.{CompoundRequest}
use Rattle.nfs_xdr.specs.declared.compound.CompoundRequest.TheVariants.{MinorVersion, TooMany, Operations}
use Rattle.nfs_xdr.specs.declared.arg_op.ArgOp.{ArgOp}
use Rattle.nfs_xdr.specs.Compound.{HoldOperations, IsRequest, IsCompound}
use Rattle.nfs_xdr.specs.ArgOp.{ends_list}
use Rattle.nfs_rpc.specs.RpcCall.{Body, HasFewOperations, IsWithinLimits, body, start}
use Rattle.nfs_rpc.specs.ReadingCalls.{header_at, header_of}
use Rattle.nfs_rpc.specs.declared.reply.TheConstants.{ACCEPTED_LEN, SHORT_REPLY_LEN}
use Rattle.nfs_rpc.specs.Reply.{written_accepted, written_reply}

held_rest : (count : ℕ) (rest : List ℕ) (ops : List ArgOp) (b : Bool) → ((ops : List ArgOp) → HoldOperations count rest ops → length ops ≤ count) → MatchBool b (ops ≡ []) (HoldOperations count rest ops) → length ops ≤ count
held_rest count rest ops true below held = omega (arith, ap length held)
held_rest count rest ops false below held = below ops held

few_held : (count : ℕ) (bytes : List ℕ) (ops : List ArgOp) → HoldOperations count bytes ops → length ops ≤ count
few_held zero bytes ops held = omega (arith, ap length held)
few_held (suc count) bytes [] held = absurd held
few_held (suc count) bytes (op ∷ ops) held =
    let rest : length ops ≤ count = held_rest count held.0 ops (ends_list op) (λ others. few_held count held.0 others) held.2 in omega arith

few_asked : (minor count : ℕ) (bytes : List ℕ) (request : CompoundRequest) → IsRequest minor count bytes request → HasFewOperations request
few_asked minor count bytes (MinorVersion other) is = tt
few_asked minor count bytes (TooMany many) is = tt
few_asked minor count bytes (Operations ops) is = let few = few_held count bytes ops is.2 in omega (arith, is.1, few)

pub within_limits : (compound : Compound) (bytes : List ℕ) → IsCompound compound bytes → IsWithinLimits (40 + length bytes) compound
within_limits compound bytes is =
    let begins = is.3 in
    let opaque = begins.2.3 in
    let whole : length bytes ≡ length begins.0 + length is.2 = ap length begins.1 ∙ length-append begins.0 is.2 in
    let front : length begins.0 ≡ length begins.2.0 + length begins.2.1 = ap length begins.2.2 ∙ length-append begins.2.0 begins.2.1 in
    let numbers : length begins.2.1 ≡ length begins.2.4.0 + length begins.2.4.1 = ap length begins.2.4.2 ∙ length-append begins.2.4.0 begins.2.4.1 in
    let tag : length begins.2.0 ≡ length opaque.1.0 + length opaque.1.1 = ap length opaque.1.2 ∙ length-append opaque.1.0 opaque.1.1 in
    let body : length opaque.1.1 ≡ length opaque.1.4.0 + length opaque.1.4.1 = ap length opaque.1.4.2 ∙ length-append opaque.1.4.0 opaque.1.4.1 in
    let same : length opaque.1.4.0 ≡ length compound.tag = ap length opaque.1.4.3.1 in
    (omega (arith, opaque.1.3.0, begins.2.4.3.0, begins.2.4.4.0), few_asked is.0 is.1 is.2 compound.request is.4)

start_len : (s : Start) (front : List ℕ) → start.layout s front → length front ≡ 12
unfolding start
start_len s front h = omega (arith, length-append h.0 h.1, ap length h.2, h.3.0, length-append h.4.0 h.4.1, ap length h.4.2, h.4.3.0, h.4.4.0)

opaque_len : (limit : ℕ) (value : List ℕ) (front : List ℕ) → Opaque limit value front → 4 ≤ length front
opaque_len limit value front h = omega (arith, length-append h.1.0 h.1.1, ap length h.1.2, h.1.3.0)

auth_len : (a : OpaqueAuth) (front : List ℕ) → opaque_auth.layout a front → 8 ≤ length front
auth_len a front h = omega (arith, length-append h.0 h.1, ap length h.2, h.3.0, opaque_len BODY_LIMIT a.1 h.1 h.4)

body_len : (b : Body) (front : List ℕ) → body.layout b front → 28 ≤ length front
unfolding body
body_len b front h =
    let c = h.4 in let d = c.4 in let e = d.4 in
    omega (
      arith,
      length-append h.0 h.1,
      ap length h.2,
      h.3.0,
      length-append c.0 c.1,
      ap length c.2,
      c.3.0,
      length-append d.0 d.1,
      ap length d.2,
      d.3.0,
      length-append e.0 e.1,
      ap length e.2,
      auth_len b.credential e.0 e.3,
      auth_len b.verifier e.1 e.4,
    )

shortens : {A X : Type 0} (n : ℕ) (layout : A → List ℕ → Type 0) (at : List ℕ → Read A) → Reads layout at → ((a : A) (front : List ℕ) → layout a front → n ≤ length front)
    → (view : X → A × List ℕ) (bytes : List ℕ) (r : Result X WireError) → Answers view r (at bytes) → IfOk r (λ x. length (view x).1 + n ≤ length bytes)
shortens n layout at reads long view bytes (Ok x) e =
    let found = reads.sound bytes (view x).0 (view x).1 e in
    omega (arith, ap length found.1, length-append found.0 (view x).1, long (view x).0 found.0 found.2)
shortens n layout at reads long view bytes (Err d) e = tt

pub start_shortens : {X : Type 0} (view : X → Start × List ℕ) (bytes : List ℕ) (r : Result X WireError) → Answers view r (start.at bytes) → IfOk r (λ x. length (view x).1 + 12 ≤ length bytes)
start_shortens = shortens 12 start.layout start.at start.reads (λ s front h. omega (arith, start_len s front h))

-- reading the body of a header, made into another value, leaves at least 28 bytes fewer
as_shortens : {X : Type 0} (view : X → Header × List ℕ) (bytes : List ℕ) (r : Result X WireError) (read : Read Body) → body.at bytes ≡ read → Answers view r (read >>= λ a. Ok (header_of a.0, a.1)) → IfOk r (λ x. length (view x).1 + 28 ≤ length bytes)
as_shortens view bytes (Ok x) (Ok b) given e =
    let found = body.reads.sound bytes b.0 b.1 given in
    let same : b.1 ≡ (view x).1 = ap (λ (h : Header × List ℕ). h.1) (ok_is (header_of b.0, b.1) (view x) e) in
    omega (arith, ap length found.1, length-append found.0 b.1, body_len b.0 found.0 found.2, ap length same)
as_shortens view bytes (Ok x) (Err d) given e = absurd cc
as_shortens view bytes (Err d) read given e = tt

pub header_shortens : {X : Type 0} (view : X → Header × List ℕ) (bytes : List ℕ) (r : Result X WireError) → Answers view r (header_at bytes) → IfOk r (λ x. length (view x).1 + 28 ≤ length bytes)
header_shortens view bytes r e = as_shortens view bytes r (body.at bytes) refl e

pub length_accepted : (xid state : ℕ) → length (written_accepted xid state) ≡ ACCEPTED_LEN
unfolding written_number written_opaque
length_accepted xid state = refl

pub accepted_is_short : (xid state : ℕ) → length (written_accepted xid state) ≤ SHORT_REPLY_LEN
accepted_is_short xid state = omega (arith, length_accepted xid state)

pub prog_mismatch_is_short : (xid : ℕ) → length (written_reply xid replies.ProgMismatch) ≤ SHORT_REPLY_LEN
unfolding written_number written_opaque
prog_mismatch_is_short xid = omega arith

pub rpc_mismatch_is_short : (xid : ℕ) → length (written_reply xid replies.RpcMismatch) ≤ SHORT_REPLY_LEN
unfolding written_number
rpc_mismatch_is_short xid = omega arith

pub auth_error_is_short : (xid : ℕ) → length (written_reply xid replies.AuthError) ≤ SHORT_REPLY_LEN
unfolding written_number
auth_error_is_short xid = omega arith
