-- COMPOUND (RFC 7530, section 15.2; RFC 7531, COMPOUND4args and COMPOUND4res).
use Rattle.std.specs.Prelude.{◌≡◌, ◌↔◌, ℕ, zero, suc, ◌≤◌, ◌==◌, nat_le, List, [], ◌∷◌, Result, Ok, IsFalse, MatchBool, if◌then◌else◌}
use Rattle.nfs_xdr.specs.declared.arg_op.ArgOp.{ArgOp}
use Rattle.nfs_xdr.specs.declared.compound.Compound.{Compound}
use Rattle.nfs_xdr.specs.declared.compound.CompoundRequest.{CompoundRequest}
use Rattle.nfs_xdr.specs.declared.compound.CompoundRequest.TheVariants.{MinorVersion, TooMany, Operations}
use Rattle.nfs_xdr.specs.declared.compound.TheConstants.{OPERATION_LIMIT}
use Rattle.nfs_xdr.specs.declared.op_result.OpResult.{OpResult}
use Rattle.nfs_forms.specs.declared.status.Status.{Status}
use Rattle.nfs_xdr.specs.ArgOp.{IsEncodedAt, arg_op_at, ends_list}
use Rattle.nfs_xdr.specs.OpResult.{op_result}
use Rattle.nfs_forms.specs.Status.{status}
use Rattle.xdr.specs.declared.wire_error.WireError.{WireError}
use Rattle.xdr.specs.Form.{Form, ◌and◌, u32, bytes as opaque_bytes, many}
use Rattle.xdr.specs.Layout.{NO_LIMIT}
use Rattle.xdr.specs.Reading.{Begins, ◌>>=◌}

-- the tag, the minor version and the count of the operations
abbrev pub head : Form (List ℕ × (ℕ × ℕ))
head = opaque_bytes and u32 and u32

-- The first `count` operations at the front of the bytes, one after the other, or fewer if one of them ends the list.
-- Bytes after them are ignored.
abbrev pub HoldOperations : ℕ → List ℕ → List ArgOp → Type 0
HoldOperations zero bytes ops = ops ≡ []
HoldOperations (suc count) bytes [] = ⊥
HoldOperations (suc count) bytes (op ∷ ops) =
    (rest : List ℕ) × IsEncodedAt bytes op rest
    × MatchBool (ends_list op) (ops ≡ []) (HoldOperations count rest ops)

-- What a minor version and a count of operations ask for. Only version 0 is served, and no more operations than the
-- limit.
abbrev pub IsRequest : ℕ → ℕ → List ℕ → CompoundRequest → Type 0
IsRequest minor count bytes (MinorVersion other) = (minor ≡ other) × IsFalse (minor == 0)
IsRequest minor count bytes (TooMany many) =
    (minor ≡ 0) × (count ≡ many) × IsFalse (nat_le count OPERATION_LIMIT)
IsRequest minor count bytes (Operations ops) =
    (minor ≡ 0) × (count ≤ OPERATION_LIMIT) × HoldOperations count bytes ops

-- struct COMPOUND4args { utf8str_cs tag; uint32_t minorversion; nfs_argop4 argarray<>; };
abbrev pub IsCompound : Compound → List ℕ → Type 0
IsCompound compound bytes =
    (minor : ℕ) × (count : ℕ) × (rest : List ℕ)
    × Begins (head.layout (compound.tag, (minor, count))) bytes rest
    × IsRequest minor count rest compound.request

-- How the operations are read: one, followed by the others unless it ends the list.
abbrev pub or_more : ArgOp × List ℕ → (List ℕ → List ArgOp) → List ArgOp
or_more x more = x.0 ∷ (if ends_list x.0 then [] else more x.1)

unfoldable pub operations_at : ℕ → List ℕ → List ArgOp
operations_at zero bytes = []
operations_at (suc count) bytes = or_more (arg_op_at bytes) (operations_at count)

abbrev pub request_at : ℕ → ℕ → List ℕ → CompoundRequest
request_at minor count bytes =
    if minor == 0 then
    (if nat_le count OPERATION_LIMIT then Operations (operations_at count bytes)
    else TooMany count)
    else MinorVersion minor

unfoldable pub compound_at : List ℕ → Result Compound WireError
compound_at bytes =
    head.at bytes >>= λ h. Ok (record { tag = h.0.0; request = request_at h.0.1.0 h.0.1.1 h.1 })

-- struct COMPOUND4res { nfsstat4 status; utf8str_cs tag; nfs_resop4 resarray<>; };
abbrev pub compound_result : Form (Status × (List ℕ × List OpResult))
compound_result = status and opaque_bytes and many NO_LIMIT op_result

-- A COMPOUND is read exactly if the bytes encode it, so no bytes encode two requests.
abbrev pub OneCompoundIsEncoded : Type 0
OneCompoundIsEncoded =
    (bytes : List ℕ) (compound : Compound) → (compound_at bytes ≡ Ok compound)
    ↔ IsCompound compound bytes

abbrev pub OneOperationIsEncoded : Type 0
OneOperationIsEncoded =
    (bytes : List ℕ) (op : ArgOp) (rest : List ℕ) → (arg_op_at bytes ≡ (op, rest))
    ↔ IsEncodedAt bytes op rest
