-- Reading operations one after the other, as a loop does.
use Rattle.std.proofs.Common.{◌≡◌, ℕ, suc, ◌+◌, ◌-◌, ◌<◌, ◌≤◌, true, false, List, [], ◌∷◌, ◌++◌, refl, sym, ◌∙◌, append_assoc, arith}
use Rattle.std.proofs.lemmas.List.{append-nil}
use Rattle.nfs_xdr.specs.declared.arg_op.ArgOp.{ArgOp}
use Rattle.nfs_xdr.specs.ArgOp.{arg_op_at, ends_list}
use Rattle.nfs_xdr.specs.Compound.{operations_at}

pub goes_on : (front : List ArgOp) (count i : ℕ) (bytes : List ℕ) (op : ArgOp) (beyond : List ℕ) (total : List ArgOp) → i < count → (op, beyond) ≡ arg_op_at bytes → ends_list op ≡ false
    → front ++ operations_at (count - i) bytes ≡ total → (front ++ op ∷ []) ++ operations_at (count - (i + 1)) beyond ≡ total
unfolding operations_at
goes_on front count i bytes op beyond total lt h goes so_far =
    let k : count - i ≡ suc (count - (i + 1)) = omega arith in
    let one : front ++ operations_at (count - i) bytes ≡ front ++ (op ∷ operations_at (count - (i + 1)) beyond) = rw (k, ← h, goes) refl in
    append_assoc front (op ∷ []) (operations_at (count - (i + 1)) beyond) ∙ sym one ∙ so_far

pub ends_here : (front : List ArgOp) (count i : ℕ) (bytes : List ℕ) (op : ArgOp) (beyond : List ℕ) (total : List ArgOp) → i < count → (op, beyond) ≡ arg_op_at bytes → ends_list op ≡ true
    → front ++ operations_at (count - i) bytes ≡ total → front ++ op ∷ [] ≡ total
unfolding operations_at
ends_here front count i bytes op beyond total lt h last so_far =
    let k : count - i ≡ suc (count - (i + 1)) = omega arith in
    let one : front ++ operations_at (count - i) bytes ≡ front ++ op ∷ [] = rw (k, ← h, last) refl in
    sym one ∙ so_far

pub all_read : (front : List ArgOp) (count i : ℕ) (bytes : List ℕ) (total : List ArgOp) → count ≤ i → front ++ operations_at (count - i) bytes ≡ total → front ≡ total
unfolding operations_at
all_read front count i bytes total le so_far =
    let k : count - i ≡ 0 = omega arith in
    let one : front ++ operations_at (count - i) bytes ≡ front = rw k (append-nil front) in
    sym one ∙ so_far
