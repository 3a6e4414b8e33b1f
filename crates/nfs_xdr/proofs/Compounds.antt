-- What is read as a COMPOUND matches its layout, and if nothing can be read, no COMPOUND matches it.
use Rattle.std.proofs.Common.{◌≡◌, ℕ, zero, suc, Bool, true, false, cond, leb, eqb, List, [], ◌∷◌, Result, Ok, Err, refl, sym, ap, subst, ◌∙◌, inl, inr, ◌⊎◌}
use Rattle.std.specs.Prelude.{IfOk, OnErr, MatchBool}
use Rattle.std.proofs.lemmas.Bool.{eqb-true, leb-true, le-leb}
use Rattle.nfs_xdr.specs.declared.compound.Compound.{Compound}
use Rattle.nfs_xdr.specs.declared.compound.CompoundRequest.{CompoundRequest}
use Rattle.nfs_xdr.specs.declared.compound.CompoundRequest.TheVariants.{MinorVersion, TooMany, Operations}
use Rattle.nfs_xdr.specs.declared.compound.TheConstants.{OPERATION_LIMIT}
use Rattle.nfs_xdr.specs.declared.arg_op.ArgOp.{ArgOp}
use Rattle.xdr.specs.declared.wire_error.WireError.{WireError}
use Rattle.xdr.specs.declared.wire_error.WireError.TheVariants as errors
use Rattle.nfs_xdr.specs.ArgOp.{arg_op_at, ends_list}
use Rattle.nfs_xdr.specs.Compound.{HoldOperations, IsRequest, IsCompound, OneCompoundIsEncoded, or_more, operations_at, request_at, head, compound_at}
use Rattle.xdr.specs.Layout.{NO_LIMIT}
use Rattle.xdr.specs.Reading.{Read, Gives, ◌>>=◌, ◌then◌, number_at, opaque_at}
use Rattle.xdr.specs.laws.Reads.{NeverMemory, true_or_false, bind_ok, ok_is, number_never_memory, opaque_never_memory, then_never_memory}
use Rattle.nfs_xdr.proofs.ArgOps.{arg_op_stands, arg_op_complete}

holds_more : (count : ℕ) (bytes : List ℕ) (b : Bool) → ends_list (arg_op_at bytes).0 ≡ b → HoldOperations count (arg_op_at bytes).1 (operations_at count (arg_op_at bytes).1) → HoldOperations (suc count) bytes (or_more (arg_op_at bytes) (operations_at count))
holds_more count bytes true last more = ((arg_op_at bytes).1, arg_op_stands bytes, rw last refl)
holds_more count bytes false goes more = ((arg_op_at bytes).1, arg_op_stands bytes, rw goes more)

operations_held : (count : ℕ) (bytes : List ℕ) → HoldOperations count bytes (operations_at count bytes)
unfolding operations_at
operations_held zero bytes = refl
operations_held (suc count) bytes = holds_more count bytes (ends_list (arg_op_at bytes).0) refl (operations_held count (arg_op_at bytes).1)

request_held : (minor count : ℕ) (bytes : List ℕ) → IsRequest minor count bytes (request_at minor count bytes)
request_held minor count bytes =
    elim (true_or_false (eqb minor 0)) [
      | inl zeroth ↦ elim (true_or_false (leb count OPERATION_LIMIT)) [
        | inl few ↦ rw (zeroth, few) (eqb-true _ _ zeroth, leb-true _ _ few, operations_held count bytes)
        | inr many ↦ rw (zeroth, many) (eqb-true _ _ zeroth, refl, many)
      ]
      | inr other ↦ rw other (refl, other)
    ]

abbrev compound_of : (List ℕ × (ℕ × ℕ)) × List ℕ → Compound
compound_of h = record { tag = h.0.0; request = request_at h.0.1.0 h.0.1.1 h.1 }

pub compound_stands : (bytes : List ℕ) (compound : Compound) → compound_at bytes ≡ Ok compound → IsCompound compound bytes
unfolding compound_at
compound_stands bytes compound e =
    let h = bind_ok (head.at bytes) (λ h. Ok (compound_of h)) compound e in
    let begins = head.reads.sound bytes h.0.0 h.0.1 h.1 in
    let encoded : IsCompound (compound_of h.0) bytes = (h.0.0.1.0, h.0.0.1.1, h.0.1, begins, request_held h.0.0.1.0 h.0.0.1.1 h.0.1) in
    subst (λ (c : Compound). IsCompound c bytes) (ok_is (compound_of h.0) compound h.2) encoded

-- Operations that the bytes encode are what is read.
more_complete : (count : ℕ) (b : Bool) (op : ArgOp) (ops : List ArgOp) (rest : List ℕ) → (HoldOperations count rest ops → operations_at count rest ≡ ops) → MatchBool b (ops ≡ []) (HoldOperations count rest ops) → op ∷ cond b [] (operations_at count rest) ≡ op ∷ ops
more_complete count true op ops rest each none = rw none refl
more_complete count false op ops rest each more = rw (each more) refl

operations_complete : (count : ℕ) (bytes : List ℕ) (ops : List ArgOp) → HoldOperations count bytes ops → operations_at count bytes ≡ ops
unfolding operations_at
operations_complete zero bytes ops none = sym none
operations_complete (suc count) bytes [] h = absurd h
operations_complete (suc count) bytes (op ∷ ops) h =
    ap (λ (x : ArgOp × List ℕ). or_more x (operations_at count)) (arg_op_complete bytes op h.0 h.1)
    ∙ more_complete count (ends_list op) op ops h.0 (operations_complete count h.0 ops) h.2

request_complete : (minor count : ℕ) (bytes : List ℕ) (request : CompoundRequest) → IsRequest minor count bytes request → request_at minor count bytes ≡ request
request_complete minor count bytes (MinorVersion other) h = rw h.1 (ap MinorVersion h.0)
request_complete minor count bytes (TooMany many) h = rw (h.0, h.2) (ap TooMany h.1)
request_complete minor count bytes (Operations ops) h = rw (h.0, le-leb _ _ h.1) (ap Operations (operations_complete count bytes ops h.2))

pub compound_complete : (bytes : List ℕ) (compound : Compound) → IsCompound compound bytes → compound_at bytes ≡ Ok compound
unfolding compound_at
compound_complete bytes compound encoded =
    let value : List ℕ × (ℕ × ℕ) = (compound.tag, (encoded.0, encoded.1)) in
    let given : head.at bytes ≡ Ok (value, encoded.2) = ap head.at encoded.3.1 ∙ head.reads.complete value encoded.3.0 encoded.2 encoded.3.2 in
    ap (λ (r : Read (List ℕ × (ℕ × ℕ))). r >>= λ h. Ok (compound_of h)) given
    ∙ ap (λ (r : CompoundRequest). Ok (record { tag = compound.tag; request = r })) (request_complete encoded.0 encoded.1 encoded.2 compound.request encoded.4)

pub no_compound : (bytes : List ℕ) (error : WireError) → compound_at bytes ≡ Err error → (compound : Compound) → IsCompound compound bytes → ⊥
no_compound bytes error failed compound encoded = let clash : Err error ≡ Ok compound = sym failed ∙ compound_complete bytes compound encoded in cc

abbrev same : Compound → Compound
same compound = compound

pub encoded_if_ok : (bytes : List ℕ) (r : Result Compound WireError) → Gives same r (compound_at bytes) → IfOk r (λ compound. IsCompound compound bytes)
encoded_if_ok bytes (Ok compound) given = compound_stands bytes compound given
encoded_if_ok bytes (Err e) given = tt

pub none_if_err : (bytes : List ℕ) (r : Result Compound WireError) → Gives same r (compound_at bytes) → OnErr r ((r ≡ Err errors.Memory) ⊎ ((compound : Compound) → IsCompound compound bytes → ⊥))
none_if_err bytes (Ok compound) given = tt
none_if_err bytes (Err errors.Memory) given = inl refl
none_if_err bytes (Err errors.Short) given = inr (no_compound bytes errors.Short given)
none_if_err bytes (Err errors.TooLong) given = inr (no_compound bytes errors.TooLong given)

pub one_compound : OneCompoundIsEncoded
one_compound bytes compound = (compound_stands bytes compound, compound_complete bytes compound)

head_never_memory : NeverMemory head.at
head_never_memory =
    then_never_memory (opaque_at NO_LIMIT) (number_at 4 then number_at 4) (opaque_never_memory NO_LIMIT)
    (then_never_memory (number_at 4) (number_at 4) (number_never_memory 4) (number_never_memory 4))

pub head_tells : {X : Type 0} (bytes : List ℕ) (r : Result X WireError) (e : WireError) → r ≡ Err e → head.at bytes ≡ Err e → r ≡ Err errors.Memory → ⊥
head_tells bytes r e is value memory = let same : e ≡ errors.Memory = cc in head_never_memory bytes (rw same at value)
