-- Reading a linked list, as a loop does.
use Rattle.std.proofs.Common.{◌≡◌, ℕ, suc, ◌+◌, ◌-◌, ◌<◌, ◌≤◌, Some, None, List, [], ◌∷◌, ◌++◌, Ok, Err, refl, sym, ap, ◌∙◌, append_assoc, arith}
use Rattle.std.proofs.lemmas.List.{append-nil}
use Rattle.xdr.specs.declared.wire_error.WireError.{WireError}
use Rattle.xdr.specs.declared.wire_error.WireError.TheVariants as errors
use Rattle.xdr.specs.Reading.{Read, Fails, ◌>>=◌, link_at, or_end, chain_below}
use Rattle.xdr.proofs.ReadingLists.{and_then, tells}

one_more : {A : Type 0} (front : List A) (value : A) (r : Read (List A)) → and_then (front ++ value ∷ []) r ≡ and_then front (r >>= λ a. Ok (value ∷ a.0, a.1))
one_more {A = A} front value (Ok x) = ap (λ (values : List A). Ok (values, x.1)) (append_assoc front (value ∷ []) x.0)
one_more front value (Err e) = refl

pub goes_on : {A : Type 0} (f : List ℕ → Read A) (front : List A) (most i : ℕ) (bytes : List ℕ) (value : A) (beyond : List ℕ) (total : Read (List A)) → i < most → link_at f bytes ≡ Ok (Some value, beyond)
    → and_then front (chain_below f (most - i) bytes) ≡ total → and_then (front ++ value ∷ []) (chain_below f (most - (i + 1)) beyond) ≡ total
unfolding chain_below
goes_on f front most i bytes value beyond total lt read so_far =
    let k : most - i ≡ suc (most - (i + 1)) = omega arith in
    let one : chain_below f (most - i) bytes ≡ or_end (Some value) (chain_below f (most - (i + 1))) beyond = rw (k, read) refl in
    one_more front value (chain_below f (most - (i + 1)) beyond) ∙ ap (and_then front) (sym one) ∙ so_far

pub ends_here : {A : Type 0} (f : List ℕ → Read A) (front : List A) (most i : ℕ) (bytes beyond : List ℕ) (total : Read (List A)) → i < most → link_at f bytes ≡ Ok (None, beyond)
    → and_then front (chain_below f (most - i) bytes) ≡ total → total ≡ Ok (front, beyond)
unfolding chain_below
ends_here f front most i bytes beyond total lt read so_far =
    let k : most - i ≡ suc (most - (i + 1)) = omega arith in
    let one : and_then front (chain_below f (most - i) bytes) ≡ Ok (front, beyond) = rw (k, read, append-nil front) refl in
    sym so_far ∙ one

pub too_many : {A : Type 0} (f : List ℕ → Read A) (front : List A) (most i : ℕ) (bytes : List ℕ) (total : Read (List A)) → most ≤ i → and_then front (chain_below f (most - i) bytes) ≡ total → total ≡ Err errors.Short
unfolding chain_below
too_many f front most i bytes total le so_far =
    let k : most - i ≡ 0 = omega arith in
    let one : and_then front (chain_below f (most - i) bytes) ≡ Err errors.Short = rw k refl in
    sym so_far ∙ one

fails_by : {A : Type 0} (f : List ℕ → Read A) (front : List A) (most i : ℕ) (bytes : List ℕ) (e : WireError) (total : Read (List A)) → i < most → link_at f bytes ≡ Err e → and_then front (chain_below f (most - i) bytes) ≡ total → Fails e total
unfolding chain_below
fails_by f front most i bytes e total lt failed so_far =
    let k : most - i ≡ suc (most - (i + 1)) = omega arith in
    let one : and_then front (chain_below f (most - i) bytes) ≡ Err e = rw (k, failed) refl in
    tells e total (sym so_far ∙ one)

pub fails_at : {A : Type 0} (f : List ℕ → Read A) (front : List A) (most i : ℕ) (bytes : List ℕ) (e : WireError) (total : Read (List A)) → i < most → Fails e (link_at f bytes) → and_then front (chain_below f (most - i) bytes) ≡ total → Fails e total
fails_at f front most i bytes errors.Memory total lt failed so_far = tt
fails_at f front most i bytes errors.Short total lt failed so_far = fails_by f front most i bytes errors.Short total lt failed so_far
fails_at f front most i bytes errors.TooLong total lt failed so_far = fails_by f front most i bytes errors.TooLong total lt failed so_far
