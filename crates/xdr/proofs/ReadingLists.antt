-- Reading values one after the other, as a loop does.
use Rattle.std.proofs.Common.{◌≡◌, ℕ, suc, ◌+◌, ◌-◌, ◌<◌, ◌≤◌, List, [], ◌∷◌, ◌++◌, Ok, Err, refl, sym, ap, ◌∙◌, append_assoc, arith}
use Rattle.std.proofs.lemmas.List.{append-nil}
use Rattle.xdr.specs.declared.wire_error.WireError.{WireError}
use Rattle.xdr.specs.declared.wire_error.WireError.TheVariants as errors
use Rattle.xdr.specs.Reading.{Read, Fails, ◌>>=◌, each_at}

-- the values of a list, followed by those that are read
abbrev pub and_then : {A : Type 0} → List A → Read (List A) → Read (List A)
and_then front r = r >>= λ values. Ok (front ++ values.0, values.1)

-- one value, followed by those that are read
abbrev one_and : {A : Type 0} → A → Read (List A) → Read (A × List A)
one_and value r = r >>= λ b. Ok ((value, b.0), b.1)

abbrev joined : {A : Type 0} → Read (A × List A) → Read (List A)
joined r = r >>= λ p. Ok (p.0.0 ∷ p.0.1, p.1)

one_more : {A : Type 0} (front : List A) (value : A) (r : Read (List A)) → and_then (front ++ value ∷ []) r ≡ and_then front (joined (one_and value r))
one_more {A = A} front value (Ok x) = ap (λ (values : List A). Ok (values, x.1)) (append_assoc front (value ∷ []) x.0)
one_more front value (Err e) = refl

pub goes_on : {A : Type 0} (f : List ℕ → Read A) (front : List A) (count i : ℕ) (bytes : List ℕ) (value : A) (beyond : List ℕ) (total : Read (List A)) → i < count → f bytes ≡ Ok (value, beyond)
    → and_then front (each_at f (count - i) bytes) ≡ total → and_then (front ++ value ∷ []) (each_at f (count - (i + 1)) beyond) ≡ total
unfolding each_at
goes_on f front count i bytes value beyond total lt read so_far =
    let k : count - i ≡ suc (count - (i + 1)) = omega arith in
    let one : each_at f (count - i) bytes ≡ joined (one_and value (each_at f (count - (i + 1)) beyond)) = rw (k, read) refl in
    one_more front value (each_at f (count - (i + 1)) beyond) ∙ ap (and_then front) (sym one) ∙ so_far

pub tells : {A : Type 0} (e : WireError) (r : Read A) → r ≡ Err e → Fails e r
tells errors.Memory r is = tt
tells errors.Short r is = is
tells errors.TooLong r is = is

fails_by : {A : Type 0} (f : List ℕ → Read A) (front : List A) (count i : ℕ) (bytes : List ℕ) (e : WireError) (total : Read (List A)) → i < count → f bytes ≡ Err e → and_then front (each_at f (count - i) bytes) ≡ total → Fails e total
unfolding each_at
fails_by f front count i bytes e total lt failed so_far =
    let k : count - i ≡ suc (count - (i + 1)) = omega arith in
    let one : and_then front (each_at f (count - i) bytes) ≡ Err e = rw (k, failed) refl in
    tells e total (sym so_far ∙ one)

pub fails_at : {A : Type 0} (f : List ℕ → Read A) (front : List A) (count i : ℕ) (bytes : List ℕ) (e : WireError) (total : Read (List A)) → i < count → Fails e (f bytes) → and_then front (each_at f (count - i) bytes) ≡ total → Fails e total
fails_at f front count i bytes errors.Memory total lt failed so_far = tt
fails_at f front count i bytes errors.Short total lt failed so_far = fails_by f front count i bytes errors.Short total lt failed so_far
fails_at f front count i bytes errors.TooLong total lt failed so_far = fails_by f front count i bytes errors.TooLong total lt failed so_far

pub all_read : {A : Type 0} (f : List ℕ → Read A) (front : List A) (count i : ℕ) (bytes : List ℕ) (total : Read (List A)) → count ≤ i → and_then front (each_at f (count - i) bytes) ≡ total → total ≡ Ok (front, bytes)
unfolding each_at
all_read f front count i bytes total le so_far =
    let k : count - i ≡ 0 = omega arith in
    let one : and_then front (each_at f (count - i) bytes) ≡ Ok (front, bytes) = rw (k, append-nil front) refl in
    sym so_far ∙ one

pub none_yet : {A : Type 0} (r : Read (List A)) → and_then [] r ≡ r
none_yet (Ok x) = refl
none_yet (Err e) = refl
