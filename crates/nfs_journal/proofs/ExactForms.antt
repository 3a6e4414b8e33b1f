-- At most one value is encoded by some bytes, and it is the one that is read.
use Rattle.std.proofs.Common.{◌≡◌, ℕ, true, false, List, [], Ok, Err, refl, sym, ap, subst, ◌∙◌}
use Rattle.std.specs.Prelude.{IsErrOf}
use Rattle.std.specs.Str.{bytes_eq}
use Rattle.std.proofs.lemmas.List.{append-nil}
use Rattle.std.proofs.lemmas.Slice.Eq.{bytes_eq-Decides}
use Rattle.xdr.specs.declared.wire_error.WireError.{WireError}
use Rattle.xdr.specs.declared.wire_error.WireError.TheVariants as errors
use Rattle.xdr.specs.Form.{Form}
use Rattle.xdr.specs.Reading.{Begins, Fails}
use Rattle.xdr.specs.laws.Reads.{lacks, ok_is}
use Rattle.nfs_journal.specs.Exact.{IsEncoded, EncodesNothing, IsExactly}

begins : {A : Type 0} (f : Form A) (bytes : List ℕ) (value : A) → IsEncoded f value bytes → Begins (f.layout value) bytes []
begins f bytes value is = (f.encoding value, is.1 ∙ sym (append-nil (f.encoding value)), f.encodes value is.0)

read_of : {A : Type 0} (f : Form A) (bytes : List ℕ) (value : A) → IsEncoded f value bytes → f.at bytes ≡ Ok (value, [])
read_of f bytes value is =
    let found = begins f bytes value is in
    ap f.at found.1 ∙ f.reads.complete value found.0 [] found.2

-- the value that is read is the one that the bytes encode, if there is one
only_one : {A : Type 0} (f : Form A) (bytes : List ℕ) (value other : A) (rest : List ℕ) → f.at bytes ≡ Ok (value, rest)
    → IsEncoded f other bytes → value ≡ other
only_one {A = A} f bytes value other rest read is =
    ap (λ (x : A × List ℕ). x.0) (ok_is (value, rest) (other, []) (sym read ∙ read_of f bytes other is))

pub one_encoded : {A : Type 0} (f : Form A) (bytes : List ℕ) (value other : A) → IsEncoded f value bytes
    → IsEncoded f other bytes → value ≡ other
one_encoded f bytes value other is also = only_one f bytes value other [] (read_of f bytes value is) also

none_if_unread : {A : Type 0} (f : Form A) (bytes : List ℕ) (e : WireError) → f.at bytes ≡ Err e → EncodesNothing f bytes
none_if_unread f bytes e failed value is = lacks f.layout f.at f.reads bytes e failed value [] (begins f bytes value is)

-- the bytes can't be read
pub unread : {A : Type 0} (f : Form A) (bytes : List ℕ) (e : WireError) → Fails e (f.at bytes) → IsExactly f (Err e) bytes
unread f bytes errors.Memory failed = tt
unread f bytes errors.Short failed = none_if_unread f bytes errors.Short failed
unread f bytes errors.TooLong failed = none_if_unread f bytes errors.TooLong failed

-- the value that is read can't be written
pub unwritten : {A : Type 0} (f : Form A) (bytes : List ℕ) (value : A) (rest : List ℕ) (e : WireError)
    → f.at bytes ≡ Ok (value, rest)
    → (IsErrOf {T = Unit {0}} (Err e) errors.TooLong → f.Fits value → ⊥)
    → (IsErrOf {T = Unit {0}} (Err e) errors.Short → ⊥)
    → IsExactly f (Err e) bytes
unwritten f bytes value rest errors.Memory read unfit never = tt
unwritten f bytes value rest errors.Short read unfit never = absurd (never refl)
unwritten f bytes value rest errors.TooLong read unfit never =
    λ other is. unfit refl (subst f.Fits (sym (only_one f bytes value other rest read is)) is.0)

differ : (written bytes : List ℕ) → false ≡ bytes_eq written bytes → bytes ≡ written → ⊥
differ written bytes tested same =
    let equal : bytes_eq written bytes ≡ true = (bytes_eq-Decides written bytes).1 (sym same) in
    let clash : false ≡ true = tested ∙ equal in
    cc

-- the value that is read is written by other bytes
pub unlike : {A : Type 0} (f : Form A) (bytes : List ℕ) (value : A) (rest written : List ℕ) → f.at bytes ≡ Ok (value, rest)
    → written ≡ f.encoding value → false ≡ bytes_eq written bytes → EncodesNothing f bytes
unlike f bytes value rest written read is tested other encoded =
    differ written bytes tested (encoded.1 ∙ ap f.encoding (sym (only_one f bytes value other rest read encoded)) ∙ sym is)
