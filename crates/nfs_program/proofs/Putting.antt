-- Bytes that are put one after the other.
use Rattle.std.proofs.Common.{◌≡◌, ℕ, suc, ◌+◌, ◌<◌, List, [], ◌∷◌, ◌++◌, length, get_or, take, drop, Result, Ok, Err, OnErr, OnOk, sym, ap, subst, ◌∙◌, append_assoc, arith}
use Rattle.std.specs.List.{flat_map}
use Rattle.std.proofs.Math.Seq.{take-suc}
use Rattle.std.proofs.lemmas.List.{append-nil, take-append-drop}
use Rattle.std.proofs.lemmas.List.Concat.{flat_map-cons}
use Rattle.std.proofs.lemmas.Grind.{flat_map-append}
use Rattle.nfs_server.specs.Device.{Device, IsCut, IsWritten}
use Rattle.nfs_program.specs.Pieces.{ArePut, Waiting, waiting}
use Rattle.nfs_server.specs.declared.device.DeviceFailed.{DeviceFailed}
use Rattle.nfs_server.specs.laws.Writing.{cut_after, cut_before, written_then}

-- bytes were put, and then more
pub put_then : {W : Type 0} (device : Device W) (a b c : Waiting W) (bytes more : List ℕ) (result : Result (Unit {0}) DeviceFailed)
    → ArePut device a bytes (Ok tt) b → ArePut device b more result c → ArePut device a (bytes ++ more) result c
put_then device a b c bytes more (Ok done) first second = (
  first.0 ++ second.0,
  sym (append_assoc a.bytes bytes more) ∙ ap (λ (x : List ℕ). x ++ more) first.1 ∙ append_assoc first.0 b.bytes more ∙ ap (λ (x : List ℕ). first.0 ++ x) second.1 ∙ sym (append_assoc first.0 second.0 c.bytes),
  written_then device a.sink b.sink c.sink first.0 second.0 first.2 second.2,
)
put_then device a b c bytes more (Err error) first cut =
    let whole = ap (λ (x : List ℕ). x ++ more) (sym first.1) in
    subst (λ (x : List ℕ). IsCut device a.sink x c.sink) (sym (append_assoc first.0 b.bytes more) ∙ whole ∙ append_assoc a.bytes bytes more)
    (cut_after device a.sink b.sink c.sink first.0 (b.bytes ++ more) first.2 cut)

-- a write failed before these bytes were written, so also before more
pub put_before : {W : Type 0} (device : Device W) (a c : Waiting W) (bytes more : List ℕ) (error : DeviceFailed) → ArePut device a bytes (Err error) c → ArePut device a (bytes ++ more) (Err error) c
put_before device a c bytes more error cut = subst (λ (x : List ℕ). IsCut device a.sink x c.sink) (append_assoc a.bytes bytes more) (cut_before device a.sink c.sink (a.bytes ++ bytes) more cut)

-- the bytes of the values so far, and of the next one
pub one_more : {A : Type 0} (encoding : A → List ℕ) (values : List A) (i : ℕ) (value : A) → i < length values → value ≡ get_or values i value
    → flat_map encoding (take (i + 1) values) ≡ flat_map encoding (take i values) ++ encoding value
one_more {A = A} encoding values i value lt is =
    let after : i + 1 ≡ suc i = omega arith in
    let next : take (i + 1) values ≡ take i values ++ value ∷ [] = ap (λ (n : ℕ). take n values) after ∙ take-suc values i value lt ∙ ap (λ (v : A). take i values ++ v ∷ []) (sym is) in
    ap (flat_map encoding) next ∙ flat_map-append encoding (take i values) (value ∷ [])
    ∙ ap (λ (x : List ℕ). flat_map encoding (take i values) ++ x) (flat_map-cons encoding value [] ∙ append-nil (encoding value))

-- the bytes of the first values, and of those after them
pub all_in_two : {A : Type 0} (encoding : A → List ℕ) (values : List A) (n : ℕ) → flat_map encoding (take n values) ++ flat_map encoding (drop n values) ≡ flat_map encoding values
all_in_two encoding values n = sym (flat_map-append encoding (take n values) (drop n values)) ∙ ap (flat_map encoding) (take-append-drop n values)

pub on_ok : {T E : Type 0} (r : Result T E) (P Q : Type 0) → (P → Q) → OnOk r P → OnOk r Q
on_ok (Ok x) P Q f p = f p
on_ok (Err e) P Q f p = tt

pub on_err : {T E : Type 0} (r : Result T E) (P : Type 0) → P → OnErr r P
on_err (Ok x) P p = tt
on_err (Err e) P p = p

pub on_failures : {T E : Type 0} (r : Result T E) (P Q : Type 0) → (P → Q) → OnErr r P → OnErr r Q
on_failures (Ok x) P Q f p = tt
on_failures (Err e) P Q f p = f p

-- the bytes that wait are written at the end, so that all of them are
pub written_out : {W : Type 0} (device : Device W) (a c : W) (mid : Waiting W) (bytes : List ℕ) → ArePut device (waiting a []) bytes (Ok tt) mid → IsWritten device mid.sink mid.bytes c → IsWritten device a bytes c
written_out device a c mid bytes are rest = subst (λ (x : List ℕ). IsWritten device a x c) (sym are.1) (written_then device a mid.sink c are.0 mid.bytes are.2 rest)

-- a write failed at the end
pub cut_out : {W : Type 0} (device : Device W) (a c : W) (mid : Waiting W) (bytes : List ℕ) → ArePut device (waiting a []) bytes (Ok tt) mid → IsCut device mid.sink mid.bytes c → IsCut device a bytes c
cut_out device a c mid bytes are rest = subst (λ (x : List ℕ). IsCut device a x c) (sym are.1) (cut_after device a mid.sink c are.0 mid.bytes are.2 rest)
