-- The numbers of statuses and operations fit their forms, and the results of operations without a rule are short.
use Rattle.std.proofs.Common.{◌≡◌, ℕ, ◌<◌, ◌≤◌, ◌^◌, Option, Some, None, List, ◌++◌, length, refl, sym, subst, arith}
use Rattle.std.specs.Global.{Vec}
use Rattle.std.specs.List.{flat_map}
use Rattle.std.specs.Prelude.{Result, Ok, Err, OnOk}
use Rattle.std.proofs.lemmas.List.{length-append}
use Rattle.byteorder.specs.Numbers.{length-bytes_high_first}
use Rattle.nfs_forms.proofs.Words.{words_len}
use Rattle.nfs_operations.specs.declared.setattr.SetattrResult.{SetattrResult}
use Rattle.nfs_operations.specs.Setattr.{result}
use Rattle.nfs_xdr.specs.declared.op_result.OpResult.TheVariants as results
use Rattle.nfs_xdr.specs.declared.opnum.DirectoryChange.{DirectoryChange}
use Rattle.nfs_xdr.specs.declared.opnum.DirectoryChange.TheVariants as changes
use Rattle.nfs_xdr.specs.declared.opnum.Opnum.TheVariants as opnums
use Rattle.nfs_xdr.specs.declared.opnum.Unsupported.{Unsupported}
use Rattle.nfs_xdr.specs.declared.opnum.Unsupported.TheVariants as without
use Rattle.nfs_forms.specs.declared.status.Refusal.{Refusal}
use Rattle.nfs_forms.specs.declared.status.Refusal.TheVariants as refusals
use Rattle.nfs_forms.specs.declared.status.Status.{Status}
use Rattle.nfs_forms.specs.declared.status.Status.TheVariants as statuses
use Rattle.nfs_xdr.specs.Opnum.{change_of, operation_of, opnum}
use Rattle.nfs_xdr.specs.OpResult.{op_result, refused_change, refused_without_rule}
use Rattle.nfs_forms.specs.Status.{number_of, number_of_refusal, status}
use Rattle.xdr.specs.Form.{◌and◌, constant, u32}
use Rattle.xdr.specs.Writing.{Writes, written_number, written_u32}
use Rattle.xdr.specs.declared.wire_error.WireError.{WireError}

pub refusal_fits : (r : Refusal) → number_of_refusal r < 2 ^ 32
refusal_fits refusals.NoEnt = omega arith
refusal_fits r = omega arith

pub status_fits : (s : Status) → number_of s < 2 ^ 32
status_fits (statuses.Refused r) = refusal_fits r
status_fits statuses.Ok = omega arith
status_fits s = omega arith

-- SETATTR's result with at most two words of attributes.
pub set_len : (r : SetattrResult) → length r.attributes ≤ 2 → length (result.encoding r) ≤ 16
unfolding result status written_number
set_len r few =
    let number : length (written_u32 (number_of r.status)) ≡ 4 = length-bytes_high_first 4 (number_of r.status) in
    let count : length (written_u32 (length r.attributes)) ≡ 4 = length-bytes_high_first 4 (length r.attributes) in
    let words = flat_map written_u32 r.attributes in
    omega (
      arith,
      few,
      number,
      count,
      words_len r.attributes,
      length-append (written_u32 (number_of r.status)) (written_u32 (length r.attributes) ++ words),
      length-append (written_u32 (length r.attributes)) words,
    )

-- Of operations without a rule.
pub unsupported_encoding : (o : Unsupported)
    → op_result.encoding (results.Unsupported o)
    ≡ (opnum and constant 10004).encoding (opnums.Unsupported o, tt)
unfolding op_result
unsupported_encoding without.Create = refl
unsupported_encoding o = refl

pub read_only_encoding : (change : DirectoryChange)
    → op_result.encoding (results.ReadOnly change)
    ≡ (opnum and constant 30).encoding (opnums.Unsupported (operation_of change), tt)
unfolding op_result
read_only_encoding changes.Create = refl
read_only_encoding change = refl

pub unsupported_fits : (o : Unsupported) → op_result.Fits (results.Unsupported o)
unfolding op_result opnum
unsupported_fits without.Create = (omega arith, omega arith)
unsupported_fits o = (omega arith, omega arith)

pub read_only_fits : (change : DirectoryChange) → op_result.Fits (results.ReadOnly change)
unfolding op_result opnum
read_only_fits changes.Create = (omega arith, omega arith)
read_only_fits change = (omega arith, omega arith)

refit : {T E : Type 0} (r : Result T E) (P Fitted Fits : Type 0) → Fits → OnOk r (P × Fitted) → OnOk r (P × Fits)
refit (Ok v) P Fitted Fits fits is = (is.0, fits)
refit (Err e) P Fitted Fits fits is = tt

-- What was written of a value that fits was written of another one, which fits, too, and has the same encoding.
pub written_as : {T : Type 0} (old new : Vec ℕ) (r : Result T WireError) (bytes encoding : List ℕ) (Fitted Fits : Type 0) → encoding ≡ bytes → Fitted → Fits → Writes old new r bytes Fitted → Writes old new r encoding Fits
written_as old new r bytes encoding Fitted Fits same fitted fits is =
    subst (λ (b : List ℕ). Writes old new r b Fits) (sym same) (refit r _ Fitted Fits fits is.0, is.1, (λ long. absurd (is.2 long fitted)), is.3, is.4, is.5)

pub unsupported_numbers : (o : Unsupported) → (opnum and u32).Fits (opnums.Unsupported o, 10004)
unfolding opnum
unsupported_numbers without.Create = (omega arith, omega arith)
unsupported_numbers o = (omega arith, omega arith)

pub read_only_numbers : (o : Unsupported) → (opnum and u32).Fits (opnums.Unsupported o, 30)
unfolding opnum
read_only_numbers without.Create = (omega arith, omega arith)
read_only_numbers o = (omega arith, omega arith)

pub unsupported_len : (o : Unsupported) → length (op_result.encoding (results.Unsupported o)) ≡ 8
unfolding op_result opnum written_number
unsupported_len without.Create = refl
unsupported_len o = refl

pub read_only_len : (change : DirectoryChange) → length (op_result.encoding (results.ReadOnly change)) ≡ 8
unfolding op_result opnum written_number
read_only_len changes.Create = refl
read_only_len change = refl

change_fits : (found : Option DirectoryChange) (o : Unsupported) → op_result.Fits (refused_change found o)
change_fits (Some change) o = read_only_fits change
change_fits None o = unsupported_fits o

change_len : (found : Option DirectoryChange) (o : Unsupported) → length (op_result.encoding (refused_change found o)) ≡ 8
change_len (Some change) o = read_only_len change
change_len None o = unsupported_len o

pub refused_fits : (o : Unsupported) (r : Refusal) → op_result.Fits (refused_without_rule o r)
refused_fits o refusals.Rofs = change_fits (change_of o) o
refused_fits o r = unsupported_fits o

pub refused_len : (o : Unsupported) (r : Refusal) → length (op_result.encoding (refused_without_rule o r)) ≡ 8
refused_len o refusals.Rofs = change_len (change_of o) o
refused_len o r = unsupported_len o
