-- Results that fit in a reply are few enough to be counted in four bytes, and a status fits its form.
use Rattle.std.proofs.Common.{ℕ, ◌≤◌, ◌<◌, ◌^◌, List, [], ◌∷◌, length, arith}
use Rattle.std.specs.List.{All, flat_map}
use Rattle.std.proofs.lemmas.List.Concat.{flat_map-cons}
use Rattle.std.proofs.lemmas.List.{length-append}
use Rattle.byteorder.specs.Numbers.{length-bytes_high_first}
use Rattle.nfs_xdr.specs.declared.op_result.OpResult.{OpResult}
use Rattle.nfs_forms.specs.declared.status.Status.{Status}
use Rattle.nfs_forms.specs.declared.status.Status.TheVariants as statuses
use Rattle.nfs_forms.specs.declared.status.Refusal.TheVariants as refusals
use Rattle.nfs_xdr.specs.Compound.{compound_result}
use Rattle.nfs_xdr.specs.Opnum.{number_of, opnum}
use Rattle.nfs_xdr.specs.OpResult.{op_result, opnum_of, result_arm}
use Rattle.nfs_forms.specs.Status.{status}
use Rattle.nfs_rpc.specs.declared.records.TheConstants.{RECORD_LIMIT}
use Rattle.xdr.specs.Writing.{written_number, written_u32}

-- every result takes at least one byte, since it begins with a number
some_byte : (answer : OpResult) → 1 ≤ length (op_result.encoding answer)
unfolding op_result opnum written_number
some_byte answer =
    omega (arith, length-append (written_u32 (number_of (opnum_of answer))) (result_arm answer).encoding, length-bytes_high_first 4 (number_of (opnum_of answer)))

count_within : (all : List OpResult) → length all ≤ length (flat_map op_result.encoding all)
count_within [] = omega arith
count_within (answer ∷ all) =
    rw (flat_map-cons, length-append) (omega (arith, some_byte answer, count_within all))

status_fits : (s : Status) → status.Fits s
unfolding status
status_fits (statuses.Refused refusals.NoEnt) = omega arith
status_fits (statuses.Refused r) = omega arith
status_fits statuses.Ok = omega arith
status_fits s = omega arith

pub reply_has_form : (s : Status) (tag : List ℕ) (all : List OpResult) → length tag ≤ RECORD_LIMIT → length (flat_map op_result.encoding all) < 2 ^ 31 → All op_result.Fits all → compound_result.Fits (s, (tag, all))
reply_has_form s tag all short few fit =
    (status_fits s, ((omega (arith, short), omega (arith, short)), (omega (arith, few, count_within all), omega (arith, few, count_within all), fit)))
