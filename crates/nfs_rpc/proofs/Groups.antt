-- The list of groups in a credential can be skipped exactly if it can be read.
use Rattle.std.proofs.Common.{◌≡◌, ℕ, zero, suc, ◌+◌, ◌*◌, ◌≤◌, ◌<◌, false, ltb, List, ◌∷◌, length, drop, Ok, Err, refl, ap, ◌∙◌, arith, inl, inr}
use Rattle.std.proofs.lemmas.Bool.{le-ltb, ltb-false}
use Rattle.std.proofs.lemmas.List.{length-drop, drop-drop}
use Rattle.byteorder.specs.Endian.{big_number}
use Rattle.xdr.specs.declared.wire_error.WireError.TheVariants as errors
use Rattle.xdr.specs.Reading.{Read, ◌>>=◌, as_value, number_at, each_at, many_at}
use Rattle.xdr.specs.laws.Reads.{true_or_false}
use Rattle.nfs_rpc.specs.declared.auth_sys.TheConstants.{GID_LIMIT}
use Rattle.nfs_rpc.specs.AuthSys.{gids}

abbrev passed : List ℕ × List ℕ → Read (Unit {0})
passed x = Ok (tt, x.1)

abbrev paired : ℕ → List ℕ × List ℕ → Read (ℕ × List ℕ)
paired n b = Ok ((n, b.0), b.1)

abbrev joined : (ℕ × List ℕ) × List ℕ → Read (List ℕ)
joined a = Ok (a.0.0 ∷ a.0.1, a.1)

one_more : (n : ℕ) (r : Read (List ℕ)) → r >>= paired n >>= joined >>= passed ≡ r >>= passed
one_more n (Ok x) = refl
one_more n (Err e) = refl

abbrev pass_each : ℕ → List ℕ → Read (Unit {0})
pass_each count bytes = each_at (number_at 4) count bytes >>= passed

pub missing : (count : ℕ) (bytes : List ℕ) → length bytes < 4 * count → pass_each count bytes ≡ Err errors.Short
unfolding each_at number_at
missing zero bytes few = absurd (omega (arith, few))
missing (suc count) bytes few =
    elim (true_or_false (ltb (length bytes) 4)) [
      | inl short ↦ rw short refl
      | inr long ↦ rw long (one_more (big_number 4 bytes) (each_at (number_at 4) count (drop 4 bytes))
          ∙ missing count (drop 4 bytes) (omega (arith, length-drop 4 bytes, ltb-false _ _ long, few)))
    ]

pub there : (count : ℕ) (bytes : List ℕ) → 4 * count ≤ length bytes → pass_each count bytes ≡ Ok (tt, drop (4 * count) bytes)
unfolding each_at number_at
there zero bytes enough = refl
there (suc count) bytes enough =
    let long : ltb (length bytes) 4 ≡ false = le-ltb _ _ (omega (arith, enough)) in
    let all : 4 + 4 * count ≡ 4 * suc count = omega arith in
    rw long (one_more (big_number 4 bytes) (each_at (number_at 4) count (drop 4 bytes))
    ∙ there count (drop 4 bytes) (omega (arith, length-drop 4 bytes, enough))
    ∙ ap (λ (x : List ℕ). Ok (tt, x)) (drop-drop (4 * count) 4 bytes ∙ ap (λ n. drop n bytes) all))

pub gids_are : (bytes : List ℕ) (count : ℕ) (rest : List ℕ) → number_at 4 bytes ≡ Ok (count, rest) → count ≤ GID_LIMIT → as_value (λ (numbers : List ℕ). tt) gids.at bytes ≡ pass_each count rest
unfolding many_at
gids_are bytes count rest number few = rw (number, le-ltb _ _ few) refl
