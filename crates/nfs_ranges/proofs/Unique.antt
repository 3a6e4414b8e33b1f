-- The questions have one answer each.
use Rattle.std.proofs.Common.{◌≡◌, ℕ, ◌+◌, ◌-◌, ◌^◌, ◌≤◌, true, false, Option, Some, None, inl, inr, refl, sym, ◌∙◌, ap, arith}
use Rattle.std.proofs.Math.Bridge.{le_prop}
use Rattle.std.proofs.Math.Path.{to_path_p}
use Rattle.std.proofs.lemmas.Bool.{cases_lt}
use Rattle.nfs_ranges.specs.Bytes.{IsIn, IsRangeOf}
use Rattle.nfs_ranges.specs.Modes.{conflicts, is_same}
use Rattle.nfs_ranges.specs.Questions.{AreAs, IsFirstConflict, IsLastSame, IsLeastSame, IsRunAt}
use Rattle.nfs_ranges.specs.declared.mode.Mode.{Mode}
use Rattle.nfs_ranges.specs.declared.range.Range.{Range}
use Rattle.nfs_ranges.proofs.Pieces.{same_self}

-- where a byte conflicts, the first conflict isn't behind it
no_earlier : (modes : ℕ → Option Mode) (range : Range) (asked : Mode) (byte first : ℕ) → IsIn range byte
    → conflicts asked (modes byte) ≡ true → IsFirstConflict modes range asked (Some first) → first ≤ byte
no_earlier modes range asked byte first inside meets is =
    elim (cases_lt byte first) [
      | inl less ↦
          let fails : true ≡ false = sym meets ∙ is.2 byte inside.0 less in
          absurd cc
      | inr most ↦ most
    ]

pub one_first_conflict : (modes : ℕ → Option Mode) (range : Range) (asked : Mode) (a b : Option ℕ)
    → IsFirstConflict modes range asked a → IsFirstConflict modes range asked b → a ≡ b
one_first_conflict modes range asked None None none other = refl
one_first_conflict modes range asked None (Some b) none other =
    let fails : true ≡ false = sym other.1 ∙ none b other.0 in
    absurd cc
one_first_conflict modes range asked (Some a) None is none =
    let fails : true ≡ false = sym is.1 ∙ none a is.0 in
    absurd cc
one_first_conflict modes range asked (Some a) (Some b) is other =
    ap Some (omega (
      arith,
      no_earlier modes range asked a b is.0 is.1 other,
      no_earlier modes range asked b a other.0 other.1 is,
    ))

-- ranges with the same first and last byte are one
same_range : (a b : Range) → a.first ≡ b.first → a.last ≡ b.last → a ≡ b
same_range a b first last = λ i. record {
  first = first i;
  last = last i;
  ordered = to_path_p (λ j. first j ≤ last j) {a = a.ordered} {b = b.ordered} (le_prop _ b.ordered) i;
}

-- a range that has no byte but those of another begins no earlier and ends no later
inside_of : (a b : Range) → ((byte : ℕ) → IsIn a byte → IsIn b byte) → (b.first ≤ a.first) × (a.last ≤ b.last)
inside_of a b only =
    ((only a.first (omega arith, a.ordered)).0, (only a.last (a.ordered, omega arith)).1)

same_bytes : (a b : Range) → ((byte : ℕ) → IsIn a byte → IsIn b byte) → ((byte : ℕ) → IsIn b byte → IsIn a byte) → a ≡ b
same_bytes a b there back =
    let one = inside_of a b there in
    let other = inside_of b a back in
    same_range a b (omega (arith, one.0, other.0)) (omega (arith, one.1, other.1))

pub one_range : (offset length : ℕ) (a b : Option Range) → IsRangeOf offset length a → IsRangeOf offset length b → a ≡ b
one_range offset length None None none other = refl
one_range offset length None (Some b) none other = absurd (none other.0)
one_range offset length (Some a) None is none = absurd (none is.0)
one_range offset length (Some a) (Some b) is other =
    ap Some (same_bytes a b (λ byte inside. (other.1 byte).1 ((is.1 byte).0 inside))
    (λ byte inside. (is.1 byte).1 ((other.1 byte).0 inside)))

-- no stretch in the mode of a byte goes past where the longest one begins, or ends
no_lower : (modes : ℕ → Option Mode) (byte first other : ℕ) → IsLeastSame modes byte first
    → AreAs modes byte other byte → first ≤ other
no_lower modes byte first other is same =
    elim (cases_lt other first) [
      | inr most ↦ most
      | inl less ↦ elim is.2 [
        | inl zero ↦ omega (arith, zero, less)
        | inr differs ↦
            let alike : modes (first - 1) ≡ modes byte =
            same (first - 1) (omega (arith, less)) (omega (arith, is.0)) in
            let fails : true ≡ false =
            sym (ap (λ m. is_same m (modes byte)) alike ∙ same_self (modes byte)) ∙ differs in
            absurd cc
      ]
    ]

no_higher : (modes : ℕ → Option Mode) (byte last other : ℕ) → IsLastSame modes byte last → other ≤ 2 ^ 64 - 1
    → AreAs modes byte byte other → other ≤ last
no_higher modes byte last other is bounded same =
    elim (cases_lt last other) [
      | inr most ↦ most
      | inl less ↦ elim is.3 [
        | inl end ↦ omega (arith, end, bounded)
        | inr differs ↦
            let alike : modes (last + 1) ≡ modes byte =
            same (last + 1) (omega (arith, is.0)) (omega (arith, less)) in
            let fails : true ≡ false =
            sym (ap (λ m. is_same m (modes byte)) alike ∙ same_self (modes byte)) ∙ differs in
            absurd cc
      ]
    ]

pub one_run : (modes : ℕ → Option Mode) (byte : ℕ) (a b : Option (Range × Mode)) → IsRunAt modes byte a
    → IsRunAt modes byte b → a ≡ b
one_run modes byte None None free other = refl
one_run modes byte None (Some b) free other =
    let fails = sym free ∙ other.0 in
    absurd cc
one_run modes byte (Some a) None is free =
    let fails = sym free ∙ is.0 in
    absurd cc
one_run modes byte (Some a) (Some b) is other =
    let first : a.0.first ≡ b.0.first =
    omega (
      arith,
      no_lower modes byte a.0.first b.0.first is.1 other.1.1,
      no_lower modes byte b.0.first a.0.first other.1 is.1.1,
    ) in
    let last : a.0.last ≡ b.0.last =
    omega (
      arith,
      no_higher modes byte a.0.last b.0.last is.2 other.2.1 other.2.2,
      no_higher modes byte b.0.last a.0.last other.2 is.2.1 is.2.2,
    ) in
    let range = same_range a.0 b.0 first last in
    let held : Some a.1 ≡ Some b.1 = sym is.0 ∙ other.0 in
    let mode : a.1 ≡ b.1 = cc in
    λ i. Some (range i, mode i)
