-- The bytes of a change, and the run that the first one makes.
use Rattle.std.proofs.Common.{◌≡◌, ℕ, ◌-◌, ◌^◌, ◌<◌, ◌≤◌, true, false, ◌&&◌, ◌||◌, not, ◌==◌, is_some, nat_le, if◌then◌else◌, Option, None, inl, inr, refl, sym, ◌∙◌, ap, arith}
use Rattle.std.proofs.Math.Bool.{and-false}
use Rattle.std.proofs.lemmas.Bool.{cases_lt, le-leb, lt-leb}
use Rattle.nfs_ranges.specs.Bytes.{has}
use Rattle.nfs_ranges.specs.Modes.{is_same, with_mode}
use Rattle.nfs_ranges.specs.Questions.{AreAs}
use Rattle.nfs_ranges.specs.Runs.{begins, runs}
use Rattle.nfs_ranges.specs.declared.mode.Mode.{Mode}
use Rattle.nfs_ranges.specs.declared.range.Range.{Range}
use Rattle.nfs_ranges.proofs.Counting.{count_one, free_starts_none, no_start}

-- which bytes a range has
pub has_in : (range : Range) (byte : ℕ) → range.first ≤ byte → byte ≤ range.last → has range byte ≡ true
has_in range byte above below = rw (le-leb range.first byte above, le-leb byte range.last below) refl

pub hasnt_before : (range : Range) (byte : ℕ) → byte < range.first → has range byte ≡ false
hasnt_before range byte below = rw (lt-leb range.first byte below) refl

pub hasnt_beyond : (range : Range) (byte : ℕ) → range.last < byte → has range byte ≡ false
hasnt_beyond range byte above = rw (lt-leb byte range.last above) (and-false (nat_le range.first byte))

-- outside the range the modes stay
stays : (range : Range) (mode : Option Mode) (modes : ℕ → Option Mode) (byte : ℕ) → has range byte ≡ false
    → with_mode range mode modes byte ≡ modes byte
stays range mode modes byte out = ap (λ t. if t then mode else modes byte) out

-- whether a run begins depends on a byte and the one before
pub same_starts : (old new : ℕ → Option Mode) (byte : ℕ) → new byte ≡ old byte → new (byte - 1) ≡ old (byte - 1)
    → begins new byte ≡ begins old byte
same_starts old new byte here before =
    ap (λ m. is_some m && (byte == 0 || not (is_same m (new (byte - 1))))) here
    ∙ ap (λ m. is_some (old byte) && (byte == 0 || not (is_same (old byte) m))) before

-- the bytes of a change are a stretch of one mode
pub change_is_stretch : (range : Range) (mode : Option Mode) (modes : ℕ → Option Mode) → range.first ≤ range.last
    → AreAs (with_mode range mode modes) range.first range.first range.last
change_is_stretch range mode modes ordered b above below =
    ap (λ t. if t then mode else modes b) (has_in range b above below)
    ∙ sym (ap (λ t. if t then mode else modes range.first) (has_in range range.first (omega arith) ordered))

-- After a change where no byte was held there is one run at most: it begins where the change does.
pub one_run_at_most : (range : Range) (mode : Option Mode) (modes : ℕ → Option Mode) → ((byte : ℕ) → modes byte ≡ None)
    → runs (with_mode range mode modes) ≤ 1
one_run_at_most range mode modes free =
    let after : ℕ → Option Mode = with_mode range mode modes in
    count_one (begins after) range.first (2 ^ 64)
    (λ byte below. free_starts_none after byte
    (stays range mode modes byte (hasnt_before range byte below) ∙ free byte))
    (λ byte above. elim (cases_lt range.last byte) [
      | inl beyond ↦
          free_starts_none after byte
          (stays range mode modes byte (hasnt_beyond range byte beyond) ∙ free byte)
      | inr inside ↦
          let alike = change_is_stretch range mode modes range.ordered in
          no_start after byte (omega (arith, above))
          (alike (byte - 1) (omega (arith, above)) (omega (arith, inside))
          ∙ sym (alike byte (omega (arith, above)) inside))
    ])
