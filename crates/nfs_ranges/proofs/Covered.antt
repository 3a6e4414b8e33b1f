-- Runs that hold a byte in a mode, or for writing.
use Rattle.std.proofs.Common.{◌≡◌, ℕ, ◌≤◌, ◌<◌, true, false, List, [], ◌∷◌, Some, None, inl, inr, refl, sym, ◌∙◌, ap, subst, arith}
use Rattle.std.specs.Prelude.{◌||◌, find, nat_le}
use Rattle.std.specs.List.{list_any}
use Rattle.std.proofs.lemmas.Bool.{and_from, and_parts, cases_Bool, leb-false, leb-true, or_left, or_right, true≢false}
use Rattle.std.proofs.lemmas.Option.{same_Some}
use Rattle.nfs_ranges.specs.Bytes.{has}
use Rattle.nfs_ranges.specs.Covering.{Covers, gives, suffices}
use Rattle.nfs_ranges.specs.declared.mode.Mode.{Mode}
use Rattle.nfs_ranges.specs.declared.piece.Piece.{Piece}
use Rattle.nfs_ranges.specs.declared.range.Range.{Range}
use Rattle.nfs_ranges.proofs.Changes.{has_in}

-- the run that has a byte has each one from there to its last
pub given_on : (mode : Mode) (byte b : ℕ) (runs : List Piece) (run : Piece) → find (gives mode byte) runs ≡ Some run → byte ≤ b → b ≤ run.range.last
    → list_any (gives mode b) runs ≡ true
given_on mode byte b [] run is low high = absurd cc
given_on mode byte b (q ∷ qs) run is low high =
    elim (cases_Bool (gives mode byte q)) [
      | inl passes ↦
          let parts = and_parts (has q.range byte) (suffices mode q.mode) passes in
          let bounds = and_parts (nat_le q.range.first byte) (nat_le byte q.range.last) parts.0 in
          let last : b ≤ q.range.last = subst (λ (r : Piece). b ≤ r.range.last) (sym (same_Some q run (rw passes at is))) high in
          let here = has_in q.range b (omega (arith, leb-true q.range.first byte bounds.0, low)) last in
          or_left (gives mode b q) (list_any (gives mode b) qs) (and_from (has q.range b) (suffices mode q.mode) here parts.1)
      | inr fails ↦ or_right (gives mode b q) (list_any (gives mode b) qs) (given_on mode byte b qs run (rw fails at is) low high)
    ]

pub given_by_none : (mode : Mode) (byte : ℕ) (runs : List Piece) → find (gives mode byte) runs ≡ None → list_any (gives mode byte) runs ≡ false
given_by_none mode byte [] is = refl
given_by_none mode byte (q ∷ qs) is =
    elim (cases_Bool (gives mode byte q)) [
      | inl passes ↦
          let some : Some q ≡ None = rw passes at is in
          absurd cc
      | inr fails ↦ ap (λ b. b || list_any (gives mode byte) qs) fails ∙ given_by_none mode byte qs (rw fails at is)
    ]

-- the bytes up to one, and those of a run from there on
pub given_more : (mode : Mode) (range : Range) (byte : ℕ) (runs : List Piece) (run : Piece) → find (gives mode byte) runs ≡ Some run
    → ((b : ℕ) → range.first ≤ b → b < byte → list_any (gives mode b) runs ≡ true)
    → (b : ℕ) → range.first ≤ b → b ≤ run.range.last → list_any (gives mode b) runs ≡ true
given_more mode range byte runs run is before b low high =
    elim (cases_Bool (nat_le byte b)) [
      | inl from ↦ given_on mode byte b runs run is (leb-true byte b from) high
      | inr below ↦ before b low (omega (arith, leb-false byte b below))
    ]

-- a byte of the range that no run has
pub uncovered : (mode : Mode) (range : Range) (byte : ℕ) (runs : List Piece) → find (gives mode byte) runs ≡ None → range.first ≤ byte → byte ≤ range.last → Covers runs range mode → ⊥
uncovered mode range byte runs none low high covers = true≢false (sym (covers byte (low, high)) ∙ given_by_none mode byte runs none)

-- the run that is found has the byte
pub given_here : (mode : Mode) (byte : ℕ) (runs : List Piece) (run : Piece) → find (gives mode byte) runs ≡ Some run → byte ≤ run.range.last
given_here mode byte [] run is = absurd cc
given_here mode byte (q ∷ qs) run is =
    elim (cases_Bool (gives mode byte q)) [
      | inl passes ↦
          let parts = and_parts (has q.range byte) (suffices mode q.mode) passes in
          let bounds = and_parts (nat_le q.range.first byte) (nat_le byte q.range.last) parts.0 in
          subst (λ (r : Piece). byte ≤ r.range.last) (same_Some q run (rw passes at is)) (leb-true byte q.range.last bounds.1)
      | inr fails ↦ given_here mode byte qs run (rw fails at is)
    ]
