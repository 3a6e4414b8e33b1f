-- The walk over merged runs from the first that may have bytes of a range.
use Rattle.std.proofs.Common.{◌≡◌, ℕ, ◌<◌, ◌≤◌, true, false, ◌||◌, List, [], ◌∷◌, max, drop, Some, None, inl, inr, refl, sym, ◌∙◌, ap, subst, arith}
use Rattle.std.specs.Prelude.{find, nat_lt}
use Rattle.std.specs.List.{AllByRecursion}
use Rattle.std.proofs.lemmas.Bool.{cases_Bool, cases_lt, le-ltb, or_parts}
use Rattle.std.proofs.lemmas.Option.{same_Some}
use Rattle.nfs_ranges.specs.Merged.{IsBehind, IsMerged, ended}
use Rattle.nfs_ranges.specs.Modes.{conflicts, modes_of}
use Rattle.nfs_ranges.specs.Questions.{IsFirstConflict, stops}
use Rattle.nfs_ranges.specs.declared.mode.Mode.{Mode}
use Rattle.nfs_ranges.specs.declared.piece.Piece.{Piece}
use Rattle.nfs_ranges.specs.declared.range.Range.{Range}
use Rattle.nfs_ranges.proofs.Elements.{all_find, all_weaken}
use Rattle.nfs_ranges.proofs.Ended.{ended_first, ended_more}
use Rattle.nfs_ranges.proofs.Merged.{mode_ahead, mode_here, mode_past}

-- what stops a walk over merged runs, for the bytes of the range: none before it is refused
module _ (last : ℕ) (asked : Mode) where
  -- a byte in the first run, before it, or behind it
  at_first : (p : Piece) (ps : List Piece) (b : ℕ) → IsMerged (p ∷ ps) → b ≤ last → stops last asked p ≡ false
      → (p.range.last < b → conflicts asked (modes_of ps b) ≡ false) → conflicts asked (modes_of (p ∷ ps) b) ≡ false
  at_first p ps b h below goes rest =
      elim (cases_lt p.range.last b) [
        | inl past ↦ ap (conflicts asked) (mode_past p ps b past) ∙ rest past
        | inr within ↦ elim (cases_lt b p.range.first) [
          | inl ahead ↦ ap (conflicts asked) (mode_ahead p ps b ahead h.1)
          | inr here ↦
              ap (conflicts asked) (mode_here p ps b here within h.1)
              ∙ (or_parts (nat_lt last p.range.first) (conflicts asked p.mode) goes).1
        ]
      ]

  pub none_stops : (ps : List Piece) → IsMerged ps → find (stops last asked) ps ≡ None → (b : ℕ) → b ≤ last
      → conflicts asked (modes_of ps b) ≡ false
  none_stops [] h is b below = refl
  none_stops (p ∷ ps) h is b below =
      elim (cases_Bool (stops last asked p)) [
        | inl passes ↦
            let some : Some p ≡ None = rw passes at is in
            absurd cc
        | inr goes ↦ at_first p ps b h below goes (λ past. none_stops ps h.2 (rw goes at is) b below)
      ]

  pub before_stop : (ps : List Piece) (q : Piece) → IsMerged ps → find (stops last asked) ps ≡ Some q → (b : ℕ)
      → b ≤ last → b < q.range.first → conflicts asked (modes_of ps b) ≡ false
  before_stop [] q h is b below before = absurd cc
  before_stop (p ∷ ps) q h is b below before =
      elim (cases_Bool (stops last asked p)) [
        | inl passes ↦
            let one = ap (λ (r : Piece). r.range.first) (same_Some p q (rw passes at is)) in
            ap (conflicts asked) (mode_ahead p ps b (omega (arith, before, one)) h.1)
        | inr goes ↦ at_first p ps b h below goes (λ past. before_stop ps q h.2 (rw goes at is) b below before)
      ]

  -- the one that stops it is refused there, unless it begins behind the byte
  pub stop_refuses : (ps : List Piece) (q : Piece) → IsMerged ps → find (stops last asked) ps ≡ Some q
      → q.range.first ≤ last → (conflicts asked q.mode ≡ true)
      × ((b : ℕ) → q.range.first ≤ b → b ≤ q.range.last → modes_of ps b ≡ q.mode)
  stop_refuses [] q h is low = absurd cc
  stop_refuses (p ∷ ps) q h is low =
      elim (cases_Bool (stops last asked p)) [
        | inl passes ↦
            let same = same_Some p q (rw passes at is) in
            subst (λ (r : Piece). r.range.first ≤ last → (conflicts asked r.mode ≡ true)
            × ((b : ℕ) → r.range.first ≤ b → b ≤ r.range.last → modes_of (p ∷ ps) b ≡ r.mode)) same
            (λ first. (
              sym (ap (λ t. t || conflicts asked p.mode) (le-ltb last p.range.first first)) ∙ passes,
              (λ b above within. mode_here p ps b above within h.1),
            )) low
        | inr goes ↦
            let there = stop_refuses ps q h.2 (rw goes at is) low in (
              there.0,
              (λ b above within. mode_past p ps b (omega (arith, above, ahead p ps q h (rw goes at is)))
                  ∙ there.1 b above within),
            )
      ]
    where
      ahead : (p : Piece) (ps : List Piece) (q : Piece) → IsMerged (p ∷ ps) → find (stops last asked) ps ≡ Some q
          → p.range.last < q.range.first
      ahead p ps q h is = (all_find (IsBehind p) (stops last asked) ps q h.1 is).0

-- The runs from the first that doesn't end before a byte on mean what all mean there, and are merged.
pub later_runs : (e : ℕ) (ps : List Piece) → IsMerged ps → IsMerged (drop (ended e ps) ps)
    × ((b : ℕ) → e ≤ b → modes_of ps b ≡ modes_of (drop (ended e ps) ps) b)
    × AllByRecursion (λ p. e ≤ p.range.last) (drop (ended e ps) ps)
later_runs e [] h = (tt, (λ b above. refl), tt)
later_runs e (p ∷ ps) h =
    elim (cases_lt p.range.last e) [
      | inl below ↦
          let rest = later_runs e ps h.2 in
          subst (λ (n : ℕ). IsMerged (drop n (p ∷ ps))
          × ((b : ℕ) → e ≤ b → modes_of (p ∷ ps) b ≡ modes_of (drop n (p ∷ ps)) b)
          × AllByRecursion (λ q. e ≤ q.range.last) (drop n (p ∷ ps))) (sym (ended_more e p ps below))
          (rest.0, (λ b above. mode_past p ps b (omega (arith, below, above)) ∙ rest.1 b above), rest.2)
      | inr above ↦
          subst (λ (n : ℕ). IsMerged (drop n (p ∷ ps))
          × ((b : ℕ) → e ≤ b → modes_of (p ∷ ps) b ≡ modes_of (drop n (p ∷ ps)) b)
          × AllByRecursion (λ q. e ≤ q.range.last) (drop n (p ∷ ps))) (sym (ended_first e p ps h above)) (
            h,
            (λ b k. refl),
            (
              above,
              all_weaken (IsBehind p) (λ q. e ≤ q.range.last) (λ q k. omega (arith, k.0, above, q.range.ordered)) ps h.1,
            ),
          )
    ]

-- no conflict, and the first one
pub no_conflict : (ps : List Piece) (range : Range) (asked : Mode) (place : ℕ) → IsMerged ps → place ≡ ended range.first ps
    → find (stops range.last asked) (drop place ps) ≡ None → IsFirstConflict (modes_of ps) range asked None
no_conflict ps range asked place h there is =
    let later = later_runs range.first ps h in
    λ b inside.
    ap (conflicts asked) (later.1 b inside.0)
    ∙ none_stops range.last asked (drop (ended range.first ps) ps) later.0
    (sym (ap (λ n. find (stops range.last asked) (drop n ps)) there) ∙ is) b inside.1

pub conflict_beyond : (ps : List Piece) (range : Range) (asked : Mode) (place : ℕ) (q : Piece) → IsMerged ps
    → place ≡ ended range.first ps → find (stops range.last asked) (drop place ps) ≡ Some q → range.last < q.range.first
    → IsFirstConflict (modes_of ps) range asked None
conflict_beyond ps range asked place q h there is beyond =
    let later = later_runs range.first ps h in
    λ b inside.
    ap (conflicts asked) (later.1 b inside.0)
    ∙ before_stop range.last asked (drop (ended range.first ps) ps) q later.0
    (sym (ap (λ n. find (stops range.last asked) (drop n ps)) there) ∙ is) b inside.1 (omega (arith, inside.1, beyond))

pub first_at : (ps : List Piece) (range : Range) (asked : Mode) (place : ℕ) (q : Piece) (first : ℕ) → IsMerged ps
    → place ≡ ended range.first ps → find (stops range.last asked) (drop place ps) ≡ Some q → q.range.first ≤ range.last
    → first ≡ max q.range.first range.first
    → IsFirstConflict (modes_of ps) range asked (Some first)
first_at ps range asked place q first h there is within most =
    let rest = drop (ended range.first ps) ps in
    let later = later_runs range.first ps h in
    let found : find (stops range.last asked) rest ≡ Some q =
    sym (ap (λ n. find (stops range.last asked) (drop n ps)) there) ∙ is in
    let refuses = stop_refuses range.last asked rest q later.0 found within in
    let ends = all_find (λ p. range.first ≤ p.range.last) (stops range.last asked) rest q later.2 found in (
      (omega (arith, most), omega (arith, most, within, range.ordered)),
      ap (conflicts asked) (later.1 first (omega (arith, most))
          ∙ refuses.1 first (omega (arith, most)) (omega (arith, most, ends, q.range.ordered)))
          ∙ refuses.0,
      (λ b above below. elim (cases_lt b q.range.first) [
        | inl before ↦
            ap (conflicts asked) (later.1 b above)
            ∙ before_stop range.last asked rest q later.0 found b (omega (arith, before, within)) before
        | inr passed ↦ absurd (omega (arith, most, above, below, passed))
      ]),
    )
