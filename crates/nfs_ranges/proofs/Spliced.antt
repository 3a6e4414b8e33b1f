-- What stands after a splice of merged runs is what the change makes of them, and merged.
use Rattle.std.proofs.Common.{◌≡◌, ℕ, ◌+◌, ◌-◌, ◌^◌, ◌<◌, ◌≤◌, false, if◌then◌else◌, List, [], ◌∷◌, ◌++◌, length, take, drop, Option, Some, None, inl, inr, refl, sym, ◌∙◌, ap, subst, append_assoc, append-nil, arith}
use Rattle.std.specs.Prelude.{slice_get, is_some, IfSome}
use Rattle.std.specs.List.{AllByRecursion, cons_option}
use Rattle.std.proofs.lemmas.Bool.{cases_lt}
use Rattle.nfs_ranges.specs.Merged.{IsBehind, IsMerged, ended}
use Rattle.nfs_ranges.specs.Modes.{is_same, mode_from, modes_of, with_change}
use Rattle.nfs_ranges.specs.Splices.{IsFirstWith, IsLastWith, IsRestBefore, IsRestBehind, IsRunOver, IsSpliceOf}
use Rattle.nfs_ranges.specs.declared.mode.Mode.{Mode}
use Rattle.nfs_ranges.specs.declared.piece.Piece.{Piece}
use Rattle.nfs_ranges.proofs.Changes.{has_in, hasnt_before, hasnt_beyond}
use Rattle.nfs_ranges.proofs.Cuts.{back, back_apart, back_begins, back_merged, back_mode, front, front_apart, front_ends, front_merged, front_mode, stop_of}
use Rattle.nfs_ranges.proofs.Elements.{all_both, all_weaken}
use Rattle.nfs_ranges.proofs.Ended.{ended_length, ended_up, next_not_ended}
use Rattle.nfs_ranges.proofs.Merged.{merged_append, mode_append, mode_beyond, mode_passed, same_sym}
use Rattle.nfs_ranges.proofs.Elements.{get_some}

-- the list before, the run, and the list behind
joined : (xs : List Piece) (left : Option Piece) (ys : List Piece)
    → xs ++ cons_option left ys ≡ (xs ++ cons_option left []) ++ ys
joined xs None ys = ap (λ zs. zs ++ ys) (sym (append-nil xs))
joined xs (Some x) ys = sym (append_assoc xs (x ∷ []) ys)

-- a run of the change between what is before it and what is behind it
module _ (change : Piece) (ps : List Piece) (first last : ℕ) (left run right : Option Piece) (h : IsMerged ps)
    (low : IsFirstWith change ps first) (high : IsLastWith change ps last) (bound : last ≤ 2 ^ 64 - 1)
    (is_left : IsRestBefore first (slice_get ps (ended first ps)) left)
    (is_right : IsRestBehind last (slice_get ps (ended (last + 1) ps)) right)
    (is_run : IsRunOver change first last run) where
  abbrev before : List Piece
  before = front first ps left

  abbrev behind : List Piece
  behind = back last ps right

  abbrev after : List Piece
  after = before ++ cons_option run behind

  begins : AllByRecursion (λ x. last < x.range.first) behind
  begins = back_begins last ps right h is_right

  -- the bytes of the run, and those behind it
  run_mode : (r : Option Piece) → IsRunOver change first last r → (b : ℕ) → first ≤ b → b ≤ last
      → mode_from None (cons_option r behind) b ≡ change.mode
  run_mode None is b above below =
      mode_beyond None behind b
      (all_weaken (λ x. last < x.range.first) (λ x. b < x.range.first) (λ x k. omega (arith, k, below)) behind begins)
      ∙ sym is
  run_mode (Some r) is b above below =
      ap (λ t. mode_from (if t then r.mode else None) behind b)
      (has_in r.range b (omega (arith, above, is.1.0)) (omega (arith, below, is.1.1)))
      ∙ mode_beyond r.mode behind b
      (all_weaken (λ x. last < x.range.first) (λ x. b < x.range.first) (λ x k. omega (arith, k, below)) behind begins)
      ∙ is.1.2

  run_past : (r : Option Piece) → IsRunOver change first last r → (b : ℕ) → last < b
      → mode_from None (cons_option r behind) b ≡ modes_of ps b
  run_past None is b past = back_mode last b past ps right h is_right None
  run_past (Some r) is b past =
      ap (λ t. mode_from (if t then r.mode else None) behind b) (hasnt_beyond r.range b (omega (arith, past, is.1.1)))
      ∙ back_mode last b past ps right h is_right None

  run_ahead : (r : Option Piece) → IsRunOver change first last r → (b : ℕ) → b < first → (mode : Option Mode)
      → mode_from mode (cons_option r behind) b ≡ mode
  run_ahead None is b ahead mode =
      mode_beyond mode behind b
      (all_weaken (λ x. last < x.range.first) (λ x. b < x.range.first)
      (λ x k. omega (arith, k, ahead, low.0, high.0, change.range.ordered)) behind begins)
  run_ahead (Some r) is b ahead mode =
      ap (λ t. mode_from (if t then r.mode else mode) behind b) (hasnt_before r.range b (omega (arith, ahead, is.1.0)))
      ∙ run_ahead_none b ahead mode
    where
      run_ahead_none : (b : ℕ) → b < first → (mode : Option Mode) → mode_from mode behind b ≡ mode
      run_ahead_none b ahead mode =
          mode_beyond mode behind b
          (all_weaken (λ x. last < x.range.first) (λ x. b < x.range.first)
          (λ x k. omega (arith, k, ahead, low.0, high.0, change.range.ordered)) behind begins)

  -- what the change makes of the bytes of the run
  change_mode : (b : ℕ) → first ≤ b → b ≤ last → with_change change (modes_of ps) b ≡ change.mode
  change_mode b above below =
      elim (cases_lt b change.range.first) [
        | inl ahead ↦
            ap (λ t. if t then change.mode else modes_of ps b) (hasnt_before change.range b ahead)
            ∙ low.1 b above ahead
        | inr there ↦ elim (cases_lt change.range.last b) [
          | inl past ↦
              ap (λ t. if t then change.mode else modes_of ps b) (hasnt_beyond change.range b past)
              ∙ high.1 b past below
          | inr within ↦
              ap (λ t. if t then change.mode else modes_of ps b) (has_in change.range b there within)
        ]
      ]

  passed : (b : ℕ) → first ≤ b → mode_from None before b ≡ None
  passed b above =
      mode_passed None before b
      (all_weaken (λ x. x.range.last < first) (λ x. x.range.last < b) (λ x k. omega (arith, k, above)) before
      (front_ends first ps left h is_left))

  after_mode : (b : ℕ) → modes_of after b ≡ with_change change (modes_of ps) b
  after_mode b =
      mode_append None before (cons_option run behind) b
      ∙ elim (cases_lt b first) [
        | inl ahead ↦
            run_ahead run is_run b ahead (mode_from None before b)
            ∙ front_mode first b ahead ps left h is_left None
            ∙ sym (ap (λ t. if t then change.mode else modes_of ps b)
            (hasnt_before change.range b (omega (arith, ahead, low.0))))
        | inr there ↦
            ap (λ m. mode_from m (cons_option run behind) b) (passed b there)
            ∙ elim (cases_lt last b) [
              | inl past ↦
                  run_past run is_run b past
                  ∙ sym (ap (λ t. if t then change.mode else modes_of ps b)
                  (hasnt_beyond change.range b (omega (arith, past, high.0))))
              | inr within ↦ run_mode run is_run b there within ∙ sym (change_mode b there within)
            ]
      ]

  -- what is before the run comes before it, and before what is behind it
  run_merged : (r : Option Piece) → IsRunOver change first last r → IsMerged (cons_option r behind)
  run_merged None is = back_merged last ps right h is_right
  run_merged (Some r) is = (
    (ap is_some is.1.2 ∙ is.0, omega (arith, is.1.1, bound)),
    all_both (λ x. last < x.range.first) (λ x. last + 1 ≡ x.range.first → is_same x.mode change.mode ≡ false)
        (IsBehind r)
        (λ x k apart. (
          omega (arith, k, is.1.1),
          (λ touch. same_sym r.mode x.mode ∙ ap (is_same x.mode) is.1.2 ∙ apart (omega (arith, touch, is.1.1))),
        ))
        behind begins (back_apart last change.mode ps right h is_right high.2),
    back_merged last ps right h is_right,
  )

  ahead_of : (x : Piece) → x.range.last < first → AllByRecursion (IsBehind x) behind
  ahead_of x ends =
      all_weaken (λ y. last < y.range.first) (IsBehind x)
      (λ y k. (
        omega (arith, ends, k, low.0, high.0, change.range.ordered),
        (λ touch. absurd (omega (arith, touch, ends, k, low.0, high.0, change.range.ordered))),
      )) behind begins

  before_run : (r : Option Piece) → IsRunOver change first last r → (x : Piece) → x.range.last < first
      → (x.range.last + 1 ≡ first → is_same x.mode change.mode ≡ false) → AllByRecursion (IsBehind x) (cons_option r behind)
  before_run None is x ends apart = ahead_of x ends
  before_run (Some r) is x ends apart = (
    (
      omega (arith, ends, is.1.0),
      (λ touch. ap (is_same x.mode) is.1.2 ∙ apart (omega (arith, touch, is.1.0))),
    ),
    ahead_of x ends,
  )

  after_merged : IsMerged after
  after_merged =
      merged_append before (cons_option run behind)
      (front_merged first (omega (arith, bound, low.0, high.0, change.range.ordered)) ps left h is_left)
      (run_merged run is_run)
      (all_both (λ x. x.range.last < first) (λ x. x.range.last + 1 ≡ first → is_same x.mode change.mode ≡ false)
      (λ x. AllByRecursion (IsBehind x) (cons_option run behind))
      (λ x ends apart. before_run run is_run x ends apart) before
      (front_ends first ps left h is_left) (front_apart first change.mode ps left h is_left low.2))

  stops : (r : Option Piece) → IsRestBehind last (slice_get ps (ended (last + 1) ps)) r
      → stop_of (ended (last + 1) ps) r ≤ length ps
  stops None is = omega (arith, ended_length (last + 1) ps)
  stops (Some r) is = some_stops (slice_get ps (ended (last + 1) ps)) refl is
    where
      some_stops : (next : Option Piece) → slice_get ps (ended (last + 1) ps) ≡ next → IsRestBehind last next (Some r)
          → stop_of (ended (last + 1) ps) (Some r) ≤ length ps
      some_stops None at is = absurd cc
      some_stops (Some p) at is = omega (arith, get_some ps (ended (last + 1) ps) p at)

  pub is_splice : (start stop : ℕ) → start ≡ ended first ps → stop ≡ stop_of (ended (last + 1) ps) right
      → IsSpliceOf change ps (record { start = start; left = left; run = run; right = right; stop = stop })
  is_splice start stop is_start is_stop =
      let list : take start ps ++ cons_option left (cons_option run (cons_option right (drop stop ps))) ≡ after =
      joined (take start ps) left (cons_option run (cons_option right (drop stop ps)))
      ∙ ap (λ n. (take n ps ++ cons_option left []) ++ cons_option run (cons_option right (drop stop ps))) is_start
      ∙ ap (λ n. before ++ cons_option run (cons_option right (drop n ps))) is_stop in
      let up = ended_up first (last + 1) ps (omega (arith, low.0, high.0, change.range.ordered)) in (
        omega (arith, is_start, is_stop, up),
        omega (arith, is_stop, stops right is_right),
        ap modes_of list ∙ (λ i. λ b. after_mode b i),
        subst IsMerged (sym list) after_merged,
      )

-- the run at the place behind a byte ends behind it
pub next_ends : (byte : ℕ) (ps : List Piece) (place : ℕ) (next : Option Piece) → IsMerged ps
    → place ≡ ended (byte + 1) ps → next ≡ slice_get ps place → IfSome next (λ p. byte < p.range.last)
next_ends byte ps place None h there at = tt
next_ends byte ps place (Some p) h there at =
    omega (arith, next_not_ended (byte + 1) ps place p h (sym at) (omega (arith, there)))
