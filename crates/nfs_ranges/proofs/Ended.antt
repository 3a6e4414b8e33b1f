-- How many merged runs end before a byte: those are the first, and the next one is where the byte may be.
use Rattle.std.proofs.Common.{◌≡◌, ℕ, zero, suc, ◌<◌, ◌≤◌, nat_le, if◌then◌else◌, List, [], ◌∷◌, length, Option, Some, None, inl, inr, refl, sym, ◌∙◌, ap, arith}
use Rattle.std.specs.Prelude.{find, slice_get}
use Rattle.std.specs.List.{AllByRecursion}
use Rattle.std.proofs.lemmas.Bool.{cases_lt, le-leb, le-ltb, lt-leb, lt-ltb}
use Rattle.std.proofs.lemmas.Option.{same_Some}
use Rattle.nfs_ranges.specs.Bytes.{has}
use Rattle.nfs_ranges.specs.Merged.{IsBehind, IsMerged, ended}
use Rattle.nfs_ranges.specs.declared.piece.Piece.{Piece}
use Rattle.nfs_ranges.proofs.Changes.{has_in, hasnt_before, hasnt_beyond}
use Rattle.nfs_ranges.proofs.Elements.{all_get, all_weaken}

-- one run more
pub ended_more : (e : ℕ) (p : Piece) (ps : List Piece) → p.range.last < e → ended e (p ∷ ps) ≡ suc (ended e ps)
ended_more e p ps below = rw (lt-ltb p.range.last e below) refl

pub ended_same : (e : ℕ) (p : Piece) (ps : List Piece) → e ≤ p.range.last → ended e (p ∷ ps) ≡ ended e ps
ended_same e p ps above = rw (le-ltb p.range.last e above) refl

pub ended_none : (e : ℕ) (ps : List Piece) → AllByRecursion (λ p. e ≤ p.range.last) ps → ended e ps ≡ 0
ended_none e [] h = refl
ended_none e (p ∷ ps) h = ended_same e p ps h.0 ∙ ended_none e ps h.1

-- where the first run doesn't end before the byte, none does
pub ended_first : (e : ℕ) (p : Piece) (ps : List Piece) → IsMerged (p ∷ ps) → e ≤ p.range.last → ended e (p ∷ ps) ≡ 0
ended_first e p ps h above =
    ended_same e p ps above
    ∙ ended_none e ps
    (all_weaken (IsBehind p) (λ q. e ≤ q.range.last) (λ q b. omega (arith, b.0, above, q.range.ordered)) ps h.1)

pub ended_length : (e : ℕ) (ps : List Piece) → ended e ps ≤ length ps
ended_length e [] = omega arith
ended_length e (p ∷ ps) =
    elim (cases_lt p.range.last e) [
      | inl below ↦ omega (arith, ended_more e p ps below, ended_length e ps)
      | inr above ↦ omega (arith, ended_same e p ps above, ended_length e ps)
    ]

-- all of them end before a byte beyond the last one
pub ended_all : (e : ℕ) (ps : List Piece) → AllByRecursion (λ p. p.range.last < e) ps → ended e ps ≡ length ps
ended_all e [] h = refl
ended_all e (p ∷ ps) h = ended_more e p ps h.0 ∙ ap suc (ended_all e ps h.1)

-- a later byte has no fewer
pub ended_up : (e f : ℕ) (ps : List Piece) → e ≤ f → ended e ps ≤ ended f ps
ended_up e f [] up = omega arith
ended_up e f (p ∷ ps) up =
    elim (cases_lt p.range.last e) [
      | inl below ↦
          omega (arith, ended_more e p ps below, ended_more f p ps (omega (arith, below, up)), ended_up e f ps up)
      | inr above ↦ elim (cases_lt p.range.last f) [
        | inl less ↦ omega (arith, ended_same e p ps above, ended_more f p ps less, ended_up e f ps up)
        | inr most ↦ omega (arith, ended_same e p ps above, ended_same f p ps most, ended_up e f ps up)
      ]
    ]

-- a run that ends before the byte is one of the first, and one that doesn't isn't
pub get_ended : (e : ℕ) (ps : List Piece) (i : ℕ) (p : Piece) → IsMerged ps → slice_get ps i ≡ Some p
    → p.range.last < e → i < ended e ps
get_ended e [] i p h is below = absurd cc
get_ended e (q ∷ qs) zero p h is below =
    let one = ap (λ (r : Piece). r.range.last) (same_Some q p is) in
    omega (arith, ended_more e q qs (omega (arith, one, below)))
get_ended e (q ∷ qs) (suc i) p h is below =
    let behind = all_get (IsBehind q) qs i p h.1 is in
    omega (arith, ended_more e q qs (omega (arith, behind.0, p.range.ordered, below)), get_ended e qs i p h.2 is below)

pub get_not_ended : (e : ℕ) (ps : List Piece) (i : ℕ) (p : Piece) → IsMerged ps → slice_get ps i ≡ Some p
    → e ≤ p.range.last → ended e ps ≤ i
get_not_ended e [] i p h is above = absurd cc
get_not_ended e (q ∷ qs) zero p h is above =
    let one = ap (λ (r : Piece). r.range.last) (same_Some q p is) in
    omega (arith, ended_first e q qs h (omega (arith, one, above)))
get_not_ended e (q ∷ qs) (suc i) p h is above =
    elim (cases_lt q.range.last e) [
      | inl below ↦ omega (arith, ended_more e q qs below, get_not_ended e qs i p h.2 is above)
      | inr first ↦ omega (arith, ended_first e q qs h first)
    ]

-- so the run there doesn't end before the byte
pub next_not_ended : (e : ℕ) (ps : List Piece) (i : ℕ) (p : Piece) → IsMerged ps → slice_get ps i ≡ Some p
    → ended e ps ≤ i → e ≤ p.range.last
next_not_ended e ps i p h is low =
    elim (cases_lt p.range.last e) [
      | inl below ↦ absurd (omega (arith, low, get_ended e ps i p h is below))
      | inr above ↦ above
    ]

-- The run that has a byte is there, if there is one.
abbrev pub having : ℕ → Option Piece → Option Piece
having byte None = None
having byte (Some p) = if nat_le p.range.first byte then Some p else None

find_none : (byte : ℕ) (ps : List Piece) → AllByRecursion (λ p. byte < p.range.first) ps
    → find (λ p. has p.range byte) ps ≡ None
find_none byte [] h = refl
find_none byte (p ∷ ps) h = rw (hasnt_before p.range byte h.0) (find_none byte ps h.1)

pub find_next : (byte : ℕ) (ps : List Piece) → IsMerged ps
    → find (λ p. has p.range byte) ps ≡ having byte (slice_get ps (ended byte ps))
find_next byte [] h = refl
find_next byte (p ∷ ps) h =
    elim (cases_lt p.range.last byte) [
      | inl below ↦
          rw (hasnt_beyond p.range byte below)
          (find_next byte ps h.2 ∙ ap (λ i. having byte (slice_get (p ∷ ps) i)) (sym (ended_more byte p ps below)))
      | inr above ↦
          let there = ap (λ i. having byte (slice_get (p ∷ ps) i)) (sym (ended_first byte p ps h above)) in
          elim (cases_lt byte p.range.first) [
            | inl before ↦
                rw (hasnt_before p.range byte before)
                (find_none byte ps (all_weaken (IsBehind p) (λ q. byte < q.range.first)
                (λ q b. omega (arith, b.0, above)) ps h.1)
                ∙ sym (rw (lt-leb p.range.first byte before) refl) ∙ there)
            | inr inside ↦
                rw (has_in p.range byte inside above)
                (sym (rw (le-leb p.range.first byte inside) refl) ∙ there)
          ]
    ]

pub find_at : (byte : ℕ) (ps : List Piece) (place : ℕ) (next run : Option Piece) → IsMerged ps → place ≡ ended byte ps
    → next ≡ slice_get ps place → next ≡ run → find (λ p. has p.range byte) ps ≡ having byte run
find_at byte ps place next run h there at is =
    find_next byte ps h ∙ ap (having byte) (ap (slice_get ps) (sym there) ∙ sym at ∙ is)
