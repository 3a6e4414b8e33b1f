-- The run that has a byte, among merged runs: its bytes have its mode, and those beside it another.
use Rattle.std.proofs.Common.{◌≡◌, ℕ, ◌+◌, ◌-◌, ◌^◌, ◌<◌, ◌≤◌, true, false, List, [], ◌∷◌, Option, Some, None, inl, inr, refl, sym, ◌∙◌, ap, subst, arith}
use Rattle.std.specs.Prelude.{find, nat_le}
use Rattle.std.specs.List.{AllByRecursion}
use Rattle.std.proofs.lemmas.Bool.{and_parts, cases_Bool, cases_lt, leb-true}
use Rattle.std.proofs.lemmas.Option.{same_Some}
use Rattle.nfs_ranges.specs.Bytes.{has}
use Rattle.nfs_ranges.specs.Merged.{IsBehind, IsMerged}
use Rattle.nfs_ranges.specs.Modes.{is_same, modes_of}
use Rattle.nfs_ranges.specs.Questions.{IsRunAt}
use Rattle.nfs_ranges.specs.Splices.{IsFirstWith, IsLastWith}
use Rattle.nfs_ranges.specs.declared.mode.Mode.{Mode}
use Rattle.nfs_ranges.specs.declared.piece.Piece.{Piece}
use Rattle.nfs_ranges.proofs.Changes.{has_in, hasnt_beyond}
use Rattle.nfs_ranges.proofs.Elements.{all_both, all_find, all_weaken}
use Rattle.nfs_ranges.proofs.Merged.{Gives, gives_each, held_differs, held_or_not, mode_ahead, mode_here, mode_past, same_sym, touched}
use Rattle.nfs_ranges.proofs.Pieces.{same_equal, same_self}

abbrev pub found_at : ℕ → List Piece → Option Piece
found_at byte ps = find (λ p. has p.range byte) ps

-- it has the byte
pub found_has : (byte : ℕ) (ps : List Piece) (p : Piece) → found_at byte ps ≡ Some p
    → (p.range.first ≤ byte) × (byte ≤ p.range.last)
found_has byte [] p is = absurd cc
found_has byte (q ∷ qs) p is =
    elim (cases_Bool (has q.range byte)) [
      | inl passes ↦
          let parts = and_parts (nat_le q.range.first byte) (nat_le byte q.range.last) passes in
          subst (λ (r : Piece). (r.range.first ≤ byte) × (byte ≤ r.range.last)) (same_Some q p (rw passes at is))
          (leb-true q.range.first byte parts.0, leb-true byte q.range.last parts.1)
      | inr fails ↦ found_has byte qs p (rw fails at is)
    ]

-- each run is found at each of its bytes
pub each_found : (byte : ℕ) (ps : List Piece) → IsMerged ps
    → AllByRecursion (λ p. p.range.first ≤ byte → byte ≤ p.range.last → found_at byte ps ≡ Some p) ps
each_found byte [] h = tt
each_found byte (p ∷ ps) h = (
  (λ low high. rw (has_in p.range byte low high) refl),
  all_both (IsBehind p) (λ q. q.range.first ≤ byte → byte ≤ q.range.last → found_at byte ps ≡ Some q)
      (λ q. q.range.first ≤ byte → byte ≤ q.range.last → found_at byte (p ∷ ps) ≡ Some q)
      (λ q behind found. λ low high. rw (hasnt_beyond p.range byte (omega (arith, behind.0, low))) (found low high))
      ps h.1 (each_found byte ps h.2),
)

-- the mode of the byte
pub found_mode : (byte : ℕ) (ps : List Piece) (p : Piece) → IsMerged ps → found_at byte ps ≡ Some p → Gives ps p
found_mode byte ps p h is = all_find (Gives ps) (λ q. has q.range byte) ps p (gives_each ps h) is

pub none_mode : (byte : ℕ) (ps : List Piece) → found_at byte ps ≡ None → modes_of ps byte ≡ None
none_mode byte [] is = refl
none_mode byte (q ∷ qs) is =
    elim (cases_Bool (has q.range byte)) [
      | inl passes ↦
          let some : Some q ≡ None = rw passes at is in
          absurd cc
      | inr fails ↦ rw fails (none_mode byte qs (rw fails at is))
    ]

-- runs that begin before it come before it, and those that end behind it come behind it
pub found_behind : (byte : ℕ) (ps : List Piece) (p : Piece) → IsMerged ps → found_at byte ps ≡ Some p
    → AllByRecursion (λ q. q.range.first < p.range.first → IsBehind q p) ps
found_behind byte [] p h is = tt
found_behind byte (q ∷ qs) p h is =
    elim (cases_Bool (has q.range byte)) [
      | inl passes ↦
          let one = ap (λ (r : Piece). r.range.first) (same_Some q p (rw passes at is)) in (
            (λ less. absurd (omega (arith, less, one))),
            all_weaken (IsBehind q) (λ r. r.range.first < p.range.first → IsBehind r p)
                (λ r b. λ less. absurd (omega (arith, less, one, b.0, q.range.ordered))) qs h.1,
          )
      | inr fails ↦ (
        (λ less. all_find (IsBehind q) (λ r. has r.range byte) qs p h.1 (rw fails at is)),
        found_behind byte qs p h.2 (rw fails at is),
      )
    ]

pub behind_found : (byte : ℕ) (ps : List Piece) (p : Piece) → IsMerged ps → found_at byte ps ≡ Some p
    → AllByRecursion (λ q. p.range.last < q.range.last → IsBehind p q) ps
behind_found byte [] p h is = tt
behind_found byte (q ∷ qs) p h is =
    elim (cases_Bool (has q.range byte)) [
      | inl passes ↦
          let same = same_Some q p (rw passes at is) in
          let one = ap (λ (r : Piece). r.range.last) same in (
            (λ less. absurd (omega (arith, less, one))),
            all_weaken (IsBehind q) (λ r. p.range.last < r.range.last → IsBehind p r)
                (λ r b. λ less. subst (λ (s : Piece). IsBehind s r) same b) qs h.1,
          )
      | inr fails ↦
          let behind = all_find (IsBehind q) (λ r. has r.range byte) qs p h.1 (rw fails at is) in (
            (λ less. absurd (omega (arith, less, behind.0, p.range.ordered))),
            behind_found byte qs p h.2 (rw fails at is),
          )
    ]

-- the bytes on both sides of it have another mode
abbrev Edged : List Piece → Piece → Type 0
Edged ps p =
    (0 < p.range.first → is_same (modes_of ps (p.range.first - 1)) p.mode ≡ false)
    × (is_same (modes_of ps (p.range.last + 1)) p.mode ≡ false)

first_edged : (p : Piece) (ps : List Piece) → IsMerged (p ∷ ps) → Edged (p ∷ ps) p
first_edged p ps h =
    let past = mode_past p ps (p.range.last + 1) (omega arith) in (
      (λ above. ap (λ m. is_same m p.mode) (mode_ahead p ps (p.range.first - 1) (omega (arith, above)) h.1)
          ∙ same_sym None p.mode ∙ held_differs p.mode h.0.0),
      ap (λ m. is_same m p.mode) past
          ∙ elim (held_or_not (modes_of ps (p.range.last + 1))) [
            | inl free ↦ ap (λ m. is_same m p.mode) free ∙ same_sym None p.mode ∙ held_differs p.mode h.0.0
            | inr held ↦ touched p ps (p.range.last + 1) refl h.1 h.2 held
          ],
    )

later_edged : (q : Piece) (qs : List Piece) (p : Piece) → IsMerged (q ∷ qs) → IsBehind q p → Edged qs p → Edged (q ∷ qs) p
later_edged q qs p h behind edges = (
  (λ above. elim (cases_lt q.range.last (p.range.first - 1)) [
    | inl far ↦ ap (λ m. is_same m p.mode) (mode_past q qs (p.range.first - 1) far) ∙ edges.0 above
    | inr near ↦
        ap (λ m. is_same m p.mode)
        (mode_here q qs (p.range.first - 1) (omega (arith, behind.0, q.range.ordered)) near h.1)
        ∙ behind.1 (omega (arith, near, behind.0))
  ]),
  ap (λ m. is_same m p.mode) (mode_past q qs (p.range.last + 1) (omega (arith, behind.0, p.range.ordered)))
      ∙ edges.1,
)

pub edged : (byte : ℕ) (ps : List Piece) (p : Piece) → IsMerged ps → found_at byte ps ≡ Some p → Edged ps p
edged byte [] p h is = absurd cc
edged byte (q ∷ qs) p h is =
    elim (cases_Bool (has q.range byte)) [
      | inl passes ↦ subst (Edged (q ∷ qs)) (same_Some q p (rw passes at is)) (first_edged q qs h)
      | inr fails ↦
          later_edged q qs p h (all_find (IsBehind q) (λ r. has r.range byte) qs p h.1 (rw fails at is))
          (edged byte qs p h.2 (rw fails at is))
    ]

-- two of one mode don't touch
apart : (a b change : Option Mode) → is_same a change ≡ true → is_same b change ≡ true → is_same a b ≡ false → ⊥
apart a b change one other differs =
    let same : a ≡ b = same_equal a change one ∙ sym (same_equal b change other) in
    let fails : true ≡ false = sym (sym (ap (is_same a) same) ∙ same_self a) ∙ differs in
    absurd cc

-- Where the run of a change begins: with the run of its mode before it, or where it does.
pub first_alike : (change : Piece) (ps : List Piece) (run : Piece) → IsMerged ps → 0 < change.range.first
    → found_at (change.range.first - 1) ps ≡ Some run → is_same run.mode change.mode ≡ true
    → IsFirstWith change ps run.range.first
first_alike change ps run h above is same =
    let inside = found_has (change.range.first - 1) ps run is in (
      omega (arith, inside.0),
      (λ b low high. found_mode (change.range.first - 1) ps run h is b low (omega (arith, high, inside.1))
          ∙ same_equal run.mode change.mode same),
      all_weaken (λ q. q.range.first < run.range.first → IsBehind q run)
          (λ q. is_same q.mode change.mode ≡ true → q.range.first < run.range.first → q.range.last + 1 < run.range.first)
          (λ q before. λ alike. λ less. elim (cases_lt (q.range.last + 1) run.range.first) [
            | inl far ↦ far
            | inr near ↦
                absurd (apart q.mode run.mode change.mode alike same
                ((before less).1 (omega (arith, near, (before less).0))))
          ]) ps (found_behind (change.range.first - 1) ps run h is),
    )

pub first_other : (change : Piece) (ps : List Piece) → IsMerged ps
    → ((p : Piece) → 0 < change.range.first → found_at (change.range.first - 1) ps ≡ Some p
    → is_same p.mode change.mode ≡ false)
    → IsFirstWith change ps change.range.first
first_other change ps h other = (
  omega arith,
  (λ b low high. absurd (omega (arith, low, high))),
  all_weaken
      (λ p. p.range.first ≤ change.range.first - 1 → change.range.first - 1 ≤ p.range.last
      → found_at (change.range.first - 1) ps ≡ Some p)
      (λ p. is_same p.mode change.mode ≡ true → p.range.first < change.range.first
      → p.range.last + 1 < change.range.first)
      (λ p found. λ alike. λ less. elim (cases_lt (p.range.last + 1) change.range.first) [
        | inl far ↦ far
        | inr near ↦
            let fails : true ≡ false =
            sym alike ∙ other p (omega (arith, less)) (found (omega (arith, less)) (omega (arith, near))) in
            absurd cc
      ]) ps (each_found (change.range.first - 1) ps h),
)

-- Where it ends.
pub last_alike : (change : Piece) (ps : List Piece) (run : Piece) → IsMerged ps
    → found_at (change.range.last + 1) ps ≡ Some run → is_same run.mode change.mode ≡ true
    → IsLastWith change ps run.range.last
last_alike change ps run h is same =
    let inside = found_has (change.range.last + 1) ps run is in (
      omega (arith, inside.1),
      (λ b low high. found_mode (change.range.last + 1) ps run h is b (omega (arith, low, inside.0)) high
          ∙ same_equal run.mode change.mode same),
      all_weaken (λ q. run.range.last < q.range.last → IsBehind run q)
          (λ q. is_same q.mode change.mode ≡ true → run.range.last < q.range.last → run.range.last + 1 < q.range.first)
          (λ q behind. λ alike. λ less. elim (cases_lt (run.range.last + 1) q.range.first) [
            | inl far ↦ far
            | inr near ↦
                absurd (apart run.mode q.mode change.mode same alike
                ((behind less).1 (omega (arith, near, (behind less).0))))
          ]) ps (behind_found (change.range.last + 1) ps run h is),
    )

pub last_other : (change : Piece) (ps : List Piece) → IsMerged ps
    → ((p : Piece) → change.range.last < p.range.last → found_at (change.range.last + 1) ps ≡ Some p
    → is_same p.mode change.mode ≡ false)
    → IsLastWith change ps change.range.last
last_other change ps h other = (
  omega arith,
  (λ b low high. absurd (omega (arith, low, high))),
  all_weaken
      (λ p. p.range.first ≤ change.range.last + 1 → change.range.last + 1 ≤ p.range.last
      → found_at (change.range.last + 1) ps ≡ Some p)
      (λ p. is_same p.mode change.mode ≡ true → change.range.last < p.range.last
      → change.range.last + 1 < p.range.first)
      (λ p found. λ alike. λ less. elim (cases_lt (change.range.last + 1) p.range.first) [
        | inl far ↦ far
        | inr near ↦
            let fails : true ≡ false =
            sym alike ∙ other p less (found near (omega (arith, less))) in
            absurd cc
      ]) ps (each_found (change.range.last + 1) ps h),
)

-- all bytes of runs are bytes of a file, so none goes on from the last of these
pub bounded : (ps : List Piece) → IsMerged ps → AllByRecursion (λ p. p.range.last < 2 ^ 64) ps
bounded [] h = tt
bounded (p ∷ ps) h = (omega (arith, h.0.1), bounded ps h.2)

pub last_end : (change : Piece) (ps : List Piece) → IsMerged ps → change.range.last ≡ 2 ^ 64 - 1
    → IsLastWith change ps change.range.last
last_end change ps h end = (
  omega arith,
  (λ b low high. absurd (omega (arith, low, high))),
  all_weaken (λ p. p.range.last < 2 ^ 64)
      (λ p. is_same p.mode change.mode ≡ true → change.range.last < p.range.last
      → change.range.last + 1 < p.range.first)
      (λ p bound. λ alike. λ less. absurd (omega (arith, bound, less, end))) ps (bounded ps h),
)

-- it is the whole run at the byte
pub run_is : (byte : ℕ) (ps : List Piece) (p : Piece) (mode : Mode) → IsMerged ps → found_at byte ps ≡ Some p
    → p.mode ≡ Some mode → p.range.last ≤ 2 ^ 64 - 1 → IsRunAt (modes_of ps) byte (Some (p.range, mode))
run_is byte ps p mode h is held bound =
    let inside = found_has byte ps p is in
    let gives = found_mode byte ps p h is in
    let here : modes_of ps byte ≡ p.mode = gives byte inside.0 inside.1 in
    let edges = edged byte ps p h is in (
      here ∙ held,
      (
        inside.0,
        (λ b low high. gives b low (omega (arith, high, inside.1)) ∙ sym here),
        elim (cases_lt 0 p.range.first) [
          | inl above ↦ inr (ap (is_same (modes_of ps (p.range.first - 1))) here ∙ edges.0 above)
          | inr least ↦ inl (omega (arith, least))
        ],
      ),
      (
        inside.1,
        bound,
        (λ b low high. gives b (omega (arith, low, inside.0)) high ∙ sym here),
        inr (ap (is_same (modes_of ps (p.range.last + 1))) here ∙ edges.1),
      ),
    )
