-- What merged runs mean: each byte of a run has its mode, others have none, and a run begins with each of them.
use Rattle.std.proofs.Common.{◌≡◌, ℕ, zero, suc, ◌+◌, ◌-◌, ◌^◌, ◌<◌, ◌≤◌, ◌⊎◌, Bool, true, false, ◌&&◌, ◌||◌, not, ◌==◌, is_some, if◌then◌else◌, List, [], ◌∷◌, ◌++◌, length, Option, Some, None, inl, inr, refl, sym, ◌∙◌, ap, arith}
use Rattle.std.specs.Prelude.{IsTrue}
use Rattle.std.specs.List.{AllByRecursion}
use Rattle.std.proofs.lemmas.Bool.{cases_lt, eq-eqb, or_right}
use Rattle.nfs_ranges.specs.Bytes.{has}
use Rattle.nfs_ranges.specs.Merged.{IsBehind, IsMerged}
use Rattle.nfs_ranges.specs.Modes.{is_same, mode_from, modes_of}
use Rattle.nfs_ranges.specs.Runs.{begins, count_below, runs}
use Rattle.nfs_ranges.specs.declared.mode.Mode.{Mode}
use Rattle.nfs_ranges.specs.declared.mode.Mode.TheVariants.{Read, Write}
use Rattle.nfs_ranges.specs.declared.piece.Piece.{Piece}
use Rattle.nfs_ranges.proofs.Changes.{has_in, hasnt_before, hasnt_beyond, same_starts}
use Rattle.nfs_ranges.proofs.Counting.{count_agree, count_next, count_zero, free_starts_none, no_start}
use Rattle.nfs_ranges.proofs.Elements.{all_append, all_weaken}

-- two lists in a row
pub mode_append : (mode : Option Mode) (ps qs : List Piece) (b : ℕ)
    → mode_from mode (ps ++ qs) b ≡ mode_from (mode_from mode ps b) qs b
mode_append mode [] qs b = refl
mode_append mode (p ∷ ps) qs b = mode_append (if has p.range b then p.mode else mode) ps qs b

-- pieces that begin beyond a byte don't have it, nor those that end before it
pub mode_beyond : (mode : Option Mode) (ps : List Piece) (b : ℕ) → AllByRecursion (λ q. b < q.range.first) ps
    → mode_from mode ps b ≡ mode
mode_beyond mode [] b h = refl
mode_beyond mode (q ∷ ps) b h =
    ap (λ t. mode_from (if t then q.mode else mode) ps b) (hasnt_before q.range b h.0) ∙ mode_beyond mode ps b h.1

pub mode_passed : (mode : Option Mode) (ps : List Piece) (b : ℕ) → AllByRecursion (λ q. q.range.last < b) ps
    → mode_from mode ps b ≡ mode
mode_passed mode [] b h = refl
mode_passed mode (q ∷ ps) b h =
    ap (λ t. mode_from (if t then q.mode else mode) ps b) (hasnt_beyond q.range b h.0) ∙ mode_passed mode ps b h.1

-- a byte behind the first run, before it, and in it
pub mode_past : (p : Piece) (ps : List Piece) (b : ℕ) → p.range.last < b → modes_of (p ∷ ps) b ≡ modes_of ps b
mode_past p ps b above = ap (λ t. mode_from (if t then p.mode else None) ps b) (hasnt_beyond p.range b above)

pub mode_lower : (ps : List Piece) (p : Piece) (b : ℕ) → b ≤ p.range.last → AllByRecursion (IsBehind p) ps
    → modes_of ps b ≡ None
mode_lower ps p b below behind =
    mode_beyond None ps b
    (all_weaken (IsBehind p) (λ q. b < q.range.first) (λ q h. omega (arith, h.0, below)) ps behind)

pub mode_ahead : (p : Piece) (ps : List Piece) (b : ℕ) → b < p.range.first → AllByRecursion (IsBehind p) ps
    → modes_of (p ∷ ps) b ≡ None
mode_ahead p ps b below behind =
    ap (λ t. mode_from (if t then p.mode else None) ps b) (hasnt_before p.range b below)
    ∙ mode_lower ps p b (omega (arith, below, p.range.ordered)) behind

pub mode_here : (p : Piece) (ps : List Piece) (b : ℕ) → p.range.first ≤ b → b ≤ p.range.last
    → AllByRecursion (IsBehind p) ps → modes_of (p ∷ ps) b ≡ p.mode
mode_here p ps b low high behind =
    ap (λ t. mode_from (if t then p.mode else None) ps b) (has_in p.range b low high)
    ∙ mode_beyond p.mode ps b
    (all_weaken (IsBehind p) (λ q. b < q.range.first) (λ q h. omega (arith, h.0, high)) ps behind)

-- each byte of a run has its mode
abbrev pub Gives : List Piece → Piece → Type 0
Gives ps p = (b : ℕ) → p.range.first ≤ b → b ≤ p.range.last → modes_of ps b ≡ p.mode

gives_more : (p : Piece) (ps qs : List Piece) → AllByRecursion (IsBehind p) qs → AllByRecursion (Gives ps) qs
    → AllByRecursion (Gives (p ∷ ps)) qs
gives_more p ps [] behind h = tt
gives_more p ps (q ∷ qs) behind h = (
  (λ b low high. mode_past p ps b (omega (arith, behind.0.0, low)) ∙ h.0 b low high),
  gives_more p ps qs behind.1 h.1,
)

pub gives_each : (ps : List Piece) → IsMerged ps → AllByRecursion (Gives ps) ps
gives_each [] h = tt
gives_each (p ∷ ps) h = ((λ b low high. mode_here p ps b low high h.1), gives_more p ps ps h.1 (gives_each ps h.2))

-- merged runs before others
pub merged_append : (xs ys : List Piece) → IsMerged xs → IsMerged ys
    → AllByRecursion (λ x. AllByRecursion (IsBehind x) ys) xs → IsMerged (xs ++ ys)
merged_append [] ys h k cross = k
merged_append (x ∷ xs) ys h k cross =
    (h.0, all_append (IsBehind x) xs ys h.1 cross.0, merged_append xs ys h.2 k cross.1)

-- modes that are the same, the other way round and in a row
pub same_sym : (a b : Option Mode) → is_same a b ≡ is_same b a
same_sym None None = refl
same_sym None (Some b) = refl
same_sym (Some a) None = refl
same_sym (Some Read) (Some Read) = refl
same_sym (Some Read) (Some Write) = refl
same_sym (Some Write) (Some Read) = refl
same_sym (Some Write) (Some Write) = refl

pub held_differs : (mode : Option Mode) → IsTrue (is_some mode) → is_same mode None ≡ false
held_differs None held = absurd cc
held_differs (Some mode) held = refl

pub held_or_not : (mode : Option Mode) → (mode ≡ None) ⊎ IsTrue (is_some mode)
held_or_not None = inl refl
held_or_not (Some mode) = inr refl

-- a run begins at a byte that is held, where the byte before differs
starts : (modes : ℕ → Option Mode) (b : ℕ) → IsTrue (is_some (modes b))
    → ((b ≡ 0) ⊎ (is_same (modes b) (modes (b - 1)) ≡ false)) → begins modes b ≡ true
starts modes b held before =
    ap (λ t. t && (b == 0 || not (is_same (modes b) (modes (b - 1))))) held
    ∙ elim before [
      | inl least ↦ ap (λ t. t || not (is_same (modes b) (modes (b - 1)))) (eq-eqb b 0 least)
      | inr differs ↦ or_right (b == 0) (not (is_same (modes b) (modes (b - 1)))) (ap not differs)
    ]

-- the run that goes on behind another is of another mode
pub touched : (p : Piece) (ps : List Piece) (b : ℕ) → b ≡ p.range.last + 1 → AllByRecursion (IsBehind p) ps → IsMerged ps
    → IsTrue (is_some (modes_of ps b)) → is_same (modes_of ps b) p.mode ≡ false
touched p [] b is behind h held = absurd cc
touched p (q ∷ ps) b is behind h held =
    elim (cases_lt b q.range.first) [
      | inl before ↦
          let none : false ≡ true = sym (ap is_some (mode_ahead q ps b before h.1)) ∙ held in
          absurd cc
      | inr there ↦
          let mode : modes_of (q ∷ ps) b ≡ q.mode =
          mode_here q ps b there (omega (arith, is, behind.0.0, q.range.ordered)) h.1 in
          ap (λ m. is_same m p.mode) mode ∙ same_sym q.mode p.mode
          ∙ behind.0.1 (omega (arith, is, there, behind.0.0))
    ]

-- behind the first of merged runs the same runs begin as without it
starts_past : (p : Piece) (ps : List Piece) (b : ℕ) → IsMerged (p ∷ ps) → p.range.last < b
    → begins (modes_of (p ∷ ps)) b ≡ begins (modes_of ps) b
starts_past p ps b h past =
    let all : ℕ → Option Mode = modes_of (p ∷ ps) in
    let rest : ℕ → Option Mode = modes_of ps in
    let here : all b ≡ rest b = mode_past p ps b past in
    elim (cases_lt p.range.last (b - 1)) [
      | inl far ↦ same_starts rest all b here (mode_past p ps (b - 1) far)
      | inr near ↦ elim (held_or_not (rest b)) [
        | inl free ↦ free_starts_none all b (here ∙ free) ∙ sym (free_starts_none rest b free)
        | inr held ↦
            let before : all (b - 1) ≡ p.mode =
            mode_here p ps (b - 1) (omega (arith, past, p.range.ordered)) near h.1 in
            let none : rest (b - 1) ≡ None = mode_lower ps p (b - 1) near h.1 in
            let differs : is_same (all b) (all (b - 1)) ≡ false =
            ap (λ m. is_same m (all (b - 1))) here ∙ ap (is_same (rest b)) before
            ∙ touched p ps b (omega (arith, past, near)) h.1 h.2 held in
            let alone : is_same (rest b) (rest (b - 1)) ≡ false =
            ap (is_same (rest b)) none ∙ held_differs (rest b) held in
            starts all b (ap is_some here ∙ held) (inr differs) ∙ sym (starts rest b held (inr alone))
      ]
    ]

-- With the first of merged runs one more run begins, where it does.
first_starts : (p : Piece) (ps : List Piece) → IsMerged (p ∷ ps) → begins (modes_of (p ∷ ps)) p.range.first ≡ true
first_starts p ps h =
    let here : modes_of (p ∷ ps) p.range.first ≡ p.mode = mode_here p ps p.range.first (omega arith) p.range.ordered h.1 in
    let held : IsTrue (is_some (modes_of (p ∷ ps) p.range.first)) = ap is_some here ∙ h.0.0 in
    starts (modes_of (p ∷ ps)) p.range.first held
    (elim (cases_lt 0 p.range.first) [
      | inl above ↦
          inr (ap (is_same (modes_of (p ∷ ps) p.range.first))
          (mode_ahead p ps (p.range.first - 1) (omega (arith, above)) h.1)
          ∙ held_differs (modes_of (p ∷ ps) p.range.first) held)
      | inr least ↦ inl (omega (arith, least))
    ])

higher : (least b : ℕ) → least ≤ b → (b ≡ least → ⊥) → least < b
higher least b most other =
    elim (cases_lt least b) [
      | inl less ↦ less
      | inr same ↦ absurd (other (omega (arith, most, same)))
    ]

other_starts : (p : Piece) (ps : List Piece) (b : ℕ) → IsMerged (p ∷ ps) → (b ≡ p.range.first → ⊥)
    → begins (modes_of (p ∷ ps)) b ≡ begins (modes_of ps) b
other_starts p ps b h other =
    elim (cases_lt p.range.last b) [
      | inl past ↦ starts_past p ps b h past
      | inr within ↦
          let none : begins (modes_of ps) b ≡ false = free_starts_none (modes_of ps) b (mode_lower ps p b within h.1) in
          elim (cases_lt b p.range.first) [
            | inl before ↦ free_starts_none (modes_of (p ∷ ps)) b (mode_ahead p ps b before h.1) ∙ sym none
            | inr inside ↦
                let above : p.range.first ≤ b - 1 = omega (arith, higher p.range.first b inside other) in
                no_start (modes_of (p ∷ ps)) b (omega (arith, inside, above))
                (mode_here p ps (b - 1) above (omega (arith, within)) h.1
                ∙ sym (mode_here p ps b inside within h.1))
                ∙ sym none
          ]
    ]

-- a test that one more number passes counts one more
count_other : (more test : ℕ → Bool) (only n : ℕ) → only < n → more only ≡ true → test only ≡ false
    → ((b : ℕ) → (b ≡ only → ⊥) → more b ≡ test b) → count_below more n ≡ suc (count_below test n)
count_other more test only zero less here there other = absurd (omega (arith, less))
count_other more test only (suc n) less here there other =
    elim (cases_lt only n) [
      | inl below ↦
          let same = ap {B = ℕ} (λ t. if t then 1 else 0) (other n (λ e. omega (arith, e, below))) in
          omega (arith, same, count_next more n, count_next test n, count_other more test only n below here there other)
      | inr last ↦
          let is : only ≡ n = omega (arith, last, less) in
          let one = ap {B = ℕ} (λ t. if t then 1 else 0) (sym (ap more is) ∙ here) in
          let none = ap {B = ℕ} (λ t. if t then 1 else 0) (sym (ap test is) ∙ there) in
          omega (
            arith,
            one,
            none,
            count_next more n,
            count_next test n,
            count_agree test more n (λ b below. other b (λ e. omega (arith, e, below, is))),
          )
    ]

-- There are as many runs as merged pieces.
pub runs_are : (ps : List Piece) → IsMerged ps → runs (modes_of ps) ≡ length ps
runs_are [] h = count_zero (begins (modes_of [])) (2 ^ 64) (λ b below. refl)
runs_are (p ∷ ps) h =
    count_other (begins (modes_of (p ∷ ps))) (begins (modes_of ps)) p.range.first (2 ^ 64)
    (omega (arith, h.0.1, p.range.ordered)) (first_starts p ps h)
    (free_starts_none (modes_of ps) p.range.first (mode_lower ps p p.range.first p.range.ordered h.1))
    (λ b other. other_starts p ps b h other)
    ∙ ap suc (runs_are ps h.2)

-- no byte is held exactly where there is no run
pub none_held : (ps : List Piece) → length ps ≡ 0 → (byte : ℕ) → modes_of ps byte ≡ None
none_held [] none byte = refl
none_held (p ∷ ps) none byte = absurd (omega (arith, none))

pub held_none : (ps : List Piece) → IsMerged ps → ((byte : ℕ) → byte ≤ 2 ^ 64 - 1 → modes_of ps byte ≡ None)
    → length ps ≡ 0
held_none [] h free = refl
held_none (p ∷ ps) h free =
    let here = mode_here p ps p.range.first (omega arith) p.range.ordered h.1 in
    let none : false ≡ true =
    sym (ap is_some (free p.range.first (omega (arith, p.range.ordered, h.0.1)))) ∙ ap is_some here ∙ h.0.0 in
    absurd cc
