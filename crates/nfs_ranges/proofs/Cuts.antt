-- What is left of merged runs before and behind a change.
use Rattle.std.proofs.Common.{◌≡◌, ℕ, suc, ◌+◌, ◌-◌, ◌^◌, ◌<◌, ◌≤◌, true, false, Bool, if◌then◌else◌, is_some, List, [], ◌∷◌, ◌++◌, take, drop, Option, Some, None, inl, inr, refl, sym, ◌∙◌, ap, subst, arith}
use Rattle.std.specs.Prelude.{slice_get}
use Rattle.std.specs.List.{AllByRecursion, cons_option}
use Rattle.std.proofs.lemmas.Bool.{cases_lt}
use Rattle.nfs_ranges.specs.Bytes.{has}
use Rattle.nfs_ranges.specs.Merged.{IsBehind, IsMerged, ended}
use Rattle.nfs_ranges.specs.Modes.{is_same, mode_from}
use Rattle.nfs_ranges.specs.Splices.{IsPartOf, IsRestBefore, IsRestBehind}
use Rattle.nfs_ranges.specs.declared.mode.Mode.{Mode}
use Rattle.nfs_ranges.specs.declared.piece.Piece.{Piece}
use Rattle.nfs_ranges.proofs.Changes.{has_in, hasnt_before, hasnt_beyond}
use Rattle.nfs_ranges.proofs.Elements.{all_weaken}
use Rattle.nfs_ranges.proofs.Ended.{ended_first, ended_more}
use Rattle.nfs_ranges.proofs.Merged.{mode_beyond}

-- the runs before a byte, and what the run that has it has before it
abbrev pub front : ℕ → List Piece → Option Piece → List Piece
front e ps left = take (ended e ps) ps ++ cons_option left []

-- what a run behind the byte has there, and the runs after it; the place of these
abbrev pub stop_of : ℕ → Option Piece → ℕ
stop_of place right = place + (if is_some right then 1 else 0)

abbrev pub back : ℕ → List Piece → Option Piece → List Piece
back byte ps right = cons_option right (drop (stop_of (ended (byte + 1) ps) right) ps)

-- What holds of runs and what is before a byte of them: by whether the first run ends before it.
module _ (e : ℕ) (M : List Piece → List Piece → Type 0) (none : M [] [])
    (more : (p : Piece) (ps fs : List Piece) → IsMerged (p ∷ ps) → p.range.last < e → M ps fs → M (p ∷ ps) (p ∷ fs))
    (rest : (p : Piece) (ps : List Piece) → IsMerged (p ∷ ps) → e ≤ p.range.first → M (p ∷ ps) [])
    (part : (p : Piece) (ps : List Piece) (x : Piece) → IsMerged (p ∷ ps) → p.range.first < e → e ≤ p.range.last
    → IsPartOf p p.range.first (e - 1) x → M (p ∷ ps) (x ∷ [])) where
  at_first : (p : Piece) (ps : List Piece) (left : Option Piece) → IsMerged (p ∷ ps) → e ≤ p.range.last
      → IsRestBefore e (Some p) left → M (p ∷ ps) (cons_option left [])
  at_first p ps None h above is = rest p ps h is
  at_first p ps (Some x) h above is = part p ps x h is.0 above is.1

  pub of_front : (ps : List Piece) (left : Option Piece) → IsMerged ps → IsRestBefore e (slice_get ps (ended e ps)) left
      → M ps (front e ps left)
  of_front [] left h is = subst (λ (l : Option Piece). M [] (cons_option l [])) (sym is) none
  of_front (p ∷ ps) left h is =
      elim (cases_lt p.range.last e) [
        | inl below ↦
            subst (λ (n : ℕ). M (p ∷ ps) (take n (p ∷ ps) ++ cons_option left [])) (sym (ended_more e p ps below))
            (more p ps (front e ps left) h below (of_front ps left h.2
            (subst (λ (n : ℕ). IsRestBefore e (slice_get (p ∷ ps) n) left) (ended_more e p ps below) is)))
        | inr above ↦
            subst (λ (n : ℕ). M (p ∷ ps) (take n (p ∷ ps) ++ cons_option left [])) (sym (ended_first e p ps h above))
            (at_first p ps left h above
            (subst (λ (n : ℕ). IsRestBefore e (slice_get (p ∷ ps) n) left) (ended_first e p ps h above) is))
      ]

-- What holds of runs and what is behind a byte of them.
module _ (byte : ℕ) (M : List Piece → List Piece → Type 0) (none : M [] [])
    (past : (p : Piece) (ps bs : List Piece) → IsMerged (p ∷ ps) → p.range.last ≤ byte → M ps bs → M (p ∷ ps) bs)
    (whole : (p : Piece) (ps : List Piece) → IsMerged (p ∷ ps) → byte < p.range.first → M (p ∷ ps) (p ∷ ps))
    (part : (p : Piece) (ps : List Piece) (x : Piece) → IsMerged (p ∷ ps) → p.range.first ≤ byte → byte < p.range.last
    → IsPartOf p (byte + 1) p.range.last x → M (p ∷ ps) (x ∷ ps)) where
  at_next : (p : Piece) (ps : List Piece) (right : Option Piece) → IsMerged (p ∷ ps) → byte < p.range.last
      → IsRestBehind byte (Some p) right → M (p ∷ ps) (cons_option right (drop (stop_of 0 right) (p ∷ ps)))
  at_next p ps None h above is = whole p ps h is
  at_next p ps (Some x) h above is = part p ps x h is.0 above is.1

  stops_more : (p : Piece) (ps : List Piece) (n : ℕ) (right : Option Piece)
      → drop (stop_of (suc n) right) (p ∷ ps) ≡ drop (stop_of n right) ps
  stops_more p ps n right =
      let up : suc n + (if is_some right then 1 else 0) ≡ suc (n + (if is_some right then 1 else 0)) = omega arith in
      ap (λ k. drop k (p ∷ ps)) up

  pub of_back : (ps : List Piece) (right : Option Piece) → IsMerged ps
      → IsRestBehind byte (slice_get ps (ended (byte + 1) ps)) right → M ps (back byte ps right)
  of_back [] right h is = subst (λ (r : Option Piece). M [] (cons_option r (drop (stop_of 0 r) []))) (sym is) none
  of_back (p ∷ ps) right h is =
      elim (cases_lt p.range.last (byte + 1)) [
        | inl below ↦
            let one = ended_more (byte + 1) p ps below in
            subst (λ (qs : List Piece). M (p ∷ ps) (cons_option right qs))
            (sym (ap (λ n. drop (stop_of n right) (p ∷ ps)) one ∙ stops_more p ps (ended (byte + 1) ps) right))
            (past p ps (back byte ps right) h (omega (arith, below)) (of_back ps right h.2
            (subst (λ (n : ℕ). IsRestBehind byte (slice_get (p ∷ ps) n) right) one is)))
        | inr above ↦
            let first = ended_first (byte + 1) p ps h above in
            subst (λ (n : ℕ). M (p ∷ ps) (cons_option right (drop (stop_of n right) (p ∷ ps)))) (sym first)
            (at_next p ps right h (omega (arith, above))
            (subst (λ (n : ℕ). IsRestBehind byte (slice_get (p ∷ ps) n) right) first is))
      ]

-- a byte before which a run begins, and one behind which it ends
later : (p : Piece) (ps : List Piece) (b : ℕ) → b ≤ p.range.last → AllByRecursion (IsBehind p) ps
    → AllByRecursion (λ q. b < q.range.first) ps
later p ps b below behind = all_weaken (IsBehind p) (λ q. b < q.range.first) (λ q k. omega (arith, k.0, below)) ps behind

-- a part of a run has the bytes of the run on its side
part_mode : (p x : Piece) (mode : Option Mode) (b : ℕ) → x.mode ≡ p.mode → has x.range b ≡ has p.range b
    → (if has x.range b then x.mode else mode) ≡ (if has p.range b then p.mode else mode)
part_mode p x mode b same alike =
    ap (λ t. if t then x.mode else mode) alike ∙ ap (λ m. if has p.range b then m else mode) same

part_before : (p x : Piece) (e b : ℕ) → b < e → e ≤ p.range.last → IsPartOf p p.range.first (e - 1) x
    → has x.range b ≡ has p.range b
part_before p x e b below above is =
    elim (cases_lt b p.range.first) [
      | inl before ↦ hasnt_before x.range b (omega (arith, before, is.0)) ∙ sym (hasnt_before p.range b before)
      | inr there ↦
          has_in x.range b (omega (arith, there, is.0)) (omega (arith, below, is.1))
          ∙ sym (has_in p.range b there (omega (arith, below, above)))
    ]

part_behind : (p x : Piece) (byte b : ℕ) → byte < b → p.range.first ≤ byte → IsPartOf p (byte + 1) p.range.last x
    → has x.range b ≡ has p.range b
part_behind p x byte b above low is =
    elim (cases_lt p.range.last b) [
      | inl past ↦ hasnt_beyond x.range b (omega (arith, past, is.1)) ∙ sym (hasnt_beyond p.range b past)
      | inr there ↦
          has_in x.range b (omega (arith, above, is.0)) (omega (arith, there, is.1))
          ∙ sym (has_in p.range b (omega (arith, above, low)) there)
    ]

-- Before the byte, what is before it means what the runs mean.
pub front_mode : (e b : ℕ) → b < e → (ps : List Piece) (left : Option Piece) → IsMerged ps
    → IsRestBefore e (slice_get ps (ended e ps)) left
    → (mode : Option Mode) → mode_from mode (front e ps left) b ≡ mode_from mode ps b
front_mode e b below =
    of_front e (λ ps fs. (mode : Option Mode) → mode_from mode fs b ≡ mode_from mode ps b) (λ mode. refl)
    (λ p ps fs h less same. λ mode. same (if has p.range b then p.mode else mode))
    (λ p ps h above. λ mode.
    sym (ap (λ t. mode_from (if t then p.mode else mode) ps b) (hasnt_before p.range b (omega (arith, below, above)))
    ∙ mode_beyond mode ps b (later p ps b (omega (arith, below, above, p.range.ordered)) h.1)))
    (λ p ps x h low above is. λ mode.
    part_mode p x mode b is.2 (part_before p x e b below above is)
    ∙ sym (mode_beyond (if has p.range b then p.mode else mode) ps b (later p ps b (omega (arith, below, above)) h.1)))

-- it ends before the byte
pub front_ends : (e : ℕ) → (ps : List Piece) (left : Option Piece) → IsMerged ps
    → IsRestBefore e (slice_get ps (ended e ps)) left → AllByRecursion (λ x. x.range.last < e) (front e ps left)
front_ends e =
    of_front e (λ ps fs. AllByRecursion (λ x. x.range.last < e) fs) tt
    (λ p ps fs h less all. (less, all)) (λ p ps h above. tt)
    (λ p ps x h low above is. (omega (arith, is.1, low), tt))

-- it is merged
pub front_merged : (e : ℕ) → e ≤ 2 ^ 64 → (ps : List Piece) (left : Option Piece) → IsMerged ps
    → IsRestBefore e (slice_get ps (ended e ps)) left → IsMerged (front e ps left)
front_merged e bound =
    λ ps left h is. (of_front e
    (λ ps fs. ((q : Piece) → AllByRecursion (IsBehind q) ps → AllByRecursion (IsBehind q) fs) × IsMerged fs)
    ((λ q k. tt), tt)
    (λ p ps fs h less all. ((λ q k. (k.0, all.0 q k.1)), (h.0, all.0 p h.1, all.1)))
    (λ p ps h above. ((λ q k. tt), tt))
    (λ p ps x h low above is. (
      (λ q k. (
        (
          omega (arith, k.0.0, is.0),
          (λ touch. ap (is_same q.mode) is.2 ∙ k.0.1 (omega (arith, touch, is.0))),
        ),
        tt,
      )),
      ((ap is_some is.2 ∙ h.0.0, omega (arith, is.1, bound, low)), tt, tt),
    ))
    ps left h is).1

-- a test that can't be passed isn't
differs : (t : Bool) → (t ≡ true → ⊥) → t ≡ false
differs true fails = absurd (fails refl)
differs false fails = refl

-- where no run of a mode goes on to the byte, none of it does
pub front_apart : (e : ℕ) (mode : Option Mode) → (ps : List Piece) (left : Option Piece) → IsMerged ps
    → IsRestBefore e (slice_get ps (ended e ps)) left
    → AllByRecursion (λ p. is_same p.mode mode ≡ true → p.range.first < e → p.range.last + 1 < e) ps
    → AllByRecursion (λ x. x.range.last + 1 ≡ e → is_same x.mode mode ≡ false) (front e ps left)
front_apart e mode =
    of_front e
    (λ ps fs. AllByRecursion (λ p. is_same p.mode mode ≡ true → p.range.first < e → p.range.last + 1 < e) ps
    → AllByRecursion (λ x. x.range.last + 1 ≡ e → is_same x.mode mode ≡ false) fs)
    (λ k. tt)
    (λ p ps fs h less all. λ k. (
      (λ touch. differs (is_same p.mode mode)
          (λ same. omega (arith, touch, k.0 same (omega (arith, less, p.range.ordered))))),
      all k.1,
    ))
    (λ p ps h above. λ k. tt)
    (λ p ps x h low above is. λ k. (
      (λ touch. ap (λ m. is_same m mode) is.2 ∙ differs (is_same p.mode mode)
          (λ same. omega (arith, above, k.0 same low))),
      tt,
    ))

-- Behind the byte, what is behind it means what the runs mean.
pub back_mode : (byte b : ℕ) → byte < b → (ps : List Piece) (right : Option Piece) → IsMerged ps
    → IsRestBehind byte (slice_get ps (ended (byte + 1) ps)) right
    → (mode : Option Mode) → mode_from mode (back byte ps right) b ≡ mode_from mode ps b
back_mode byte b above =
    of_back byte (λ ps bs. (mode : Option Mode) → mode_from mode bs b ≡ mode_from mode ps b) (λ mode. refl)
    (λ p ps bs h low same. λ mode.
    same mode
    ∙ sym (ap (λ t. mode_from (if t then p.mode else mode) ps b) (hasnt_beyond p.range b (omega (arith, low, above)))))
    (λ p ps h low. λ mode. refl)
    (λ p ps x h low past is. λ mode.
    ap (λ m. mode_from m ps b) (part_mode p x mode b is.2 (part_behind p x byte b above low is)))

-- it begins behind the byte
pub back_begins : (byte : ℕ) → (ps : List Piece) (right : Option Piece) → IsMerged ps
    → IsRestBehind byte (slice_get ps (ended (byte + 1) ps)) right
    → AllByRecursion (λ x. byte < x.range.first) (back byte ps right)
back_begins byte =
    of_back byte (λ ps bs. AllByRecursion (λ x. byte < x.range.first) bs) tt
    (λ p ps bs h low all. all)
    (λ p ps h low. (low, later p ps byte (omega (arith, low, p.range.ordered)) h.1))
    (λ p ps x h low past is. (omega (arith, is.0), later p ps byte (omega (arith, past)) h.1))

-- it is merged
pub back_merged : (byte : ℕ) → (ps : List Piece) (right : Option Piece) → IsMerged ps
    → IsRestBehind byte (slice_get ps (ended (byte + 1) ps)) right → IsMerged (back byte ps right)
back_merged byte =
    of_back byte (λ ps bs. IsMerged bs) tt (λ p ps bs h low all. all) (λ p ps h low. h)
    (λ p ps x h low past is. (
      (ap is_some is.2 ∙ h.0.0, omega (arith, is.1, h.0.1)),
      all_weaken (IsBehind p) (IsBehind x)
          (λ q k. (
            omega (arith, k.0, is.1),
            (λ touch. ap (λ m. is_same m q.mode) is.2 ∙ k.1 (omega (arith, touch, is.1))),
          )) ps h.1,
      h.2,
    ))

-- where no run of a mode goes on from the byte, none of it does
pub back_apart : (byte : ℕ) (mode : Option Mode) → (ps : List Piece) (right : Option Piece) → IsMerged ps
    → IsRestBehind byte (slice_get ps (ended (byte + 1) ps)) right
    → AllByRecursion (λ p. is_same p.mode mode ≡ true → byte < p.range.last → byte + 1 < p.range.first) ps
    → AllByRecursion (λ x. byte + 1 ≡ x.range.first → is_same x.mode mode ≡ false) (back byte ps right)
back_apart byte mode =
    of_back byte
    (λ ps bs. AllByRecursion (λ p. is_same p.mode mode ≡ true → byte < p.range.last → byte + 1 < p.range.first) ps
    → AllByRecursion (λ x. byte + 1 ≡ x.range.first → is_same x.mode mode ≡ false) bs)
    (λ k. tt)
    (λ p ps bs h low all. λ k. all k.1)
    (λ p ps h low. λ k. (
      (λ touch. differs (is_same p.mode mode)
          (λ same. omega (arith, touch, k.0 same (omega (arith, low, p.range.ordered))))),
      beyond p ps (omega (arith, low, p.range.ordered)) h.1,
    ))
    (λ p ps x h low past is. λ k. (
      (λ touch. ap (λ m. is_same m mode) is.2 ∙ differs (is_same p.mode mode)
          (λ same. omega (arith, low, k.0 same past))),
      beyond p ps past h.1,
    ))
  where
    beyond : (p : Piece) (ps : List Piece) → byte < p.range.last → AllByRecursion (IsBehind p) ps
        → AllByRecursion (λ x. byte + 1 ≡ x.range.first → is_same x.mode mode ≡ false) ps
    beyond p ps past behind =
        all_weaken (IsBehind p) (λ x. byte + 1 ≡ x.range.first → is_same x.mode mode ≡ false)
        (λ q k. λ touch. absurd (omega (arith, k.0, touch, past))) ps behind
