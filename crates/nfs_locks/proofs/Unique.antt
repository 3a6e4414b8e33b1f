-- There is at most one report.
use Rattle.std.proofs.Common.{inl, inr, ◌≡◌, ℕ, ◌<◌, ◌==◌, nat_lt, Bool, true, false, cond, List, [], ◌∷◌, Some, None, Option, refl, sym, ◌∙◌, ap, subst, arith}
use Rattle.std.specs.Prelude.{find, unwrap_or}
use Rattle.std.specs.List.{AllByRecursion}
use Rattle.std.specs.Cmp.Lexicographic.{slice_cmp}
use Rattle.std.specs.Ordering.{is_eq, is_gt, is_lt, nat_cmp, ordering_then}
use Rattle.std.specs.declared.cmp.Ordering.{Ordering}
use Rattle.std.specs.declared.cmp.Ordering.TheVariants.{Less, Equal, Greater}
use Rattle.std.proofs.lemmas.Bool.{and_parts, cases_Bool, eqb-true, false≢true, ltb-false, ltb-true}
use Rattle.nfs_forms.specs.declared.lock_owner.LockOwner.{LockOwner}
use Rattle.nfs_locks.specs.Locks.{ByteLocks, is_lock_of}
use Rattle.nfs_locks.specs.Report.{IsClear, IsNotAfter, IsReport, IsReportAt, Report, owner_order, refuses, refuses_for}
use Rattle.nfs_locks.proofs.Compatible.{equal_owners}
use Rattle.nfs_locks.proofs.Elements.{all_found}
use Rattle.nfs_locks.proofs.Meetings.{gt_reverse, owners_total}
use Rattle.nfs_ranges.specs.Bytes.{IsIn}
use Rattle.nfs_ranges.specs.Questions.{IsRunAt}
use Rattle.nfs_ranges.specs.declared.mode.Mode.{Mode}
use Rattle.nfs_ranges.specs.declared.range.Range.{Range}

then_equal : (r s : Ordering) → ordering_then r s ≡ Equal → (r ≡ Equal) × (s ≡ Equal)
then_equal Less s h = absurd (false≢true (ap is_eq h))
then_equal Equal s h = (refl, h)
then_equal Greater s h = absurd (false≢true (ap is_eq h))

unequal : (b : Bool) → cond b Less Greater ≡ Equal → ⊥
unequal true h = false≢true (ap is_eq h)
unequal false h = false≢true (ap is_eq h)

equal_numbers : (m n : ℕ) → nat_cmp m n ≡ Equal → m ≡ n
equal_numbers m n h =
    elim (cases_Bool (m == n)) [
      | inl same ↦ eqb-true m n same
      | inr differ ↦ absurd (unequal (nat_lt m n) (sym (ap (λ t. cond (nat_lt m n) Less (cond t Equal Greater)) differ) ∙ h))
    ]

equal_names : (xs ys : List ℕ) → slice_cmp nat_cmp xs ys ≡ Equal → xs ≡ ys
equal_names [] [] h = refl
equal_names [] (y ∷ ys) h = absurd (false≢true (ap is_eq h))
equal_names (x ∷ xs) [] h = absurd (false≢true (ap is_eq h))
equal_names (x ∷ xs) (y ∷ ys) h =
    let both = then_equal (nat_cmp x y) (slice_cmp nat_cmp xs ys) h in
    let head = equal_numbers x y both.0 in
    let tail = equal_names xs ys both.1 in
    λ i. head i ∷ tail i

equal_in_order : (a b : LockOwner) → owner_order a b ≡ Equal → a ≡ b
equal_in_order a b h =
    let by_number = ordering_then (nat_cmp a.client.number b.client.number) (slice_cmp nat_cmp a.name b.name) in
    let first = then_equal (nat_cmp a.client.epoch b.client.epoch) by_number h in
    let rest = then_equal (nat_cmp a.client.number b.client.number) (slice_cmp nat_cmp a.name b.name) first.1 in
    let epoch = equal_numbers a.client.epoch b.client.epoch first.0 in
    let number = equal_numbers a.client.number b.client.number rest.0 in
    let name = equal_names a.name b.name rest.1 in
    λ i. record { client = record { epoch = epoch i; number = number i }; name = name i }

neither : (r : Ordering) → is_gt r ≡ false → is_lt r ≡ false → r ≡ Equal
neither Less not_gt not_lt = absurd (false≢true (sym not_lt))
neither Equal not_gt not_lt = refl
neither Greater not_gt not_lt = absurd (false≢true (sym not_gt))

neither_before : (m n : ℕ) → (m < n → ⊥) → (n < m → ⊥) → m ≡ n
neither_before m n not_less not_more =
    elim (cases_Bool (nat_lt m n)) [
      | inl less ↦ absurd (not_less (ltb-true m n less))
      | inr least ↦ elim (cases_Bool (nat_lt n m)) [
        | inl more ↦ absurd (not_more (ltb-true n m more))
        | inr most ↦ omega (arith, ltb-false m n least, ltb-false n m most)
      ]
    ]

module _ (locks : List ByteLocks) (owner : LockOwner) (range : Range) (mode : Mode) where
  -- what holds of each lock state holds of the one by which the report's owner refuses the byte
  of_first : (P : ByteLocks → Type 0) (byte : ℕ) (r : Report) → AllByRecursion P locks → (at : IsReportAt locks owner range mode byte r)
      → P at.3.0 × (at.3.0.owner ≡ r.owner) × (refuses owner mode byte at.3.0 ≡ true)
  of_first P byte r all at =
      let l = at.3.0 in
      let found = all_found P (refuses_for r.owner owner mode byte) locks l all at.3.1 in
      let both = and_parts (is_lock_of r.owner l) (refuses owner mode byte l) found.1 in
      (found.0, equal_owners l.owner r.owner both.0, both.1)

  -- no byte before the first is refused
  none_before : (a b : ℕ) (r s : Report) → IsReportAt locks owner range mode a r → IsReportAt locks owner range mode b s → a < b → ⊥
  none_before a b r s at there less =
      let l = of_first (IsClear owner mode range.first b) a r there.1 at in
      false≢true (sym (l.0 a at.0.0 less) ∙ l.2)

  -- nor does the owner of one report come after that of the other
  not_after : (byte : ℕ) (r s : Report) → IsReportAt locks owner range mode byte r → IsReportAt locks owner range mode byte s
      → is_gt (owner_order r.owner s.owner) ≡ false
  not_after byte r s at there =
      let l = of_first (IsNotAfter r.owner owner mode byte) byte s at.2 there in
      ap (λ o. is_gt (owner_order r.owner o)) (sym l.1) ∙ l.0 l.2

  module _ (one_run : (modes : ℕ → Option Mode) (byte : ℕ) (a b : Option (Range × Mode)) → IsRunAt modes byte a → IsRunAt modes byte b → a ≡ b) where
    one_at : (byte : ℕ) (r s : Report) → IsReportAt locks owner range mode byte r → IsReportAt locks owner range mode byte s → r ≡ s
    one_at byte r s at there =
        let not_lt : is_lt (owner_order r.owner s.owner) ≡ false =
        sym (ap is_gt (owners_total.antisymm s.owner r.owner) ∙ gt_reverse (owner_order r.owner s.owner)) ∙ not_after byte s r there at in
        let owners : r.owner ≡ s.owner = equal_in_order r.owner s.owner (neither (owner_order r.owner s.owner) (not_after byte r s at there) not_lt) in
        let found : Some at.3.0 ≡ Some there.3.0 =
        sym at.3.1 ∙ ap (λ o. find (refuses_for o owner mode byte) locks) owners ∙ there.3.1 in
        let states : at.3.0 ≡ there.3.0 = ap (λ o. unwrap_or o at.3.0) found in
        let run = one_run there.3.0.modes byte (Some (r.range, r.mode)) (Some (s.range, s.mode))
        (subst (λ (state : ByteLocks). IsRunAt state.modes byte (Some (r.range, r.mode))) states at.3.2) there.3.2 in
        let pair = ap (λ o. unwrap_or o (r.range, r.mode)) run in
        λ i. record { range = (pair i).0; mode = (pair i).1; owner = owners i }

    pub at_most_one : (a b : Option Report) → IsReport locks owner range mode a → IsReport locks owner range mode b → a ≡ b
    at_most_one None None here there = refl
    at_most_one None (Some s) none there =
        let l = of_first (λ l. (byte : ℕ) → IsIn range byte → refuses owner mode byte l ≡ false) there.0 s none there.1 in
        absurd (false≢true (sym (l.0 there.0 there.1.0) ∙ l.2))
    at_most_one (Some r) None here none =
        let l = of_first (λ l. (byte : ℕ) → IsIn range byte → refuses owner mode byte l ≡ false) here.0 r none here.1 in
        absurd (false≢true (sym (l.0 here.0 here.1.0) ∙ l.2))
    at_most_one (Some r) (Some s) here there =
        let byte : here.0 ≡ there.0 =
        neither_before here.0 there.0 (none_before here.0 there.0 r s here.1 there.1) (none_before there.0 here.0 s r there.1 here.1) in
        ap Some (one_at there.0 r s (subst (λ byte. IsReportAt locks owner range mode byte r) byte here.1) there.1)
