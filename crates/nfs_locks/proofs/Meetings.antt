-- A report among more lock states, and that there is one report.
use Rattle.std.proofs.Common.{inl, inr, ◌≡◌, ℕ, ◌+◌, ◌≤◌, ◌==◌, nat_lt, true, false, not, ◌&&◌, List, [], ◌∷◌, ◌++◌, map, Some, None, Option, refl, sym, ◌∙◌, ap, subst, arith}
use Rattle.std.specs.Cmp.{IsTotalOrder, nat_cmp_total, on_total, then_total, upto}
use Rattle.std.specs.Cmp.Lexicographic.{nat_list_cmp_total}
use Rattle.std.specs.List.{AllByRecursion}
use Rattle.std.specs.declared.cmp.Ordering.{Ordering}
use Rattle.std.specs.declared.cmp.Ordering.TheVariants.{Less, Equal, Greater}
use Rattle.std.specs.Ordering.{is_gt, is_lt, ordering_reverse}
use Rattle.std.proofs.lemmas.Bool.{and_parts, and_right, cases_Bool, cond_both, eqb-false, eqb-true, false≢true, false_from_ne_true, ltb-false, ltb-true, or_cases, or_parts}
use Rattle.nfs_forms.specs.declared.lock_owner.LockOwner.{LockOwner}
use Rattle.nfs_locks.specs.Locks.{ByteLocks, is_lock_of}
use Rattle.nfs_locks.specs.Report.{IsClear, IsMeeting, IsNotAfter, IsReportAt, Report, owner_order, refuses, refuses_for}
use Rattle.nfs_locks.specs.ReportSeen.{comes_before, first_of}
use Rattle.nfs_locks.proofs.Compatible.{equal_owners}
use Rattle.nfs_locks.proofs.Elements.{all_push, all_weaken, find_before, find_beyond}
use Rattle.nfs_ranges.specs.Bytes.{IsIn}
use Rattle.nfs_ranges.specs.Modes.{conflicts}
use Rattle.nfs_ranges.specs.Questions.{IsFirstConflict}
use Rattle.nfs_ranges.specs.declared.mode.Mode.{Mode}
use Rattle.nfs_ranges.specs.declared.range.Range.{Range}

pub owners_total : IsTotalOrder owner_order
owners_total =
    then_total (on_total (λ (o : LockOwner). o.client.epoch) nat_cmp_total)
    (then_total (on_total (λ (o : LockOwner). o.client.number) nat_cmp_total) (on_total (λ (o : LockOwner). o.name) nat_list_cmp_total))

-- the order the other way round
pub gt_reverse : (r : Ordering) → is_gt (ordering_reverse r) ≡ is_lt r
gt_reverse Less = refl
gt_reverse Equal = refl
gt_reverse Greater = refl

lt_not_gt : (r : Ordering) → is_lt r ≡ true → is_gt r ≡ false
lt_not_gt Less less = refl
lt_not_gt Equal less = refl
lt_not_gt Greater less = absurd (false≢true less)

module _ (owner : LockOwner) (range : Range) (mode : Mode) where
  -- a lock state that refuses no byte of the range is clear up to any byte of it
  clear_to : (l : ByteLocks) (end : ℕ) → end ≤ range.last + 1 → ((byte : ℕ) → IsIn range byte → refuses owner mode byte l ≡ false) → IsClear owner mode range.first end l
  clear_to l end within none = λ byte from below. none byte (from, omega (arith, below, within))

  clear_less : (l : ByteLocks) (less end : ℕ) → less ≤ end → IsClear owner mode range.first end l → IsClear owner mode range.first less l
  clear_less l less end within clear = λ byte from below. clear byte from (omega (arith, below, within))

  not_refused : (first : LockOwner) (byte : ℕ) (l : ByteLocks) → refuses owner mode byte l ≡ false → IsNotAfter first owner mode byte l
  not_refused first byte l none = λ refused. absurd (false≢true (sym none ∙ refused))

  -- The report of one more lock state is that of all, if nobody else refuses a byte before it, nor this byte with an
  -- owner that comes first or is the same.
  of_last : (locks : List ByteLocks) (x : ByteLocks) (byte : ℕ) (report : Report)
      → AllByRecursion (IsClear owner mode range.first byte) locks
      → AllByRecursion (IsNotAfter report.owner owner mode byte) locks
      → AllByRecursion (λ l. refuses_for report.owner owner mode byte l ≡ false) locks
      → IsReportAt (x ∷ []) owner range mode byte report → IsReportAt (locks ++ x ∷ []) owner range mode byte report
  of_last locks x byte report clear first none at = (
    at.0,
    all_push (IsClear owner mode range.first byte) locks x clear at.1.0,
    all_push (IsNotAfter report.owner owner mode byte) locks x first at.2.0,
    (at.3.0, find_beyond (refuses_for report.owner owner mode byte) locks (x ∷ []) none ∙ at.3.1, at.3.2),
  )

  of_others : (locks : List ByteLocks) (x : ByteLocks) (byte : ℕ) (report : Report)
      → IsClear owner mode range.first byte x → IsNotAfter report.owner owner mode byte x
      → IsReportAt locks owner range mode byte report → IsReportAt (locks ++ x ∷ []) owner range mode byte report
  of_others locks x byte report clear first at = (
    at.0,
    all_push (IsClear owner mode range.first byte) locks x at.1 clear,
    all_push (IsNotAfter report.owner owner mode byte) locks x at.2 first,
    (at.3.0, find_before (refuses_for report.owner owner mode byte) locks (x ∷ []) at.3.0 at.3.1, at.3.2),
  )

  -- a lock state that doesn't refuse the byte, doesn't for any owner
  refuses_for_none : (first : LockOwner) (byte : ℕ) (l : ByteLocks) → refuses owner mode byte l ≡ false → refuses_for first owner mode byte l ≡ false
  refuses_for_none first byte l none = and_right (is_lock_of first l) (refuses owner mode byte l) none

  -- nor does one for an owner that comes before those that do
  refuses_for_other : (first second : LockOwner) (byte : ℕ) (l : ByteLocks) → is_lt (owner_order first second) ≡ true
      → IsNotAfter second owner mode byte l → refuses_for first owner mode byte l ≡ false
  refuses_for_other first second byte l less after =
      false_from_ne_true (refuses_for first owner mode byte l)
      (λ both.
      let parts = and_parts (is_lock_of first l) (refuses owner mode byte l) both in
      let not_gt : is_gt (owner_order second first) ≡ false =
      ap (λ o. is_gt (owner_order second o)) (sym (equal_owners l.owner first parts.0)) ∙ after parts.1 in
      false≢true (sym not_gt ∙ ap is_gt (owners_total.antisymm second first) ∙ gt_reverse (owner_order first second) ∙ less))

  -- the meeting with one more lock state comes before
  last_wins : (locks : List ByteLocks) (x : ByteLocks) (a b : ℕ × Report)
      → IsReportAt locks owner range mode a.0 a.1 → IsReportAt (x ∷ []) owner range mode b.0 b.1 → comes_before b a ≡ true
      → IsReportAt (locks ++ x ∷ []) owner range mode b.0 b.1
  last_wins locks x a b here there wins =
      elim (or_cases (nat_lt b.0 a.0) (b.0 == a.0 && is_lt (owner_order b.1.owner a.1.owner)) wins) [
        | inl earlier ↦
            let below = ltb-true b.0 a.0 earlier in
            of_last locks x b.0 b.1
            (all_weaken (IsClear owner mode range.first a.0) (IsClear owner mode range.first b.0) (λ l. clear_less l b.0 a.0 (omega (arith, below))) locks here.1)
            (all_weaken (IsClear owner mode range.first a.0) (IsNotAfter b.1.owner owner mode b.0) (λ l clear. not_refused b.1.owner b.0 l (clear b.0 there.0.0 below)) locks here.1)
            (all_weaken (IsClear owner mode range.first a.0) (λ l. refuses_for b.1.owner owner mode b.0 l ≡ false) (λ l clear. refuses_for_none b.1.owner b.0 l (clear b.0 there.0.0 below)) locks here.1)
            there
        | inr tied ↦
            let both = and_parts (b.0 == a.0) (is_lt (owner_order b.1.owner a.1.owner)) tied in
            let same = eqb-true b.0 a.0 both.0 in
            of_last locks x b.0 b.1
            (all_weaken (IsClear owner mode range.first a.0) (IsClear owner mode range.first b.0) (λ l. clear_less l b.0 a.0 (omega (arith, same))) locks here.1)
            (all_weaken (IsNotAfter a.1.owner owner mode a.0) (IsNotAfter b.1.owner owner mode b.0)
            (λ l after refused. upto owners_total b.1.owner a.1.owner l.owner (lt_not_gt _ both.1) (after (ap (λ byte. refuses owner mode byte l) (sym same) ∙ refused)))
            locks here.2)
            (all_weaken (IsNotAfter a.1.owner owner mode a.0) (λ l. refuses_for b.1.owner owner mode b.0 l ≡ false)
            (λ l after. refuses_for_other b.1.owner a.1.owner b.0 l both.1 (λ refused. after (ap (λ byte. refuses owner mode byte l) (sym same) ∙ refused)))
            locks here.2)
            there
      ]

  -- the lock state of the meeting that doesn't come before refuses the other's byte only with an owner that comes later
  last_not_after : (x : ByteLocks) (a b : ℕ × Report) → IsReportAt (x ∷ []) owner range mode b.0 b.1
      → range.first ≤ a.0 → a.0 ≤ b.0 → (b.0 == a.0 && is_lt (owner_order b.1.owner a.1.owner)) ≡ false
      → IsNotAfter a.1.owner owner mode a.0 x
  last_not_after x a b there from reaches tied = λ refused.
      elim (cases_Bool (b.0 == a.0)) [
        | inl same ↦
            let not_lt : is_lt (owner_order b.1.owner a.1.owner) ≡ false =
            sym (ap (λ t. t && is_lt (owner_order b.1.owner a.1.owner)) same) ∙ tied in
            upto owners_total a.1.owner b.1.owner x.owner
            (ap is_gt (owners_total.antisymm a.1.owner b.1.owner) ∙ gt_reverse (owner_order b.1.owner a.1.owner) ∙ not_lt)
            (there.2.0 (ap (λ byte. refuses owner mode byte x) (eqb-true b.0 a.0 same) ∙ refused))
        | inr differs ↦
            absurd (false≢true (sym (there.1.0 a.0 from (omega (arith, reaches, eqb-false b.0 a.0 differs))) ∙ refused))
      ]

  -- it doesn't
  others_win : (locks : List ByteLocks) (x : ByteLocks) (a b : ℕ × Report)
      → IsReportAt locks owner range mode a.0 a.1 → IsReportAt (x ∷ []) owner range mode b.0 b.1 → comes_before b a ≡ false
      → IsReportAt (locks ++ x ∷ []) owner range mode a.0 a.1
  others_win locks x a b here there loses =
      let parts = or_parts (nat_lt b.0 a.0) (b.0 == a.0 && is_lt (owner_order b.1.owner a.1.owner)) loses in
      let reaches : a.0 ≤ b.0 = ltb-false b.0 a.0 parts.0 in
      of_others locks x a.0 a.1 (clear_less x a.0 b.0 reaches there.1.0)
      (last_not_after x a b there here.0.0 reaches parts.1) here

-- one more lock state
pub one_more : (locks : List ByteLocks) (x : ByteLocks) (owner : LockOwner) (range : Range) (mode : Mode) (a b : Option (ℕ × Report))
    → IsMeeting locks owner range mode a → IsMeeting (x ∷ []) owner range mode b
    → IsMeeting (locks ++ x ∷ []) owner range mode (first_of a b)
one_more locks x owner range mode None None here there =
    all_push (λ l. (byte : ℕ) → IsIn range byte → refuses owner mode byte l ≡ false) locks x here there.0
one_more locks x owner range mode None (Some b) here there =
    of_last owner range mode locks x b.0 b.1
    (all_weaken _ (IsClear owner mode range.first b.0) (λ l. clear_to owner range mode l b.0 (omega (arith, there.0.1))) locks here)
    (all_weaken _ (IsNotAfter b.1.owner owner mode b.0) (λ l none. not_refused owner range mode b.1.owner b.0 l (none b.0 there.0)) locks here)
    (all_weaken _ (λ l. refuses_for b.1.owner owner mode b.0 l ≡ false) (λ l none. refuses_for_none owner range mode b.1.owner b.0 l (none b.0 there.0)) locks here)
    there
one_more locks x owner range mode (Some a) None here there =
    of_others owner range mode locks x a.0 a.1
    (clear_to owner range mode x a.0 (omega (arith, here.0.1)) there.0)
    (not_refused owner range mode a.1.owner a.0 x (there.0 a.0 here.0)) here
one_more locks x owner range mode (Some a) (Some b) here there =
    cond_both (comes_before b a) b a (λ m. IsReportAt (locks ++ x ∷ []) owner range mode m.0 m.1)
    (last_wins owner range mode locks x a b here there) (others_win owner range mode locks x a b here there)

-- a lock state whose modes refuse no byte of the range
pub no_meeting : (l : ByteLocks) (owner : LockOwner) (range : Range) (mode : Mode) → IsFirstConflict l.modes range mode None → IsMeeting (l ∷ []) owner range mode None
no_meeting l owner range mode none = ((λ byte inside. and_right (not (is_lock_of owner l)) (conflicts mode (l.modes byte)) (none byte inside)), tt)

first_alone : (a : Option (ℕ × Report)) → first_of a None ≡ a
first_alone None = refl
first_alone (Some a) = refl

-- it changes nothing
pub none_more : (locks : List ByteLocks) (x : ByteLocks) (owner : LockOwner) (range : Range) (mode : Mode) (a : Option (ℕ × Report))
    → IsMeeting locks owner range mode a → IsFirstConflict x.modes range mode None → IsMeeting (locks ++ x ∷ []) owner range mode a
none_more locks x owner range mode a here none =
    subst (IsMeeting (locks ++ x ∷ []) owner range mode) (first_alone a) (one_more locks x owner range mode a None here (no_meeting x owner range mode none))

-- the lock states of a list that grows at its end
pub map_push : {X Y : Type 0} (f : X → Y) (xs : List X) (x : X) → map f (xs ++ x ∷ []) ≡ map f xs ++ f x ∷ []
map_push f [] x = refl
map_push f (y ∷ xs) x = ap (λ more. f y ∷ more) (map_push f xs x)
