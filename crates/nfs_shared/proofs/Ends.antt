-- What follows when each seat has met the writer.
use Rattle.std.proofs.Common.{◌≡◌, ℕ, zero, suc, ◌+◌, ◌<◌, List, [], ◌∷◌, ◌++◌, length, Some, slice_get, refl, sym, ap, ◌∙◌, subst, ⊎_elim, arith, length-append}
use mathlib.Core.List.{IsPrefix}
use mathlib.Core.Logic.{dite}
use native.Mathlib.Decide.{dec_le}
use Rattle.nfs_state.specs.declared.entry.Entry.{Entry}
use Rattle.nfs_shared.specs.declared.receipt.Receipt.{Receipt}
use Rattle.nfs_shared.specs.Ends.{AreFresh, AreKept, AllBegin, StandsAt, AllStand, AllApart, receipts_in, given_in}
use Rattle.nfs_shared.specs.Receipts.{receipts_of}
use Rattle.nfs_shared.specs.Seats.{SeatView, fresh}
use Rattle.nfs_words.specs.Sitting.{Words}
use Rattle.nfs_shared.proofs.Prefixes.{prefix_get}
use Rattle.nfs_shared.proofs.Receipts.{receipts_stand, receipts_apart}
use Rattle.nfs_shared.specs.laws.Keeping.{at_more}

pub fresh_more : (words : Words) (count : ℕ) (seats : List SeatView) (seat : SeatView) → AreFresh words count seats → seat ≡ fresh words count → AreFresh words (count + 1) (seats ++ seat ∷ [])
fresh_more words count seats seat h is =
    (omega (arith, h.0, length-append seats (seat ∷ [])), λ k s at. ⊎_elim (λ old. h.1 k s old) (λ new. sym new.1 ∙ is ∙ ap (fresh words) (sym h.0 ∙ sym new.0)) (at_more seats seat k s at))

pub begin_more : (seats : List SeatView) (seat : SeatView) (whole : List Receipt) → AllBegin seats whole → IsPrefix seat.receipts.list whole → AllBegin (seats ++ seat ∷ []) whole
begin_more seats seat whole h begins k s at =
    ⊎_elim (λ old. h k s old) (λ new. subst (λ (x : SeatView). IsPrefix x.receipts.list whole) new.1 begins) (at_more seats seat k s at)

pub given_more : (seats : List SeatView) (seat : SeatView) → given_in (seats ++ seat ∷ []) ≡ given_in seats + seat.receipts.given
given_more [] seat = omega arith
given_more (s ∷ seats) seat = let h = given_more seats seat in omega arith

-- as many receipts as the seats were given
pub counts : (seats : List SeatView) (lists : List (List Receipt)) → length lists ≡ length seats
    → ((k : ℕ) (seat : SeatView) (receipts : List Receipt) → slice_get seats k ≡ Some seat → slice_get lists k ≡ Some receipts → length receipts ≡ seat.receipts.given)
    → receipts_in lists ≡ given_in seats
counts [] [] same each = refl
counts [] (rs ∷ lists) same each = absurd (omega arith)
counts (s ∷ seats) [] same each = absurd (omega arith)
counts (s ∷ seats) (rs ∷ lists) same each =
    let here = each zero s rs refl refl in
    let rest = counts seats lists (omega arith) (λ k seat receipts at_s at_r. each (suc k) seat receipts at_s at_r) in
    omega arith

-- where a list of receipts stands, a seat does
seat_at : (seats : List SeatView) (lists : List (List Receipt)) (k : ℕ) (receipts : List Receipt) → length lists ≡ length seats → slice_get lists k ≡ Some receipts → (seat : SeatView) × (slice_get seats k ≡ Some seat)
seat_at seats [] k receipts same at = absurd cc
seat_at [] (rs ∷ lists) k receipts same at = absurd (omega arith)
seat_at (s ∷ seats) (rs ∷ lists) zero receipts same at = (s, refl)
seat_at (s ∷ seats) (rs ∷ lists) (suc k) receipts same at = seat_at seats lists k receipts (omega arith) at

one_place : (k l m n : ℕ) → (k < l → m < n) → (l < k → n < m) → m ≡ n → k ≡ l
one_place k l m n before behind same =
    dite (dec_le k l)
    (λ le. dite (dec_le l k) (λ ge. omega arith) (λ not. let less : m < n = before (omega arith) in absurd (omega arith)))
    (λ not. let less : n < m = behind (omega arith) in absurd (omega arith))

module _ (journal : List Entry) (places : List ℕ) (seats : List SeatView) (lists : List (List Receipt)) (begin : AllBegin seats (receipts_of 0 journal places)) (kept : AreKept seats lists) where
  -- a receipt is one of the journal's, and bears the place of the list that it stands in
  one_of : (i k : ℕ) (r : Receipt) → StandsAt lists i k r → (m : ℕ) × (slice_get (receipts_of 0 journal places) m ≡ Some r) × (r.place ≡ i)
  one_of i k r at =
      let seat = seat_at seats lists i at.0 kept.0 at.1 in
      let its = kept.1 i seat.0 at.0 seat.1 at.1 in
      let known = its.1.list k r at.2 in
      (known.0, prefix_get seat.0.receipts.list (receipts_of 0 journal places) known.0 r (begin i seat.0 seat.1) known.1, its.1.place k r at.2 ∙ its.0)

  pub all_stand : AllStand journal lists
  all_stand i k r at = let one = one_of i k r at in receipts_stand 0 journal places one.0 r r.number one.1 (omega arith)

  pub all_apart : AllApart lists
  all_apart i j k l q r at_q at_r same =
      let one = one_of i k q at_q in
      let other = one_of j l r at_r in
      let equal : q ≡ r = receipts_apart 0 journal places one.0 other.0 q r one.1 other.1 same in
      let list : i ≡ j = sym one.2 ∙ ap (λ x. x.place) equal ∙ other.2 in
      let seat = seat_at seats lists i at_q.0 kept.0 at_q.1 in
      let rising = (kept.1 i seat.0 at_q.0 seat.1 at_q.1).1.rising in
      let there : slice_get lists i ≡ Some at_r.0 = ap (slice_get lists) list ∙ at_r.1 in
      let one_list : at_r.0 ≡ at_q.0 = cc (there, at_q.1) in
      let stands : slice_get at_q.0 l ≡ Some r = subst (λ (xs : List Receipt). slice_get xs l ≡ Some r) one_list at_r.2 in
      let before : k < l → q.number < r.number = λ less. rising k l q r less at_q.2 stands in
      let behind : l < k → r.number < q.number = λ less. rising l k r q less stands at_q.2 in
      (list, one_place k l q.number r.number before behind same)

  pub all_counted : receipts_in lists ≡ given_in seats
  all_counted = counts seats lists kept.0 (λ k seat receipts at_s at_r. (kept.1 k seat receipts at_s at_r).1.given)
