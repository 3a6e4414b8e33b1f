-- Seats in the order of their places, and what workers hand in.
use Rattle.std.proofs.Common.{◌≡◌, ◌⊎◌, ℕ, zero, suc, ◌+◌, ◌<◌, List, [], ◌∷◌, ◌++◌, length, Some, slice_get, refl, sym, ap, ◌∙◌, subst, inl, inr, ⊎_elim, arith, length-append}
use Rattle.nfs_shared.specs.Ends.{AreKept, IsKept}
use Rattle.nfs_shared.specs.Seats.{SeatView, fresh}
use Rattle.nfs_shared.specs.declared.receipt.Receipt.{Receipt}
use Rattle.nfs_threads.specs.Worker.{AreUnused}
use Rattle.nfs_words.specs.Sitting.{Words}
use Rattle.rows.specs.Places.{AreFreshFrom}

-- what stands in a list with one element more
at_more : {A : Type 0} (xs : List A) (x : A) (k : ℕ) (y : A) → slice_get (xs ++ x ∷ []) k ≡ Some y → (slice_get xs k ≡ Some y) ⊎ ((k ≡ length xs) × (x ≡ y))
at_more [] x zero y at = inr (refl, cc)
at_more [] x (suc k) y at = absurd cc
at_more (z ∷ xs) x zero y at = inl at
at_more (z ∷ xs) x (suc k) y at = ⊎_elim (λ h. inl h) (λ h. inr (ap suc h.0, h.1)) (at_more xs x k y at)

within : {A : Type 0} (xs : List A) (k : ℕ) (x : A) → slice_get xs k ≡ Some x → k < length xs
within [] k x at = absurd cc
within (y ∷ xs) zero x at = omega arith
within (y ∷ xs) (suc k) x at = let h = within xs k x at in omega arith

pub kept_same : (seats seats' : List SeatView) (lists lists' : List (List Receipt)) → AreKept seats lists → seats' ≡ seats → lists' ≡ lists → AreKept seats' lists'
kept_same seats seats' lists lists' kept same also =
    subst (λ (xs : List SeatView). AreKept xs lists') (sym same) (subst (λ (ys : List (List Receipt)). AreKept seats ys) (sym also) kept)

-- the seat of the next place, and its receipts
pub kept_more : (seats : List SeatView) (lists : List (List Receipt)) (seat : SeatView) (receipts : List Receipt)
    → AreKept seats lists → seat.place ≡ length seats → IsKept seat receipts
    → AreKept (seats ++ seat ∷ []) (lists ++ receipts ∷ [])
kept_more seats lists seat receipts kept place own = (
  (let count = kept.0 in omega (arith, length-append lists (receipts ∷ []), length-append seats (seat ∷ []))),
  λ k s r at also. ⊎_elim
      (λ was. ⊎_elim
      (λ also_was. kept.1 k s r was also_was)
      (λ also_now. let h = within seats k s was in let count = kept.0 in let e = also_now.0 in absurd (omega arith))
      (at_more lists receipts k r also))
      (λ now. ⊎_elim
      (λ also_was. let h = within lists k r also_was in let count = kept.0 in let e = now.0 in absurd (omega arith))
      (λ also_now. (
        ap (λ (v : SeatView). v.place) (sym now.1) ∙ place ∙ sym now.0,
        subst (λ (v : SeatView). IsKept v r) now.1 (subst (λ (v : List Receipt). IsKept seat v) also_now.1 own),
      ))
      (at_more lists receipts k r also))
      (at_more seats seat k s at),
)

at_middle : {A : Type 0} (xs ys : List A) (x : A) → slice_get (xs ++ x ∷ ys) (length xs) ≡ Some x
at_middle [] ys x = refl
at_middle (z ∷ xs) ys x = at_middle xs ys x

-- what stands between two lists
pub next_at : {A : Type 0} (all before after : List A) (x : A) → all ≡ before ++ x ∷ after → slice_get all (length before) ≡ Some x
next_at all before after x is = ap (λ xs. slice_get xs (length before)) is ∙ at_middle before after x

in_longer : {A : Type 0} (xs ys : List A) (k : ℕ) (x : A) → slice_get xs k ≡ Some x → slice_get (xs ++ ys) k ≡ Some x
in_longer [] ys k x at = absurd cc
in_longer (z ∷ xs) ys zero x at = at
in_longer (z ∷ xs) ys (suc k) x at = in_longer xs ys k x at

pub fresh_front : (words : Words) (first : ℕ) (front back : List SeatView) → AreFreshFrom words first (front ++ back) → AreFreshFrom words first front
fresh_front words first front back are k s at = are k s (in_longer front back k s at)

pub fresh_later : (words : Words) (first : ℕ) (seat : SeatView) (seats : List SeatView) → AreFreshFrom words first (seat ∷ seats) → AreFreshFrom words (suc first) seats
fresh_later words first seat seats are k s at =
    let moved : first + suc k ≡ suc first + k = omega arith in are (suc k) s at ∙ ap (λ n. fresh words n) moved

pub fresh_back : (words : Words) (first : ℕ) (front back : List SeatView) → AreFreshFrom words first (front ++ back) → AreFreshFrom words (first + length front) back
fresh_back words first [] back are k s at =
    let moved : first + k ≡ (first + zero) + k = omega arith in are k s at ∙ ap (λ n. fresh words n) moved
fresh_back words first (seat ∷ front) back are k s at =
    let moved : (suc first + length front) + k ≡ (first + suc (length front)) + k = omega arith in
    fresh_back words (suc first) front back (fresh_later words first seat (front ++ back) are) k s at ∙ ap (λ n. fresh words n) moved

pub unused_of_fresh : (words : Words) (first : ℕ) (seats : List SeatView) → AreFreshFrom words first seats → AreUnused seats
unused_of_fresh words first seats are k s at = ap (λ (v : SeatView). v.receipts.given) (are k s at)
