-- A seat's receipts, as they are kept in order.
use Rattle.std.proofs.Common.{◌≡◌, ◌⊎◌, ℕ, zero, suc, ◌<◌, ◌≤◌, List, [], ◌∷◌, ◌++◌, length, Some, slice_get, refl, sym, ap, ◌∙◌, subst, inl, inr, ⊎_elim, arith, length-append, append_assoc}
use Rattle.nfs_shared.specs.Ends.{IsKept}
use Rattle.nfs_shared.specs.Seats.{SeatReceipts, SeatView, fresh, Gives, KnowsTheSame}
use Rattle.nfs_shared.specs.declared.receipt.Receipt.{Receipt}
use Rattle.nfs_words.specs.Sitting.{Words}

-- what stands in a list with one element more
pub at_more : {A : Type 0} (xs : List A) (x : A) (k : ℕ) (y : A)
    → slice_get (xs ++ x ∷ []) k ≡ Some y → (slice_get xs k ≡ Some y) ⊎ ((k ≡ length xs) × (x ≡ y))
at_more [] x zero y at = inr (refl, cc)
at_more [] x (suc k) y at = absurd cc
at_more (z ∷ xs) x zero y at = inl at
at_more (z ∷ xs) x (suc k) y at = ⊎_elim (λ h. inl h) (λ h. inr (ap suc h.0, h.1)) (at_more xs x k y at)

within : {A : Type 0} (xs : List A) (k : ℕ) (x : A) → slice_get xs k ≡ Some x → k < length xs
within [] k x at = absurd cc
within (y ∷ xs) zero x at = omega arith
within (y ∷ xs) (suc k) x at = let h = within xs k x at in omega arith

-- what stands in a list stands there in a longer one that begins with it
in_longer : {A : Type 0} (xs ys : List A) (k : ℕ) (x : A) → slice_get xs k ≡ Some x → slice_get (xs ++ ys) k ≡ Some x
in_longer [] ys k x at = absurd cc
in_longer (z ∷ xs) ys zero x at = at
in_longer (z ∷ xs) ys (suc k) x at = in_longer xs ys k x at

at_end : {A : Type 0} (xs : List A) (x : A) → slice_get (xs ++ x ∷ []) (length xs) ≡ Some x
at_end [] x = refl
at_end (y ∷ ys) x = at_end ys x

-- A seat that was given nothing has no receipts.
pub kept_fresh : (words : Words) (place : ℕ) → IsKept (fresh words place) []
kept_fresh words place = record {
  place = λ k r at. absurd cc;
  list = λ k r at. absurd cc;
  rising = λ j k q r less at_j at_k. absurd cc;
  last = λ k r at. absurd cc;
  given = refl;
}

-- A seat that is given nothing has the receipts that it had.
pub kept_same : (old : SeatView) (receipts : List Receipt) (new : SeatView)
    → IsKept old receipts → KnowsTheSame old new → IsKept new receipts
kept_same old receipts new kept same = record {
  place = λ k r at. kept.place k r at ∙ sym same.0;
  list = λ k r at. let h = kept.list k r at in (h.0, ap (λ (s : SeatReceipts). slice_get s.list h.0) same.1 ∙ h.1);
  rising = kept.rising;
  last = λ k r at. let h = kept.last k r at in (h.0, ap (λ (s : SeatReceipts). s.last) same.1 ∙ h.1, h.2);
  given = kept.given ∙ ap (λ (s : SeatReceipts). s.given) (sym same.1);
}

-- A receipt that the seat is given comes at the end.
pub kept_more : (old : SeatView) (receipts : List Receipt) (r : Receipt) (new : SeatView)
    → IsKept old receipts → Gives old r new → IsKept new (receipts ++ r ∷ [])
kept_more old receipts r new kept gives = record {
  place = λ k x at. ⊎_elim (λ was. kept.place k x was ∙ sym gives.same)
      (λ now. ap (λ (y : Receipt). y.place) (sym now.1) ∙ gives.place ∙ sym gives.same) (at_more receipts r k x at);
  list = λ k x at. ⊎_elim (λ was. let h = kept.list k x was in (h.0, in_new h.0 x h.1))
      (λ now. (
        length (old.receipts.list ++ gives.list.0),
        subst (λ (y : Receipt). slice_get new.receipts.list
            (length (old.receipts.list ++ gives.list.0)) ≡ Some y) now.1 at_the_end,
      )) (at_more receipts r k x at);
  rising = λ j k q x less at_j at_k. ⊎_elim
      (λ was. kept.rising j k q x less (earlier j k q less (let h = within receipts k x was in omega arith) at_j) was)
      (λ now. let h = kept.last j q (earlier j k q less (omega arith) at_j) in
      let up = gives.above h.0 h.1 in
      let n = ap (λ (y : Receipt). y.number) now.1 in
      omega (arith, h.2, up, n))
      (at_more receipts r k x at_k);
  last = λ k x at. (
    r.number,
    gives.last,
    ⊎_elim
        (λ was. let h = kept.last k x was in
        let up = gives.above h.0 h.1 in
        let le : x.number ≤ r.number = omega (arith, h.2, up) in le)
        (λ now. let n = ap (λ (y : Receipt). y.number) now.1 in let le : x.number ≤ r.number = omega (arith, n) in le)
        (at_more receipts r k x at),
  );
  given = omega (arith, length-append receipts (r ∷ []), kept.given, gives.given);
}
  where
    in_new : (k : ℕ) (x : Receipt) → slice_get old.receipts.list k ≡ Some x → slice_get new.receipts.list k ≡ Some x
    in_new k x at =
        subst (λ (xs : List Receipt). slice_get xs k ≡ Some x)
        (sym (append_assoc old.receipts.list gives.list.0 (r ∷ [])) ∙ sym gives.list.1)
        (in_longer old.receipts.list (gives.list.0 ++ r ∷ []) k x at)

    at_the_end : slice_get new.receipts.list (length (old.receipts.list ++ gives.list.0)) ≡ Some r
    at_the_end = subst (λ (xs : List Receipt). slice_get xs (length (old.receipts.list ++ gives.list.0)) ≡ Some r)
        (sym gives.list.1) (at_end (old.receipts.list ++ gives.list.0) r)

    earlier : (j k : ℕ) (q : Receipt) → j < k → k ≤ length receipts
        → slice_get (receipts ++ r ∷ []) j ≡ Some q → slice_get receipts j ≡ Some q
    earlier j k q less le at =
        ⊎_elim (λ was. was) (λ now. let e = now.0 in absurd (omega arith)) (at_more receipts r j q at)
