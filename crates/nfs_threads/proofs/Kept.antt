-- What workers give back is what the end of the run asks for.
use Rattle.std.proofs.Common.{◌≡◌, ℕ, suc, zero, List, [], ◌∷◌, length, slice_get, Some, refl, ap, subst, sym, ◌∙◌}
use Rattle.std.proofs.lemmas.List.{length-map}
use Rattle.nfs_shared.specs.Ends.{AreFresh, AreKept, IsKept}
use Rattle.nfs_shared.specs.declared.receipt.Receipt.{Receipt}
use Rattle.nfs_shared.specs.Seats.{SeatView}
use Rattle.nfs_tree.specs.Tree.{Files}
use Rattle.nfs_words.specs.Sitting.{Words}
use Rattle.nfs_threads.specs.Worker.{AreEndsOf, Linking, receipts_back, seats_back, seats_of}
use Rattle.nfs_threads.specs.declared.worker_end.WorkerEnd.{WorkerEnd}
use Rattle.nfs_threads.proofs.Parts.{has_parts}
use Rattle.nfs_threads.proofs.Rest.{some_is}

-- These are a seat and its receipts that came back from the place k; the seat that went there has the same place.
pub record CameBack (seats : List SeatView) (k : ℕ) (seat : SeatView) (receipts : List Receipt) : Type 0 where
  pub went : SeatView
  pub at : slice_get seats k ≡ Some went
  pub place : seat.place ≡ went.place
  pub kept : IsKept seat receipts

came_back : {N L D C : Type 0} (linking : Linking L D C) (tree : Files) (links : List (L × SeatView)) (ends : List (WorkerEnd N)) (k : ℕ) (seat : SeatView) (receipts : List Receipt)
    → AreEndsOf linking tree links ends
    → slice_get (seats_back ends) k ≡ Some seat → slice_get (receipts_back ends) k ≡ Some receipts
    → CameBack (seats_of links) k seat receipts
came_back linking tree [] [] k seat receipts are at also = cc
came_back linking tree (l ∷ links) [] k seat receipts are at also = absurd are
came_back linking tree [] (e ∷ ends) k seat receipts are at also = absurd are
came_back linking tree (l ∷ links) (e ∷ ends) zero seat receipts are at also =
    let seat_is = some_is e.seat seat at in
    let receipts_is = some_is e.receipts.items receipts also in record {
      went = l.1;
      at = refl;
      place = ap (λ (s : SeatView). s.place) (sym seat_is) ∙ (has_parts linking tree l.0 l.1 e are.0).place;
      kept = subst (λ (r : List Receipt). IsKept seat r) receipts_is (subst (λ (s : SeatView). IsKept s e.receipts.items) seat_is are.0.1);
    }
came_back linking tree (l ∷ links) (e ∷ ends) (suc k) seat receipts are at also =
    let back = came_back linking tree links ends k seat receipts are.1 at also in
    record { went = back.went; at = back.at; place = back.place; kept = back.kept }

as_many : {N L D C : Type 0} (linking : Linking L D C) (tree : Files) (links : List (L × SeatView)) (ends : List (WorkerEnd N))
    → AreEndsOf linking tree links ends → length (seats_back ends) ≡ length (seats_of links)
as_many linking tree [] [] are = refl
as_many linking tree (l ∷ links) [] are = absurd are
as_many linking tree [] (e ∷ ends) are = absurd are
as_many linking tree (l ∷ links) (e ∷ ends) are = ap (λ n. suc n) (as_many linking tree links ends are.1)

pub are_kept : {N L D C : Type 0} (linking : Linking L D C) (tree : Files) (words : Words) (count : ℕ) (links : List (L × SeatView)) (ends : List (WorkerEnd N))
    → AreFresh words count (seats_of links) → AreEndsOf linking tree links ends
    → (length (seats_back ends) ≡ count) × AreKept (seats_back ends) (receipts_back ends)
are_kept {N = N} linking tree words count links ends fresh are = (
  as_many linking tree links ends are ∙ fresh.0,
  (
    length-map ends (λ (e : WorkerEnd N). e.receipts.items) ∙ sym (length-map ends (λ (e : WorkerEnd N). e.seat)),
    λ k seat receipts at also.
        let back = came_back linking tree links ends k seat receipts are at also in
        (back.place ∙ ap (λ (s : SeatView). s.place) (fresh.1 k back.went back.at), back.kept),
  ),
)
