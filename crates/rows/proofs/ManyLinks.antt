-- Links that were served at once.
use Rattle.std.proofs.Common.{◌≡◌, ℕ, zero, suc, ◌+◌, List, [], ◌∷◌, ◌++◌, ◌∙◌, length, ap, arith, refl, subst, length-append}
use Rattle.std.proofs.lemmas.List.{length-map}
use Rattle.nfs_shared.specs.Ends.{IsKept}
use Rattle.nfs_shared.specs.Seats.{SeatView}
use Rattle.nfs_threads.specs.Parts.{HasParts}
use Rattle.nfs_threads.specs.Worker.{AreEndsOf, IsEndOf, Linking, seats_of}
use Rattle.nfs_threads.specs.declared.worker_end.WorkerEnd.{WorkerEnd}
use Rattle.nfs_tree.specs.Tree.{Files}
use Rattle.nfs_words.specs.Sitting.{Words}
use Rattle.rows.proofs.Handing.{fresh_back, fresh_later}
use Rattle.rows.specs.Places.{AreBackFrom, AreFreshFrom, AreServed}

-- a worker gives back the seat of its links
abbrev pub KeepPlaces : (N : Type 0) {L D C : Type 0} → Linking L D C → Type 0
KeepPlaces N {L = L} linking =
    (tree : Files) (links : L) (seat : SeatView) (end : WorkerEnd N) → IsEndOf linking tree links seat end → HasParts linking tree links seat end

as_many : {N L D C : Type 0} (linking : Linking L D C) (tree : Files) (links : List (L × SeatView)) (ends : List (WorkerEnd N))
    → AreEndsOf linking tree links ends → length ends ≡ length links
as_many linking tree [] [] are = refl
as_many linking tree (l ∷ links) [] are = absurd are
as_many linking tree [] (d ∷ ends) are = absurd are
as_many linking tree (l ∷ links) (d ∷ ends) are = ap (λ n. suc n) (as_many linking tree links ends are.1)

-- at fresh seats in the order of their places, these come back in that order
back_in_order : {N L D C : Type 0} (linking : Linking L D C) (tree : Files) (words : Words) (first : ℕ) (links : List (L × SeatView)) (ends : List (WorkerEnd N))
    → KeepPlaces N linking
    → AreEndsOf linking tree links ends → AreFreshFrom words first (seats_of links) → AreBackFrom first ends
back_in_order linking tree words first [] [] law are seats k end at = absurd cc
back_in_order linking tree words first (l ∷ links) [] law are seats k end at = absurd are
back_in_order linking tree words first [] (d ∷ ends) law are seats k end at = absurd are
back_in_order {N = N} linking tree words first (l ∷ links) (d ∷ ends) law are seats zero end at =
    let same : d ≡ end = cc in
    subst (λ (e : WorkerEnd N). (e.seat.place ≡ first + zero) × IsKept e.seat e.receipts.items) same
    ((law tree l.0 l.1 d are.0).place ∙ ap (λ (s : SeatView). s.place) (seats zero l.1 refl), are.0.1)
back_in_order linking tree words first (l ∷ links) (d ∷ ends) law are seats (suc k) end at =
    let back = back_in_order linking tree words (suc first) links ends law are.1 (fresh_later words first l.1 (seats_of links) seats) k end at in
    let moved : suc first + k ≡ first + suc k = omega arith in
    (back.0 ∙ moved, back.1)

pub served : {N L D C : Type 0} (linking : Linking L D C) (tree : Files) (links : List (L × SeatView)) (ends : List (WorkerEnd N))
    → KeepPlaces N linking
    → AreEndsOf linking tree links ends → AreServed links ends
served linking tree links ends law are =
    (as_many linking tree links ends are, λ words first seats. back_in_order linking tree words first links ends law are seats)

-- the seats after those of the links are fresh from the next place on
pub still_fresh : {N L : Type 0} (words : Words) (first next : ℕ) (all left : List SeatView) (links : List (L × SeatView)) (ends : List (WorkerEnd N))
    → AreFreshFrom words first all → all ≡ seats_of links ++ left → AreServed links ends → next ≡ first + length ends
    → AreFreshFrom words next left
still_fresh {L = L} words first next all left links ends are is serves is_next =
    let place : first + length (seats_of links) ≡ next = omega (arith, serves.0, is_next, length-map links (λ (l : L × SeatView). l.1)) in
    subst (λ n. AreFreshFrom words n left) place (fresh_back words first (seats_of links) left (subst (λ (xs : List SeatView). AreFreshFrom words first xs) is are))

-- none of the seats is lost
pub none_lost : {N L : Type 0} (first next : ℕ) (all left : List SeatView) (links : List (L × SeatView)) (ends : List (WorkerEnd N))
    → all ≡ seats_of links ++ left → AreServed links ends → next ≡ first + length ends
    → next + length left ≡ first + length all
none_lost {L = L} first next all left links ends is serves is_next =
    let count = ap (λ (xs : List SeatView). length xs) is in
    omega (arith, count, serves.0, is_next, length-append (seats_of links) left, length-map links (λ (l : L × SeatView). l.1))
