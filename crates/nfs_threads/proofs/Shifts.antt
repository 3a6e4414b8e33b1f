-- The shifts of workers, as a run tells them.
use Rattle.std.proofs.Common.{◌≡◌, ℕ, zero, suc, List, [], ◌∷◌, ◌++◌, map, slice_get, Some, Result, Ok, Err, IsErr, length, refl, sym, subst, ◌∙◌}
use Rattle.std.specs.List.{AllByRecursion}
use Rattle.std.proofs.lemmas.List.{length-map}
use Rattle.nfs_shared.specs.Ends.{AreFresh, IsKept}
use Rattle.nfs_shared.specs.Seats.{SeatView, fresh}
use Rattle.nfs_shared.specs.declared.receipt.Receipt.{Receipt}
use Rattle.nfs_tree.specs.Tree.{Files}
use Rattle.nfs_threads.specs.Holding.{Holding}
use Rattle.nfs_threads.specs.Worker.{AreEndsOf, IsEndOf, IsShift, Linking, Stops, receipts_back, seats_back, seats_of, stand}
use Rattle.nfs_threads.specs.declared.shift.Shift.{Shift}
use Rattle.nfs_threads.specs.declared.worker_end.WorkerEnd.{WorkerEnd}
use Rattle.nfs_threads.specs.Run.{AreShifts}
use Rattle.nfs_words.specs.Sitting.{Words}
use Rattle.nfs_threads.proofs.Each.{none_served}
use Rattle.nfs_threads.proofs.Rest.{some_is}
use Rattle.nfs_threads.proofs.Workers.{kept_unused}

-- one worker more has ended
pub one_more_end : {N L D C : Type 0} (linking : Linking L D C) (tree : Files) (links : List (L × SeatView)) (ends : List (WorkerEnd N)) (link : L × SeatView) (end : WorkerEnd N)
    → AreEndsOf linking tree links ends → IsEndOf linking tree link.0 link.1 end
    → AreEndsOf linking tree (links ++ link ∷ []) (ends ++ end ∷ [])
one_more_end linking tree [] [] link end are is = (is, tt)
one_more_end linking tree [] (e ∷ ends) link end are is = absurd are
one_more_end linking tree (l ∷ links) [] link end are is = absurd are
one_more_end linking tree (l ∷ links) (e ∷ ends) link end are is = (are.0, one_more_end linking tree links ends link end are.1 is)

stops_at_error : {L D C E : Type 0} (linking : Linking L D C) (links : L) (end : Result Unit E) → IsErr end → Stops linking links end links
stops_at_error linking links (Ok u) is = absurd cc
stops_at_error linking links (Err e) is = refl

-- a worker that gives its seat back before it served a connection
pub is_refused : {N L D C : Type 0} (linking : Linking L D C) (tree : Files) (links : L) (seat : SeatView) (end : WorkerEnd N) → seat.receipts.given ≡ 0
    → end.shift.connections.items ≡ [] → IsErr end.shift.end → end.seat ≡ seat → end.receipts.items ≡ []
    → IsEndOf linking tree links seat end
is_refused linking tree links seat end none empty is_err same no_receipts =
    let desk : Holding = record { seat = seat; receipts = []; room = 0 } in (
      record {
        desk = desk;
        begun = (refl, refl);
        links' = links;
        desk' = desk;
        served = (stand links desk, none_served linking tree (stand links desk) end.shift.connections.items empty, stops_at_error linking links end.shift.end is_err, refl);
        ended = (same, no_receipts);
      },
      subst (λ s. IsKept s end.receipts.items) (sym same) (subst (λ r. IsKept seat r) (sym no_receipts) (kept_unused seat none)),
    )

-- this shift with its receipts was of the links at the seat that stood at the place, and left this seat
abbrev WasAt : {L D C : Type 0} → Linking L D C → Files → L → List (L × SeatView) → ℕ → Shift → List Receipt → SeatView → Type 0
WasAt linking tree link links place shift given seat =
    (went : SeatView) × (slice_get (seats_of links) place ≡ Some went) × IsShift linking tree (link, went) shift given seat

was_at : {N L D C : Type 0} (linking : Linking L D C) (tree : Files) (link : L) (links : List (L × SeatView)) (ends : List (WorkerEnd N)) (place : ℕ) (shift : Shift) (given : List Receipt) (seat : SeatView)
    → AllByRecursion (λ l. l.0 ≡ link) links → AreEndsOf linking tree links ends
    → slice_get (map (λ e. e.shift) ends) place ≡ Some shift → slice_get (receipts_back ends) place ≡ Some given → slice_get (seats_back ends) place ≡ Some seat
    → WasAt linking tree link links place shift given seat
was_at linking tree link [] [] place shift given seat same are shift_at given_at seat_at = cc
was_at linking tree link (l ∷ links) [] place shift given seat same are shift_at given_at seat_at = absurd are
was_at linking tree link [] (e ∷ ends) place shift given seat same are shift_at given_at seat_at = absurd are
was_at {L = L} linking tree link (l ∷ links) (e ∷ ends) zero shift given seat same are shift_at given_at seat_at = (
  l.1,
  refl,
  subst (λ (x : L). IsShift linking tree (x, l.1) shift given seat) same.0
      (subst (λ (s : Shift). IsShift linking tree l s given seat) (some_is e.shift shift shift_at)
      (subst (λ (r : List Receipt). IsShift linking tree l e.shift r seat) (some_is e.receipts.items given given_at)
      (subst (λ (s : SeatView). IsShift linking tree l e.shift e.receipts.items s) (some_is e.seat seat seat_at) are.0.0))),
)
was_at linking tree link (l ∷ links) (e ∷ ends) (suc place) shift given seat same are shift_at given_at seat_at = was_at linking tree link links ends place shift given seat same.1 are.1 shift_at given_at seat_at

-- the shifts of workers for the same links at fresh seats
pub are_shifts : {N L D C : Type 0} (linking : Linking L D C) (tree : Files) (link : L) (words : Words) (count : ℕ) (links : List (L × SeatView)) (ends : List (WorkerEnd N))
    → AreFresh words count (seats_of links) → AllByRecursion (λ l. l.0 ≡ link) links → AreEndsOf linking tree links ends
    → AreShifts linking tree link words (map (λ e. e.shift) ends) (receipts_back ends) (seats_back ends)
are_shifts linking tree link words count links ends new same are place shift given seat shift_at given_at seat_at =
    let was = was_at linking tree link links ends place shift given seat same are shift_at given_at seat_at in
    subst (λ (s : SeatView). IsShift linking tree (link, s) shift given seat) (new.1 place was.0 was.1) was.2

pub as_many : {N : Type 0} {count : ℕ} (ends : List (WorkerEnd N)) → length (seats_back ends) ≡ count → length ends ≡ count
as_many ends many = sym (length-map ends (λ e. e.seat)) ∙ many
