-- Seats in the order of their places: those to come, and those that came back.
use Rattle.std.specs.Prelude.{◌≡◌, ℕ, ◌+◌, List, length, slice_get, Some}
use Rattle.nfs_threads.specs.Worker.{seats_of}
use Rattle.nfs_threads.specs.declared.worker_end.WorkerEnd.{WorkerEnd}
use Rattle.nfs_shared.specs.Ends.{IsKept}
use Rattle.nfs_shared.specs.Seats.{SeatView, fresh}
use Rattle.nfs_shared.specs.declared.receipt.Receipt.{Receipt}
use Rattle.nfs_words.specs.Sitting.{Words}

-- what came back of a run
pub record BackView : Type 0 where
  -- in the order of their places
  pub seats : List SeatView
  -- for each seat those that it was given, in order
  pub receipts : List (List Receipt)

-- seats at these lease words that were given nothing yet, in the order of their places, of which the first is this one
abbrev pub AreFreshFrom : Words → ℕ → List SeatView → Type 0
AreFreshFrom words first seats =
    (k : ℕ) (seat : SeatView) → slice_get seats k ≡ Some seat → seat ≡ fresh words (first + k)

-- seats with all of their receipts, in the order of their places, of which the first is this one
abbrev pub AreBackFrom : {N : Type 0} → ℕ → List (WorkerEnd N) → Type 0
AreBackFrom {N = N} first ends =
    (k : ℕ) (end : WorkerEnd N) → slice_get ends k ≡ Some end
    → (end.seat.place ≡ first + k) × IsKept end.seat end.receipts.items

-- each link was served at its seat, in the order of the links
abbrev pub AreServed : {N L : Type 0} → List (L × SeatView) → List (WorkerEnd N) → Type 0
AreServed links ends =
    (length ends ≡ length links)
    × ((words : Words) (first : ℕ) → AreFreshFrom words first (seats_of links)
    → AreBackFrom first ends)
