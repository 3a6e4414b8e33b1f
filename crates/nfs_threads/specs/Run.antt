-- What became of the connections of a run, and of the core that they shared.
use Rattle.std.specs.Prelude.{◌≡◌, ℕ, ◌+◌, ◌++◌, List, Some, length, map, slice_get}
use Rattle.nfs_core.specs.Recalls.{AreRecallsOf}
use Rattle.nfs_core.specs.Safe.{IsSafe}
use Rattle.nfs_core.specs.Server.{IsLawful, Server}
use Rattle.nfs_rpc.specs.declared.recall.Recall.{Recall}
use Rattle.nfs_server.specs.Serves.{served_by}
use Rattle.nfs_shared.specs.Ends.{AllApart, AllHeeded, AllInTime, AllStand, JournalBearsOut, receipts_in}
use Rattle.nfs_shared.specs.Naming.{start_of}
use Rattle.nfs_shared.specs.Receipts.{calls_in, others_in}
use Rattle.nfs_shared.specs.Seats.{SeatView, fresh}
use Rattle.nfs_shared.specs.Sender.{SenderView}
use Rattle.nfs_shared.specs.declared.receipt.Receipt.{Receipt}
use Rattle.nfs_threads.specs.Calling.{HasCalled}
use Rattle.nfs_threads.specs.Worker.{IsShift, Linking}
use Rattle.nfs_state.specs.Stored.{meaning}
use Rattle.nfs_tree.specs.Tree.{Files}
use Rattle.nfs_threads.specs.Links.{tcp}
use Rattle.nfs_threads.specs.declared.run_end.RunEnd.{RunEnd}
use Rattle.nfs_threads.specs.declared.shift.Shift.{Shift}
use Rattle.nfs_threads.specs.declared.tcp_links.TcpLinks.{TcpLinks}
use Rattle.nfs_words.specs.Sitting.{Words}

-- Each of these shifts began at the unused seat of its place, at these lease words. The receipts and the seat that it
-- gave back stand at the same place.
abbrev pub AreShifts : {L D C : Type 0} → Linking L D C → Files → L → Words → List Shift
    → List (List Receipt) → List SeatView → Type 0
AreShifts linking tree links words shifts receipts seats =
    (place : ℕ) (shift : Shift) (given : List Receipt) (seat : SeatView)
    → slice_get shifts place ≡ Some shift
    → slice_get receipts place ≡ Some given
    → slice_get seats place ≡ Some seat
    → IsShift linking tree (links, fresh words place) shift given seat

-- the receipts of each worker
abbrev pub receipts_by_worker : RunEnd → List (List Receipt)
receipts_by_worker end = map (λ given. given.items) end.receipts.items

-- The core `old` was shared by workers for such links, so many, and this is what they left. Clients may have ended
-- between their calls: of that is said only that it was lawful.
pub record IsRun {R W : Type 0} (links : TcpLinks R W) (tree : Files) (count : ℕ) (old : Server)
    (end : RunEnd) : Type 0 where
  -- the seats as the workers left them, and the lease words that they are at
  pub seats : List SeatView
  pub words : Words
  pub lasts : words.lease ≡ old.journal.lease
  -- each worker has a shift, receipts and a seat, at its place
  pub all : (length end.shifts.items ≡ count) × (length end.receipts.items ≡ count)
      × (length seats ≡ count)
  pub each : AreShifts (tcp (served_by old.journal)) tree links words end.shifts.items
      (receipts_by_worker end) seats
  -- the journal began as that of the old core, and is lawful; and what is stored is safe
  pub start : start_of end.core.journal ≡ start_of old.journal
  pub lawful : IsLawful end.core
  pub safe : IsSafe (meaning end.core.stored)
  -- the calls of the journal are those of the receipts, each at its number, and no others
  pub stand : AllStand end.core.journal.entries (receipts_by_worker end)
  pub apart : AllApart (receipts_by_worker end)
  pub counted : calls_in end.core.journal.entries ≡ receipts_in (receipts_by_worker end)
  -- no renewal that was answered to one of the seats is later than the journal's end of its client allows
  pub in_time : AllInTime end.core.journal.lease end.core.journal.entries seats
  -- by what each seat saw no renewal is answered after an end, each comes after a look that showed the lease open, and
  -- no look shows a lease as vacant that was known
  pub heeded : AllHeeded seats
  -- a lease that a seat renewed, or tried to, the journal opened; and one that it found closed the journal ended, or
  -- opened a later one of its slot
  pub borne_out : JournalBearsOut end.core seats
  -- Whoever calls clients back took the beginning of the journal's recalls, in order, each once, and did with them what
  -- `HasCalled` says. The entries that are no calls are at least as many as the sender counted.
  pub sender : SenderView
  pub called : HasCalled (start_of old.journal) sender
  pub taken : (rest : List Recall) × AreRecallsOf end.core.journal (sender.taken ++ rest)
  pub others : (swept : ℕ) × (others_in end.core.journal.entries ≡ swept + sender.count)
