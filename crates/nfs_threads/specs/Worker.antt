-- What workers do for their links.
use Rattle.std.specs.Prelude.{◌≡◌, ℕ, ◌<◌, ◌↔◌, List, [], ◌∷◌, length, map, slice_get, Some, Result, Ok, Err, IsErrOf}
use Rattle.nfs_shared.specs.declared.receipt.Receipt.{Receipt}
use Rattle.nfs_shared.specs.Ends.{IsKept}
use Rattle.nfs_shared.specs.Seats.{SeatView}
use Rattle.nfs_tree.specs.Tree.{Files}
use Rattle.nfs_threads.specs.declared.connection_end.ConnectionEnd.{ConnectionEnd}
use Rattle.nfs_threads.specs.declared.shift.Shift.{Shift}
use Rattle.nfs_threads.specs.declared.worker_end.WorkerEnd.{WorkerEnd}
use Rattle.nfs_threads.specs.declared.links.Links.{Ghosts as OfLinks}
use Rattle.nfs_server.specs.declared.clock.Clock.{Ghosts as OfClock}
use Rattle.nfs_server.specs.declared.duplex.Duplex.{Ghosts as OfDuplex}
use Rattle.nfs_server.specs.declared.serve_error.ServeError.TheVariants as errors
use Rattle.nfs_server.specs.Connection.{HasCourse, scene}
use Rattle.nfs_server.specs.Device.{Device}
use Rattle.nfs_server.specs.Exchange.{rules}
use Rattle.nfs_threads.specs.Holding.{AreAlikeButRoom, GivenBySeat, Holding}
use Rattle.nfs_server.specs.Serves.{exported}
use Rattle.nfs_tree.specs.Exports.{Exported}

-- What is known of links, and of the run that they are served in: what it serves, what each connection gives, how there
-- may be no further one, and what the calls of their devices and clocks do.
pub record Linking (L D C : Type 0) : Type 1 where
  pub served : Exported
  pub opens : L → D → C → L → Type 0
  pub stops : L → L → Type 0
  pub device : Device D
  pub read_failures : D → ℕ
  pub write_failures : D → ℕ
  pub tells : C → ℕ → C → Type 0

-- what is known of links, from the ghost items of their trait, of their devices' trait and of their clocks' trait
abbrev pub linking : {L D C : Type 0} → OfLinks L D C → OfDuplex D → OfClock C → Exported → Linking L D C
linking links duplex clock served = record {
  served = served;
  opens = links.opens;
  stops = links.stops;
  device = duplex.device;
  read_failures = duplex.read_failures;
  write_failures = duplex.write_failures;
  tells = clock.tells;
}

-- where a worker stands between two connections
pub record Stand (L : Type 0) : Type 0 where
  pub links : L
  pub desk : Holding

abbrev pub stand : {L : Type 0} → L → Holding → Stand L
stand links desk = record { links = links; desk = desk }

-- The next connection gave a device and a clock, and was served over these at the desk, which had as many receipts as
-- is told. Its error is Read or Write exactly if a read or a write failed.
pub record IsServed {L D C : Type 0} (linking : Linking L D C) (tree : Files) (before : Stand L)
    (connection : ConnectionEnd) (after : Stand L) : Type 0 where
  pub device : D
  pub clock : C
  pub opened : linking.opens before.links device clock after.links
  pub first : connection.first ≡ length before.desk.receipts
  pub device' : D
  pub clock' : C
  pub course : HasCourse linking.device
      (rules (exported tree linking.served) (GivenBySeat linking.served.epoch) AreAlikeButRoom
      linking.tells)
      (scene device before.desk clock) connection.result (scene device' after.desk clock')
  pub read_failed : IsErrOf connection.result errors.Read
      ↔ linking.read_failures device < linking.read_failures device'
  pub write_failed : IsErrOf connection.result errors.Write
      ↔ linking.write_failures device < linking.write_failures device'

-- These connections were served in order, each from where the one before left the worker.
abbrev pub AreServed : {L D C : Type 0} → Linking L D C → Files → Stand L → List ConnectionEnd
    → Stand L → Type 0
AreServed linking tree before [] after = after ≡ before
AreServed {L = L} linking tree before (one ∷ more) after =
    (mid : Stand L) × IsServed linking tree before one mid × AreServed linking tree mid more after

-- There is no further connection; or memory or a thread was refused, and no further one was taken.
abbrev pub Stops : {L D C E : Type 0} → Linking L D C → L → Result Unit E → L → Type 0
Stops linking links (Ok end) links' = linking.stops links links'
Stops linking links (Err refused) links' = links' ≡ links

-- the connections that were served until it stopped
abbrev pub HasServed : {L D C E : Type 0} → Linking L D C → Files → Stand L → List ConnectionEnd
    → Result Unit E → Stand L → Type 0
HasServed {L = L} linking tree before connections end after =
    (last : Stand L) × AreServed linking tree before connections last
    × Stops linking last.links end after.links × (after.desk ≡ last.desk)

-- A worker served this shift at a desk: from this seat, with no receipts, to the seat that it gives back, with these
-- receipts.
pub record IsShift {L D C : Type 0} (linking : Linking L D C) (tree : Files) (before : L × SeatView)
    (shift : Shift) (receipts : List Receipt) (seat : SeatView) : Type 0 where
  pub desk : Holding
  pub begun : (desk.seat ≡ before.1) × (desk.receipts ≡ [])
  pub links' : L
  pub desk' : Holding
  pub served : HasServed linking tree (stand before.0 desk) shift.connections.items shift.end
      (stand links' desk')
  pub ended : (seat ≡ desk'.seat) × (receipts ≡ desk'.receipts)

-- what a worker gives back is of a shift of these links at this seat, and its receipts are the seat's
abbrev pub IsEndOf : {N L D C : Type 0} → Linking L D C → Files → L → SeatView → WorkerEnd N → Type 0
IsEndOf linking tree links seat end =
    IsShift linking tree (links, seat) end.shift end.receipts.items end.seat
    × IsKept end.seat end.receipts.items

-- each of these links was served so at its seat, in order
abbrev pub AreEndsOf : {N L D C : Type 0} → Linking L D C → Files → List (L × SeatView)
    → List (WorkerEnd N) → Type 0
AreEndsOf linking tree [] [] = Unit {0}
AreEndsOf linking tree (link ∷ links) (end ∷ ends) =
    IsEndOf linking tree link.0 link.1 end × AreEndsOf linking tree links ends
AreEndsOf linking tree [] (end ∷ ends) = ⊥
AreEndsOf linking tree (link ∷ links) [] = ⊥

-- the seats of these links
abbrev pub seats_of : {L : Type 0} → List (L × SeatView) → List SeatView
seats_of links = map (λ link. link.1) links

-- no seat was given anything yet
abbrev pub AreUnused : List SeatView → Type 0
AreUnused seats =
    (k : ℕ) (seat : SeatView) → slice_get seats k ≡ Some seat → seat.receipts.given ≡ 0

-- the seats and the receipts that workers gave back
abbrev pub seats_back : {N : Type 0} → List (WorkerEnd N) → List SeatView
seats_back ends = map (λ end. end.seat) ends

abbrev pub receipts_back : {N : Type 0} → List (WorkerEnd N) → List (List Receipt)
receipts_back ends = map (λ end. end.receipts.items) ends
