-- How RENEW is answered in a run: as the events of the seat have it, and as the journal has it.
use Rattle.std.specs.Prelude.{◌≡◌, ◌≢◌, ◌⊎◌, ℕ, true, false, List, [], ◌∷◌, Contains, Some, Result, slice_get}
use Rattle.std.specs.List.{flat_map}
use Rattle.nfs_core.specs.Server.{Server}
use Rattle.nfs_forms.specs.ClientId.{number_in}
use Rattle.nfs_forms.specs.declared.client_id.ClientId.{ClientId}
use Rattle.nfs_leases.specs.BookEvent.{BookEvent}
use Rattle.nfs_leases.specs.Renewals.{renewal_answer}
use Rattle.nfs_server.specs.Asking.{Operation, Question, Renewal}
use Rattle.nfs_server.specs.Connection.{Course, IsCourse, Scene, all_exchanges}
use Rattle.nfs_server.specs.Device.{Device}
use Rattle.nfs_server.specs.Exchange.{Rules, questions_of}
use Rattle.nfs_server.specs.Serves.{exported, served_by}
use Rattle.nfs_server.specs.declared.serve_error.ServeError.{ServeError}
use Rattle.nfs_shared.specs.Deeds.{AreDeedsOf}
use Rattle.nfs_shared.specs.Ends.{HasEnded, WasOpened}
use Rattle.nfs_shared.specs.Seats.{SeatView, fresh}
use Rattle.nfs_shared.specs.declared.receipt.Receipt.{Receipt}
use Rattle.nfs_state.specs.Stored.{meaning}
use Rattle.nfs_threads.specs.Holding.{Holding}
use Rattle.nfs_threads.specs.Links.{tcp}
use Rattle.nfs_threads.specs.Run.{AreShifts, IsRun, receipts_by_worker}
use Rattle.nfs_threads.specs.Worker.{AreServed, IsShift, Linking, Stand, stand}
use Rattle.nfs_threads.specs.declared.connection_end.ConnectionEnd.{ConnectionEnd}
use Rattle.nfs_threads.specs.declared.run_end.RunEnd.{RunEnd}
use Rattle.nfs_threads.specs.declared.shift.Shift.{Shift}
use Rattle.nfs_threads.specs.declared.tcp_links.TcpLinks.{TcpLinks}
use Rattle.nfs_tree.specs.Tree.{Files}
use Rattle.nfs_words.specs.Calls.{with_events}
use Rattle.nfs_words.specs.Deeds.{event}
use Rattle.nfs_words.specs.SeatLaws.{HasFoundClosed}
use Rattle.nfs_words.specs.Sitting.{Words}
use Rattle.nfs_words.specs.Words.{closed_part}
use Rattle.nfs_words.specs.declared.event.Deed.TheVariants.{Look, Renew}
use Rattle.nfs_words.specs.declared.event.Event.{Event}
use Rattle.nfs_xdr.specs.declared.op_result.OpResult.{OpResult}
use Rattle.nfs_xdr.specs.declared.op_result.OpResult.TheVariants as results

-- the answer to RENEW where the lease was renewed, and where it wasn't
abbrev pub renewed : OpResult
renewed = results.Renew (renewal_answer true)

abbrev pub not_renewed : OpResult
not_renewed = results.Renew (renewal_answer false)

-- this holds of each RENEW among the questions: of its moment, its client and its answer
abbrev pub EachRenewal : (ℕ → ClientId → OpResult → Type 0) → List Question → List OpResult → Type 0
EachRenewal P [] [] = Unit {0}
EachRenewal P (Operation request ∷ questions) (answer ∷ answers) = EachRenewal P questions answers
EachRenewal P (Renewal moment client ∷ questions) (answer ∷ answers) =
    P moment client answer × EachRenewal P questions answers
EachRenewal P [] (answer ∷ answers) = ⊥
EachRenewal P (question ∷ questions) [] = ⊥

-- By these events RENEW was answered so in the run of this epoch: where the lease was renewed, it is that of a client
-- of the run, and its word was raised; where it wasn't, and the client is one of the run, a look showed its lease
-- vacant, or it was found closed.
pub record IsSeen (epoch : ℕ) (events : List Event) (moment : ℕ) (client : ClientId)
    (answer : OpResult) : Type 0 where
  pub raised : answer ≡ renewed
      → (number : ℕ) × (found : ℕ) × (number_in epoch client ≡ Some number) × (found ≢ closed_part)
      × Contains events (event number (Renew moment found))
  pub refused : (number : ℕ) → number_in epoch client ≡ Some number → answer ≡ not_renewed
      → Contains events (event number (Look 0)) ⊎ HasFoundClosed number events

-- Of leases the seat of a desk gained these events, by which each RENEW among the questions was answered.
pub record GainsEvents (epoch : ℕ) (old : Holding) (questions : List Question)
    (answers : List OpResult) (new : Holding) : Type 0 where
  pub events : List Event
  pub more : new.seat.leases ≡ with_events old.seat.leases events
  pub seen : EachRenewal (IsSeen epoch events) questions answers

-- In every course the seat of a desk gains the events by which each RENEW of the course was answered.
abbrev pub RenewalsAreEvents : {D C : Type 0} → Device D → Rules Holding C → ℕ → Type 0
RenewalsAreEvents {D = D} {C = C} device rules epoch =
    (before after : Scene D Holding C) (course : Course) (result : Result ℕ ServeError)
    → IsCourse device rules before course result after
    → GainsEvents epoch before.service
    (flat_map (questions_of rules.export) (all_exchanges course))
    (flat_map (λ e. e.answers) (all_exchanges course)) after.service

-- By what the journal did to leases RENEW was answered so: where the lease was renewed, the journal made its client
-- live; where it wasn't, and the client is one of the run, the lease was vacant at a look, or the journal ended it, or
-- made a later client of its slot live.
pub record IsOfJournal (epoch : ℕ) (deeds : List BookEvent) (events : List Event) (moment : ℕ)
    (client : ClientId) (answer : OpResult) : Type 0 where
  pub live : answer ≡ renewed
      → (number : ℕ) × (number_in epoch client ≡ Some number) × WasOpened deeds number
  pub ended : (number : ℕ) → number_in epoch client ≡ Some number → answer ≡ not_renewed
      → Contains events (event number (Look 0)) ⊎ HasEnded deeds number

-- this holds of each RENEW of these connections
abbrev pub EachRenewalIn : {L D C : Type 0} → (linking : Linking L D C) (tree : Files)
    (P : ℕ → ClientId → OpResult → Type 0) (before : Stand L) (connections : List ConnectionEnd)
    (after : Stand L) → AreServed linking tree before connections after → Type 0
EachRenewalIn linking tree P before [] after are = Unit {0}
EachRenewalIn linking tree P before (one ∷ more) after are =
    EachRenewal P
    (flat_map (questions_of (exported tree linking.served)) (all_exchanges are.1.course.0))
    (flat_map (λ e. e.answers) (all_exchanges are.1.course.0))
    × EachRenewalIn linking tree P are.0 more after are.2

-- Each RENEW of this shift was answered as these deeds of the journal have it, and what the shift's seat saw.
abbrev pub IsShiftOfJournal : {L D C : Type 0} → (linking : Linking L D C) (tree : Files)
    (before : L × SeatView) (deeds : List BookEvent) (shift : Shift) (given : List Receipt)
    (seat : SeatView) → IsShift linking tree before shift given seat → Type 0
IsShiftOfJournal linking tree before deeds shift given seat is =
    EachRenewalIn linking tree (IsOfJournal linking.served.epoch deeds seat.leases.view.own)
    (stand before.0 is.desk) shift.connections.items is.served.0 is.served.1

-- Each RENEW of each of these shifts was answered as these deeds of the journal have it, and what the seat saw.
abbrev pub EachIsOfJournal : {L D C : Type 0} → (linking : Linking L D C) (tree : Files) (links : L)
    (words : Words) (deeds : List BookEvent) (shifts : List Shift) (receipts : List (List Receipt))
    (seats : List SeatView) → AreShifts linking tree links words shifts receipts seats → Type 0
EachIsOfJournal linking tree links words deeds shifts receipts seats are =
    (place : ℕ) (shift : Shift) (given : List Receipt) (seat : SeatView)
    (shift_at : slice_get shifts place ≡ Some shift)
    (given_at : slice_get receipts place ≡ Some given) (seat_at : slice_get seats place ≡ Some seat)
    → IsShiftOfJournal linking tree (links, fresh words place) deeds shift given seat
    (are place shift given seat shift_at given_at seat_at)

-- Each RENEW of a run was answered as the journal has it: what this did to leases is a list of deeds.
abbrev pub RenewalsAreOfJournal : Type 0 → Type 0 → Type 0
RenewalsAreOfJournal R W =
    (links : TcpLinks R W) (tree : Files) (count : ℕ) (old : Server) (end : RunEnd)
    (run : IsRun links tree count old end)
    → (deeds : List BookEvent)
    × AreDeedsOf end.core.journal (meaning end.core.stored) deeds
    × EachIsOfJournal (tcp (served_by old.journal)) tree links run.words deeds end.shifts.items
    (receipts_by_worker end) run.seats run.each
