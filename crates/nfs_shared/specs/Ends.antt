-- What is known of all seats and all receipts when the workers have ended.
use Rattle.std.specs.Prelude.{◌≡◌, ◌≢◌, ◌⊎◌, ℕ, ◌+◌, ◌<◌, ◌≤◌, IsTrue, List, [], ◌∷◌, Contains, length, slice_get, Some}
use mathlib.Core.List.{IsPrefix}
use Rattle.nfs_core.specs.Events.{expire_of}
use Rattle.nfs_core.specs.Server.{Server}
use Rattle.nfs_leases.specs.BookEvent.{BookEvent}
use Rattle.nfs_leases.specs.BookEvent as book
use Rattle.nfs_leases.specs.declared.closing.Closing.TheVariants as closing
use Rattle.nfs_owners.specs.Slots.{is_earlier}
use Rattle.nfs_state.specs.Lease.{is_over}
use Rattle.nfs_state.specs.Stored.{meaning}
use Rattle.nfs_state.specs.declared.entry.Entry.{Entry}
use Rattle.nfs_state.specs.declared.entry.Entry.TheVariants as entries
use Rattle.nfs_shared.specs.Deeds.{AreDeedsOf}
use Rattle.nfs_shared.specs.declared.receipt.Receipt.{Receipt}
use Rattle.nfs_shared.specs.Seats.{SeatView, fresh}
use Rattle.nfs_words.specs.Deeds.{event}
use Rattle.nfs_words.specs.SeatLaws.{HasFoundClosed, LooksFirst, NeverVacantAgain, NoneAfterEnd, NoneLate}
use Rattle.nfs_words.specs.Sitting.{Words}
use Rattle.nfs_words.specs.Words.{closed_part}
use Rattle.nfs_words.specs.declared.event.Deed.TheVariants.{Renew}
use Rattle.nfs_words.specs.declared.event.Event.{Event}

-- this number of seats at these words that were given nothing yet, in the order of their places
abbrev pub AreFresh : Words → ℕ → List SeatView → Type 0
AreFresh words count seats =
    (length seats ≡ count)
    × ((k : ℕ) (seat : SeatView) → slice_get seats k ≡ Some seat → seat ≡ fresh words k)

-- These are the receipts that the seat was given, in order: they bear its place, stand in its list, and are as many as
-- it was given. Their numbers rise, and none is above that of the last.
pub record IsKept (seat : SeatView) (receipts : List Receipt) : Type 0 where
  pub place : (k : ℕ) (r : Receipt) → slice_get receipts k ≡ Some r → r.place ≡ seat.place
  pub list : (k : ℕ) (r : Receipt) → slice_get receipts k ≡ Some r
      → (j : ℕ) × (slice_get seat.receipts.list j ≡ Some r)
  pub rising : (j k : ℕ) (q r : Receipt) → j < k → slice_get receipts j ≡ Some q
      → slice_get receipts k ≡ Some r → q.number < r.number
  pub last : (k : ℕ) (r : Receipt) → slice_get receipts k ≡ Some r
      → (n : ℕ) × (seat.receipts.last ≡ Some n) × (r.number ≤ n)
  pub given : length receipts ≡ seat.receipts.given

-- the seats stand in the order of their places, and each list has the receipts of the seat at its place
abbrev pub AreKept : List SeatView → List (List Receipt) → Type 0
AreKept seats lists =
    (length lists ≡ length seats)
    × ((k : ℕ) (seat : SeatView) (receipts : List Receipt) → slice_get seats k ≡ Some seat
    → slice_get lists k ≡ Some receipts → (seat.place ≡ k) × IsKept seat receipts)

-- what each seat knows of begins the whole
abbrev pub AllBegin : List SeatView → List Receipt → Type 0
AllBegin seats whole =
    (k : ℕ) (seat : SeatView) → slice_get seats k ≡ Some seat → IsPrefix seat.receipts.list whole

-- the receipt r stands at the place k of the list i
abbrev pub StandsAt : List (List Receipt) → ℕ → ℕ → Receipt → Type 0
StandsAt lists i k r =
    (receipts : List Receipt)
    × (slice_get lists i ≡ Some receipts)
    × (slice_get receipts k ≡ Some r)

-- the entry of each receipt stands in the journal at its number
abbrev pub AllStand : List Entry → List (List Receipt) → Type 0
AllStand journal lists =
    (i k : ℕ) (r : Receipt) → StandsAt lists i k r
    → slice_get journal r.number ≡ Some (entries.Call r.call)

-- no number stands twice
abbrev pub AllApart : List (List Receipt) → Type 0
AllApart lists =
    (i j k l : ℕ) (q r : Receipt) → StandsAt lists i k q → StandsAt lists j l r
    → q.number ≡ r.number → (i ≡ j) × (k ≡ l)

-- how many receipts there are
abbrev pub receipts_in : List (List Receipt) → ℕ
receipts_in [] = 0
receipts_in (receipts ∷ rest) = length receipts + receipts_in rest

-- how many the seats were given
abbrev pub given_in : List SeatView → ℕ
given_in [] = 0
given_in (seat ∷ rest) = seat.receipts.given + given_in rest

-- Each renewal among these events that was answered comes in time for the journal: where the journal has the end of its
-- client, the renewal's moment isn't above the one that this end saw, and at the end's own moment the lease was over
-- since the renewal.
abbrev pub InTime : ℕ → List Entry → List Event → Type 0
InTime lease journal events =
    (client moment found seen now : ℕ)
    → Contains events (event client (Renew moment found)) → found ≢ closed_part
    → Contains journal (entries.Expire (expire_of client seen now))
    → (moment ≤ seen) × IsTrue (is_over moment lease now)

-- each renewal that was answered to one of these seats comes in time for the journal
abbrev pub AllInTime : ℕ → List Entry → List SeatView → Type 0
AllInTime lease journal seats =
    (k : ℕ) (seat : SeatView) → slice_get seats k ≡ Some seat
    → InTime lease journal seat.leases.view.own

-- What holds of all that a seat saw of leases, and did to them: no renewal is answered after an end, each comes after a
-- look that showed the lease open, and no look shows a lease as vacant that was known.
pub record IsHeeded (events : List Event) : Type 0 where
  pub none_after_end : NoneAfterEnd events
  pub looks_first : LooksFirst events
  pub never_vacant_again : NeverVacantAgain events

-- this holds of what each of these seats saw and did
abbrev pub AllHeeded : List SeatView → Type 0
AllHeeded seats =
    (k : ℕ) (seat : SeatView) → slice_get seats k ≡ Some seat
    → IsHeeded seat.leases.view.own

-- by these deeds the client's lease was opened
abbrev pub WasOpened : List BookEvent → ℕ → Type 0
WasOpened deeds client = (moment : ℕ) × Contains deeds (book.Open client moment)

-- by these deeds the client's lease was closed or retired, or that of a later generation of its slot was opened
abbrev pub HasEnded : List BookEvent → ℕ → Type 0
HasEnded deeds client =
    ((seen now : ℕ) × Contains deeds (book.Close client seen now closing.Closed))
    ⊎ Contains deeds (book.Retire client)
    ⊎ ((later : ℕ) × IsTrue (is_earlier client later) × WasOpened deeds later)

-- These deeds bear out what a seat found of leases: one whose renewal it was answered, or tried, was opened, and one
-- that it found closed had ended.
pub record IsBorneOutBy (deeds : List BookEvent) (events : List Event) : Type 0 where
  pub renewed : (client moment found : ℕ) → Contains events (event client (Renew moment found))
      → WasOpened deeds client
  pub closed : (client : ℕ) → HasFoundClosed client events → HasEnded deeds client

-- the deeds bear out what each of these seats found
abbrev pub AllBorneOut : List BookEvent → List SeatView → Type 0
AllBorneOut deeds seats =
    (k : ℕ) (seat : SeatView) → slice_get seats k ≡ Some seat
    → IsBorneOutBy deeds seat.leases.view.own

-- what the server's journal did to leases bears it out
abbrev pub JournalBearsOut : Server → List SeatView → Type 0
JournalBearsOut server seats =
    (deeds : List BookEvent)
    × AreDeedsOf server.journal (meaning server.stored) deeds × AllBorneOut deeds seats

-- no renewal that was answered to one of these seats is later than a closing among these events saw
abbrev pub AllMet : ℕ → List Event → List SeatView → Type 0
AllMet lease closings seats =
    (k : ℕ) (seat : SeatView) → slice_get seats k ≡ Some seat
    → NoneLate lease seat.leases.view.own closings
