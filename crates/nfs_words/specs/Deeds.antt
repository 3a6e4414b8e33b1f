-- What a list of a client's deeds tells. Each list begins with the newest.
use Rattle.std.specs.Prelude.{ℕ, zero, suc, ◌+◌, ◌==◌, nat_le, min, max, Bool, true, false, not, ◌&&◌, ◌||◌, IsFalse, IsTrue, if◌then◌else◌, List, [], ◌∷◌, Contains, ⊤}
use Rattle.nfs_leases.specs.BookEvent.{IsAloneIn}
use Rattle.nfs_owners.specs.Slots.{generation_of, is_earlier, slot_of}
use Rattle.nfs_state.specs.Lease.{is_over}
use Rattle.nfs_words.specs.Words.{closed_part, word_with}
use Rattle.nfs_words.specs.declared.event.Event.{Event}
use Rattle.nfs_words.specs.declared.event.Deed.{Deed}
use Rattle.nfs_words.specs.declared.event.Deed.TheVariants.{Look, Renew, Open, Close, Retire}

abbrev pub event : ℕ → Deed → Event
event client deed = record { client = client; deed = deed }

abbrev pub is_opening : Deed → Bool
is_opening (Look part) = false
is_opening (Renew moment found) = false
is_opening (Open moment) = true
is_opening (Close seen now done) = false
is_opening Retire = false

-- the deed ends a lease
abbrev pub is_ending : Deed → Bool
is_ending (Look part) = false
is_ending (Renew moment found) = false
is_ending (Open moment) = false
is_ending (Close seen now done) = done
is_ending Retire = true

-- the event opens the lease of a later generation of the client's slot
abbrev pub opens_later : ℕ → Event → Bool
opens_later client event = is_opening event.deed && is_earlier client event.client

-- The client's deeds among the events. That the lease of a later generation of its slot is opened ends its own, as a
-- retiring does.
abbrev pub deeds_of : ℕ → List Event → List Deed
deeds_of client [] = []
deeds_of client (event ∷ events) =
    if event.client == client then event.deed ∷ deeds_of client events
    else if opens_later client event then Retire ∷ deeds_of client events
    else deeds_of client events

-- the deeds of the client itself alone
abbrev pub own_deeds_of : ℕ → List Event → List Deed
own_deeds_of client [] = []
own_deeds_of client (event ∷ events) =
    if event.client == client then event.deed ∷ own_deeds_of client events
    else own_deeds_of client events

-- The greatest part that the lease is known to have had while it was open: a moment and 1 of an opening or of an
-- answered renewal, or what a look showed; 0 where nothing is known.
abbrev pub greatest_part : List Deed → ℕ
greatest_part [] = 0
greatest_part (Look part ∷ deeds) =
    if part == closed_part then greatest_part deeds else max part (greatest_part deeds)
greatest_part (Renew moment found ∷ deeds) =
    if found == closed_part then greatest_part deeds else max (moment + 1) (greatest_part deeds)
greatest_part (Open moment ∷ deeds) = max (moment + 1) (greatest_part deeds)
greatest_part (Close seen now done ∷ deeds) = greatest_part deeds
greatest_part (Retire ∷ deeds) = greatest_part deeds

-- the least part in whose place a closing put the closed one, or the closed one where no closing was done
abbrev pub least_closed : List Deed → ℕ
least_closed [] = closed_part
least_closed (Look part ∷ deeds) = least_closed deeds
least_closed (Renew moment found ∷ deeds) = least_closed deeds
least_closed (Open moment ∷ deeds) = least_closed deeds
least_closed (Close seen now true ∷ deeds) = min (seen + 1) (least_closed deeds)
least_closed (Close seen now false ∷ deeds) = least_closed deeds
least_closed (Retire ∷ deeds) = least_closed deeds

-- the lease was opened, or something was seen of it
abbrev pub knows : List Deed → Bool
knows [] = false
knows (Look part ∷ deeds) = not (part == 0) || knows deeds
knows (Renew moment found ∷ deeds) = true
knows (Open moment ∷ deeds) = true
knows (Close seen now done ∷ deeds) = done || knows deeds
knows (Retire ∷ deeds) = true

-- a look showed the lease open
abbrev pub saw_open : List Deed → Bool
saw_open [] = false
saw_open (Look part ∷ deeds) = (not (part == 0) && not (part == closed_part)) || saw_open deeds
saw_open (Renew moment found ∷ deeds) = saw_open deeds
saw_open (Open moment ∷ deeds) = saw_open deeds
saw_open (Close seen now done ∷ deeds) = saw_open deeds
saw_open (Retire ∷ deeds) = saw_open deeds

-- the lease was closed or retired, or found to be
abbrev pub saw_end : List Deed → Bool
saw_end [] = false
saw_end (Look part ∷ deeds) = (part == closed_part) || saw_end deeds
saw_end (Renew moment found ∷ deeds) = (found == closed_part) || saw_end deeds
saw_end (Open moment ∷ deeds) = saw_end deeds
saw_end (Close seen now done ∷ deeds) = done || saw_end deeds
saw_end (Retire ∷ deeds) = true

-- this part was written, by an opening or an answered renewal
abbrev pub wrote : ℕ → List Deed → Bool
wrote part [] = false
wrote part (Look shown ∷ deeds) = wrote part deeds
wrote part (Renew moment found ∷ deeds) =
    (not (found == closed_part) && (moment + 1 == part)) || wrote part deeds
wrote part (Open moment ∷ deeds) = (moment + 1 == part) || wrote part deeds
wrote part (Close seen now done ∷ deeds) = wrote part deeds
wrote part (Retire ∷ deeds) = wrote part deeds

-- By these deeds the lease may be found to have this part: it wasn't seen to have ended, and had no greater one.
abbrev pub may_find : ℕ → List Deed → Bool
may_find part deeds = not (saw_end deeds) && nat_le (greatest_part deeds) part

-- A deed may follow the earlier ones of its seat. A look shows a lease as vacant only where nothing was known of it,
-- and as open only where it may be found so. A renewal comes after a look that showed the lease open, and finds it open
-- only where it may. An opening comes where nothing was known of the lease. A closing comes when the lease is over, and
-- is done only where the lease may be found as it was seen.
abbrev pub may_follow : ℕ → Deed → List Deed → Bool
may_follow lease (Look part) deeds =
    if part == 0 then not (knows deeds)
    else if part == closed_part then true
    else may_find part deeds
may_follow lease (Renew moment found) deeds =
    saw_open deeds && (if found == closed_part then true else may_find found deeds)
may_follow lease (Open moment) deeds = not (knows deeds)
may_follow lease (Close seen now done) deeds =
    is_over seen lease now && (if done then may_find (seen + 1) deeds else true)
may_follow lease Retire deeds = true

abbrev pub in_order : ℕ → List Deed → Bool
in_order lease [] = true
in_order lease (deed ∷ deeds) = may_follow lease deed deeds && in_order lease deeds

-- Where a lease stands by the deeds of its keeper: it was never opened, it is open, or it has ended, after which no
-- answered renewal is known whose part is above this bound.
pub data Phase : Type 0 where
  Unopened : Phase
  Standing : Phase
  Ended : (bound : ℕ) → Phase

-- the lease is open
abbrev pub is_standing : Phase → Bool
is_standing Unopened = false
is_standing Standing = true
is_standing (Ended bound) = false

-- the lease was opened
abbrev pub was_opened : Phase → Bool
was_opened Unopened = false
was_opened Standing = true
was_opened (Ended bound) = true

-- a lease that is retired ends with no bound of its own
abbrev pub retired : Phase → Phase
retired Unopened = Ended closed_part
retired Standing = Ended closed_part
retired (Ended bound) = Ended bound

abbrev pub phase_of : List Deed → Phase
phase_of [] = Unopened
phase_of (Look part ∷ deeds) = phase_of deeds
phase_of (Renew moment found ∷ deeds) = phase_of deeds
phase_of (Open moment ∷ deeds) = Standing
phase_of (Close seen now true ∷ deeds) = Ended (seen + 1)
phase_of (Close seen now false ∷ deeds) = phase_of deeds
phase_of (Retire ∷ deeds) = retired (phase_of deeds)

-- one more than the generation of the slot whose lease was opened last, or 0 where none was
abbrev pub count_opened : ℕ → List Event → ℕ
count_opened slot [] = 0
count_opened slot (event ∷ events) =
    if is_opening event.deed && (slot_of event.client == slot) then generation_of event.client + 1
    else count_opened slot events

-- the word of a slot of which so many generations were opened, and no lease is open
abbrev pub resting_word : ℕ → ℕ
resting_word zero = 0
resting_word (suc generation) = word_with generation closed_part

-- the word of the slot, by these events, where no lease of it is open
abbrev pub resting_word_of : ℕ → List Event → ℕ
resting_word_of slot events = resting_word (count_opened slot events)

-- by the events, the client's lease is open
abbrev pub is_open_by : List Event → ℕ → Bool
is_open_by events client = is_standing (phase_of (deeds_of client events))

-- by the events, the client's lease, or that of a later generation of its slot, was opened
abbrev pub was_opened_by : List Event → ℕ → Bool
was_opened_by events client = was_opened (phase_of (deeds_of client events))

-- by the events, the client's own lease was opened
abbrev pub HasOpened : ℕ → List Event → Type 0
HasOpened client events = (moment : ℕ) × Contains events (event client (Open moment))

-- A lease is opened only where no lease of its slot is open, and neither it nor a later one of its slot was opened.
abbrev pub MayOpen : Event → List Event → Type 0
MayOpen event events =
    IsTrue (is_opening event.deed)
    → IsAloneIn (is_open_by events) event.client × IsFalse (was_opened_by events event.client)

-- a lease is ended only where it, or a later one of its slot, was opened
abbrev pub MayEnd : Event → List Event → Type 0
MayEnd event events = IsTrue (is_ending event.deed) → IsTrue (was_opened_by events event.client)

-- the keeper's events are in turn
abbrev pub AreInTurn : List Event → Type 0
AreInTurn [] = ⊤
AreInTurn (event ∷ events) = MayOpen event events × MayEnd event events × AreInTurn events
