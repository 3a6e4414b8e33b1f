-- A book of leases that is a plain list.
use Rattle.std.specs.Prelude.{◌≡◌, ◌≢◌, ℕ, ◌<◌, Bool, IsTrue, false, nat_lt, if◌then◌else◌, List, length, slice_index_or, slice_set, Option, Some, None}
use Rattle.nfs_owners.specs.Slots.{generation_of, slot_of}
use Rattle.nfs_leases.specs.declared.lease_state.LeaseState.{LeaseState}
use Rattle.nfs_leases.specs.declared.lease_state.LeaseState.TheVariants as lease_state
use Rattle.nfs_leases.specs.declared.place.Place.{Place}
use Rattle.nfs_leases.specs.declared.renewal.Renewal.{Renewal}
use Rattle.nfs_leases.specs.declared.renewal.Renewal.TheVariants as renewal
use Rattle.nfs_leases.specs.declared.closing.Closing.TheVariants as closing
use Rattle.nfs_leases.specs.BookEvent.{BookEvent, Look, Renew, Close, Open, Retire, IsAloneIn, shows_open, shows_opened}
use Rattle.nfs_leases.specs.Renewals.{renewed}
use Rattle.nfs_state.specs.Lease.{is_over}

-- how long a lease lasts, and at the place of each slot the last of its generations whose lease was opened, with that
-- lease
pub record PlainBook : Type 0 where
  pub lease : ℕ
  pub places : List Place

-- the place of a slot of which no lease was opened
abbrev pub empty_place : Place
empty_place = record { generation = 0; lease = lease_state.Vacant }

-- The lease of this generation of a slot, by the slot's place. Before a later one was opened, an earlier one had ended.
abbrev pub lease_in : Place → ℕ → LeaseState
lease_in place generation =
    if nat_lt place.generation generation then lease_state.Vacant
    else (if nat_lt generation place.generation then lease_state.Closed else place.lease)

-- the place of the client's slot
abbrev pub place_of : PlainBook → ℕ → Place
place_of book client = slice_index_or book.places (slot_of client) empty_place

-- the client's lease
abbrev pub lease_of : PlainBook → ℕ → LeaseState
lease_of book client = lease_in (place_of book client) (generation_of client)

-- the client's lease becomes this one, in the place of its slot
abbrev pub with_lease : PlainBook → ℕ → LeaseState → PlainBook
with_lease book client state = record book {
  places = slice_set book.places (slot_of client) (record {
    generation = generation_of client;
    lease = state;
  });
}

-- the client's lease is open
abbrev pub is_open_in : PlainBook → ℕ → Bool
is_open_in book client = shows_open (lease_of book client)

-- the client's lease was opened, or that of a later generation of its slot
abbrev pub was_opened_in : PlainBook → ℕ → Bool
was_opened_in book client = shows_opened (lease_of book client)

-- how a renewal of this lease is answered
abbrev pub renewal_of : LeaseState → Renewal
renewal_of lease_state.Vacant = renewal.Unknown
renewal_of (lease_state.Open last) = renewal.Renewed
renewal_of lease_state.Closed = renewal.Closed

-- the book after a renewal, at this moment, of the client, who has this lease: one that isn't open stays as it is
abbrev pub renewed_in : PlainBook → ℕ → ℕ → LeaseState → PlainBook
renewed_in book client moment lease_state.Vacant = book
renewed_in book client moment (lease_state.Open last) =
    with_lease book client (renewed (lease_state.Open last) moment)
renewed_in book client moment lease_state.Closed = book

-- the leases after a renewal, at this moment, of the client with this number, if there is one
abbrev pub with_renewal : Option ℕ → ℕ → PlainBook → PlainBook
with_renewal None moment old = old
with_renewal (Some client) moment old = renewed_in old client moment (lease_of old client)

-- the book after the client's lease is retired, which has ended where one of a later generation was opened
abbrev pub retired_in : PlainBook → ℕ → PlainBook
retired_in book client =
    if nat_lt (generation_of client) (place_of book client).generation then book
    else with_lease book client lease_state.Closed

-- the client with this number, if there is one, has an open lease
abbrev pub has_open_lease : PlainBook → Option ℕ → Bool
has_open_lease book None = false
has_open_lease book (Some client) = is_open_in book client

-- the call, with its answer, leads from the one book to the other
abbrev pub Happens : PlainBook → BookEvent → PlainBook → Type 0
Happens old (Look client shown) new = (shown ≡ lease_of old client) × (new ≡ old)
Happens old (Renew client moment answer) new =
    (answer ≡ renewal_of (lease_of old client))
    × (new ≡ renewed_in old client moment (lease_of old client))
Happens old (Close client seen now closing.Closed) new =
    IsTrue (is_over seen old.lease now)
    × (lease_of old client ≡ lease_state.Open seen)
    × (new ≡ with_lease old client lease_state.Closed)
Happens old (Close client seen now closing.Changed) new =
    (lease_of old client ≢ lease_state.Open seen) × (new ≡ old)
Happens old (Open client moment) new =
    (slot_of client < length old.places)
    × (lease_of old client ≡ lease_state.Vacant)
    × IsAloneIn (is_open_in old) client
    × (new ≡ with_lease old client (lease_state.Open moment))
Happens old (Retire client) new =
    IsTrue (was_opened_in old client) × (new ≡ retired_in old client)
