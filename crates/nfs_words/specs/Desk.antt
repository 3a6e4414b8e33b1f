-- A book of leases that is the words, with the seat of their keeper. Contracts see the seat.
use Rattle.std.specs.Prelude.{◌≡◌, ℕ, Bool, IsTrue, [], ◌∷◌}
use Rattle.nfs_leases.specs.BookEvent.{BookEvent, IsAloneIn, is_done}
use Rattle.nfs_leases.specs.BookEvent as book
use Rattle.nfs_words.specs.Calls.{Renews, Shows, with_events}
use Rattle.nfs_words.specs.Deeds.{event, is_open_by, was_opened_by}
use Rattle.nfs_words.specs.Sitting.{Sitting}
use Rattle.nfs_words.specs.declared.event.Deed.TheVariants.{Look, Open, Close, Retire}

-- by the keeper's events, the client's lease is open
abbrev pub is_open_at : Sitting → ℕ → Bool
is_open_at seat client = is_open_by seat.view.own client

-- by the keeper's events, the client's lease, or that of a later generation of its slot, was opened
abbrev pub was_opened_at : Sitting → ℕ → Bool
was_opened_at seat client = was_opened_by seat.view.own client

-- the call, with its answer, leads from the one view of the seat to the other, by the events that it adds
abbrev pub Happens : Sitting → BookEvent → Sitting → Type 0
Happens old (book.Look client answer) new = Shows old client answer new
Happens old (book.Renew client moment answer) new = Renews old client moment answer new
Happens old (book.Close client seen now answer) new =
    (IsTrue (is_done answer) → IsTrue (is_open_at old client))
    × (new ≡ with_events old (event client (Close seen now (is_done answer)) ∷ []))
Happens old (book.Open client moment) new =
    IsAloneIn (is_open_at old) client
    × (new ≡ with_events old (event client (Open moment) ∷ event client (Look 0) ∷ []))
Happens old (book.Retire client) new =
    IsTrue (was_opened_at old client)
    × (new ≡ with_events old (event client Retire ∷ []))
