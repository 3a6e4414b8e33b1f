-- The calls on a book of leases, and what each answer says of a lease. RFC 7530, section 9.5, has a client's lease
-- renewed by what the client sends, and lets the server forget a client whose lease is over.
use Rattle.std.specs.Prelude.{◌≡◌, ℕ, Bool, IsFalse, true, false, not, ◌&&◌, ◌||◌, ◌==◌, List, [], ◌∷◌}
use Rattle.nfs_owners.specs.Slots.{is_earlier, slot_of}
use Rattle.nfs_leases.specs.declared.lease_state.LeaseState.{LeaseState}
use Rattle.nfs_leases.specs.declared.lease_state.LeaseState.TheVariants as lease_state
use Rattle.nfs_leases.specs.declared.renewal.Renewal.{Renewal}
use Rattle.nfs_leases.specs.declared.renewal.Renewal.TheVariants as renewal
use Rattle.nfs_leases.specs.declared.closing.Closing.{Closing}
use Rattle.nfs_leases.specs.declared.closing.Closing.TheVariants as closing

-- one call on a book, with its answer
pub data BookEvent : Type 0 where
  Look : (client : ℕ) (shown : LeaseState) → BookEvent
  Renew : (client moment : ℕ) (answer : Renewal) → BookEvent
  Close : (client seen now : ℕ) (answer : Closing) → BookEvent
  Open : (client moment : ℕ) → BookEvent
  Retire : (client : ℕ) → BookEvent

-- the lease that is shown is open
abbrev pub shows_open : LeaseState → Bool
shows_open lease_state.Vacant = false
shows_open (lease_state.Open moment) = true
shows_open lease_state.Closed = false

-- the lease that is shown, or a later one of its slot, was opened
abbrev pub shows_opened : LeaseState → Bool
shows_opened lease_state.Vacant = false
shows_opened (lease_state.Open moment) = true
shows_opened lease_state.Closed = true

-- the answer says that the lease was renewed
abbrev pub is_renewed : Renewal → Bool
is_renewed renewal.Renewed = true
is_renewed renewal.Closed = false
is_renewed renewal.Unknown = false

-- the answer says that the lease, or a later one of its slot, was opened
abbrev pub is_known : Renewal → Bool
is_known renewal.Renewed = true
is_known renewal.Closed = true
is_known renewal.Unknown = false

-- the answer says that the lease was closed
abbrev pub is_done : Closing → Bool
is_done closing.Closed = true
is_done closing.Changed = false

-- Whether a client's lease is open after a call, where it was (or wasn't) before. An opening opens it, a closing that
-- was done and a retiring end it, and nothing else does either.
abbrev pub is_open_after : BookEvent → ℕ → Bool → Bool
is_open_after (Look c shown) client before = before
is_open_after (Renew c moment answer) client before = before
is_open_after (Close c seen now answer) client before = before && not (is_done answer && (client == c))
is_open_after (Open c moment) client before = before || (client == c)
is_open_after (Retire c) client before = before && not (client == c)

-- Whether a client's lease, or that of a later generation of its slot, was opened by the end of a call, where it was
-- (or wasn't) before.
abbrev pub was_opened_after : BookEvent → ℕ → Bool → Bool
was_opened_after (Look c shown) client before = before
was_opened_after (Renew c moment answer) client before = before
was_opened_after (Close c seen now answer) client before = before
was_opened_after (Open c moment) client before =
    before || (client == c) || is_earlier client c
was_opened_after (Retire c) client before = before

-- no lease of the client's slot is open, by this test of which are
abbrev pub IsAloneIn : (ℕ → Bool) → ℕ → Type 0
IsAloneIn is_open client = (other : ℕ) → slot_of other ≡ slot_of client → IsFalse (is_open other)

-- The calls lead, one after another, from the old book to the new one. `happens` says of one call whether it leads from
-- a book to a book.
abbrev pub AllHappen : {Book : Type 0} → (Book → BookEvent → Book → Type 0) → Book → List BookEvent → Book → Type 0
AllHappen happens old [] new = new ≡ old
AllHappen {Book} happens old (event ∷ events) new =
    (mid : Book) × happens old event mid × AllHappen happens mid events new
