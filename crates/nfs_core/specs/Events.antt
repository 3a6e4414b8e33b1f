-- What happens without a call: the entry that it makes, and why it isn't entered.
use Rattle.std.specs.Prelude.{◌≡◌, ℕ, ◌<◌, ◌≤◌, ⊤, Bool, IsFalse, IsTrue, length, Option, Some, None}
use Rattle.std.specs.List.{AllByRecursion}
use Rattle.nfs_core.specs.Server.{Enters, Server}
use Rattle.nfs_core.specs.declared.core_error.CoreError.{CoreError}
use Rattle.nfs_core.specs.declared.core_error.CoreError.TheVariants as errors
use Rattle.nfs_core.specs.declared.event.Event.{Event}
use Rattle.nfs_core.specs.declared.event.Event.TheVariants as events
use Rattle.nfs_core.specs.declared.forgotten.Forgotten.{Forgotten}
use Rattle.nfs_forms.specs.declared.open_owner.OpenOwner.{OpenOwner}
use Rattle.nfs_rules.specs.entries.Expire.{is_due as is_over, is_live}
use Rattle.nfs_rules.specs.entries.Forget.{IsForgetting, NoneIdle, NoneIdleBefore, recording_entry_of}
use Rattle.nfs_rules.specs.entries.Revoke.{IsRevocation}
use Rattle.nfs_share.specs.Delegations.{is_due}
use Rattle.nfs_state.specs.State.{History}
use Rattle.nfs_state.specs.Stored.{meaning}
use Rattle.nfs_state.specs.declared.effect.Effect.{Effect}
use Rattle.nfs_state.specs.declared.entry.Entry.{Entry}
use Rattle.nfs_state.specs.declared.entry.Entry.TheVariants as entries
use Rattle.nfs_state.specs.declared.entry.Expire.{Expire}
use Rattle.nfs_state.specs.declared.entry.Forget.{Forget}
use Rattle.nfs_state.specs.declared.entry.Path.{Path}
use Rattle.nfs_state.specs.declared.entry.Revoke.{Revoke}
use Rattle.nfs_state.specs.declared.entry.TheConstants.{JOURNAL_LIMIT}

-- the entry that an event makes
abbrev pub entry_by : Event → Entry
entry_by (events.Expire expire) = entries.Expire expire
entry_by (events.Revoke revoke) = entries.Revoke revoke
entry_by (events.Path path) = entries.Path path
entry_by (events.Forget forget) = entries.Forget forget

-- the end of a client, and that of a delegation
abbrev pub expire_of : ℕ → ℕ → ℕ → Expire
expire_of client seen now = record { client = client; seen = seen; now = now }

abbrev pub revoke_of : ℕ → ℕ → Revoke
revoke_of number now = record { number = number; now = now }

-- what became known of the path of a client's callbacks
abbrev pub path_of : ℕ → Bool → Path
path_of client up = record { client = client; up = up }

-- the end of what is kept for an open owner
abbrev pub forget_of : OpenOwner → ℕ → Forget
forget_of owner now = record { owner = owner; now = now }

-- The event ends no client: the leases stay as they are.
abbrev pub EndsNoClient : Event → Type 0
EndsNoClient (events.Expire expire) = ⊥
EndsNoClient event = ⊤

-- The event may happen, as far as its rule goes: a client that ends is live, and its lease had run out; a delegation
-- that is taken away is the next one that may be (RFC 7530, section 10.4.6); a client whose path is marked is live; an
-- owner that is forgotten is the next one that may be (section 9.1.10).
abbrev pub MayHappen : Server → Event → Type 0
MayHappen server (events.Expire expire) =
    IsTrue (is_live server.journal (meaning server.stored) expire.client)
    × IsTrue (is_over server.journal expire)
MayHappen server (events.Revoke revoke) =
    (effect : Effect) × IsRevocation server.journal (meaning server.stored) revoke effect
MayHappen server (events.Path path) =
    IsTrue (is_live server.journal (meaning server.stored) path.client)
MayHappen server (events.Forget forget) =
    (effect : Effect) × IsForgetting server.journal (meaning server.stored) forget effect

-- The event may not happen, for the first of these reasons that there is: its client isn't live, or its time hasn't
-- come.
abbrev pub MayNotHappen : Server → Event → CoreError → Type 0
MayNotHappen server (events.Expire expire) errors.NotLive =
    IsFalse (is_live server.journal (meaning server.stored) expire.client)
MayNotHappen server (events.Expire expire) errors.NotDue =
    IsTrue (is_live server.journal (meaning server.stored) expire.client)
    × IsFalse (is_over server.journal expire)
MayNotHappen server (events.Revoke revoke) errors.NotDue =
    MayHappen server (events.Revoke revoke) → ⊥
MayNotHappen server (events.Path path) errors.NotLive =
    IsFalse (is_live server.journal (meaning server.stored) path.client)
MayNotHappen server (events.Forget forget) errors.NotDue =
    MayHappen server (events.Forget forget) → ⊥
MayNotHappen server event error = ⊥

-- the event is the end of what is kept for an owner
abbrev pub IsForget : Event → Type 0
IsForget (events.Forget forget) = ⊤
IsForget event = ⊥

-- The rule of the event's kind gives no effect: the event may not happen, or memory ran out for what its entry has.
abbrev pub IsNotRuled : Server → Event → CoreError → Type 0
IsNotRuled server (events.Forget forget) errors.Memory = MayHappen server (events.Forget forget)
IsNotRuled server event error = MayNotHappen server event error

-- There is no room for one more entry: the journal is full, or memory ran out.
abbrev pub IsWithoutRoom : Server → CoreError → Type 0
IsWithoutRoom server errors.Full = JOURNAL_LIMIT ≤ length server.journal.entries
IsWithoutRoom server errors.Memory =
    (length server.journal.entries < JOURNAL_LIMIT) × (server.room ≡ 0)
IsWithoutRoom server error = ⊥

-- There is no room for the entry of an owner's end, which takes memory for the owner's name as well: the journal is
-- full, or memory ran out.
abbrev pub IsWithoutRoomForOwner : History → CoreError → Type 0
IsWithoutRoomForOwner journal errors.Full = JOURNAL_LIMIT ≤ length journal.entries
IsWithoutRoomForOwner journal errors.Memory = length journal.entries < JOURNAL_LIMIT
IsWithoutRoomForOwner journal error = ⊥

-- There is no room for the entry of the event, or no memory for what it has.
abbrev pub IsWithoutRoomFor : Server → Event → CoreError → Type 0
IsWithoutRoomFor server (events.Forget forget) error = IsWithoutRoomForOwner server.journal error
IsWithoutRoomFor server event error = IsWithoutRoom server error

-- The event isn't entered for the first of these reasons that there is: it may not happen, or there is no room for its
-- entry.
abbrev pub IsNotEntered : Server → Event → CoreError → Type 0
IsNotEntered server event errors.NotLive = MayNotHappen server event errors.NotLive
IsNotEntered server event errors.NotDue = MayNotHappen server event errors.NotDue
IsNotEntered server event error = MayHappen server event × IsWithoutRoomFor server event error

-- no delegation is due at this moment
abbrev pub NoneIsDue : Server → ℕ → Type 0
NoneIsDue server now =
    AllByRecursion (AllByRecursion (λ d. IsFalse (is_due server.journal.lease now d)))
    server.stored.delegations

-- With the number of a delegation the server `old` becomes `new` by the entry of its end; with none nothing changes.
abbrev pub IsRevoked : Server → Server → ℕ → Option ℕ → Type 0
IsRevoked old new now None = new ≡ old
IsRevoked old new now (Some number) =
    Enters old new (entries.Revoke (revoke_of number now)) (length old.journal.entries)

-- A delegation is due, but there is no room for the entry of its end.
abbrev pub IsNotRevokedFor : Server → ℕ → CoreError → Type 0
IsNotRevokedFor server now error = (NoneIsDue server now → ⊥) × IsWithoutRoom server error

-- no owner may be forgotten at this moment
abbrev pub NoneIsIdle : Server → ℕ → Type 0
NoneIsIdle server now = NoneIdle server.journal (meaning server.stored) now

-- no owner may be forgotten at this moment that an entry before this one recorded
abbrev pub NoneIsIdleBefore : ℕ → Server → ℕ → Type 0
NoneIsIdleBefore entry server now =
    NoneIdleBefore entry server.journal (meaning server.stored) now

-- The server `old` becomes `new` by the entry of an owner's end, which has this number. With none nothing changes.
abbrev pub IsForgotten : Server → Server → ℕ → Option ℕ → Type 0
IsForgotten old new now None = new ≡ old
IsForgotten old new now (Some number) =
    (owner : OpenOwner) × Enters old new (entries.Forget (forget_of owner now)) number

-- The server `old` becomes `new` by the entry of an owner's end. Told as well is which entry had recorded the owner: no
-- owner is left that an entry before that one recorded and that may be forgotten.
abbrev pub IsForgottenFrom : Server → Server → ℕ → Option Forgotten → Type 0
IsForgottenFrom old new now None = new ≡ old
IsForgottenFrom old new now (Some forgotten) =
    (forgets : IsForgotten old new now (Some forgotten.number))
    × NoneIsIdleBefore forgotten.recorded new now
    × (recording_entry_of forgets.0 (meaning old.stored) ≡ Some forgotten.recorded)

-- An owner may be forgotten, but there is no room for the entry of its end, or no memory.
abbrev pub IsNotForgottenFor : Server → ℕ → CoreError → Type 0
IsNotForgottenFor server now error =
    (NoneIsIdle server now → ⊥) × IsWithoutRoomForOwner server.journal error
