-- Open owners that are forgotten, one after another.
use Rattle.std.proofs.Common.{◌≡◌, ℕ, zero, ◌-◌, ◌<◌, List, [], ◌∷◌, ◌++◌, length, Option, None, Some, Result, Ok, Err, refl, sym, ap, subst, ◌∙◌, arith, length-append}
use Rattle.std.proofs.lemmas.List.{map-append}
use Rattle.std.specs.List.{AllByRecursion}
use Rattle.std.specs.Prelude.{Bool, IfOk, IsFalse, OnErr}
use Rattle.nfs_core.specs.Events.{IsForgotten, IsNotForgottenFor, NoneIsDue, NoneIsIdle, NoneIsIdleBefore, forget_of}
use Rattle.nfs_core.specs.LiveClients.{EventsFollow}
use Rattle.nfs_core.specs.Server.{AreAlike, Enters, IsLawful, Server}
use Rattle.nfs_core.specs.declared.core_error.CoreError.{CoreError}
use Rattle.nfs_core.specs.declared.event.Event.TheVariants as events
use Rattle.nfs_forms.specs.declared.open_owner.OpenOwner.{OpenOwner}
use Rattle.nfs_leases.proofs.Books.{book_alike, book_kept}
use Rattle.nfs_leases.proofs.RevokedDelegations.{clients_more, gains_alike, same_clients}
use Rattle.nfs_leases.specs.BookOf.{IsBookOf}
use Rattle.nfs_leases.specs.Sweeps.{AreForgotten, ForgetsIdle, ForgetsUnless, RevokesDue, forgettings}
use Rattle.nfs_leases.specs.Visit.{Gains}
use Rattle.nfs_leases.specs.laws.Counting.{forgotten_entries}
use Rattle.nfs_leases.specs.laws.Gaining.{gains_more, gains_none}
use Rattle.nfs_owners.specs.ClientLaws.{HaveSameClients}
use Rattle.nfs_state.specs.Changes.{after}
use Rattle.nfs_state.specs.Owners.{KnownOwner}
use Rattle.nfs_state.specs.State.{History, State}
use Rattle.nfs_state.specs.Stored.{Stored, meaning}
use Rattle.nfs_state.specs.declared.effect.Effect.{Effect}
use Rattle.nfs_state.specs.declared.entry.Entry.{Entry}
use Rattle.nfs_state.specs.declared.entry.Entry.TheVariants as entries
use Rattle.nfs_state.specs.declared.entry.TheConstants.{JOURNAL_LIMIT}

-- The owners were forgotten, one after another. All clients are as they were, and so are the delegations.
pub record Forgets (now : ℕ) (owners : List OpenOwner) (old new : Server) : Type 0 where
  pub right : AreForgotten now owners old new
  pub gains : Gains (forgettings now owners) old new
  pub clients : HaveSameClients old.stored.clients new.stored.clients
  pub due : NoneIsDue old now → NoneIsDue new now

pub forgets_none : (now : ℕ) (server : Server) → Forgets now [] server server
forgets_none now server = record {
  right = refl;
  gains = gains_none server;
  clients = same_clients server.stored.clients;
  due = λ none. none;
}

right_more : (now : ℕ) (owners : List OpenOwner) (owner : OpenOwner) (old mid new : Server)
    → AreForgotten now owners old mid
    → Enters mid new (entries.Forget (forget_of owner now)) (length mid.journal.entries)
    → AreForgotten now (owners ++ owner ∷ []) old new
right_more now [] owner old mid new h k = (
  new,
  subst (λ (s : Server). Enters s new (entries.Forget (forget_of owner now)) (length s.journal.entries)) h k,
  refl,
)
right_more now (o ∷ owners) owner old mid new h k = (h.0, h.1, right_more now owners owner h.0 mid new h.2 k)

gains_one : (now number : ℕ) (owner : OpenOwner) (mid new : Server)
    → Enters mid new (entries.Forget (forget_of owner now)) number
    → Gains (forgettings now (owner ∷ [])) mid new
gains_one now number owner mid new k = record { journal = k.1; leads = (meaning new.stored, k.2, refl) }

-- the delegations stay, and so does the lease
due_one : (now number : ℕ) (owner : OpenOwner) (mid new : Server)
    → Enters mid new (entries.Forget (forget_of owner now)) number
    → NoneIsDue mid now → NoneIsDue new now
due_one now number owner mid new k none =
    let lent : new.stored.delegations ≡ mid.stored.delegations =
    ap (λ (s : State). s.delegations) k.2.state
    ∙ ap (λ (e : Effect). (after (length mid.journal.entries) e (meaning mid.stored)).delegations) k.2.allowed.removal in
    let lease : new.journal.lease ≡ mid.journal.lease = ap (λ (j : History). j.lease) k.1 in
    subst (λ n. NoneIsDue (record new { journal = record new.journal { lease = n } }) now) (sym lease)
    (subst (λ ds. NoneIsDue (record mid { stored = record mid.stored { delegations = ds } }) now) (sym lent) none)

-- and the entry has the next number
at_length : (now number : ℕ) (owner : OpenOwner) (mid new : Server)
    → Enters mid new (entries.Forget (forget_of owner now)) number
    → Enters mid new (entries.Forget (forget_of owner now)) (length mid.journal.entries)
at_length now number owner mid new k = (refl, k.1, k.2, k.3)

pub forgets_more : EventsFollow → (now number : ℕ) (owners : List OpenOwner) (old mid new : Server)
    → IsLawful mid → Forgets now owners old mid → (one : IsForgotten mid new now (Some number))
    → Forgets now (owners ++ one.0 ∷ []) old new
forgets_more follow now number owners old mid new lawful h one = record {
  right = right_more now owners one.0 old mid new h.right (at_length now number one.0 mid new one.1);
  gains =
      subst (λ (es : List Entry). Gains es old new)
      (sym (map-append (λ o. entries.Forget (forget_of o now)) owners (one.0 ∷ [])))
      (gains_more (forgettings now owners) (forgettings now (one.0 ∷ [])) old mid new h.gains
      (gains_one now number one.0 mid new one.1));
  clients =
      clients_more old.stored.clients mid.stored.clients new.stored.clients h.clients
      (follow mid.journal (meaning mid.stored) (meaning new.stored) (events.Forget (forget_of one.0 now)) tt lawful one.1.2);
  due = λ none. due_one now number one.0 mid new one.1 (h.due none);
}

-- there are no more of them than a journal has entries
pub count_below : (now number : ℕ) (owners : List OpenOwner) (old mid new : Server)
    → Forgets now owners old mid → IsForgotten mid new now (Some number) → length owners < JOURNAL_LIMIT
count_below now number owners old mid new h one =
    omega (
      arith,
      ap (λ (j : History). length j.entries) h.gains.journal,
      length-append old.journal.entries (forgettings now owners),
      forgotten_entries now owners,
      one.1.2.below,
    )

-- and each takes one more of the entries that the journal can have
pub entries_left : (now number : ℕ) (mid new : Server) → IsForgotten mid new now (Some number)
    → JOURNAL_LIMIT - length new.journal.entries < JOURNAL_LIMIT - length mid.journal.entries
entries_left now number mid new one =
    omega (
      arith,
      ap (λ (j : History). length j.entries) one.1.1,
      length-append mid.journal.entries (entries.Forget (forget_of one.0 now) ∷ []),
      one.1.2.below,
    )

all_before : (idle : KnownOwner → Bool) (owners : List KnownOwner)
    → AllByRecursion (λ o. o.recording_entry < zero → IsFalse (idle o)) owners
all_before idle [] = tt
all_before idle (o ∷ owners) = (λ less. absurd (omega (arith, less)), all_before idle owners)

-- no entry comes before the first
pub none_before_first : (now : ℕ) (server : Server) → NoneIsIdleBefore zero server now
none_before_first now server = all_before _ (meaning server.stored).owners

-- none may be forgotten any more
pub ends : (now : ℕ) (owners : List OpenOwner) (old mid new : Server) → Forgets now owners old mid
    → new ≡ mid → NoneIsIdle mid now → ForgetsIdle now owners None old new
ends now owners old mid new h same none = record {
  found = mid;
  right = h.right;
  last = (subst (λ (s : Server). NoneIsIdle s now) (sym same) none, same);
  entries = subst (λ (s : Server). Gains (forgettings now owners) old s) (sym same) h.gains;
}

none_alike : (now : ℕ) (mid new : Server) → AreAlike mid new → NoneIsIdle new now → NoneIsIdle mid now
none_alike now mid new alike none =
    subst (λ (s : Stored). NoneIsIdle (record mid { stored = s }) now) alike.1
    (subst (λ (j : History). NoneIsIdle (record new { journal = j }) now) alike.0 none)

-- one may be still, but was refused
pub stops : (now : ℕ) (owners : List OpenOwner) (error : CoreError) (old mid new : Server) → Forgets now owners old mid
    → AreAlike mid new → IsNotForgottenFor mid now error → ForgetsIdle now owners (Some error) old new
stops now owners error old mid new h alike refused = record {
  found = mid;
  right = h.right;
  last = (λ none. refused.0 (none_alike now mid new alike none), alike, refused.1);
  entries = gains_alike (forgettings now owners) old mid new h.gains alike;
}

pub due_alike : (now : ℕ) (mid new : Server) → AreAlike mid new → NoneIsDue mid now → NoneIsDue new now
due_alike now mid new alike none =
    subst (λ (s : Stored). NoneIsDue (record new { stored = s }) now) (sym alike.1)
    (subst (λ (j : History). NoneIsDue (record mid { journal = j }) now) (sym alike.0) none)

some_not_none : (error : CoreError) → Some error ≡ None → ⊥
some_not_none error h = cc

-- A sweep that doesn't stop at a delegation leaves none that is due.
pub due_after : (halted : Option CoreError) (now : ℕ) (numbers : List ℕ) (owners : List OpenOwner) (stopped : Option CoreError)
    (old mid new : Server)
    → RevokesDue now numbers halted old mid → ForgetsUnless halted now owners stopped mid new
    → (NoneIsDue mid now → NoneIsDue new now)
    → halted ≡ None → NoneIsDue new now
due_after (Some error) now numbers owners stopped old mid new revokes forgets stay going =
    absurd (some_not_none error going)
due_after None now numbers owners stopped old mid new revokes forgets stay going = stay revokes.last.0

-- The book stays that of the core's clients where an owner is forgotten, and where none is.
pub book_forgotten : EventsFollow → (is_open was_opened : ℕ → Bool) (lease now : ℕ) (old new : Server)
    (result : Result (Option ℕ) CoreError)
    → IsLawful old → IfOk result (IsForgotten old new now) → OnErr result (AreAlike old new)
    → IsBookOf is_open was_opened lease old → IsBookOf is_open was_opened lease new
book_forgotten follow is_open was_opened lease now old new (Ok (Some number)) lawful one alike of =
    book_kept is_open was_opened lease old new (ap (λ (j : History). j.lease) one.1.1)
    (follow old.journal (meaning old.stored) (meaning new.stored) (events.Forget (forget_of one.0 now)) tt lawful one.1.2) of
book_forgotten follow is_open was_opened lease now old new (Ok None) lawful same alike of =
    subst (λ (s : Server). IsBookOf is_open was_opened lease s) (sym same) of
book_forgotten follow is_open was_opened lease now old new (Err error) lawful one alike of =
    book_alike is_open was_opened lease old new alike of
