-- Delegations that are revoked, one after another.
use Rattle.std.proofs.Common.{◌≡◌, ℕ, ◌-◌, ◌<◌, List, [], ◌∷◌, ◌++◌, length, None, Some, refl, sym, ap, subst, ◌∙◌, arith, length-append}
use Rattle.std.proofs.lemmas.List.{map-append}
use Rattle.nfs_core.specs.Events.{IsNotRevokedFor, IsRevoked, NoneIsDue, revoke_of}
use Rattle.nfs_core.specs.Lawful as lawful
use Rattle.nfs_core.specs.LiveClients.{EventsFollow}
use Rattle.nfs_core.specs.Server.{AreAlike, IsLawful, Server}
use Rattle.nfs_core.specs.declared.core_error.CoreError.{CoreError}
use Rattle.nfs_core.specs.declared.event.Event.TheVariants as events
use Rattle.nfs_leases.specs.Sweeps.{AreRevoked, RevokesDue, revocations}
use Rattle.nfs_leases.specs.Visit.{Gains}
use Rattle.nfs_leases.specs.laws.Counting.{revoked_entries}
use Rattle.nfs_leases.specs.laws.Gaining.{gains_more, gains_none}
use Rattle.nfs_owners.specs.ClientLaws.{HaveSameClients}
use Rattle.nfs_owners.specs.Registry.{Registry}
use Rattle.nfs_state.specs.State.{History}
use Rattle.nfs_state.specs.Stored.{Stored, meaning}
use Rattle.nfs_state.specs.declared.entry.Entry.{Entry}
use Rattle.nfs_state.specs.declared.entry.Entry.TheVariants as entries
use Rattle.nfs_state.specs.declared.entry.TheConstants.{JOURNAL_LIMIT}

pub same_clients : (registry : Registry) → HaveSameClients registry registry
same_clients registry = record {
  live = λ n. refl;
  can_come = λ n. refl;
  replaced = λ n. refl;
  known = λ c. refl;
  client = λ c. refl;
  holder = λ id. refl;
  same_given = refl;
  last_value = refl;
}

pub clients_more : (old mid new : Registry) → HaveSameClients old mid → HaveSameClients mid new → HaveSameClients old new
clients_more old mid new h k = record {
  live = λ n. k.live n ∙ h.live n;
  can_come = λ n. k.can_come n ∙ h.can_come n;
  replaced = λ n. k.replaced n ∙ h.replaced n;
  known = λ c. k.known c ∙ h.known c;
  client = λ c. k.client c ∙ h.client c;
  holder = λ id. k.holder id ∙ h.holder id;
  same_given = k.same_given ∙ h.same_given;
  last_value = k.last_value ∙ h.last_value;
}

-- The delegations with these numbers were revoked, one after another. All clients are as they were.
pub record Revokes (now : ℕ) (numbers : List ℕ) (old new : Server) : Type 0 where
  pub right : AreRevoked now numbers old new
  pub gains : Gains (revocations now numbers) old new
  pub clients : HaveSameClients old.stored.clients new.stored.clients

pub revokes_none : (now : ℕ) (server : Server) → Revokes now [] server server
revokes_none now server = record {
  right = refl;
  gains = gains_none server;
  clients = same_clients server.stored.clients;
}

right_more : (now : ℕ) (numbers : List ℕ) (number : ℕ) (old mid new : Server)
    → AreRevoked now numbers old mid → IsRevoked mid new now (Some number)
    → AreRevoked now (numbers ++ number ∷ []) old new
right_more now [] number old mid new h k = (new, subst (λ (s : Server). IsRevoked s new now (Some number)) h k, refl)
right_more now (n ∷ numbers) number old mid new h k = (h.0, h.1, right_more now numbers number h.0 mid new h.2 k)

gains_one : (now number : ℕ) (mid new : Server) → IsRevoked mid new now (Some number)
    → Gains (revocations now (number ∷ [])) mid new
gains_one now number mid new k = record { journal = k.1; leads = (meaning new.stored, k.2, refl) }

pub revokes_more : EventsFollow → (now : ℕ) (numbers : List ℕ) (number : ℕ) (old mid new : Server)
    → IsLawful mid → Revokes now numbers old mid → IsRevoked mid new now (Some number)
    → Revokes now (numbers ++ number ∷ []) old new
revokes_more follow now numbers number old mid new lawful h k = record {
  right = right_more now numbers number old mid new h.right k;
  gains =
      subst (λ (es : List Entry). Gains es old new)
      (sym (map-append (λ n. entries.Revoke (revoke_of n now)) numbers (number ∷ [])))
      (gains_more (revocations now numbers) (revocations now (number ∷ [])) old mid new h.gains (gains_one now number mid new k));
  clients =
      clients_more old.stored.clients mid.stored.clients new.stored.clients h.clients
      (follow mid.journal (meaning mid.stored) (meaning new.stored) (events.Revoke (revoke_of number now)) tt lawful k.2);
}

-- there are no more of them than a journal has entries
pub count_below : (now : ℕ) (numbers : List ℕ) (number : ℕ) (old mid new : Server)
    → Revokes now numbers old mid → IsRevoked mid new now (Some number) → length numbers < JOURNAL_LIMIT
count_below now numbers number old mid new h k =
    omega (
      arith,
      ap (λ (j : History). length j.entries) h.gains.journal,
      length-append old.journal.entries (revocations now numbers),
      revoked_entries now numbers,
      k.2.below,
    )

-- and each takes one more of the entries that the journal can have
pub entries_left : (now number : ℕ) (mid new : Server) → IsRevoked mid new now (Some number)
    → JOURNAL_LIMIT - length new.journal.entries < JOURNAL_LIMIT - length mid.journal.entries
entries_left now number mid new k =
    omega (
      arith,
      ap (λ (j : History). length j.entries) k.1,
      length-append mid.journal.entries (entries.Revoke (revoke_of number now) ∷ []),
      k.2.below,
    )

-- what a server gained is gained by one that is alike
pub gains_alike : (more : List Entry) (old mid new : Server) → Gains more old mid → AreAlike mid new → Gains more old new
gains_alike more old mid new h alike = record {
  journal = alike.0 ∙ h.journal;
  leads =
      subst (λ (s : Stored). lawful.Leads old.journal (meaning old.stored) more (meaning s)) (sym alike.1) h.leads;
}

pub clients_alike : (old mid new : Server) → HaveSameClients old.stored.clients mid.stored.clients → mid.stored ≡ new.stored
    → HaveSameClients old.stored.clients new.stored.clients
clients_alike old mid new h same = subst (λ (s : Stored). HaveSameClients old.stored.clients s.clients) same h

-- none is due any more
pub ends : (now : ℕ) (numbers : List ℕ) (old mid new : Server) → Revokes now numbers old mid
    → IsRevoked mid new now None → NoneIsDue mid now → RevokesDue now numbers None old new
ends now numbers old mid new h same none = record {
  found = mid;
  right = h.right;
  last = (subst (λ (s : Server). NoneIsDue s now) (sym same) none, same);
  entries = subst (λ (s : Server). Gains (revocations now numbers) old s) (sym same) h.gains;
}

none_alike : (now : ℕ) (mid new : Server) → AreAlike mid new → NoneIsDue new now → NoneIsDue mid now
none_alike now mid new alike none =
    subst (λ (s : Stored). NoneIsDue (record mid { stored = s }) now) alike.1
    (subst (λ (j : History). NoneIsDue (record new { journal = j }) now) alike.0 none)

-- one is due, for whose entry there was no room
pub stops : (now : ℕ) (numbers : List ℕ) (error : CoreError) (old mid new : Server) → Revokes now numbers old mid
    → AreAlike mid new → IsNotRevokedFor mid now error → RevokesDue now numbers (Some error) old new
stops now numbers error old mid new h alike refused = record {
  found = mid;
  right = h.right;
  last = (λ none. refused.0 (none_alike now mid new alike none), alike, refused.1);
  entries = gains_alike (revocations now numbers) old mid new h.gains alike;
}
