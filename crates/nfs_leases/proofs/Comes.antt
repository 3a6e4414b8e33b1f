-- A sweep that has come to a client's number.
use Rattle.std.proofs.Common.{◌≡◌, ℕ, zero, suc, ◌-◌, ◌^◌, ◌<◌, ◌≤◌, Bool, true, false, not, ◌==◌, ◌&&◌, nat_le, List, [], ◌∷◌, ◌++◌, Option, Some, None, refl, sym, ap, subst, ◌∙◌, arith}
use Rattle.std.proofs.lemmas.Bool.Decides.{nat_tests}
use Rattle.std.proofs.lemmas.Grind.{common_steps}
use Rattle.std.specs.Prelude.{IsFalse, IsTrue}
use Rattle.std.specs.List.{list_any}
use Rattle.nfs_core.specs.LiveClients.{AreNumbered, EndsFollow, LiveEnd}
use Rattle.nfs_core.specs.Server.{IsLawful, Server}
use Rattle.nfs_core.specs.Events.{expire_of}
use Rattle.nfs_core.specs.Step.{Step}
use Rattle.nfs_owners.specs.LiveClients.{IsNextLive, can_become_live}
use Rattle.nfs_owners.specs.Registry.{IsClientNumber, Registry, is_live}
use Rattle.nfs_leases.specs.BookEvent.{BookEvent, AllHappen, is_open_after, was_opened_after}
use Rattle.nfs_leases.specs.BookOf.{IsBookOf}
use Rattle.nfs_leases.specs.Sweeps.{AreVisits, EndsClients, IsVisit, events_of_all, is_of, leased_server, none_swept, tally}
use Rattle.nfs_leases.specs.Visit.{Gains, Visit, events_by, events_of, expiries, total, with_case}
use Rattle.nfs_leases.specs.declared.visit_case.VisitCase.{VisitCase}
use Rattle.nfs_leases.specs.declared.visit_case.VisitCase.TheVariants as cases
use Rattle.nfs_leases.specs.declared.swept.Swept.{Swept}
use Rattle.nfs_leases.proofs.Lists.{Reaches, ascend_from_reaches, events_more, gains_of_all, happen_more, reaches_length, reaches_more, right_more, tally_more, total_tally, visits_more}
use Rattle.nfs_state.specs.State.{History, State}
use Rattle.nfs_state.specs.Stored.{meaning}
use Rattle.nfs_state.specs.declared.entry.Entry.TheVariants as entries

-- the client is gone after a visit of this case
abbrev pub is_gone : VisitCase → Bool
is_gone cases.Expired = true
is_gone cases.Kept = false
is_gone cases.Changed = false
is_gone cases.Refused = false

and_true : (b : Bool) → (b && true) ≡ b
and_true true = refl
and_true false = refl

-- what can't be after can't have been before
pub contrary : (a b : Bool) → (IsTrue a → IsTrue b) → IsFalse b → IsFalse a
contrary true true h k = k
contrary true false h k = sym (h refl)
contrary false b h k = refl

-- who is live after a visit
pub record Stays (gone : Bool) (client : ℕ) (old new : Registry) : Type 0 where
  pub live : (q : ℕ) → is_live q new ≡ (is_live q old && not (gone && (q == client)))
  pub once : (q : ℕ) → IsFalse (can_become_live q old) → IsFalse (can_become_live q new)

stays_same : (client : ℕ) (old new : Registry) → new ≡ old → Stays false client old new
stays_same client old new same = record {
  live = λ q. ap (λ (r : Registry). is_live q r) same ∙ sym (and_true (is_live q old));
  once = λ q h. ap (λ (r : Registry). can_become_live q r) same ∙ h;
}

stays_others : (client : ℕ) (old new : Registry) → LiveEnd client old new → Stays true client old new
stays_others client old new h = record {
  live = λ q. h.ends q;
  once = λ q k. contrary (can_become_live q new) (can_become_live q old) (h.once q) k;
}

pub stays : EndsFollow → (case : VisitCase) (client seen now : ℕ) (old new : Server) → IsLawful old
    → Gains (expiries (events_by case client seen now)) old new
    → Stays (is_gone case) client old.stored.clients new.stored.clients
stays ends cases.Expired client seen now old new lawful gains =
    stays_others client old.stored.clients new.stored.clients
    (ends old.journal (meaning old.stored) (meaning new.stored) (expire_of client seen now) lawful
    (subst (λ (s : State). Step old.journal (meaning old.stored) (entries.Expire (expire_of client seen now)) s)
    (sym gains.leads.2) gains.leads.1))
stays ends cases.Kept client seen now old new lawful gains =
    stays_same client old.stored.clients new.stored.clients (ap (λ (s : State). s.clients) gains.leads)
stays ends cases.Changed client seen now old new lawful gains =
    stays_same client old.stored.clients new.stored.clients (ap (λ (s : State). s.clients) gains.leads)
stays ends cases.Refused client seen now old new lawful gains =
    stays_same client old.stored.clients new.stored.clients (ap (λ (s : State). s.clients) gains.leads)

-- The clients up to this number have had their visits, and `next` is the next one. The live clients above the number are
-- those that were live at the beginning.
pub record Comes {Book : Type 0} (happens : Book → BookEvent → Book → Type 0) (now upto : ℕ) (server : Server)
    (book : Book) (swept : Swept) (visits : List Visit) (server' : Server) (book' : Book) (next : Option ℕ) : Type 0 where
  pub each : (client : ℕ) → list_any (is_of client) visits ≡ (is_live client server.stored.clients && nat_le client upto)
  pub later : (client : ℕ) → upto < client → is_live client server'.stored.clients ≡ is_live client server.stored.clients
  pub reaches : Reaches 0 visits upto
  pub right : AreVisits now visits server server'
  pub events : AllHappen happens book (events_of_all now visits) book'
  pub counts : swept ≡ tally none_swept visits
  pub is_next : IsNextLive upto server'.stored.clients next

-- nobody is live with the number 0
none_first : (live : Bool) (client : ℕ) → (IsTrue live → IsClientNumber client) → (live && nat_le client 0) ≡ false
none_first false client numbered = refl
none_first true zero numbered = absurd (omega (arith, numbered refl))
none_first true (suc client) numbered = grind (arith, nat_tests)

pub comes_first : {Book : Type 0} (happens : Book → BookEvent → Book → Type 0) (now : ℕ) (server : Server) (book : Book)
    (next : Option ℕ) → AreNumbered server.stored.clients → IsNextLive 0 server.stored.clients next
    → Comes happens now 0 server book none_swept [] server book next
comes_first happens now server book next numbered is_next = record {
  each = λ client. sym (none_first (is_live client server.stored.clients) client (numbered client));
  later = λ client h. refl;
  reaches = omega arith;
  right = refl;
  events = refl;
  counts = refl;
  is_next = is_next;
}

others_stay : (b gone : Bool) (q client : ℕ) → client < q → (b && not (gone && (q == client))) ≡ b
others_stay b gone q client h = grind (arith, common_steps)

-- with one visit more, whose visits there are
each_further : (visits : List Visit) (t : Visit) (upto client : ℕ) (was is : Bool)
    → list_any (is_of client) visits ≡ (was && nat_le client upto) → (upto < client → is ≡ was) → upto < t.client
    → (client ≡ t.client → was ≡ true) → (is ≡ true → upto < client → t.client ≤ client)
    → list_any (is_of client) (visits ++ t ∷ []) ≡ (was && nat_le client t.client)
each_further visits t upto client was is each later more here least = grind (arith, common_steps, visits_more visits t client)

-- and with no visit more
each_last : (upto client : ℕ) (was is : Bool) → (upto < client → is ≡ was) → (is ≡ true → client ≤ upto)
    → (was && nat_le client upto) ≡ was
each_last upto client was is later last = grind (arith, common_steps)

pub comes_further : {Book : Type 0} (happens : Book → BookEvent → Book → Type 0) (now upto : ℕ) (server : Server)
    (book : Book) (swept : Swept) (visits : List Visit) (server' : Server) (book' : Book) (t : Visit) (server'' : Server)
    (book'' : Book) (next : Option ℕ)
    → Comes happens now upto server book swept visits server' book' (Some t.client)
    → Stays (is_gone t.case) t.client server'.stored.clients server''.stored.clients
    → IsVisit now t server' server'' → AllHappen happens book' (events_of now t) book''
    → IsNextLive t.client server''.stored.clients next
    → Comes happens now t.client server book (with_case swept t.case) (visits ++ t ∷ []) server'' book'' next
comes_further happens now upto server book swept visits server' book' t server'' book'' next h stay visit leads is_next = record {
  each = λ client.
      each_further visits t upto client (is_live client server.stored.clients) (is_live client server'.stored.clients)
      (h.each client) (h.later client) h.is_next.1
      (λ e.
      subst (λ (c : ℕ). is_live c server.stored.clients ≡ true) (sym e)
      (sym (h.later t.client h.is_next.1) ∙ h.is_next.0))
      (h.is_next.2 client);
  later = λ client above.
      stay.live client
      ∙ others_stay (is_live client server'.stored.clients) (is_gone t.case) client t.client above
      ∙ h.later client (omega (arith, h.is_next.1));
  reaches = reaches_more 0 visits upto t h.reaches h.is_next.1;
  right = right_more now visits t server server' server'' h.right visit;
  events =
      subst (λ (events : List BookEvent). AllHappen happens book events book'') (sym (events_more now visits t))
      (happen_more happens book book' book'' (events_of_all now visits) (events_of now t) h.events leads);
  counts = ap (λ (s : Swept). with_case s t.case) h.counts ∙ sym (tally_more none_swept visits t);
  is_next = is_next;
}

pub comes_last : {Book : Type 0} (happens : Book → BookEvent → Book → Type 0) (now upto : ℕ) (server : Server)
    (book : Book) (swept : Swept) (visits : List Visit) (server' : Server) (book' : Book)
    → Comes happens now upto server book swept visits server' book' None
    → EndsClients happens now visits (leased_server server book) (leased_server server' book')
comes_last happens now upto server book swept visits server' book' h = record {
  each = λ client.
      h.each client
      ∙ each_last upto client (is_live client server.stored.clients) (is_live client server'.stored.clients)
      (h.later client) (h.is_next client);
  once = ascend_from_reaches 0 visits upto h.reaches;
  right = h.right;
  events = h.events;
  entries = gains_of_all now visits server server' h.right;
}

-- there are fewer visits than numbers of 32 bits
pub total_before : {Book : Type 0} (happens : Book → BookEvent → Book → Type 0) (now upto : ℕ) (server : Server)
    (book : Book) (swept : Swept) (visits : List Visit) (server' : Server) (book' : Book) (client : ℕ)
    → Comes happens now upto server book swept visits server' book' (Some client) → client < 2 ^ 32
    → total swept < 2 ^ 32 - 1
total_before happens now upto server book swept visits server' book' client h low =
    omega (arith, ap total h.counts, total_tally none_swept visits, reaches_length 0 visits upto h.reaches, h.is_next.1, low)

-- The book after a visit.

open_after : {Book : Type 0} (happens : Book → BookEvent → Book → Type 0) (is_open : Book → ℕ → Bool)
    (law : (old : Book) (event : BookEvent) (new : Book) → happens old event new
    → (client : ℕ) → is_open new client ≡ is_open_after event client (is_open old client))
    (case : VisitCase) (client seen now : ℕ) (book book' : Book) → AllHappen happens book (events_by case client seen now) book'
    → (q : ℕ) → is_open book' q ≡ (is_open book q && not (is_gone case && (q == client)))
open_after happens is_open law cases.Expired client seen now book book' h q =
    ap (λ b. is_open b q) h.2.2
    ∙ law h.0 _ h.2.0 h.2.1 q
    ∙ ap (λ b. b && not (q == client)) (law book _ h.0 h.1 q)
open_after happens is_open law cases.Kept client seen now book book' h q =
    ap (λ b. is_open b q) h.2 ∙ law book _ h.0 h.1 q ∙ sym (and_true (is_open book q))
open_after happens is_open law cases.Changed client seen now book book' h q =
    ap (λ b. is_open b q) h.2.2
    ∙ law h.0 _ h.2.0 h.2.1 q
    ∙ ap (λ b. b && true) (law book _ h.0 h.1 q)
open_after happens is_open law cases.Refused client seen now book book' h q =
    ap (λ b. is_open b q) h.2 ∙ law book _ h.0 h.1 q ∙ sym (and_true (is_open book q))

opened_after : {Book : Type 0} (happens : Book → BookEvent → Book → Type 0) (opened : Book → ℕ → Bool)
    (law : (old : Book) (event : BookEvent) (new : Book) → happens old event new
    → (client : ℕ) → opened new client ≡ was_opened_after event client (opened old client))
    (case : VisitCase) (client seen now : ℕ) (book book' : Book) → AllHappen happens book (events_by case client seen now) book'
    → (q : ℕ) → opened book' q ≡ opened book q
opened_after happens opened law cases.Expired client seen now book book' h q =
    ap (λ b. opened b q) h.2.2 ∙ law h.0 _ h.2.0 h.2.1 q ∙ law book _ h.0 h.1 q
opened_after happens opened law cases.Kept client seen now book book' h q =
    ap (λ b. opened b q) h.2 ∙ law book _ h.0 h.1 q
opened_after happens opened law cases.Changed client seen now book book' h q =
    ap (λ b. opened b q) h.2.2 ∙ law h.0 _ h.2.0 h.2.1 q ∙ law book _ h.0 h.1 q
opened_after happens opened law cases.Refused client seen now book book' h q =
    ap (λ b. opened b q) h.2 ∙ law book _ h.0 h.1 q

-- the book's lease lasts as long as before
pub lease_after : {Book : Type 0} (happens : Book → BookEvent → Book → Type 0) (lease : Book → ℕ)
    (law : (old : Book) (event : BookEvent) (new : Book) → happens old event new → lease new ≡ lease old)
    (events : List BookEvent) (book book' : Book) → AllHappen happens book events book' → lease book' ≡ lease book
lease_after happens lease law [] book book' h = ap lease h
lease_after happens lease law (e ∷ events) book book' h =
    lease_after happens lease law events h.0 book' h.2 ∙ law book e h.0 h.1

-- the laws of a book, as the trait has them
pub record AreLaws {Book : Type 0} (happens : Book → BookEvent → Book → Type 0) (lease : Book → ℕ)
    (is_open was_opened : Book → ℕ → Bool) : Type 0 where
  pub keeps_lease : (old : Book) (event : BookEvent) (new : Book) → happens old event new → lease new ≡ lease old
  pub open_follows : (old : Book) (event : BookEvent) (new : Book) → happens old event new
      → (client : ℕ) → is_open new client ≡ is_open_after event client (is_open old client)
  pub opened_follows : (old : Book) (event : BookEvent) (new : Book) → happens old event new
      → (client : ℕ) → was_opened new client ≡ was_opened_after event client (was_opened old client)

-- after a visit the book is again the one of the server's clients
pub book_further : {Book : Type 0} (happens : Book → BookEvent → Book → Type 0) (lease : Book → ℕ)
    (is_open was_opened : Book → ℕ → Bool) → AreLaws happens lease is_open was_opened
    → (case : VisitCase) (client seen now : ℕ) (old new : Server) (book book' : Book)
    → AllHappen happens book (events_by case client seen now) book'
    → Gains (expiries (events_by case client seen now)) old new
    → Stays (is_gone case) client old.stored.clients new.stored.clients
    → IsBookOf (is_open book) (was_opened book) (lease book) old
    → IsBookOf (is_open book') (was_opened book') (lease book') new
book_further happens lease is_open was_opened laws case client seen now old new book book' leads gains stay agrees = record {
  lasts =
      lease_after happens lease laws.keeps_lease (events_by case client seen now) book book' leads
      ∙ agrees.lasts
      ∙ sym (ap (λ (j : History). j.lease) gains.journal);
  live = λ q.
      open_after happens is_open laws.open_follows case client seen now book book' leads q
      ∙ ap (λ b. b && not (is_gone case && (q == client))) (agrees.live q)
      ∙ sym (stay.live q);
  past = λ q h.
      stay.once q
      (agrees.past q (sym (opened_after happens was_opened laws.opened_follows case client seen now book book' leads q) ∙ h));
}
