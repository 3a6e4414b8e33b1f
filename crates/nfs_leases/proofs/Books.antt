-- A book that follows what an entry did is again the book of the core's clients.
use Rattle.std.proofs.Common.{◌≡◌, ℕ, eq-eqb, Bool, true, false, not, ◌==◌, ◌&&◌, ◌||◌, [], ◌∷◌, Result, Ok, Err, refl, sym, ap, ◌∙◌}
use Rattle.std.proofs.lemmas.Bool.{eqb-true}
use Rattle.std.specs.Prelude.{IfOk, IsFalse, IsTrue, OnErr}
use Rattle.nfs_core.specs.Events.{EndsNoClient, entry_by}
use Rattle.nfs_core.specs.LiveClients.{CanCome, EventsFollow, LiveFollows}
use Rattle.nfs_core.specs.Server.{AreAlike, Enters, IsLawful, Server}
use Rattle.nfs_core.specs.declared.core_error.CoreError.{CoreError}
use Rattle.nfs_core.specs.declared.event.Event.{Event}
use Rattle.nfs_owners.specs.ClientLaws.{HaveSameClients}
use Rattle.nfs_owners.specs.LiveClients.{can_become_live}
use Rattle.nfs_owners.specs.Registry.{Registry, is_live}
use Rattle.nfs_owners.specs.Slots.{is_earlier}
use Rattle.nfs_owners.specs.declared.live_change.LiveChange.{LiveChange}
use Rattle.nfs_owners.specs.declared.live_change.LiveChange.TheVariants as changes
use Rattle.nfs_leases.specs.BookEvent.{BookEvent, AllHappen, Open, Retire}
use Rattle.nfs_leases.specs.BookOf.{CanFollow, CanOpen, IsBookOf, events_of_change}
use Rattle.nfs_leases.proofs.Comes.{AreLaws, lease_after}
use Rattle.nfs_leases.proofs.Generations.{EarlierStayGone}
use Rattle.nfs_state.specs.State.{History}
use Rattle.nfs_state.specs.Stored.{Stored, meaning}

fresh_by : (opened can : Bool) → (IsTrue opened → IsFalse can) → IsTrue can → IsFalse opened
fresh_by true can h k = sym k ∙ h refl
fresh_by false can h k = refl

-- who comes never had a lease, nor had a later one of its slot, and none of its slot is open
can_open : (is_open was_opened : ℕ → Bool) (lease comes : ℕ) (old : Server)
    → IsBookOf is_open was_opened lease old
    → CanCome comes old.stored.clients
    → CanOpen is_open was_opened comes
can_open is_open was_opened lease comes old book can = (
  fresh_by (was_opened comes) (can_become_live comes old.stored.clients) (book.past comes) can.0,
  λ other same. book.live other ∙ can.2 other same,
)

-- and who goes has a lease
pub can_follow : (change : LiveChange) (is_open was_opened : ℕ → Bool) (lease : ℕ) (old : Server) (new : Registry)
    → ((client : ℕ) → is_open client ≡ true → was_opened client ≡ true)
    → IsBookOf is_open was_opened lease old
    → LiveFollows change old.stored.clients new
    → CanFollow is_open was_opened change
can_follow changes.Same is_open was_opened lease old new known book follows = tt
can_follow (changes.Comes comes) is_open was_opened lease old new known book follows =
    can_open is_open was_opened lease comes old book follows.fits
can_follow (changes.Replaces comes goes) is_open was_opened lease old new known book follows = (
  can_open is_open was_opened lease comes old book follows.fits.0,
  known goes (book.live goes ∙ follows.fits.1),
)
can_follow (changes.Goes goes) is_open was_opened lease old new known book follows =
    known goes (book.live goes ∙ follows.fits)

or_swap : (a b : Bool) → (a || b) ≡ (b || a)
or_swap true true = refl
or_swap true false = refl
or_swap false true = refl
or_swap false false = refl

-- an opening and then a retiring, of two clients
live_by : (was here gone : Bool) → (here ≡ true → gone ≡ true → ⊥)
    → ((was || here) && not gone) ≡ (here || (was && not gone))
live_by was true true apart = absurd (apart refl refl)
live_by true true false apart = refl
live_by false true false apart = refl
live_by true false gone apart = refl
live_by false false gone apart = refl

-- who comes isn't the one who goes: a client that has a lease can't become live
apart_by : (q comes goes : ℕ) (can : ℕ → Bool) → IsTrue (can comes) → IsFalse (can goes)
    → (q == comes) ≡ true → (q == goes) ≡ true → ⊥
apart_by q comes goes can comes_can goes_cannot here gone =
    let one : q ≡ comes = eqb-true q comes here in
    let other : q ≡ goes = eqb-true q goes gone in
    cc (ap can one, ap can other, comes_can, goes_cannot)

-- whose lease was opened can't become live, after a change that opens none
past_kept : (can can' live' : Bool) → IsFalse can → (IsTrue can' → IsTrue can × IsFalse live') → IsFalse can'
past_kept can false live' past once = refl
past_kept can true live' past once = sym (once refl).0 ∙ past

-- and after one that opens a lease, nor can one of an earlier generation of its slot
past_by : (was here earlier can can' live' : Bool) → (IsTrue was → IsFalse can)
    → (IsTrue can' → IsTrue can × IsFalse live') → (here ≡ true → live' ≡ true) → (earlier ≡ true → IsFalse can')
    → (was || here || earlier) ≡ true → IsFalse can'
past_by was here earlier can false live' past once came gone h = refl
past_by true here earlier can true live' past once came gone h = sym (once refl).0 ∙ past refl
past_by false true earlier can true live' past once came gone h = sym (came refl) ∙ (once refl).1
past_by false false true can true live' past once came gone h = gone refl
past_by false false false can true live' past once came gone h = cc

module _ {Book : Type 0} (happens : Book → BookEvent → Book → Type 0) (lease : Book → ℕ)
    (is_open was_opened : Book → ℕ → Bool) (laws : AreLaws happens lease is_open was_opened)
    (known : (book : Book) (client : ℕ) → is_open book client ≡ true → was_opened book client ≡ true) where
  pub book_follows : (change : LiveChange) (moment : ℕ) (old new : Server) (book book' : Book)
      → new.journal.lease ≡ old.journal.lease
      → LiveFollows change old.stored.clients new.stored.clients
      → EarlierStayGone new.stored.clients
      → AllHappen happens book (events_of_change change moment) book'
      → IsBookOf (is_open book) (was_opened book) (lease book) old
      → IsBookOf (is_open book') (was_opened book') (lease book') new
  book_follows changes.Same moment old new book book' same follows gone leads of = record {
    lasts = ap lease leads ∙ of.lasts ∙ sym same;
    live = λ q. ap (λ (b : Book). is_open b q) leads ∙ of.live q ∙ sym (follows.live q);
    past = λ q h.
        past_kept (can_become_live q old.stored.clients) (can_become_live q new.stored.clients)
        (is_live q new.stored.clients)
        (of.past q (sym (ap (λ (b : Book). was_opened b q) leads) ∙ h))
        (follows.once q);
  }
  book_follows (changes.Comes comes) moment old new book book' same follows gone leads of = record {
    lasts =
        lease_after happens lease laws.keeps_lease (Open comes moment ∷ []) book book' leads ∙ of.lasts ∙ sym same;
    live = λ q.
        ap (λ (b : Book). is_open b q) leads.2
        ∙ laws.open_follows book (Open comes moment) leads.0 leads.1 q
        ∙ ap (λ (b : Bool). b || (q == comes)) (of.live q)
        ∙ or_swap (is_live q old.stored.clients) (q == comes)
        ∙ sym (follows.live q);
    past = λ q h.
        past_by (was_opened book q) (q == comes) (is_earlier q comes) (can_become_live q old.stored.clients)
        (can_become_live q new.stored.clients) (is_live q new.stored.clients) (of.past q) (follows.once q)
        (λ here. follows.live q ∙ ap (λ (b : Bool). b || is_live q old.stored.clients) here)
        (gone q comes
        (follows.live comes ∙ ap (λ (b : Bool). b || is_live comes old.stored.clients) (eq-eqb comes comes refl)))
        (sym (laws.opened_follows book (Open comes moment) leads.0 leads.1 q)
        ∙ sym (ap (λ (b : Book). was_opened b q) leads.2)
        ∙ h);
  }
  book_follows (changes.Replaces comes goes) moment old new book book' same follows gone leads of =
      let mid = leads.0 in
      let last = leads.2.0 in
      record {
        lasts =
            lease_after happens lease laws.keeps_lease (Open comes moment ∷ Retire goes ∷ []) book book' leads
            ∙ of.lasts
            ∙ sym same;
        live = λ q.
            ap (λ (b : Book). is_open b q) leads.2.2
            ∙ laws.open_follows mid (Retire goes) last leads.2.1 q
            ∙ ap (λ (b : Bool). b && not (q == goes))
            (laws.open_follows book (Open comes moment) mid leads.1 q
            ∙ ap (λ (b : Bool). b || (q == comes)) (of.live q))
            ∙ live_by (is_live q old.stored.clients) (q == comes) (q == goes)
            (apart_by q comes goes (λ (n : ℕ). can_become_live n old.stored.clients) follows.fits.0.0
            (of.past goes (known book goes (of.live goes ∙ follows.fits.1))))
            ∙ sym (follows.live q);
        past = λ q h.
            past_by (was_opened book q) (q == comes) (is_earlier q comes) (can_become_live q old.stored.clients)
            (can_become_live q new.stored.clients) (is_live q new.stored.clients) (of.past q) (follows.once q)
            (λ here.
            follows.live q
            ∙ ap (λ (b : Bool). b || (is_live q old.stored.clients && not (q == goes))) here)
            (gone q comes
            (follows.live comes
            ∙ ap (λ (b : Bool). b || (is_live comes old.stored.clients && not (comes == goes))) (eq-eqb comes comes refl)))
            (sym (laws.opened_follows book (Open comes moment) mid leads.1 q)
            ∙ sym (laws.opened_follows mid (Retire goes) last leads.2.1 q)
            ∙ sym (ap (λ (b : Book). was_opened b q) leads.2.2)
            ∙ h);
      }
  book_follows (changes.Goes goes) moment old new book book' same follows gone leads of = record {
    lasts =
        lease_after happens lease laws.keeps_lease (Retire goes ∷ []) book book' leads ∙ of.lasts ∙ sym same;
    live = λ q.
        ap (λ (b : Book). is_open b q) leads.2
        ∙ laws.open_follows book (Retire goes) leads.0 leads.1 q
        ∙ ap (λ (b : Bool). b && not (q == goes)) (of.live q)
        ∙ sym (follows.live q);
    past = λ q h.
        past_kept (can_become_live q old.stored.clients) (can_become_live q new.stored.clients)
        (is_live q new.stored.clients)
        (of.past q
        (sym (laws.opened_follows book (Retire goes) leads.0 leads.1 q)
        ∙ sym (ap (λ (b : Book). was_opened b q) leads.2)
        ∙ h))
        (follows.once q);
  }

-- a server that stores the same, with the same journal, has the same book
pub book_alike : (is_open was_opened : ℕ → Bool) (lease : ℕ) (old new : Server) → AreAlike old new
    → IsBookOf is_open was_opened lease old → IsBookOf is_open was_opened lease new
book_alike is_open was_opened lease old new alike of = record {
  lasts = of.lasts ∙ ap (λ (j : History). j.lease) (sym alike.0);
  live = λ q. of.live q ∙ ap (λ (s : Stored). is_live q s.clients) (sym alike.1);
  past = λ q h. ap (λ (s : Stored). can_become_live q s.clients) alike.1 ∙ of.past q h;
}

-- and so has one with the same clients
pub book_kept : (is_open was_opened : ℕ → Bool) (lease : ℕ) (old new : Server) → new.journal.lease ≡ old.journal.lease
    → HaveSameClients old.stored.clients new.stored.clients
    → IsBookOf is_open was_opened lease old → IsBookOf is_open was_opened lease new
book_kept is_open was_opened lease old new same clients of = record {
  lasts = of.lasts ∙ sym same;
  live = λ q. of.live q ∙ sym (clients.live q);
  past = λ q h. clients.can_come q ∙ of.past q h;
}

-- An event that ends no client keeps the book, and so does one that isn't entered.
pub book_entered : EventsFollow → (is_open was_opened : ℕ → Bool) (lease : ℕ) (event : Event) (old new : Server)
    (result : Result ℕ CoreError)
    → EndsNoClient event → IsLawful old → IfOk result (Enters old new (entry_by event)) → OnErr result (AreAlike old new)
    → IsBookOf is_open was_opened lease old → IsBookOf is_open was_opened lease new
book_entered follow is_open was_opened lease event old new (Ok number) ends lawful enters alike of =
    book_kept is_open was_opened lease old new (ap (λ (j : History). j.lease) enters.1)
    (follow old.journal (meaning old.stored) (meaning new.stored) event ends lawful enters.2) of
book_entered follow is_open was_opened lease event old new (Err error) ends lawful enters alike of =
    book_alike is_open was_opened lease old new alike of
