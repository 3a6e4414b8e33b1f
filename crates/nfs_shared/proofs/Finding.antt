-- What the seats found of leases, as the deeds of their keeper have it.
use Rattle.std.proofs.Common.{◌≡◌, ◌⊎◌, ℕ, zero, ◌&&◌, ◌==◌, cond, List, [], ◌∷◌, ◌++◌, Bool, true, false, true≢false, Contains, refl, sym, subst, inl, inr, ⊎_elim, arith, eqb-true}
use Rattle.std.proofs.lemmas.List.Elements.{Contains-append_left, Contains-append_right}
use Rattle.nfs_leases.specs.BookEvent.{BookEvent}
use Rattle.nfs_leases.specs.BookEvent as book
use Rattle.nfs_leases.specs.declared.closing.Closing.TheVariants as closing
use Rattle.nfs_owners.specs.Slots.{is_earlier}
use Rattle.nfs_shared.specs.Deeds.{deeds_by, keeper_deeds}
use Rattle.nfs_shared.specs.Ends.{AllBorneOut, AllHeeded, HasEnded, IsBorneOutBy, IsHeeded, WasOpened}
use Rattle.nfs_shared.specs.Seats.{SeatView}
use Rattle.nfs_shared.specs.laws.Keeping.{at_more}
use Rattle.nfs_shared.proofs.Meeting.{contains_more, first_or_later, none_of}
use Rattle.nfs_words.specs.Deeds.{deeds_of, event, is_opening, is_standing, opens_later, phase_of, was_opened}
use Rattle.nfs_words.specs.SeatLaws.{IsBorneOut}
use Rattle.nfs_words.specs.Words.{closed_part}
use Rattle.nfs_words.specs.declared.event.Deed.{Deed}
use Rattle.nfs_words.specs.declared.event.Deed.TheVariants.{Look, Renew, Open, Close, Retire}
use Rattle.nfs_words.specs.declared.event.Event.{Event}

-- what an event of the keeper did is among its deeds
did : (client : ℕ) (deed : Deed) (done : BookEvent) → Contains (deeds_by client deed) done → (own : List Event)
    → Contains own (event client deed) → Contains (keeper_deeds own) done
did client deed done by [] h = absurd (none_of _ h)
did client deed done by (e ∷ own) h =
    ⊎_elim
    (λ (here : e ≡ event client deed).
    Contains-append_right (keeper_deeds own) (deeds_by e.client e.deed) done
    (subst (λ (x : Event). Contains (deeds_by x.client x.deed) done) (sym here) by))
    (λ (older : Contains own (event client deed)). Contains-append_left (keeper_deeds own) (deeds_by e.client e.deed) done (did client deed done by own older))
    (first_or_later e (event client deed) own h)

-- an end stays one
ended_more : (client : ℕ) (deeds more : List BookEvent) → HasEnded deeds client → HasEnded (deeds ++ more) client
ended_more client deeds more h =
    ⊎_elim
    (λ (close : (seen now : ℕ) × Contains deeds (book.Close client seen now closing.Closed)). inl (close.0, close.1, Contains-append_left deeds more _ close.2))
    (λ (rest : Contains deeds (book.Retire client) ⊎ ((later : ℕ) × (is_earlier client later ≡ true) × WasOpened deeds later)).
    ⊎_elim
    (λ (retire : Contains deeds (book.Retire client)). inr (inl (Contains-append_left deeds more _ retire)))
    (λ (open_later : (later : ℕ) × (is_earlier client later ≡ true) × WasOpened deeds later). inr (inr (open_later.0, open_later.1, (open_later.2.0, Contains-append_left deeds more _ open_later.2.1))))
    rest)
    h

-- a lease that was opened by the keeper's events, or a later one of whose slot was, and that isn't open, has ended
ended_by : (client : ℕ) (own : List Event) → was_opened (phase_of (deeds_of client own)) ≡ true
    → is_standing (phase_of (deeds_of client own)) ≡ false → HasEnded (keeper_deeds own) client
ended_by client [] opened shut = absurd (true≢false (sym opened))
ended_by client (e ∷ own) opened shut = by_client (ended_by client own) (e.client == client) refl (opens_later client e) refl opened shut
  where
    Rest : Type 0
    Rest = was_opened (phase_of (deeds_of client own)) ≡ true → is_standing (phase_of (deeds_of client own)) ≡ false → HasEnded (keeper_deeds own) client

    older : HasEnded (keeper_deeds own) client → HasEnded (keeper_deeds (e ∷ own)) client
    older h = ended_more client (keeper_deeds own) (deeds_by e.client e.deed) h

    newest : (deed : Deed) (done : BookEvent) → e.deed ≡ deed → Contains (deeds_by e.client deed) done
        → Contains (keeper_deeds (e ∷ own)) done
    newest deed done is h =
        Contains-append_right (keeper_deeds own) (deeds_by e.client e.deed) done
        (subst (λ (d : Deed). Contains (deeds_by e.client d) done) (sym is) h)

    here : (x : BookEvent) → Contains (x ∷ []) x
    here x = (zero, omega arith, refl)

    by_deed : Rest → e.client ≡ client → (deed : Deed) → e.deed ≡ deed
        → was_opened (phase_of (deed ∷ deeds_of client own)) ≡ true
        → is_standing (phase_of (deed ∷ deeds_of client own)) ≡ false → HasEnded (keeper_deeds (e ∷ own)) client
    by_deed rest same (Look part) is o s = older (rest o s)
    by_deed rest same (Renew moment found) is o s = older (rest o s)
    by_deed rest same (Open moment) is o s = absurd (true≢false s)
    by_deed rest same (Close seen now true) is o s = inl (seen, now, subst (λ (c : ℕ). Contains (keeper_deeds (e ∷ own)) (book.Close c seen now closing.Closed)) same (newest (Close seen now true) (book.Close e.client seen now closing.Closed) is (here (book.Close e.client seen now closing.Closed))))
    by_deed rest same (Close seen now false) is o s = older (rest o s)
    by_deed rest same Retire is o s = inr (inl (subst (λ (c : ℕ). Contains (keeper_deeds (e ∷ own)) (book.Retire c)) same (newest Retire (book.Retire e.client) is (here (book.Retire e.client)))))

    by_open : (deed : Deed) → e.deed ≡ deed → (is_opening deed && is_earlier client e.client) ≡ true
        → HasEnded (keeper_deeds (e ∷ own)) client
    by_open (Look part) is h = absurd (true≢false (sym h))
    by_open (Renew moment found) is h = absurd (true≢false (sym h))
    by_open (Open moment) is h = inr (inr (e.client, h, (moment, newest (Open moment) (book.Open e.client moment) is (here (book.Open e.client moment)))))
    by_open (Close seen now done) is h = absurd (true≢false (sym h))
    by_open Retire is h = absurd (true≢false (sym h))

    by_client : Rest → (b : Bool) → (e.client == client) ≡ b → (p : Bool) → opens_later client e ≡ p
        → was_opened (phase_of (cond b (e.deed ∷ deeds_of client own) (cond p (Retire ∷ deeds_of client own) (deeds_of client own)))) ≡ true
        → is_standing (phase_of (cond b (e.deed ∷ deeds_of client own) (cond p (Retire ∷ deeds_of client own) (deeds_of client own)))) ≡ false
        → HasEnded (keeper_deeds (e ∷ own)) client
    by_client rest true is p of o s = by_deed rest (eqb-true e.client client is) e.deed refl o s
    by_client rest false is true of o s = by_open e.deed refl of
    by_client rest false is false of o s = older (rest o s)

-- what the keeper's events bear out its deeds do
pub borne_out_by : (events keeper : List Event) → IsBorneOut keeper events → IsBorneOutBy (keeper_deeds keeper) events
borne_out_by events keeper h = record {
  renewed = λ client moment found has.
      let o = h.renewed client moment found has in
      (o.0, did client (Open o.0) (book.Open client o.0) (zero, omega arith, refl) keeper o.1);
  closed = λ client found. let both = h.closed client found in ended_by client keeper both.0 both.1;
}

-- and what was found before one event more
pub borne_out_older : (deeds : List BookEvent) (newest : Event) (events : List Event) → IsBorneOutBy deeds (newest ∷ events)
    → IsBorneOutBy deeds events
borne_out_older deeds newest events h = record {
  renewed = λ client moment found has. h.renewed client moment found (contains_more _ newest events has);
  closed = λ client found. h.closed client
      (⊎_elim
      (λ (look : Contains events (event client (Look closed_part))). inl (contains_more _ newest events look))
      (λ (renew : (moment : ℕ) × Contains events (event client (Renew moment closed_part))). inr (renew.0, contains_more _ newest events renew.1))
      found);
}

pub borne_out_more : (deeds : List BookEvent) (seats : List SeatView) (seat : SeatView) → AllBorneOut deeds seats
    → IsBorneOutBy deeds seat.leases.view.own → AllBorneOut deeds (seats ++ seat ∷ [])
borne_out_more deeds seats seat h its k s at =
    ⊎_elim (λ old. h k s old) (λ new. subst (λ (x : SeatView). IsBorneOutBy deeds x.leases.view.own) new.1 its) (at_more seats seat k s at)

pub heeded_more : (seats : List SeatView) (seat : SeatView) → AllHeeded seats → IsHeeded seat.leases.view.own
    → AllHeeded (seats ++ seat ∷ [])
heeded_more seats seat h its k s at =
    ⊎_elim (λ old. h k s old) (λ new. subst (λ (x : SeatView). IsHeeded x.leases.view.own) new.1 its) (at_more seats seat k s at)
