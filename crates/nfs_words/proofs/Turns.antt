-- What the keeper's events in turn say: of the openings that they have, and of a client's own events alone.
use Rattle.std.proofs.Common.{◌≡◌, ◌⊎◌, ℕ, zero, suc, ◌+◌, ◌*◌, ◌<◌, ◌≤◌, ◌==◌, ◌&&◌, cond, List, [], ◌∷◌, Bool, true, false, true≢false, Contains, refl, sym, ap, ◌∙◌, subst, inl, inr, ⊎_elim, arith, eq-eqb, eqb-true}
use Rattle.std.proofs.lemmas.Bool.Decides.{nat_tests}
use Rattle.nfs_owners.specs.Slots.{slot_of, generation_of, is_earlier}
use Rattle.nfs_words.specs.declared.event.Event.{Event}
use Rattle.nfs_words.specs.declared.event.Deed.{Deed}
use Rattle.nfs_words.specs.declared.event.Deed.TheVariants.{Look, Renew, Open, Close, Retire}
use Rattle.nfs_words.specs.Deeds.{HasOpened, event, deeds_of, own_deeds_of, opens_later, is_opening, is_ending, count_opened, AreInTurn, phase_of, was_opened, is_standing}
use Rattle.nfs_words.specs.Rules.{HasOpenedFrom}
use Rattle.nfs_words.specs.laws.Following.{retired_opened, retired_not_standing}

pub in_more : (e x : Event) (events : List Event) → Contains events e → Contains (x ∷ events) e
in_more e x events h = (suc h.0, omega (arith, h.1), h.2)

pub contains_cons : (x : Event) (xs : List Event) (y : Event) → Contains (x ∷ xs) y → (x ≡ y) ⊎ Contains xs y
contains_cons x xs y (zero, low, e) = inl e
contains_cons x xs y (suc k, low, e) = inr (k, omega arith, e)

later_more : (client : ℕ) (x : Event) (events : List Event) → HasOpenedFrom client events
    → HasOpenedFrom client (x ∷ events)
later_more client x events h = (h.0, h.1, h.2, (h.3.0, in_more (event h.0 (Open h.3.0)) x events h.3.1))

-- an opening is the event of it
opening_has : (e : Event) → is_opening e.deed ≡ true → (moment : ℕ) × (e ≡ event e.client (Open moment))
opening_has e h = by_deed e.client e.deed h
  where
    by_deed : (client : ℕ) (deed : Deed) → is_opening deed ≡ true
        → (moment : ℕ) × (event client deed ≡ event client (Open moment))
    by_deed client (Look w) x = absurd (true≢false (sym x))
    by_deed client (Renew moment old) x = absurd (true≢false (sym x))
    by_deed client (Open moment) x = (moment, refl)
    by_deed client (Close seen now done) x = absurd (true≢false (sym x))
    by_deed client Retire x = absurd (true≢false (sym x))

later_is : (client d : ℕ) → is_earlier client d ≡ true → (slot_of d ≡ slot_of client) × (client ≤ d)
later_is client d h = (grind (arith, nat_tests), grind (arith, nat_tests))

-- Who was opened or passed over: it, or a later one of its slot, has an opening
pub opened_has : (events : List Event) → AreInTurn events → (client : ℕ)
    → was_opened (phase_of (deeds_of client events)) ≡ true → HasOpenedFrom client events
opened_has [] turn client h = absurd (true≢false (sym h))
opened_has (e ∷ events) turn client h = by_client (λ k. opened_has events turn.2 client k) (e.client == client) refl (opens_later client e) refl h
  where
    newest : is_opening e.deed ≡ true → slot_of e.client ≡ slot_of client → client ≤ e.client
        → HasOpenedFrom client (e ∷ events)
    newest opening slot up = let o = opening_has e opening in (e.client, slot, up, (o.0, (zero, omega arith, o.1)))

    by_deed : (was_opened (phase_of (deeds_of client events)) ≡ true → HasOpenedFrom client events)
        → e.client ≡ client → (deed : Deed) → e.deed ≡ deed
        → was_opened (phase_of (deed ∷ deeds_of client events)) ≡ true → HasOpenedFrom client (e ∷ events)
    by_deed ih same (Look w) is k = later_more client e events (ih k)
    by_deed ih same (Renew moment old) is k = later_more client e events (ih k)
    by_deed ih same (Open moment) is k = newest (ap is_opening is) (ap slot_of same) (omega (arith, same))
    by_deed ih same (Close seen now true) is k = later_more client e events (ih (subst (λ (n : ℕ). was_opened (phase_of (deeds_of n events)) ≡ true) same (turn.1 (ap is_ending is))))
    by_deed ih same (Close seen now false) is k = later_more client e events (ih k)
    by_deed ih same Retire is k = later_more client e events (ih (subst (λ (n : ℕ). was_opened (phase_of (deeds_of n events)) ≡ true) same (turn.1 (ap is_ending is))))

    by_client : (was_opened (phase_of (deeds_of client events)) ≡ true → HasOpenedFrom client events)
        → (b : Bool) → (e.client == client) ≡ b → (p : Bool) → opens_later client e ≡ p
        → was_opened (phase_of (cond b (e.deed ∷ deeds_of client events) (cond p (Retire ∷ deeds_of client events) (deeds_of client events)))) ≡ true
        → HasOpenedFrom client (e ∷ events)
    by_client ih true same p is k = by_deed ih (eqb-true e.client client same) e.deed refl k
    by_client ih false other true is k = by_pass (is_opening e.deed) refl (is_earlier client e.client) refl is
      where
        by_pass : (o : Bool) → is_opening e.deed ≡ o → (l : Bool) → is_earlier client e.client ≡ l
            → (o && l) ≡ true → HasOpenedFrom client (e ∷ events)
        by_pass true opening true after x = let l = later_is client e.client after in newest opening l.0 l.1
        by_pass true opening false after x = absurd (true≢false (sym x))
        by_pass false opening l after x = absurd (true≢false (sym x))
    by_client ih false other false is k = later_more client e events (ih k)

-- and the other way
pub has_opened : (events : List Event) (client : ℕ) → HasOpenedFrom client events
    → was_opened (phase_of (deeds_of client events)) ≡ true
has_opened [] client h = absurd (omega (arith, h.3.1.1))
has_opened (e ∷ events) client h = by_place (λ k. has_opened events client k) (contains_cons e events (event h.0 (Open h.3.0)) h.3.1)
  where
    stays : (deed : Deed) (deeds : List Deed) → was_opened (phase_of deeds) ≡ true
        → was_opened (phase_of (deed ∷ deeds)) ≡ true
    stays (Look w) deeds x = x
    stays (Renew moment old) deeds x = x
    stays (Open moment) deeds x = refl
    stays (Close seen now true) deeds x = refl
    stays (Close seen now false) deeds x = x
    stays Retire deeds x = retired_opened (phase_of deeds)

    by_tests : (b p : Bool) (deed : Deed) (deeds : List Deed) → was_opened (phase_of deeds) ≡ true
        → was_opened (phase_of (cond b (deed ∷ deeds) (cond p (Retire ∷ deeds) deeds))) ≡ true
    by_tests true p deed deeds x = stays deed deeds x
    by_tests false true deed deeds x = retired_opened (phase_of deeds)
    by_tests false false deed deeds x = x

    here : (d moment : ℕ) → slot_of d ≡ slot_of client → client ≤ d
        → was_opened (phase_of (deeds_of client (event d (Open moment) ∷ events))) ≡ true
    here d moment slot up = by_same (d == client) refl (is_earlier client d) refl
      where
        by_same : (b : Bool) → (d == client) ≡ b → (l : Bool) → is_earlier client d ≡ l
            → was_opened (phase_of (cond b (Open moment ∷ deeds_of client events) (cond l (Retire ∷ deeds_of client events) (deeds_of client events)))) ≡ true
        by_same true x l y = refl
        by_same false x true y = retired_opened (phase_of (deeds_of client events))
        by_same false x false y = absurd (grind (arith, nat_tests))

    by_place : (HasOpenedFrom client events → was_opened (phase_of (deeds_of client events)) ≡ true)
        → (e ≡ event h.0 (Open h.3.0)) ⊎ Contains events (event h.0 (Open h.3.0))
        → was_opened (phase_of (deeds_of client (e ∷ events))) ≡ true
    by_place ih x =
        ⊎_elim
        (λ (is : e ≡ event h.0 (Open h.3.0)). subst (λ (y : Event). was_opened (phase_of (deeds_of client (y ∷ events))) ≡ true) (sym is) (here h.0 h.3.0 h.1 h.2))
        (λ (rest : Contains events (event h.0 (Open h.3.0))). by_tests (e.client == client) (opens_later client e) e.deed (deeds_of client events) (ih (h.0, h.1, h.2, (h.3.0, rest))))
        x

-- the last client of a slot that was opened
pub count_has : (s n : ℕ) (events : List Event) → s < 256 → count_opened s events ≡ suc n
    → HasOpened (n * 256 + s) events
count_has s n [] low h = absurd (omega (arith, h))
count_has s n (e ∷ events) low h = by_event (λ k. count_has s n events low k) (is_opening e.deed) refl (slot_of e.client == s) refl h
  where
    more : HasOpened (n * 256 + s) events → HasOpened (n * 256 + s) (e ∷ events)
    more x = (x.0, in_more (event (n * 256 + s) (Open x.0)) e events x.1)

    by_event : (count_opened s events ≡ suc n → HasOpened (n * 256 + s) events) → (o : Bool)
        → is_opening e.deed ≡ o → (t : Bool) → (slot_of e.client == s) ≡ t
        → cond (o && t) (generation_of e.client + 1) (count_opened s events) ≡ suc n
        → HasOpened (n * 256 + s) (e ∷ events)
    by_event ih true opening true slot k =
        let o = opening_has e opening in
        let is : e.client ≡ n * 256 + s = grind (arith, nat_tests) in
        (o.0, (zero, omega arith, o.1 ∙ ap (λ (client : ℕ). event client (Open o.0)) is))
    by_event ih true opening false slot k = more (ih k)
    by_event ih false opening t slot k = more (ih k)

-- A client that was opened itself is live by its own events alone exactly where it is by all of the slot's
pub alone_standing : (events : List Event) → AreInTurn events → (client : ℕ)
    → was_opened (phase_of (own_deeds_of client events)) ≡ true
    → is_standing (phase_of (own_deeds_of client events)) ≡ is_standing (phase_of (deeds_of client events))
alone_standing [] turn client h = refl
alone_standing (e ∷ events) turn client h = by_client (λ k. alone_standing events turn.2 client k) (e.client == client) refl (opens_later client e) refl h
  where
    by_deed : (was_opened (phase_of (own_deeds_of client events)) ≡ true → is_standing (phase_of (own_deeds_of client events)) ≡ is_standing (phase_of (deeds_of client events)))
        → (deed : Deed) → was_opened (phase_of (deed ∷ own_deeds_of client events)) ≡ true
        → is_standing (phase_of (deed ∷ own_deeds_of client events)) ≡ is_standing (phase_of (deed ∷ deeds_of client events))
    by_deed ih (Look w) k = ih k
    by_deed ih (Renew moment old) k = ih k
    by_deed ih (Open moment) k = refl
    by_deed ih (Close seen now true) k = refl
    by_deed ih (Close seen now false) k = ih k
    by_deed ih Retire k = retired_not_standing (phase_of (own_deeds_of client events)) ∙ sym (retired_not_standing (phase_of (deeds_of client events)))

    idle : opens_later client e ≡ true → is_standing (phase_of (deeds_of client events)) ≡ false
    idle is = by_pass (is_opening e.deed) refl (is_earlier client e.client) refl is
      where
        by_pass : (o : Bool) → is_opening e.deed ≡ o → (l : Bool) → is_earlier client e.client ≡ l
            → (o && l) ≡ true → is_standing (phase_of (deeds_of client events)) ≡ false
        by_pass true opening true after x = let l = later_is client e.client after in (turn.0 opening).0 client (sym l.0)
        by_pass true opening false after x = absurd (true≢false (sym x))
        by_pass false opening l after x = absurd (true≢false (sym x))

    by_client : (was_opened (phase_of (own_deeds_of client events)) ≡ true → is_standing (phase_of (own_deeds_of client events)) ≡ is_standing (phase_of (deeds_of client events)))
        → (b : Bool) → (e.client == client) ≡ b → (p : Bool) → opens_later client e ≡ p
        → was_opened (phase_of (cond b (e.deed ∷ own_deeds_of client events) (own_deeds_of client events))) ≡ true
        → is_standing (phase_of (cond b (e.deed ∷ own_deeds_of client events) (own_deeds_of client events))) ≡ is_standing (phase_of (cond b (e.deed ∷ deeds_of client events) (cond p (Retire ∷ deeds_of client events) (deeds_of client events))))
    by_client ih true same p is k = by_deed ih e.deed k
    by_client ih false other true is k = ih k ∙ idle is ∙ sym (retired_not_standing (phase_of (deeds_of client events)))
    by_client ih false other false is k = ih k

-- what was opened is so by its own events
pub has_own : (events : List Event) (client : ℕ) → HasOpened client events
    → was_opened (phase_of (own_deeds_of client events)) ≡ true
has_own [] client h = absurd (omega (arith, h.1.1))
has_own (e ∷ events) client h = by_place (λ k. has_own events client k) (contains_cons e events (event client (Open h.0)) h.1)
  where
    stays : (deed : Deed) (deeds : List Deed) → was_opened (phase_of deeds) ≡ true
        → was_opened (phase_of (deed ∷ deeds)) ≡ true
    stays (Look w) deeds x = x
    stays (Renew moment old) deeds x = x
    stays (Open moment) deeds x = refl
    stays (Close seen now true) deeds x = refl
    stays (Close seen now false) deeds x = x
    stays Retire deeds x = retired_opened (phase_of deeds)

    by_test : (b : Bool) (deed : Deed) (deeds : List Deed) → was_opened (phase_of deeds) ≡ true
        → was_opened (phase_of (cond b (deed ∷ deeds) deeds)) ≡ true
    by_test true deed deeds x = stays deed deeds x
    by_test false deed deeds x = x

    here : was_opened (phase_of (own_deeds_of client (event client (Open h.0) ∷ events))) ≡ true
    here = ap (λ (b : Bool). was_opened (phase_of (cond b (Open h.0 ∷ own_deeds_of client events) (own_deeds_of client events)))) (eq-eqb client client refl)

    by_place : (HasOpened client events → was_opened (phase_of (own_deeds_of client events)) ≡ true)
        → (e ≡ event client (Open h.0)) ⊎ Contains events (event client (Open h.0))
        → was_opened (phase_of (own_deeds_of client (e ∷ events))) ≡ true
    by_place ih x =
        ⊎_elim (λ (is : e ≡ event client (Open h.0)). subst (λ (y : Event). was_opened (phase_of (own_deeds_of client (y ∷ events))) ≡ true) (sym is) here)
        (λ (rest : Contains events (event client (Open h.0))). by_test (e.client == client) e.deed (own_deeds_of client events) (ih (h.0, rest)))
        x

-- a lease that is open has its opening
pub standing_opened : (events : List Event) (client : ℕ)
    → is_standing (phase_of (deeds_of client events)) ≡ true → HasOpened client events
standing_opened [] client h = absurd (true≢false (sym h))
standing_opened (e ∷ events) client h = by_client (λ k. standing_opened events client k) (e.client == client) refl (opens_later client e) h
  where
    more : HasOpened client events → HasOpened client (e ∷ events)
    more x = (x.0, in_more (event client (Open x.0)) e events x.1)

    by_deed : (is_standing (phase_of (deeds_of client events)) ≡ true → HasOpened client events)
        → e.client ≡ client → (deed : Deed) → e.deed ≡ deed
        → is_standing (phase_of (deed ∷ deeds_of client events)) ≡ true → HasOpened client (e ∷ events)
    by_deed ih same (Look w) is k = more (ih k)
    by_deed ih same (Renew moment old) is k = more (ih k)
    by_deed ih same (Open moment) is k = (moment, (zero, omega arith, ap (λ (n : ℕ). event n e.deed) same ∙ ap (event client) is))
    by_deed ih same (Close seen now true) is k = absurd (true≢false (sym k))
    by_deed ih same (Close seen now false) is k = more (ih k)
    by_deed ih same Retire is k = absurd (true≢false (sym k ∙ retired_not_standing (phase_of (deeds_of client events))))

    by_client : (is_standing (phase_of (deeds_of client events)) ≡ true → HasOpened client events) → (b : Bool)
        → (e.client == client) ≡ b → (p : Bool)
        → is_standing (phase_of (cond b (e.deed ∷ deeds_of client events) (cond p (Retire ∷ deeds_of client events) (deeds_of client events)))) ≡ true
        → HasOpened client (e ∷ events)
    by_client ih true same p k = by_deed ih (eqb-true e.client client same) e.deed refl k
    by_client ih false other true k = absurd (true≢false (sym k ∙ retired_not_standing (phase_of (deeds_of client events))))
    by_client ih false other false k = more (ih k)
