-- What the calls on a plain book mean for its leases.
use Rattle.std.specs.Prelude.{◌≡◌, ℕ, ◌<◌, ◌≤◌, Bool, true, false, not, cond, nat_lt, ◌&&◌, ◌||◌, ◌==◌, List, length, slice_index_or, slice_set, refl}
use Rattle.std.proofs.Common.{arith, ap, sym, ◌∙◌, true≢false, eqb-true, ltb-true}
use Rattle.std.proofs.lemmas.Bool.Decides.{nat_tests}
use Rattle.std.proofs.lemmas.Grind.{common_steps}
use Rattle.nfs_owners.specs.Slots.{generation_of, is_earlier, slot_of}
use Rattle.nfs_leases.specs.declared.lease_state.LeaseState.{LeaseState}
use Rattle.nfs_leases.specs.declared.lease_state.LeaseState.TheVariants as lease_state
use Rattle.nfs_leases.specs.declared.place.Place.{Place}
use Rattle.nfs_leases.specs.declared.closing.Closing.TheVariants as closing
use Rattle.nfs_leases.specs.BookEvent.{BookEvent, Look, Renew, Close, Open, Retire, shows_open, shows_opened, is_open_after, was_opened_after}
use Rattle.nfs_leases.specs.PlainBook.{PlainBook, empty_place, lease_in, place_of, lease_of, with_lease, is_open_in, was_opened_in, renewed_in, retired_in, Happens}
use Rattle.nfs_leases.specs.Renewals.{renewed}

-- The length of a lease.

renewed_lasts : (book : PlainBook) (client moment : ℕ) (state : LeaseState)
    → (renewed_in book client moment state).lease ≡ book.lease
renewed_lasts book client moment lease_state.Vacant = refl
renewed_lasts book client moment (lease_state.Open last) = refl
renewed_lasts book client moment lease_state.Closed = refl

either_lasts : (b : Bool) (book other : PlainBook) → other.lease ≡ book.lease → (cond b book other).lease ≡ book.lease
either_lasts true book other h = refl
either_lasts false book other h = h

pub keeps_lease : (old : PlainBook) (event : BookEvent) (new : PlainBook) → Happens old event new
    → new.lease ≡ old.lease
keeps_lease old (Look client shown) new h = ap (λ (b : PlainBook). b.lease) h.1
keeps_lease old (Renew client moment answer) new h =
    ap (λ (b : PlainBook). b.lease) h.1 ∙ renewed_lasts old client moment (lease_of old client)
keeps_lease old (Close client seen now closing.Closed) new h = ap (λ (b : PlainBook). b.lease) h.2
keeps_lease old (Close client seen now closing.Changed) new h = ap (λ (b : PlainBook). b.lease) h.1
keeps_lease old (Open client moment) new h = ap (λ (b : PlainBook). b.lease) h.3
keeps_lease old (Retire client) new h =
    ap (λ (b : PlainBook). b.lease) h.1 ∙ either_lasts _ old (with_lease old client lease_state.Closed) refl

-- What a place shows of a generation.

-- a lease that is open is of the place's generation
open_generation : (p : Place) (g : ℕ) → shows_open (lease_in p g) ≡ true → p.generation ≡ g
open_generation p g h = grind (arith, nat_tests)

-- a lease that was opened isn't of a later generation
opened_generation : (p : Place) (g : ℕ) → shows_opened (lease_in p g) ≡ true → g ≤ p.generation
opened_generation p g h = grind (arith, nat_tests)

-- a lease that wasn't opened isn't of an earlier generation
vacant_generation : (p : Place) (g : ℕ) → shows_opened (lease_in p g) ≡ false → p.generation ≤ g
vacant_generation p g h = grind (arith, nat_tests)

-- a lease of an earlier generation has ended
earlier_closed : (p : Place) (g : ℕ) → nat_lt g p.generation ≡ true → lease_in p g ≡ lease_state.Closed
earlier_closed p g h = grind (arith, nat_tests)

-- a lease that was opened has a place in the list
opened_place : (book : PlainBook) (client : ℕ) → was_opened_in book client ≡ true
    → slot_of client < length book.places
opened_place book client h = by_length (nat_lt (slot_of client) (length book.places)) refl
  where
    beyond : length book.places ≤ slot_of client → place_of book client ≡ empty_place
    beyond high = grind (arith, common_steps)

    vacant : (g : ℕ) → shows_opened (lease_in empty_place g) ≡ false
    vacant g = grind (arith, nat_tests)

    by_length : (b : Bool) → nat_lt (slot_of client) (length book.places) ≡ b → slot_of client < length book.places
    by_length true is = ltb-true _ _ is
    by_length false is =
        let high : length book.places ≤ slot_of client = grind (arith, nat_tests) in
        absurd (true≢false
        (sym h
        ∙ ap (λ (p : Place). shows_opened (lease_in p (generation_of client))) (beyond high)
        ∙ vacant (generation_of client)))

-- Tests on a lease, after one client's lease became another one.

-- a number is its slot and its generation
same_number : (q c : ℕ) → (q == c) ≡ ((slot_of q == slot_of c) && (generation_of q == generation_of c))
same_number q c = grind (arith, nat_tests)

-- the place of a slot, after that of one became this one
place_after : (places : List Place) (slot : ℕ) (place : Place) (q : ℕ) → slot < length places
    → slice_index_or (slice_set places slot place) q empty_place
    ≡ cond (q == slot) place (slice_index_or places q empty_place)
place_after places slot place q h = grind (arith, common_steps)

-- a test on what a place shows of a generation, once it has the lease of one that isn't earlier than the last
shown_after : (f : LeaseState → Bool) (p : Place) (g : ℕ) (state : LeaseState) (q : ℕ) → p.generation ≤ g
    → f (lease_in (record { generation = g; lease = state }) q)
    ≡ cond (q == g) (f state) (cond (nat_lt q g) (f lease_state.Closed) (f (lease_in p q)))
shown_after f p g state q h = grind (arith, nat_tests)

module _ (f : LeaseState → Bool) (book : PlainBook) (client : ℕ) (state : LeaseState) where
  -- by the slot of q: the client's lease is another one, those of earlier generations of its slot have ended
  by_slot : (q : ℕ) (b : Bool) → (slot_of q == slot_of client) ≡ b
      → (place_of book client).generation ≤ generation_of client
      → f (lease_in (cond b (record { generation = generation_of client; lease = state }) (place_of book q))
      (generation_of q))
      ≡ cond (b && (generation_of q == generation_of client)) (f state)
      (cond (b && nat_lt (generation_of q) (generation_of client)) (f lease_state.Closed) (f (lease_of book q)))
  by_slot q true is last =
      shown_after f (place_of book client) (generation_of client) state (generation_of q) last
      ∙ ap
      (λ (slot : ℕ).
      cond (generation_of q == generation_of client) (f state)
      (cond (nat_lt (generation_of q) (generation_of client)) (f lease_state.Closed)
      (f (lease_in (slice_index_or book.places slot empty_place) (generation_of q)))))
      (sym (eqb-true _ _ is))
  by_slot q false is last = refl

  -- a test on the lease of the client q
  tested_after : (q : ℕ) → slot_of client < length book.places
      → (place_of book client).generation ≤ generation_of client
      → f (lease_of (with_lease book client state) q)
      ≡ cond (q == client) (f state) (cond (is_earlier q client) (f lease_state.Closed) (f (lease_of book q)))
  tested_after q low last =
      ap (λ (p : Place). f (lease_in p (generation_of q)))
      (place_after book.places (slot_of client)
      (record { generation = generation_of client; lease = state }) (slot_of q) low)
      ∙ by_slot q (slot_of q == slot_of client) refl last
      ∙ ap (λ (b : Bool). cond b (f state) (cond (is_earlier q client) (f lease_state.Closed) (f (lease_of book q))))
      (sym (same_number q client))

  -- a test on the lease of the client q, if the client's lease was the last of its slot that was opened or retired
  tested_same : (q : ℕ) → slot_of client < length book.places
      → (place_of book client).generation ≡ generation_of client
      → f (lease_of (with_lease book client state) q) ≡ cond (q == client) (f state) (f (lease_of book q))
  tested_same q low last =
      tested_after q low (omega (arith, last))
      ∙ ap (cond (q == client) (f state)) (by_earlier (is_earlier q client) refl)
    where
      closed : is_earlier q client ≡ true → lease_of book q ≡ lease_state.Closed
      closed is =
          let slots : slot_of q ≡ slot_of client = grind (arith, nat_tests) in
          let less : nat_lt (generation_of q) (place_of book client).generation ≡ true = grind (arith, nat_tests) in
          ap (λ (slot : ℕ). lease_in (slice_index_or book.places slot empty_place) (generation_of q)) slots
          ∙ earlier_closed (place_of book client) (generation_of q) less

      by_earlier : (b : Bool) → is_earlier q client ≡ b
          → cond b (f lease_state.Closed) (f (lease_of book q)) ≡ f (lease_of book q)
      by_earlier true is = ap f (sym (closed is))
      by_earlier false is = refl

-- a test that says of one client what it said before
tested_alike : (was : Bool) (q client : ℕ) (test : ℕ → Bool)
    → test client ≡ was → cond (q == client) was (test q) ≡ test q
tested_alike was q client test is = by_same (q == client) refl
  where
    by_same : (b : Bool) → (q == client) ≡ b → cond b was (test q) ≡ test q
    by_same true h = sym is ∙ ap test (sym (eqb-true q client h))
    by_same false h = refl

-- Renewals and retirings.

shows_both : (state : LeaseState) → shows_open state ≡ true → shows_opened state ≡ true
shows_both lease_state.Vacant h = h
shows_both (lease_state.Open moment) h = refl
shows_both lease_state.Closed h = refl

-- a renewal changes no test that is the same of each open lease
renewed_follows : (f : LeaseState → Bool)
    → ((last moment : ℕ) → f (lease_state.Open moment) ≡ f (lease_state.Open last))
    → (book : PlainBook) (client moment q : ℕ) (state : LeaseState) → lease_of book client ≡ state
    → f (lease_of (renewed_in book client moment state) q) ≡ f (lease_of book q)
renewed_follows f any book client moment q lease_state.Vacant is = refl
renewed_follows f any book client moment q (lease_state.Open last) is =
    let after = renewed (lease_state.Open last) moment in
    let low = opened_place book client (shows_both _ (ap shows_open is)) in
    tested_same f book client after q low (open_generation _ _ (ap shows_open is))
    ∙ tested_alike (f after) q client (λ n. f (lease_of book n)) (ap f is ∙ any _ _)
renewed_follows f any book client moment q lease_state.Closed is = refl

-- after a retiring of a lease that was opened, or of an earlier one than one that was
retired_follows : (f : LeaseState → Bool) (book : PlainBook) (client q : ℕ) → was_opened_in book client ≡ true
    → f (lease_of (retired_in book client) q) ≡ cond (q == client) (f lease_state.Closed) (f (lease_of book q))
retired_follows f book client q opened =
    by_later (nat_lt (generation_of client) (place_of book client).generation) refl
  where
    last : (p : Place) (g : ℕ) → nat_lt g p.generation ≡ false → g ≤ p.generation → p.generation ≡ g
    last p g h high = grind (arith, nat_tests)

    by_later : (b : Bool) → nat_lt (generation_of client) (place_of book client).generation ≡ b
        → f (lease_of (cond b book (with_lease book client lease_state.Closed)) q)
        ≡ cond (q == client) (f lease_state.Closed) (f (lease_of book q))
    by_later true is =
        sym (tested_alike (f lease_state.Closed) q client (λ n. f (lease_of book n))
        (ap f (earlier_closed (place_of book client) (generation_of client) is)))
    by_later false is =
        tested_same f book client lease_state.Closed q (opened_place book client opened)
        (last (place_of book client) (generation_of client) is (opened_generation _ _ opened))

-- Choices by tests, as `is_open_after` and `was_opened_after` have them.

closed_test : (here before : Bool) → cond here false before ≡ (before && not here)
closed_test true true = refl
closed_test true false = refl
closed_test false true = refl
closed_test false false = refl

unchanged_test : (before : Bool) → before ≡ (before && true)
unchanged_test true = refl
unchanged_test false = refl

-- of an earlier generation none was open
opening_test : (here earlier before : Bool) → (earlier ≡ true → before ≡ false)
    → cond here true (cond earlier false before) ≡ (before || here)
opening_test true earlier true h = refl
opening_test true earlier false h = refl
opening_test false true true h = sym (h refl)
opening_test false true false h = refl
opening_test false false true h = refl
opening_test false false false h = refl

opened_test : (here earlier before : Bool) → cond here true (cond earlier true before) ≡ (before || here || earlier)
opened_test true true true = refl
opened_test true true false = refl
opened_test true false true = refl
opened_test true false false = refl
opened_test false true true = refl
opened_test false true false = refl
opened_test false false true = refl
opened_test false false false = refl

earlier_slot : (q client : ℕ) → is_earlier q client ≡ true → slot_of q ≡ slot_of client
earlier_slot q client h = grind (arith, nat_tests)

pub open_follows : (old : PlainBook) (event : BookEvent) (new : PlainBook) → Happens old event new
    → (q : ℕ) → is_open_in new q ≡ is_open_after event q (is_open_in old q)
open_follows old (Look client shown) new h q = ap (λ b. is_open_in b q) h.1
open_follows old (Renew client moment answer) new h q =
    ap (λ b. is_open_in b q) h.1
    ∙ renewed_follows shows_open (λ last moment. refl) old client moment q (lease_of old client) refl
open_follows old (Close client seen now closing.Closed) new h q =
    let is_open = ap shows_open h.1 in
    ap (λ b. is_open_in b q) h.2
    ∙ tested_same shows_open old client lease_state.Closed q (opened_place old client (shows_both _ is_open))
    (open_generation _ _ is_open)
    ∙ closed_test (q == client) (is_open_in old q)
open_follows old (Close client seen now closing.Changed) new h q =
    ap (λ b. is_open_in b q) h.1 ∙ unchanged_test (is_open_in old q)
open_follows old (Open client moment) new h q =
    ap (λ b. is_open_in b q) h.3
    ∙ tested_after shows_open old client (lease_state.Open moment) q h.0 (vacant_generation _ _ (ap shows_opened h.1))
    ∙ opening_test (q == client) (is_earlier q client) (is_open_in old q) (λ is. h.2 q (earlier_slot q client is))
open_follows old (Retire client) new h q =
    ap (λ b. is_open_in b q) h.1
    ∙ retired_follows shows_open old client q h.0
    ∙ closed_test (q == client) (is_open_in old q)

pub opened_follows : (old : PlainBook) (event : BookEvent) (new : PlainBook) → Happens old event new
    → (q : ℕ) → was_opened_in new q ≡ was_opened_after event q (was_opened_in old q)
opened_follows old (Look client shown) new h q = ap (λ b. was_opened_in b q) h.1
opened_follows old (Renew client moment answer) new h q =
    ap (λ b. was_opened_in b q) h.1
    ∙ renewed_follows shows_opened (λ last moment. refl) old client moment q (lease_of old client) refl
opened_follows old (Close client seen now closing.Closed) new h q =
    let opened = ap shows_opened h.1 in
    ap (λ b. was_opened_in b q) h.2
    ∙ tested_same shows_opened old client lease_state.Closed q (opened_place old client opened)
    (open_generation _ _ (ap shows_open h.1))
    ∙ tested_alike true q client (was_opened_in old) opened
opened_follows old (Close client seen now closing.Changed) new h q = ap (λ b. was_opened_in b q) h.1
opened_follows old (Open client moment) new h q =
    ap (λ b. was_opened_in b q) h.3
    ∙ tested_after shows_opened old client (lease_state.Open moment) q h.0
    (vacant_generation _ _ (ap shows_opened h.1))
    ∙ opened_test (q == client) (is_earlier q client) (was_opened_in old q)
opened_follows old (Retire client) new h q =
    ap (λ b. was_opened_in b q) h.1
    ∙ retired_follows shows_opened old client q h.0
    ∙ tested_alike true q client (was_opened_in old) h.0

pub open_was_opened : (book : PlainBook) (q : ℕ) → is_open_in book q ≡ true → was_opened_in book q ≡ true
open_was_opened book q h = shows_both (lease_of book q) h
