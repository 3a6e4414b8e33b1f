-- Each place is a copy of the empty one.
use Rattle.std.proofs.Common.{◌≡◌, ◌∙◌, ℕ, zero, suc, List, replicate, slice_index_or, ap, arith, refl}
use Rattle.std.proofs.lemmas.Bool.Decides.{nat_tests}
use Rattle.nfs_leases.specs.BookEvent.{shows_open, shows_opened}
use Rattle.nfs_leases.specs.PlainBook.{PlainBook, empty_place, is_open_in, lease_in, lease_of, was_opened_in}
use Rattle.nfs_leases.specs.declared.lease_state.LeaseState.TheVariants.{Vacant}
use Rattle.nfs_leases.specs.declared.place.Place.{Place}
use Rattle.nfs_leases.proofs.plain_leases.PlainLeases.new.Goals as goal
use Rattle.nfs_owners.specs.Slots.{generation_of, slot_of}

abbrev book_of : ℕ → List Place → PlainBook
book_of lease places = record { lease = lease; places = places }

all_empty : (count slot : ℕ) → slice_index_or (replicate count empty_place) slot empty_place ≡ empty_place
all_empty zero slot = refl
all_empty (suc count) zero = refl
all_empty (suc count) (suc slot) = all_empty count slot

nothing_shown : (generation : ℕ) → lease_in empty_place generation ≡ Vacant
nothing_shown generation = grind (arith, nat_tests)

all_vacant : (lease count client : ℕ) → lease_of (book_of lease (replicate count empty_place)) client ≡ Vacant
all_vacant lease count client =
    ap (λ (p : Place). lease_in p (generation_of client)) (all_empty count (slot_of client))
    ∙ nothing_shown (generation_of client)

pub returns-clause-value : goal.returns-clause-value
returns-clause-value c = ap (book_of c.args.lease) (c.in_ok-vec.ensures.items_if_clones_equal (λ y e. e))

pub returns-clause-fresh : goal.returns-clause-fresh
returns-clause-fresh c = λ client.
    let empty = c.in_ok-vec.ensures.items_if_clones_equal (λ y e. e) in
    ap (λ places. was_opened_in (book_of c.args.lease places) client) empty
    ∙ ap shows_opened (all_vacant c.args.lease 256 client)

pub returns-clause-closed : goal.returns-clause-closed
returns-clause-closed c = λ client.
    let empty = c.in_ok-vec.ensures.items_if_clones_equal (λ y e. e) in
    ap (λ places. is_open_in (book_of c.args.lease places) client) empty
    ∙ ap shows_open (all_vacant c.args.lease 256 client)
