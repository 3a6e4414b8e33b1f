-- All that the lock guards stays, but for where the recalls are.
use Rattle.std.proofs.Common.{◌≡◌, ◌∙◌, ap, refl, subst, sym}
use Rattle.nfs_core.specs.Server.{Server}
use Rattle.nfs_shared.proofs.Holding.{held_moved}
use Rattle.nfs_shared.proofs.moving.move_one.Goals as goal
use Rattle.nfs_shared.specs.Held.{HeldView}
use Rattle.nfs_shared.specs.Naming.{start_of}
use Rattle.nfs_shared.specs.Receipts.{others_in}
use Rattle.nfs_shared.specs.Roll.{list_of}
use Rattle.nfs_state.specs.State.{History}
use Rattle.nfs_words.specs.Calls.{IsKeeperAt}

pub invariant_of-held : goal.invariant_of-held
invariant_of-held g c =
    let was = c.held.inside in
    let put = c.put_one-moved in
    let old : HeldView = record {
      server = was.leased.core;
      leases = was.leased.book;
      places = was.register.places.items;
      receipts = list_of was.register.writer;
      put = was.put.recalls;
      known_taken = was.put.known;
      hand = was.hand;
    } in
    let new : HeldView = record {
      server = put.new.leased.core;
      leases = put.new.leased.book;
      places = was.register.places.items;
      receipts = list_of was.register.writer;
      put = put.new.put.recalls;
      known_taken = put.new.put.known;
      hand = put.new.hand;
    } in
    let journal : put.new.leased.core.journal ≡ was.leased.core.journal = ap (λ (s : Server). s.journal) put.ensures.core in (
      held_moved old new c.held.invariant.0 put.ensures.core refl refl put.ensures.book put.new.leased.agrees c.recalls_are_left.ensures put.ensures.recalls put.ensures.put put.ensures.known,
      c.held.invariant.1,
      ap start_of journal ∙ c.held.invariant.2,
      c.held.invariant.3,
      c.held.invariant.4,
      c.held.invariant.5 ∙ ap (λ (j : History). others_in j.entries) (sym journal),
      subst (IsKeeperAt g.N.Naming.run.words g.N.Naming.run.workers) (sym put.ensures.book) c.held.invariant.6,
      put.ensures.queue ∙ c.held.invariant.7,
    )
