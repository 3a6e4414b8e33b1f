-- An event enters no call.
use Rattle.std.proofs.Common.{◌≡◌, ◌∙◌, ◌∷◌, [], List, ap, refl, subst, sym, arith}
use Rattle.nfs_core.specs.Events.{entry_by}
use Rattle.nfs_core.specs.Server.{Enters}
use Rattle.nfs_core.specs.Recalls.{RecallsLeft}
use Rattle.nfs_shared.proofs.Deeds.{deeds_of_event, deeds_same}
use Rattle.nfs_shared.proofs.Holding.{KeepsRules, gains_one, held_more}
use Rattle.nfs_shared.proofs.RecallsOut.{queued_kept, queued_same}
use Rattle.nfs_shared.proofs.Receipts.{event_no_call, others_in_more}
use Rattle.nfs_shared.proofs.held.enter_counted.Goals as goal
use Rattle.nfs_shared.specs.Deeds.{RenewNone}
use Rattle.nfs_shared.specs.Held.{HeldView}
use Rattle.nfs_shared.specs.Naming.{start_of}
use Rattle.nfs_shared.specs.Receipts.{calls_in, others_in, receipts_of}
use Rattle.nfs_shared.specs.Roll.{list_of}
use Rattle.nfs_state.specs.State.{History}
use Rattle.nfs_words.specs.Calls.{IsKeeperAt}
use Rattle.nfs_words.specs.Sitting.{Sitting}
use Rattle.nfs_state.specs.declared.entry.Entry.{Entry}

pub invariant_of-held : goal.invariant_of-held
invariant_of-held g c =
    let held = c.held.inside in
    let entered = c.enter-entered in
    let old : HeldView = record {
      server = held.leased.core;
      leases = held.leased.book;
      places = held.register.places.items;
      receipts = list_of held.register.writer;
      put = held.put.recalls;
      known_taken = held.put.known;
      hand = held.hand;
    } in
    let new : HeldView = record {
      server = entered.new.self.core;
      leases = entered.new.self.book;
      places = held.register.places.items;
      receipts = list_of held.register.writer;
      put = held.put.recalls;
      known_taken = held.put.known;
      hand = held.hand;
    } in
    let more : List Entry = entry_by c.args.event ∷ [] in
    let none = event_no_call c.args.event in
    let gains = gains_one old.server new.server (entry_by c.args.event) c.in-Ok.number c.in-Ok.ensures.enters in
    let keeps : KeepsRules new = record {
      lawful = entered.ensures.lawful;
      safe = c.lawful_is_safe.ensures.safe _ _ entered.ensures.lawful;
      agrees = entered.new.self.agrees;
      deeds = deeds_of_event old.server new.server c.args.event c.in-Ok.number old.leases new.leases c.held.invariant.0.deeds c.requires.ends c.in-Ok.ensures.enters entered.ensures.book;
      renews_none = subst (λ (s : Sitting). RenewNone s.view.own) (sym entered.ensures.book) c.held.invariant.0.renews_none;
      recalls = c.recalls_are_left.ensures;
      queued =
          queued_kept c.recalls_stay.ensures.one c.recalls_stay.ensures.begin old new more c.held.invariant.0.recalls
          c.held.invariant.0.queued gains.journal c.recalls_are_left.ensures
          (ap (λ (left : RecallsLeft). left.taken) entered.ensures.recalls) (refl, refl, refl);
      known = c.held.invariant.0.known;
    } in (
      held_more old new more c.held.invariant.0 gains none keeps refl refl,
      c.held.invariant.1,
      ap start_of gains.journal ∙ c.held.invariant.2,
      c.held.invariant.3,
      c.held.invariant.4,
      omega (
        arith,
        c.add.ensures.total,
        c.held.invariant.5,
        ap (λ (j : History). others_in j.entries) gains.journal,
        others_in_more old.server.journal.entries more none,
      ),
      subst (IsKeeperAt g.N.Naming.run.words g.N.Naming.run.workers) (sym entered.ensures.book) c.held.invariant.6,
      c.held.invariant.7,
    )

-- what isn't entered leaves all as it was, but for the room
pub invariant_of-held-in-Err : goal.invariant_of-held-in-Err
invariant_of-held-in-Err g c =
    let held = c.held.inside in
    let was = c.held.invariant.0 in
    let entered = c.enter-entered in
    let alike = c.in-Err.ensures.same in
    let same : entered.new.self.core.journal.entries ≡ held.leased.core.journal.entries = ap (λ (j : History). j.entries) alike.0 in
    let old : HeldView = record {
      server = held.leased.core;
      leases = held.leased.book;
      places = held.register.places.items;
      receipts = list_of held.register.writer;
      put = held.put.recalls;
      known_taken = held.put.known;
      hand = held.hand;
    } in
    let new : HeldView = record {
      server = entered.new.self.core;
      leases = entered.new.self.book;
      places = held.register.places.items;
      receipts = list_of held.register.writer;
      put = held.put.recalls;
      known_taken = held.put.known;
      hand = held.hand;
    } in (
      record {
        lawful = entered.ensures.lawful;
        safe = c.lawful_is_safe.ensures.safe _ _ entered.ensures.lawful;
        agrees = entered.new.self.agrees;
        deeds = deeds_same old.server new.server old.leases new.leases was.deeds alike.0 alike.1 entered.ensures.book;
        renews_none = subst (λ (s : Sitting). RenewNone s.view.own) (sym entered.ensures.book) was.renews_none;
        recalls = c.recalls_are_left.ensures;
        queued = queued_same old new was.queued alike.0 alike.2 (refl, refl, refl);
        known = was.known;
        places = was.places ∙ ap calls_in (sym same);
        receipts = was.receipts ∙ (λ i. receipts_of 0 (sym same i) held.register.places.items);
      },
      c.held.invariant.1,
      ap start_of alike.0 ∙ c.held.invariant.2,
      c.held.invariant.3,
      c.held.invariant.4,
      c.held.invariant.5 ∙ ap others_in (sym same),
      subst (IsKeeperAt g.N.Naming.run.words g.N.Naming.run.workers) (sym entered.ensures.book) c.held.invariant.6,
      c.held.invariant.7,
    )

pub returns-in-Ok-clause-enters : goal.returns-in-Ok-clause-enters
returns-in-Ok-clause-enters g c =
    subst (λ (h : HeldView). Enters h.server c.enter-entered.new.self.core (entry_by c.args.event) c.in-Ok.number)
    c.held.view_is c.in-Ok.ensures.enters
