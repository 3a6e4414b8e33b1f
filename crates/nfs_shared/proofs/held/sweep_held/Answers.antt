-- A sweep enters no call: the ends of clients, then those of delegations, and then those of open owners.
use Rattle.std.proofs.Common.{◌∙◌, ap, refl, arith}
use Rattle.nfs_core.specs.Recalls.{RecallsLeft}
use Rattle.nfs_shared.proofs.Deeds.{all_happen_keeper, all_happen_renew_none, deeds_of_sweep, visits_renew_none}
use Rattle.nfs_shared.proofs.Holding.{KeepsRules, held_more}
use Rattle.nfs_shared.proofs.RecallsOut.{queued_kept}
use Rattle.nfs_shared.proofs.Receipts.{others_in_more, sweep_no_calls}
use Rattle.nfs_shared.proofs.held.sweep_held.Goals as goal
use Rattle.nfs_shared.specs.Held.{HeldView}
use Rattle.nfs_shared.specs.Naming.{start_of}
use Rattle.nfs_shared.specs.Roll.{list_of}
use Rattle.nfs_shared.specs.Receipts.{others_in}
use Rattle.nfs_leases.specs.Sweeps.{entries_of_sweep, events_of_all, leased_server}
use Rattle.nfs_leases.specs.laws.Counting.{sweep_tally}
use Rattle.nfs_leases.specs.laws.Gaining.{gains_of_sweep}
use Rattle.nfs_leases.specs.laws.Visiting.{visits_look_and_close}
use Rattle.nfs_state.specs.State.{History}
use Rattle.nfs_words.specs.Desk.{Happens}

pub invariant_of-held : goal.invariant_of-held
invariant_of-held g c =
    let held = c.held.inside in
    let swept = c.sweep-swept in
    let old : HeldView = record {
      server = held.leased.core;
      leases = held.leased.book;
      places = held.register.places.items;
      receipts = list_of held.register.writer;
      put = held.put.recalls;
      known_taken = held.put.known;
      hand = held.hand;
    } in
    let new : HeldView = record {
      server = swept.new.self.core;
      leases = swept.new.self.book;
      places = held.register.places.items;
      receipts = list_of held.register.writer;
      put = held.put.recalls;
      known_taken = held.put.known;
      hand = held.hand;
    } in
    let now = c.args.now in
    let sweeps = swept.ensures.sweeps in
    let gains = gains_of_sweep Happens now (leased_server old.server old.leases) swept.result (leased_server new.server new.leases) sweeps in
    let more = entries_of_sweep now sweeps.visits sweeps.numbers sweeps.owners in
    let none = sweep_no_calls now sweeps.visits sweeps.numbers sweeps.owners in
    let keeps : KeepsRules new = record {
      lawful = swept.ensures.lawful;
      safe = c.lawful_is_safe.ensures.safe _ _ swept.ensures.lawful;
      agrees = swept.new.self.agrees;
      deeds = deeds_of_sweep now sweeps.visits sweeps.numbers sweeps.owners old.server new.server old.leases new.leases c.held.invariant.0.deeds gains.journal gains.leads sweeps.ends.events;
      renews_none = all_happen_renew_none (events_of_all now sweeps.visits) (visits_renew_none (events_of_all now sweeps.visits) (visits_look_and_close now sweeps.visits)) old.leases new.leases sweeps.ends.events c.held.invariant.0.renews_none;
      recalls = c.recalls_are_left.ensures;
      queued =
          queued_kept c.recalls_stay.ensures.one c.recalls_stay.ensures.begin old new more c.held.invariant.0.recalls
          c.held.invariant.0.queued gains.journal c.recalls_are_left.ensures
          (ap (λ (left : RecallsLeft). left.taken) swept.ensures.recalls) (refl, refl, refl);
      known = c.held.invariant.0.known;
    } in (
      held_more old new more c.held.invariant.0 gains none keeps refl refl,
      c.held.invariant.1,
      ap start_of gains.journal ∙ c.held.invariant.2,
      c.held.invariant.3,
      c.held.invariant.4,
      omega (
        arith,
        c.add.ensures.total,
        c.audit.ensures.total,
        c.held.invariant.5,
        ap (λ (j : History). others_in j.entries) gains.journal,
        others_in_more old.server.journal.entries more none,
        sweep_tally now sweeps.visits sweeps.numbers sweeps.owners swept.result sweeps.counts,
      ),
      all_happen_keeper g.N.Naming.run.words g.N.Naming.run.workers (events_of_all now sweeps.visits) old.leases new.leases sweeps.ends.events c.held.invariant.6,
      c.held.invariant.7,
    )
