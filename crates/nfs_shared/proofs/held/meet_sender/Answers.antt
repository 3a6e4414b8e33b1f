-- All that the lock guards stays, but for what is known to be taken.
use Rattle.std.proofs.Common.{◌≡◌, ◌∙◌, ap, arith, sym, subst}
use mathlib.Core.List.{IsPrefix}
use Rattle.nfs_shared.proofs.Holding.{held_met}
use Rattle.nfs_shared.proofs.held.meet_sender.Goals as goal
use Rattle.nfs_shared.specs.Held.{HeldView, IsHeld}
use Rattle.nfs_shared.specs.Passes.{PassView}
use Rattle.nfs_shared.specs.Roll.{list_of}
use Rattle.nfs_shared.specs.Sender.{SenderView}

pub invariant_of-held : goal.invariant_of-held
invariant_of-held g c =
    let was = c.held.inside in
    let old : HeldView = record {
      server = was.leased.core;
      leases = was.leased.book;
      places = was.register.places.items;
      receipts = list_of was.register.writer;
      put = was.put.recalls;
      known_taken = was.put.known;
      hand = was.hand;
    } in (
      subst (λ (p : PassView). IsHeld (record old { put = p.recalls; known_taken = p.known })) (sym c.meet.ensures.put)
          (held_met old c.sender.inside.pass.recalls c.held.invariant.0 c.meet.ensures.begins),
      c.held.invariant.1,
      c.held.invariant.2,
      c.held.invariant.3,
      c.held.invariant.4,
      c.audit.ensures.total ∙ c.held.invariant.5,
      c.held.invariant.6,
      ap (λ (p : PassView). p.queue) c.meet.ensures.put ∙ c.held.invariant.7,
    )

pub returns-clause-known : goal.returns-clause-known
returns-clause-known g c =
    let was = c.held.inside in
    let old : HeldView = record {
      server = was.leased.core;
      leases = was.leased.book;
      places = was.register.places.items;
      receipts = list_of was.register.writer;
      put = was.put.recalls;
      known_taken = was.put.known;
      hand = was.hand;
    } in
    let begins = subst (λ (p : PassView). IsPrefix c.sender.inside.pass.recalls p.recalls) (sym c.meet.ensures.put) c.meet.ensures.begins in
    let known = subst (λ (p : PassView). IsPrefix c.sender.inside.pass.known p.recalls) (sym c.meet.ensures.put) c.meet.ensures.known_put in
    record {
      held = subst (λ (p : PassView). IsHeld (record old { put = p.recalls; known_taken = p.known })) (sym c.meet.ensures.put)
          (held_met old c.sender.inside.pass.recalls c.held.invariant.0 c.meet.ensures.begins);
      start = c.held.invariant.2;
      begins = subst (λ (s : SenderView). IsPrefix s.taken c.meet.new.put.recalls) c.sender.view_is begins;
      known = subst (λ (s : SenderView). IsPrefix s.known_put c.meet.new.put.recalls) c.sender.view_is known;
      told = ap (λ (p : PassView). p.known) c.meet.ensures.put ∙ ap (λ (s : SenderView). s.taken) c.sender.view_is;
      count = omega (arith, c.audit.ensures.bound, c.held.invariant.5, ap (λ (s : SenderView). s.count) c.sender.view_is);
    }
