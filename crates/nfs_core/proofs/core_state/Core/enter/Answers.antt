use Rattle.std.proofs.Common.{◌∙◌, ap}
use Rattle.nfs_core.proofs.Journals.{Lawful-tried}
use Rattle.nfs_core.proofs.RecallsLeft.{Left-other, Left-tried, event_other}
use Rattle.nfs_core.proofs.Storing.{store_agrees}
use Rattle.nfs_core.proofs.core_state.Core.enter.Goals as goal
use Rattle.nfs_core.specs.Server.{Server, server_of}

pub enter_event-requires : goal.enter_event-requires
enter_event-requires c =
    store_agrees c.lawful_is_safe.ensures.safe c.self.inside.held.store c.self.invariant.0 c.self.invariant.1

pub invariant_of-self : goal.invariant_of-self
invariant_of-self c =
    let old = server_of c.self.inside.held in
    let new = server_of c.enter_event.new.held in (
      Lawful-tried old new _ c.enter_event.result c.self.invariant.0 c.enter_event.ensures.entered c.enter_event.ensures.same,
      c.enter_event.ensures.kept,
      Left-tried c.recalls_follow.ensures old new _ c.enter_event.result c.self.invariant.0 c.self.invariant.2 c.enter_event.ensures.entered c.enter_event.ensures.same,
    )

pub returns-clause-lawful : goal.returns-clause-lawful
returns-clause-lawful c = (invariant_of-self c).0

pub returns-clause-recalls : goal.returns-clause-recalls
returns-clause-recalls c =
    let old = server_of c.self.inside.held in
    let new = server_of c.enter_event.new.held in
    Left-other old new _ c.enter_event.result (event_other c.args.event) c.enter_event.ensures.entered c.enter_event.ensures.same ∙ ap (λ (s : Server). s.recalls) c.self.view_is
