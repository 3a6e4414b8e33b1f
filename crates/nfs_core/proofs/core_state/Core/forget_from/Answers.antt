use Rattle.std.proofs.Common.{◌∙◌, IfOk, ap, subst, sym}
use Rattle.nfs_core.proofs.Journals.{Lawful-tried}
use Rattle.nfs_core.proofs.RecallsLeft.{Left-other, Left-tried}
use Rattle.nfs_core.proofs.Storing.{store_agrees}
use Rattle.nfs_core.proofs.Trying.{tried}
use Rattle.nfs_core.proofs.core_state.Core.forget_from.Goals as goal
use Rattle.nfs_core.specs.Events.{IsForgottenFrom, NoneIsIdleBefore}
use Rattle.nfs_core.specs.Server.{Server, server_of}

pub forget_next-requires-clause-store : goal.forget_next-requires-clause-store
forget_next-requires-clause-store c =
    store_agrees c.lawful_is_safe.ensures.safe c.self.inside.held.store c.self.invariant.0 c.self.invariant.1

pub forget_next-requires-clause-before : goal.forget_next-requires-clause-before
forget_next-requires-clause-before c =
    subst (λ (s : Server). NoneIsIdleBefore c.args.entry s c.args.now) (sym c.self.view_is) c.requires

pub invariant_of-self : goal.invariant_of-self
invariant_of-self c =
    let old = server_of c.self.inside.held in
    let new = server_of c.forget_next.new.held in
    let t = tried old new c.args.now c.forget_next.result c.forget_next.ensures.forgotten c.forget_next.ensures.same in (
      Lawful-tried old new t.entry t.result c.self.invariant.0 t.entered t.same,
      c.forget_next.ensures.kept,
      Left-tried c.recalls_follow.ensures old new t.entry t.result c.self.invariant.0 c.self.invariant.2 t.entered t.same,
    )

pub returns-clause-forgotten : goal.returns-clause-forgotten
returns-clause-forgotten c =
    let new = server_of c.forget_next.new.held in
    subst (λ (old : Server). IfOk c.forget_next.result (IsForgottenFrom old new c.args.now)) c.self.view_is
    c.forget_next.ensures.forgotten

pub returns-clause-lawful : goal.returns-clause-lawful
returns-clause-lawful c = (invariant_of-self c).0

pub returns-clause-recalls : goal.returns-clause-recalls
returns-clause-recalls c =
    let old = server_of c.self.inside.held in
    let new = server_of c.forget_next.new.held in
    let t = tried old new c.args.now c.forget_next.result c.forget_next.ensures.forgotten c.forget_next.ensures.same in
    Left-other old new t.entry t.result t.other t.entered t.same ∙ ap (λ (s : Server). s.recalls) c.self.view_is
