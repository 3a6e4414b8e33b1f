use Rattle.std.proofs.Common.{◌∙◌, IfOk, ap, subst}
use Rattle.nfs_core.proofs.Journals.{Lawful-tried}
use Rattle.nfs_core.proofs.RecallsLeft.{Left-other, Left-tried}
use Rattle.nfs_core.proofs.Storing.{store_agrees}
use Rattle.nfs_core.proofs.Trying.{tried_revocation}
use Rattle.nfs_core.proofs.core_state.Core.revoke.Goals as goal
use Rattle.nfs_core.specs.Events.{IsRevoked}
use Rattle.nfs_core.specs.Server.{Server, server_of}

pub revoke_next-requires : goal.revoke_next-requires
revoke_next-requires c =
    store_agrees c.lawful_is_safe.ensures.safe c.self.inside.held.store c.self.invariant.0 c.self.invariant.1

pub invariant_of-self : goal.invariant_of-self
invariant_of-self c =
    let old = server_of c.self.inside.held in
    let new = server_of c.revoke_next.new.held in
    let t = tried_revocation old new c.args.now c.revoke_next.result c.revoke_next.ensures.revoked c.revoke_next.ensures.same in (
      Lawful-tried old new t.entry t.result c.self.invariant.0 t.entered t.same,
      c.revoke_next.ensures.kept,
      Left-tried c.recalls_follow.ensures old new t.entry t.result c.self.invariant.0 c.self.invariant.2 t.entered t.same,
    )

pub returns-clause-revoked : goal.returns-clause-revoked
returns-clause-revoked c =
    let new = server_of c.revoke_next.new.held in
    subst (λ (old : Server). IfOk c.revoke_next.result (IsRevoked old new c.args.now)) c.self.view_is
    c.revoke_next.ensures.revoked

pub returns-clause-lawful : goal.returns-clause-lawful
returns-clause-lawful c = (invariant_of-self c).0

pub returns-clause-recalls : goal.returns-clause-recalls
returns-clause-recalls c =
    let old = server_of c.self.inside.held in
    let new = server_of c.revoke_next.new.held in
    let t = tried_revocation old new c.args.now c.revoke_next.result c.revoke_next.ensures.revoked c.revoke_next.ensures.same in
    Left-other old new t.entry t.result t.other t.entered t.same ∙ ap (λ (s : Server). s.recalls) c.self.view_is
