use Rattle.std.proofs.Common.{subst}
use Rattle.nfs_core.proofs.Journals.{Lawful-tried}
use Rattle.nfs_core.proofs.RecallsLeft.{Left-tried}
use Rattle.nfs_core.proofs.Storing.{store_agrees}
use Rattle.nfs_core.proofs.core_state.Core.follow.Goals as goal
use Rattle.nfs_core.specs.Following.{MayFollow}
use Rattle.nfs_core.specs.Server.{Server, server_of}
use Rattle.nfs_core.specs.Step.{HasNoStep}
use Rattle.nfs_state.specs.Stored.{meaning}

pub follow-requires : goal.follow-requires
follow-requires c =
    store_agrees c.lawful_is_safe.ensures.safe c.self.inside.held.store c.self.invariant.0 c.self.invariant.1

pub invariant_of-self : goal.invariant_of-self
invariant_of-self c =
    let old = server_of c.self.inside.held in
    let new = server_of c.follow.new.held in (
      Lawful-tried old new _ c.follow.result c.self.invariant.0 c.follow.ensures.entered c.follow.ensures.same,
      c.follow.ensures.kept,
      Left-tried c.recalls_follow.ensures old new _ c.follow.result c.self.invariant.0 c.self.invariant.2 c.follow.ensures.entered c.follow.ensures.same,
    )

pub returns-clause-lawful : goal.returns-clause-lawful
returns-clause-lawful c = (invariant_of-self c).0

pub returns-clause-not_next : goal.returns-clause-not_next
returns-clause-not_next c not_next =
    subst (λ (s : Server). HasNoStep s.journal (meaning s.stored) c.args.entry) c.self.view_is (c.follow.ensures.not_next not_next)

pub returns-clause-memory : goal.returns-clause-memory
returns-clause-memory c is_memory =
    subst (λ (s : Server). MayFollow s c.args.entry) c.self.view_is (c.follow.ensures.memory is_memory)
