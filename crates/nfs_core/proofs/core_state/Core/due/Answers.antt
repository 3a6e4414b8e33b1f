use Rattle.std.proofs.Common.{subst}
use Rattle.nfs_core.proofs.DueDelegations.{one_due}
use Rattle.nfs_core.proofs.core_state.Core.due.Goals as goal
use Rattle.nfs_core.specs.Events.{MayHappen, revoke_of}
use Rattle.nfs_core.specs.Server.{Server}
use Rattle.nfs_core.specs.declared.event.Event.TheVariants as events
use Rattle.nfs_rules.specs.entries.Revoke.{return_of}
use Rattle.nfs_share.specs.OpenFound.{delegation_seen}

pub returns-clause-due : goal.returns-clause-due
returns-clause-due c =
    subst (λ (s : Server). MayHappen s (events.Revoke (revoke_of c.in_ok-due.due.state.number c.args.now))) c.self.view_is
    (return_of (delegation_seen c.in_ok-due.due), c.in_ok-due.ensures.next)

-- where one is due, it is not told that none is
pub returns-clause-none : goal.returns-clause-none
returns-clause-none c =
    let due = one_due c.args.self.now c.args.now c.in_ok-due.due.state.number (returns-clause-due c) in
    (λ is. absurd cc, λ none. absurd (due none))
