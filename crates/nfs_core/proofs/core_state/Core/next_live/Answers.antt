-- What holds of the clients in each state that a lawful journal leads to.
use Rattle.std.proofs.Common.{subst}
use Rattle.nfs_core.specs.LiveClients.{AreNumbered, AreOfOneRun}
use Rattle.nfs_core.specs.Server.{Server}
use Rattle.nfs_core.proofs.core_state.Core.next_live.Goals as goal
use Rattle.nfs_state.specs.Room.{state_of}
use Rattle.nfs_state.specs.Stored.{meaning}

pub returns-clause-numbered : goal.returns-clause-numbered
returns-clause-numbered c =
    let store = c.self.inside.held.store in
    subst (λ (s : Server). AreNumbered s.stored.clients) c.self.view_is
    (c.lawful_is_safe.ensures.numbered store.journal.history (state_of store.tables) c.self.invariant.0)

pub returns-clause-run : goal.returns-clause-run
returns-clause-run c =
    let store = c.self.inside.held.store in
    subst (λ (s : Server). AreOfOneRun s.journal (meaning s.stored)) c.self.view_is
    (c.lawful_is_safe.ensures.run store.journal.history (state_of store.tables) c.self.invariant.0)
