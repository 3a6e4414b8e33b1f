use Rattle.std.proofs.Common.{rules}
use Rattle.nfs_core.proofs.NextEntries.{asked_entry, asked_node, decided_next, decided_sendable, no_answer, within_limits}
use Rattle.nfs_core.proofs.following.decide_next.Goals as goal
use Rattle.nfs_state.specs.Room.{state_of}

pub decide-requires-clause-entry : goal.decide-requires-clause-entry
decide-requires-clause-entry c = asked_entry c.args.store.now.journal.history c.args.request.now c.requires.asked

pub decide-requires-clause-node : goal.decide-requires-clause-node
decide-requires-clause-node c = asked_node c.args.store.now.journal.history c.args.request.now c.requires.asked

pub returns-clause-next : goal.returns-clause-next
returns-clause-next c = decided_next c.args.store.now.journal.history (state_of c.args.store.now.tables) c.args.request.now c.decide.result (search rules) c.requires.asked c.decide.ensures

pub returns-clause-sendable : goal.returns-clause-sendable
returns-clause-sendable c = decided_sendable c.args.store.now.journal.history (state_of c.args.store.now.tables) c.args.request.now c.decide.result c.decide.ensures

pub returns-clause-limit : goal.returns-clause-limit
returns-clause-limit c is_limit =
    no_answer c.at_most_one_decision.ensures c.args.store.now.journal.history (state_of c.args.store.now.tables) c.args.request.now c.decide.result c.decide.ensures is_limit

pub returns-clause-memory : goal.returns-clause-memory
returns-clause-memory c is_memory =
    within_limits c.at_most_one_decision.ensures c.args.store.now.journal.history (state_of c.args.store.now.tables) c.args.request.now c.decide.result (search rules) c.decide.ensures is_memory
