use Rattle.std.proofs.Common.{arith}
use Rattle.nfs_rules.specs.operations.Readdir.{entry_of}
use Rattle.nfs_rules.proofs.Listings.{ended, stopped}
use Rattle.nfs_rules.proofs.operations.readdir.entries_within.Goals as goal
use Rattle.nfs_state.specs.Room.{state_of}

pub returns-then-len-left : goal.returns-then-len-left
returns-then-len-left c =
    stopped (entry_of c.args.store.now.journal.history (state_of c.args.store.now.tables) c.args.mask.now) c.args.children.now c.loop-child.child-index c.args.room c.loop-child.left c.loop-child.entries.items c.in_ok-entry.entry
    c.loop-child.invariant.entries c.loop-child.invariant.room c.loop-child.invariant.form (omega arith) c.in_ok-entry.ensures.value (omega (arith, c.written_len-len.ensures))

pub returns : goal.returns
returns c =
    ended (entry_of c.args.store.now.journal.history (state_of c.args.store.now.tables) c.args.mask.now) c.args.children.now c.loop-child.child-index c.args.room c.loop-child.left c.loop-child.entries.items
    c.loop-child.invariant.entries c.loop-child.invariant.room c.loop-child.invariant.form (omega arith)
