use Rattle.std.proofs.Common.{rules}
use Rattle.nfs_core.proofs.NextEntries.{next_follows}
use Rattle.nfs_core.proofs.following.follow_call.Goals as goal
use Rattle.nfs_core.specs.Server.{server_of}
use Rattle.nfs_state.specs.declared.entry.Entry.TheVariants as entries

pub returns-in_ok-commit-in-Ok-clause-entered : goal.returns-in_ok-commit-in-Ok-clause-entered
returns-in_ok-commit-in-Ok-clause-entered c =
    c.in_ok-commit-in-Ok.ensures.entered.0

pub returns-in-Err-clause-not_next : goal.returns-in-Err-clause-not_next
returns-in-Err-clause-not_next c not_next = c.effect_of_call.ensures.not_next (search (rules, not_next))

pub returns-in-Err-clause-memory : goal.returns-in-Err-clause-memory
returns-in-Err-clause-memory c is_memory = c.effect_of_call.ensures.memory (search (rules, is_memory))

pub returns-in_err-commit-in-Ok-clause-memory : goal.returns-in_err-commit-in-Ok-clause-memory
returns-in_err-commit-in-Ok-clause-memory c is_memory =
    next_follows (server_of c.args.held.now) (entries.Call c.args.call) c.in-Ok.effect c.in-Ok.ensures.next
