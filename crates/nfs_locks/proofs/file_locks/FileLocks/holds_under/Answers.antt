use Rattle.std.proofs.Common.{◌∙◌, ◌&&◌, Bool, ap, map, rules}
use Rattle.std.specs.List.{list_any}
use Rattle.std.proofs.lemmas.Iterator.Consumers.{YieldsList-from_first}
use Rattle.std.proofs.lemmas.Iterator.Search.{any_from_yields_List}
use borrow.Author.Tests.{tests}
use Rattle.nfs_locks.specs.Locks.{holds_bytes, is_under}
use Rattle.nfs_locks.specs.StoredLocks.{StoredLocks, lock_seen}
use Rattle.nfs_locks.specs.declared.lock_state.LockState.{LockState}
use Rattle.nfs_locks.proofs.Rowed.{any_pair}
use Rattle.nfs_locks.proofs.file_locks.FileLocks.holds_under.Goals as goal
use Rattle.nfs_rows.specs.Rows.{pair_of}

pub returns : goal.returns
returns c =
    let rows = c.self.inside.states.rows in
    let test : LockState → Bool = λ l. is_under c.args.open_number (lock_seen l) && holds_bytes (lock_seen l) in
    any_from_yields_List (λ p. test p.1) _ _ c.any.result c.any.ensures.ran (YieldsList-from_first (λ item. (item.0, item.1.now)) (λ rest. rest) (map pair_of rows) c.iter.ensures) (λ x b q k. search (rules, tests))
    ∙ any_pair test rows
    ∙ ap (λ (f : StoredLocks). list_any test f.states) c.self.view_is
