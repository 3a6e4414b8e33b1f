use Rattle.std.proofs.Common.{◌∙◌, Bool, ap, sym}
use Rattle.nfs_locks.specs.Locks.{would_be_full}
use Rattle.nfs_locks.specs.StoredLocks.{lock_seen}
use Rattle.nfs_locks.specs.declared.lock_state.LockState.{LockState}
use Rattle.nfs_locks.proofs.Alone.{any_both, any_in, numbered_once}
use Rattle.nfs_locks.proofs.Rowed.{has_number}
use Rattle.nfs_locks.proofs.file_locks.FileLocks.is_full_for.Goals as goal

pub returns-in-Some : goal.returns-in-Some
returns-in-Some c =
    let number = c.args.number in
    let states = c.args.self.now.states in
    let full : LockState → Bool = λ l. would_be_full c.args.change (lock_seen l) in
    c.is_full_for.ensures
    ∙ ap (any_in full) c.in-Some.ensures.found
    ∙ sym (any_both full (has_number number) states (numbered_once number states c.numbered.ensures.order))

pub returns-in-None : goal.returns-in-None
returns-in-None c =
    let number = c.args.number in
    let states = c.args.self.now.states in
    let full : LockState → Bool = λ l. would_be_full c.args.change (lock_seen l) in
    ap (any_in full) c.in-None.ensures.found
    ∙ sym (any_both full (has_number number) states (numbered_once number states c.numbered.ensures.order))
