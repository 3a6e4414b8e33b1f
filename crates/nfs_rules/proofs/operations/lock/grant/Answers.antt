use Rattle.std.proofs.Common.{◌≡◌, ap, option_map, subst, sym}
use Rattle.std.specs.Option.{option_copied}
use Rattle.std.specs.Prelude.{Option}
use Rattle.nfs_locks.specs.Locks.{ByteLocks}
use Rattle.nfs_locks.specs.StoredLocks.{lock_seen}
use Rattle.nfs_rules.specs.Deciding.{ByOwnRule}
use Rattle.nfs_rules.specs.Finding.{locking_seen}
use Rattle.nfs_rules.specs.operations.Lock.{grant}
use Rattle.nfs_rules.proofs.operations.lock.grant.Goals as goal
use Rattle.nfs_state.specs.Room.{state_of}
use Rattle.nfs_xdr.specs.declared.op.Op.TheVariants as ops

pub returns-in-None : goal.returns-in-None
returns-in-None c = λ args.
    let state = state_of c.args.tables.now in
    let by_state : Option ByteLocks → Type 0 = λ s. ByOwnRule (λ r. r ≡ grant state (locking_seen c.args.locking) c.args.range s) state (ops.Lock args) c.begin.result in
    subst by_state (sym (ap (λ s. option_map lock_seen (option_copied s)) c.in-None.is)) (c.begin.ensures args)

pub returns-in-Some : goal.returns-in-Some
returns-in-Some c = λ args.
    let state = state_of c.args.tables.now in
    let by_state : Option ByteLocks → Type 0 = λ s. ByOwnRule (λ r. r ≡ grant state (locking_seen c.args.locking) c.args.range s) state (ops.Lock args) c.add.result in
    subst by_state (sym (ap (λ s. option_map lock_seen (option_copied s)) c.in-Some.is)) (c.add.ensures args)
