use Rattle.std.proofs.Common.{◌∙◌, Bool, ap, find, sym, rules}
use Rattle.nfs_locks.specs.Locks.{is_lock_of}
use Rattle.nfs_locks.specs.StoredLocks.{StoredLocks, lock_seen}
use Rattle.nfs_locks.specs.declared.lock_state.LockState.{LockState}
use Rattle.nfs_locks.proofs.Rowed.{named_in}
use Rattle.nfs_rows.specs.Rows.{is_named, pair_seen}
use Rattle.nfs_rows.proofs.Callers.{none_beside, value_beside}
use Rattle.nfs_locks.proofs.file_locks.FileLocks.lock_of.Goals as goal

pub returns-in-Some : goal.returns-in-Some
returns-in-Some c =
    let rows = c.self.inside.states.rows in
    let test : LockState → Bool = λ l. is_lock_of c.args.owner.now (lock_seen l) in
    let hash = c.owner_hash-hash.result in
    let found = c.find_named.ensures test (λ shown answer says. search rules) in
    sym (value_beside (find (is_named hash test) rows) c.in-Some.field-0-0 c.in-Some.state.now (sym (ap pair_seen c.in-Some.is) ∙ found))
    ∙ named_in c.self.inside.names c.args.owner.now test (λ l own. own) hash rows c.self.invariant.0 c.owner_hash-hash.ensures
    ∙ ap (λ (f : StoredLocks). find test f.states) c.self.view_is

pub returns-in-None : goal.returns-in-None
returns-in-None c =
    let rows = c.self.inside.states.rows in
    let test : LockState → Bool = λ l. is_lock_of c.args.owner.now (lock_seen l) in
    let hash = c.owner_hash-hash.result in
    let found = c.find_named.ensures test (λ shown answer says. search rules) in
    sym (none_beside (find (is_named hash test) rows) (sym (ap pair_seen c.in-None.is) ∙ found))
    ∙ named_in c.self.inside.names c.args.owner.now test (λ l own. own) hash rows c.self.invariant.0 c.owner_hash-hash.ensures
    ∙ ap (λ (f : StoredLocks). find test f.states) c.self.view_is
