use Rattle.std.proofs.Common.{◌≡◌, ◌∙◌, ◌&&◌, Bool, ap, find, rules, sym}
use Rattle.std.specs.Prelude.{is_some}
use Rattle.std.proofs.lemmas.Bool.{and_parts}
use Rattle.nfs_locks.specs.KeptLocks.{owner_hash}
use Rattle.nfs_locks.specs.Locks.{holds_bytes, is_lock_of}
use Rattle.nfs_locks.specs.StoredLocks.{StoredLocks, lock_seen}
use Rattle.nfs_locks.specs.declared.lock_state.LockState.{LockState}
use Rattle.nfs_locks.proofs.Alone.{any_found}
use Rattle.nfs_locks.proofs.Rowed.{some_named, named_in}
use Rattle.nfs_locks.proofs.file_locks.FileLocks.holds.Goals as goal

pub returns : goal.returns
returns c =
    let rows = c.self.inside.states.rows in
    let owner = c.args.owner.now in
    let test : LockState → Bool = λ l. is_lock_of owner (lock_seen l) && holds_bytes (lock_seen l) in
    let hash = c.args.hash in
    let is : hash ≡ owner_hash c.self.inside.names owner = c.requires ∙ ap (λ (f : StoredLocks). owner_hash f.names owner) (sym c.self.view_is) in
    let found = c.find_named.ensures test (λ shown answer says. search rules) in
    c.is_some.ensures
    ∙ some_named hash test rows c.find_named.result found
    ∙ ap is_some (named_in c.self.inside.names owner test (λ l both. (and_parts (is_lock_of owner (lock_seen l)) (holds_bytes (lock_seen l)) both).0) hash rows c.self.invariant.0 is
    ∙ ap (λ (f : StoredLocks). find test f.states) c.self.view_is)
    ∙ any_found test c.args.self.now.states
