use Rattle.std.proofs.Common.{◌∙◌, Bool, ap, not, subst, sym}
use Rattle.nfs_locks.specs.KeptLocks.{AreRowsOf, IsRowOf, owner_hash, states_of}
use Rattle.nfs_locks.specs.Locks.{is_lock_of, without}
use Rattle.nfs_locks.specs.StoredLocks.{StoredLocks, lock_seen, locks_seen}
use Rattle.nfs_locks.specs.declared.lock_state.LockState.{LockState}
use Rattle.nfs_locks.proofs.Rowed.{hashes, rows_without}
use Rattle.nfs_locks.proofs.file_locks.FileLocks.remove_owner.Goals as goal
use Rattle.nfs_rows.specs.Rows.{is_named, without as without_rows}
use Rattle.nfs_rows.proofs.Callers.{named_is}
use Rattle.nfs_rows.proofs.Each.{all_filter}

pub invariant_of-self : goal.invariant_of-self
invariant_of-self c =
    let test : LockState → Bool = λ l. is_lock_of c.args.owner.now (lock_seen l) in (
      subst (AreRowsOf c.self.inside.names) (sym c.remove_named.ensures.rows)
          (all_filter (IsRowOf c.self.inside.names) (λ r. not (is_named c.args.hash test r)) c.self.inside.states.rows c.self.invariant.0),
      c.self.invariant.1,
    )

pub returns-clause-states : goal.returns-clause-states
returns-clause-states c =
    let names = c.self.inside.names in
    let rows = c.self.inside.states.rows in
    let owner = c.args.owner.now in
    let test : LockState → Bool = λ l. is_lock_of owner (lock_seen l) in
    let hash = c.requires ∙ ap (λ (f : StoredLocks). owner_hash f.names owner) (sym c.self.view_is) in
    ap (λ rows. locks_seen (states_of rows)) (c.remove_named.ensures.rows ∙ ap (λ h. without_rows (is_named h test) rows) hash)
    ∙ rows_without (is_named (owner_hash names owner) test) (is_lock_of owner) rows
    (named_is (owner_hash names owner) test rows (hashes names owner test (λ l own. own) rows c.self.invariant.0))
    ∙ ap (λ (f : StoredLocks). without (is_lock_of owner) (locks_seen f.states)) c.self.view_is
