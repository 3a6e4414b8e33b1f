use Rattle.std.proofs.Common.{◌∙◌, Bool, ap, not, rules, subst, sym}
use Rattle.nfs_locks.specs.KeptLocks.{AreRowsOf, IsRowOf, states_of}
use Rattle.nfs_locks.specs.Locks.{is_lock_of_client, without}
use Rattle.nfs_locks.specs.StoredLocks.{StoredLocks, lock_seen, locks_seen}
use Rattle.nfs_locks.specs.declared.lock_state.LockState.{LockState}
use Rattle.nfs_locks.proofs.Rowed.{clients, rows_without}
use Rattle.nfs_locks.proofs.file_locks.FileLocks.remove_client.Goals as goal
use Rattle.nfs_rows.specs.Rows.{is_of_client}
use Rattle.nfs_rows.proofs.Callers.{client_is}
use Rattle.nfs_rows.proofs.Each.{all_filter}

pub invariant_of-self : goal.invariant_of-self
invariant_of-self c =
    let test : LockState → Bool = λ l. is_lock_of_client c.args.client (lock_seen l) in
    let left = c.remove_of_client.ensures.rows test (λ shown answer says. search rules) in (
      subst (AreRowsOf c.self.inside.names) (sym left)
          (all_filter (IsRowOf c.self.inside.names) (λ r. not (is_of_client c.args.client.number test r)) c.self.inside.states.rows c.self.invariant.0),
      c.self.invariant.1,
    )

pub returns-clause-states : goal.returns-clause-states
returns-clause-states c =
    let rows = c.self.inside.states.rows in
    let client = c.args.client in
    let test : LockState → Bool = λ l. is_lock_of_client client (lock_seen l) in
    let left = c.remove_of_client.ensures.rows test (λ shown answer says. search rules) in
    ap (λ rows. locks_seen (states_of rows)) left
    ∙ rows_without (is_of_client client.number test) (is_lock_of_client client) rows (client_is client.number test rows (clients c.self.inside.names client rows c.self.invariant.0))
    ∙ ap (λ (f : StoredLocks). without (is_lock_of_client client) (locks_seen f.states)) c.self.view_is
