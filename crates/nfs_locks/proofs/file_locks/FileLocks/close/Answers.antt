use Rattle.std.proofs.Common.{◌≡◌, ◌∙◌, ap, not, refl, subst, sym}
use Rattle.nfs_locks.specs.KeptLocks.{AreRowsOf, IsRowOf, states_of}
use Rattle.nfs_locks.specs.Locks.{is_under, without}
use Rattle.nfs_locks.specs.StoredLocks.{StoredLocks, lock_seen, locks_seen}
use Rattle.nfs_locks.proofs.Elements.{all_always}
use Rattle.nfs_locks.proofs.Rowed.{of_clients, rows_without}
use Rattle.nfs_locks.proofs.file_locks.FileLocks.close.Goals as goal
use Rattle.nfs_rows.proofs.Each.{all_filter}

pub remove_under-requires : goal.remove_under-requires
remove_under-requires c = of_clients c.self.inside.names c.self.inside.states.rows c.self.invariant.0

pub invariant_of-self : goal.invariant_of-self
invariant_of-self c = (
  subst (AreRowsOf c.self.inside.names) (sym c.remove_under.ensures.rows)
      (all_filter (IsRowOf c.self.inside.names) (λ r. not (is_under c.args.open_number (lock_seen r.value))) c.self.inside.states.rows c.self.invariant.0),
  c.self.invariant.1,
)

pub returns-clause-states : goal.returns-clause-states
returns-clause-states c =
    let rows = c.self.inside.states.rows in
    let test = is_under c.args.open_number in
    ap (λ rows. locks_seen (states_of rows)) c.remove_under.ensures.rows
    ∙ rows_without (λ r. test (lock_seen r.value)) test rows (all_always (λ r. test (lock_seen r.value) ≡ test (lock_seen r.value)) (λ r. refl) rows)
    ∙ ap (λ (f : StoredLocks). without test (locks_seen f.states)) c.self.view_is
