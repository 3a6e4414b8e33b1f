use Rattle.std.proofs.Common.{◌≡◌, ◌<◌, ◌∙◌, Bool, ℕ, ap, length, not, rules, subst, sym}
use Rattle.nfs_locks.specs.KeptLocks.{AreOfClients}
use Rattle.nfs_locks.specs.Locks.{is_under}
use Rattle.nfs_locks.specs.StoredLocks.{lock_seen}
use Rattle.nfs_locks.specs.declared.lock_state.LockState.{LockState}
use Rattle.nfs_locks.proofs.Removing.{all_gone, none_read, some_less, some_without}
use Rattle.nfs_locks.proofs.removals.remove_under.Goals as goal
use Rattle.nfs_rows.specs.Rows.{Row, is_of_client, without}
use Rattle.nfs_rows.proofs.Each.{all_filter}

abbrev client_of : LockState → ℕ
client_of l = l.owner.client.number

pub removing-smaller : goal.removing-smaller
removing-smaller c =
    let test : LockState → Bool = λ l. is_under c.args.open_number (lock_seen l) in
    let rows = c.removing.states.rows in
    let left = c.remove_of_client.ensures.rows test (λ shown answer says. search rules) in
    subst (λ left. length left < length rows) (sym left) (some_less test client_of c.in-Some.client rows c.removing.invariant.clients c.in-Some.ensures)

pub removing-preserved : goal.removing-preserved
removing-preserved c =
    let test : LockState → Bool = λ l. is_under c.args.open_number (lock_seen l) in
    let rows = c.removing.states.rows in
    let left = c.remove_of_client.ensures.rows test (λ shown answer says. search rules) in
    record {
      stay = ap (without (λ r. test r.value)) left
          ∙ some_without test client_of c.in-Some.client rows
          ∙ c.removing.invariant.stay;
      clients = subst AreOfClients (sym left) (all_filter (λ (r : Row LockState). r.client ≡ client_of r.value) (λ r. not (is_of_client c.in-Some.client test r)) rows c.removing.invariant.clients);
      room = c.remove_of_client.ensures.room ∙ c.removing.invariant.room;
    }

pub returns-in_default-clause-rows : goal.returns-in_default-clause-rows
returns-in_default-clause-rows c =
    let test : LockState → Bool = λ l. is_under c.args.open_number (lock_seen l) in
    let rows = c.removing.states.rows in
    all_gone (λ r. test r.value) rows (none_read (λ (r : Row LockState). client_of r.value) _ c.in_default.ensures)
    ∙ c.removing.invariant.stay
