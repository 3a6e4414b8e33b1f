use Rattle.std.proofs.Common.{◌<◌, ◌∙◌, Bool, ap, length, subst, sym}
use Rattle.nfs_locks.specs.Locks.{is_lock_of}
use Rattle.nfs_locks.specs.StoredLocks.{lock_seen}
use Rattle.nfs_locks.specs.declared.lock_state.LockState.{LockState}
use Rattle.nfs_locks.proofs.Removing.{all_gone, none_read, one_less, one_without}
use Rattle.nfs_locks.proofs.removals.remove_named.Goals as goal
use Rattle.nfs_rows.specs.Rows.{Row, is_named, without}

pub removing-smaller : goal.removing-smaller
removing-smaller c =
    let test : LockState → Bool = λ l. is_lock_of c.args.owner.now (lock_seen l) in
    let rows = c.removing.states.rows in
    subst (λ left. length left < length rows) (sym c.remove.ensures.rows) (one_less (is_named c.args.hash test) c.in-Some.number rows c.in-Some.ensures.number)

pub removing-preserved : goal.removing-preserved
removing-preserved c =
    let test : LockState → Bool = λ l. is_lock_of c.args.owner.now (lock_seen l) in
    let rows = c.removing.states.rows in
    record {
      stay = ap (without (is_named c.args.hash test)) c.remove.ensures.rows
          ∙ one_without (is_named c.args.hash test) c.in-Some.number rows c.number_of.ensures.order c.in-Some.ensures.number
          ∙ c.removing.invariant.stay;
      room = c.remove.ensures.room ∙ c.removing.invariant.room;
    }

pub removing-smaller-in-Some : goal.removing-smaller-in-Some
removing-smaller-in-Some c =
    let test : LockState → Bool = λ l. is_lock_of c.args.owner.now (lock_seen l) in
    let rows = c.removing.states.rows in
    subst (λ left. length left < length rows) (sym c.remove.ensures.rows) (one_less (is_named c.args.hash test) c.in-Some.number rows c.in-Some.ensures.number)

pub removing-preserved-in-Some : goal.removing-preserved-in-Some
removing-preserved-in-Some c =
    let test : LockState → Bool = λ l. is_lock_of c.args.owner.now (lock_seen l) in
    let rows = c.removing.states.rows in
    record {
      stay = ap (without (is_named c.args.hash test)) c.remove.ensures.rows
          ∙ one_without (is_named c.args.hash test) c.in-Some.number rows c.number_of.ensures.order c.in-Some.ensures.number
          ∙ c.removing.invariant.stay;
      room = c.remove.ensures.room ∙ c.removing.invariant.room;
    }

pub returns-in_default-clause-rows : goal.returns-in_default-clause-rows
returns-in_default-clause-rows c =
    let test : LockState → Bool = λ l. is_lock_of c.args.owner.now (lock_seen l) in
    let rows = c.removing.states.rows in
    all_gone (is_named c.args.hash test) rows (none_read (λ (r : Row LockState). r.number) _ c.in_default.ensures.number)
    ∙ c.removing.invariant.stay
