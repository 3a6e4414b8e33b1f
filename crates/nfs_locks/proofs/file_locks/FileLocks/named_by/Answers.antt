use Rattle.std.proofs.Common.{◌∙◌, Bool, None, Some, ap, sym}
use Rattle.std.specs.Option.{option_copied}
use Rattle.std.proofs.lemmas.Bool.{cond-false, cond-true}
use Rattle.nfs_locks.specs.Locks.{is_lock_of_client}
use Rattle.nfs_locks.specs.StoredLocks.{lock_seen}
use Rattle.nfs_locks.specs.declared.lock_state.LockState.{LockState}
use Rattle.nfs_locks.proofs.Alone.{kept_if, named}
use Rattle.nfs_locks.proofs.file_locks.FileLocks.named_by.Goals as goal

pub returns-in_err-state : goal.returns-in_err-state
returns-in_err-state c =
    let test : LockState → Bool = λ l. is_lock_of_client c.args.stateid.client (lock_seen l) in
    ap option_copied c.from_residual.ensures
    ∙ ap (kept_if test) c.in_err-state.ensures.found
    ∙ sym (named c.args.stateid c.args.self.now.states c.numbered.ensures.order)

pub returns-then-is_of_client : goal.returns-then-is_of_client
returns-then-is_of_client c =
    let test : LockState → Bool = λ l. is_lock_of_client c.args.stateid.client (lock_seen l) in
    let state = c.in_ok-state.state.now in
    sym (cond-true (test state) (Some state) None (sym c.is_of_client.ensures ∙ c.if-is_of_client.true))
    ∙ ap (kept_if test) c.in_ok-state.ensures.found
    ∙ sym (named c.args.stateid c.args.self.now.states c.numbered.ensures.order)

pub returns-else-is_of_client : goal.returns-else-is_of_client
returns-else-is_of_client c =
    let test : LockState → Bool = λ l. is_lock_of_client c.args.stateid.client (lock_seen l) in
    let state = c.in_ok-state.state.now in
    sym (cond-false (test state) (Some state) None (sym c.is_of_client.ensures ∙ c.if-is_of_client.false))
    ∙ ap (kept_if test) c.in_ok-state.ensures.found
    ∙ sym (named c.args.stateid c.args.self.now.states c.numbered.ensures.order)
