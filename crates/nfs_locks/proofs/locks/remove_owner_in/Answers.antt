use Rattle.std.proofs.Common.{◌≡◌, ◌∙◌, arith, subst, sym}
use Rattle.std.specs.List.{AllByRecursion}
use Rattle.nfs_locks.specs.KeptLocks.{owner_hash}
use Rattle.nfs_locks.specs.Locks.{is_lock_of, without}
use Rattle.nfs_locks.proofs.Files.{all_changed, changes_one_more}
use Rattle.nfs_locks.proofs.Named.{hash_at, names_set}
use Rattle.nfs_locks.proofs.locks.remove_owner_in.Goals as goal

pub loop-file-preserved : goal.loop-file-preserved
loop-file-preserved c = record {
  seen = changes_one_more (without (is_lock_of c.args.owner.now)) c.args.files.now c.loop-file.files c.loop-file.file-index c.file-item.result c.remove_owner.new.self
      (omega arith) c.loop-file.auto.files c.loop-file.invariant.seen c.remove_owner.ensures.states;
  names = names_set c.loop-file.files c.loop-file.file-index c.file-item.result c.remove_owner.new.self (omega (arith, c.loop-file.auto.files)) c.remove_owner.ensures.names
      ∙ c.loop-file.invariant.names;
}

pub returns-clause-locks : goal.returns-clause-locks
returns-clause-locks c = all_changed (without (is_lock_of c.args.owner.now)) c.args.files.now c.loop-file.files c.loop-file.file-index c.loop-file-test.false c.loop-file.invariant.seen

pub remove_owner-requires : goal.remove_owner-requires
remove_owner-requires c =
    hash_at c.args.hash c.args.owner.now c.loop-file.files c.loop-file.file-index c.file-item.result (omega (arith, c.loop-file.auto.files))
    (subst (AllByRecursion (λ n. c.args.hash ≡ owner_hash n c.args.owner.now)) (sym c.loop-file.invariant.names) c.requires)
