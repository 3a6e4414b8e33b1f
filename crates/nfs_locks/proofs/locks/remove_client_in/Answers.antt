use Rattle.std.proofs.Common.{◌∙◌, arith}
use Rattle.nfs_locks.specs.Locks.{is_lock_of_client, without}
use Rattle.nfs_locks.proofs.Files.{all_changed, changes_one_more}
use Rattle.nfs_locks.proofs.Named.{names_set}
use Rattle.nfs_locks.proofs.locks.remove_client_in.Goals as goal

pub loop-file-preserved : goal.loop-file-preserved
loop-file-preserved c = record {
  seen = changes_one_more (without (is_lock_of_client c.args.client)) c.args.files.now c.loop-file.files c.loop-file.file-index c.file-item.result c.remove_client.new.self
      (omega arith) c.loop-file.auto.files c.loop-file.invariant.seen c.remove_client.ensures.states;
  names = names_set c.loop-file.files c.loop-file.file-index c.file-item.result c.remove_client.new.self (omega (arith, c.loop-file.auto.files)) c.remove_client.ensures.names
      ∙ c.loop-file.invariant.names;
}

pub returns-clause-locks : goal.returns-clause-locks
returns-clause-locks c = all_changed (without (is_lock_of_client c.args.client)) c.args.files.now c.loop-file.files c.loop-file.file-index c.loop-file-test.false c.loop-file.invariant.seen
