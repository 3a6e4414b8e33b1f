use Rattle.std.proofs.Common.{arith}
use Rattle.std.specs.Prelude.{not}
use Rattle.std.proofs.lemmas.List.{length-map}
use Rattle.nfs_locks.specs.Locks.{is_under}
use Rattle.nfs_locks.specs.StoredLocks.{lock_seen}
use Rattle.nfs_locks.proofs.Indexed.{fewer_left}
use Rattle.nfs_locks.proofs.numbers.close_in.Goals as goal

pub overflow_sub-result : goal.overflow_sub-result
overflow_sub-result c =
    omega (
      arith,
      c.len.ensures,
      c.len-before.ensures,
      fewer_left (λ l. not (is_under c.args.open_number l)) c.args.file.now.states c.close.new.self.states c.close.ensures.states,
    )

pub returns-clause-gone : goal.returns-clause-gone
returns-clause-gone c =
    omega (
      arith,
      c.len.ensures,
      c.len-before.ensures,
      fewer_left (λ l. not (is_under c.args.open_number l)) c.args.file.now.states c.close.new.self.states c.close.ensures.states,
      length-map c.args.file.now.states lock_seen,
      length-map c.close.new.self.states lock_seen,
    )
