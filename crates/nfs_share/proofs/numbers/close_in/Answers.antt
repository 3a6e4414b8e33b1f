use Rattle.std.proofs.Common.{arith}
use Rattle.std.specs.Prelude.{not}
use Rattle.nfs_share.specs.Opens.{is_numbered}
use Rattle.nfs_share.proofs.Indexed.{fewer_left}
use Rattle.nfs_share.proofs.numbers.close_in.Goals as goal

pub overflow_sub-result : goal.overflow_sub-result
overflow_sub-result c = omega (arith, c.len.ensures, c.len-before.ensures, fewer_left (λ x. not (is_numbered c.args.number x)) c.args.file.now.opens c.close.new.self.opens c.close.ensures.opens)

pub returns-clause-gone : goal.returns-clause-gone
returns-clause-gone c = omega (arith, c.len.ensures, c.len-before.ensures, fewer_left (λ x. not (is_numbered c.args.number x)) c.args.file.now.opens c.close.new.self.opens c.close.ensures.opens)
