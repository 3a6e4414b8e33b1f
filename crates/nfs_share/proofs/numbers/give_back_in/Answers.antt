use Rattle.std.proofs.Common.{List, length, ap, arith}
use Rattle.std.specs.Prelude.{not}
use Rattle.nfs_share.specs.Delegations.{is_delegation_numbered}
use Rattle.nfs_share.specs.declared.delegation.Delegation.{Delegation}
use Rattle.nfs_share.proofs.Indexed.{fewer_left}
use Rattle.nfs_share.proofs.numbers.give_back_in.Goals as goal

pub overflow_sub-result : goal.overflow_sub-result
overflow_sub-result c = omega (arith, ap (λ (l : List Delegation). length l) c.delegations.ensures, ap (λ (l : List Delegation). length l) c.delegations-before.ensures, fewer_left (λ x. not (is_delegation_numbered c.args.number x)) c.args.file.now.delegations c.give_back.new.self.delegations c.give_back.ensures.delegations)

pub returns-clause-gone : goal.returns-clause-gone
returns-clause-gone c = omega (arith, ap (λ (l : List Delegation). length l) c.delegations.ensures, ap (λ (l : List Delegation). length l) c.delegations-before.ensures, fewer_left (λ x. not (is_delegation_numbered c.args.number x)) c.args.file.now.delegations c.give_back.new.self.delegations c.give_back.ensures.delegations)
