use Rattle.std.proofs.Common.{subst, sym}
use Rattle.nfs_share.specs.Delegations.{IsAboveLent}
use Rattle.nfs_share.specs.Opens.{FileOpens}
use Rattle.table_tests.proofs.Numbers.{lent}
use Rattle.table_tests.proofs.delegations.delegate.Goals as goal

pub returns-in-Err-Memory : goal.returns-in-Err-Memory
returns-in-Err-Memory c =
    let above = subst (λ (f : FileOpens). IsAboveLent c.args.number f.delegations) (sym c.in-Err-Memory.ensures.err) c.requires.newest in
    record {
      numbers = lent c.args.client c.args.kind c.args.number c.delegate-in-Err-Memory.result c.delegate.new.self c.delegate-in-Err-Memory.new.self c.delegate-in-Err-Memory.ensures.ok c.delegate-in-Err-Memory.ensures.err above;
    }

pub returns-in_default : goal.returns-in_default
returns-in_default c = record {
  numbers = lent c.args.client c.args.kind c.args.number c.delegate.result c.args.file.now c.delegate.new.self c.delegate.ensures.ok c.delegate.ensures.err c.requires.newest;
}

pub returns-in_default-2 : goal.returns-in_default-2
returns-in_default-2 c = record {
  numbers = lent c.args.client c.args.kind c.args.number c.delegate.result c.args.file.now c.delegate.new.self c.delegate.ensures.ok c.delegate.ensures.err c.requires.newest;
}
