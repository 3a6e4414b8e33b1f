use Rattle.std.proofs.Common.{subst, sym}
use Rattle.nfs_share.specs.Opens.{FileOpens, IsAbove}
use Rattle.table_tests.proofs.Numbers.{opened}
use Rattle.table_tests.proofs.opens.try_open.Goals as goal

pub returns-in_ok-owner-in-Err-Memory : goal.returns-in_ok-owner-in-Err-Memory
returns-in_ok-owner-in-Err-Memory c =
    let above = subst (λ (f : FileOpens). IsAbove c.args.number f.opens) (sym c.in-Err-Memory.ensures.err) c.requires.newest in
    record {
      numbers = opened c.in_ok-owner-in-Err-Memory.field-0 c.args.share c.args.number c.try_open-in-Err-Memory.result c.try_open.new.self c.try_open-in-Err-Memory.new.self c.try_open-in-Err-Memory.ensures.ok c.try_open-in-Err-Memory.ensures.err above;
    }

pub returns-in_default : goal.returns-in_default
returns-in_default c = record {
  numbers = opened c.in_ok-owner.field-0 c.args.share c.args.number c.try_open.result c.args.file.now c.try_open.new.self c.try_open.ensures.ok c.try_open.ensures.err c.requires.newest;
}

pub returns-in_default-2 : goal.returns-in_default-2
returns-in_default-2 c = record {
  numbers = opened c.in_ok-owner.field-0 c.args.share c.args.number c.try_open.result c.args.file.now c.try_open.new.self c.try_open.ensures.ok c.try_open.ensures.err c.requires.newest;
}
