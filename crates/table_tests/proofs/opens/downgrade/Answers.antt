use Rattle.table_tests.proofs.Numbers.{downgraded}
use Rattle.table_tests.proofs.opens.downgrade.Goals as goal

pub returns : goal.returns
returns c = record {
  numbers = λ above is. downgraded c.args.number c.args.share above c.downgrade.result c.args.file.now c.downgrade.new.self c.downgrade.ensures.ok c.downgrade.ensures.err is;
}
