use Rattle.std.proofs.Common.{subst, sym}
use Rattle.nfs_rows.specs.Rows.{IsAbove, is_numbered}
use Rattle.table_tests.proofs.RowNumbers.{above_without}
use Rattle.table_tests.proofs.rows.remove.Goals as goal

pub returns : goal.returns
returns c = record {
  numbers = λ above is. subst (IsAbove above) (sym c.remove.ensures.rows) (above_without above (is_numbered c.args.number) c.args.rows.now.rows is);
}
