use Rattle.nfs_share.proofs.Tables.{Counts}
use Rattle.nfs_share.proofs.open_table.counts_in.Given as goal

-- the opens that were looked at are counted
abbrev pub invariant-loop-open : goal.invariant-loop-open
invariant-loop-open l = record {
  counted : Counts l.rows.rows l.counts l.left;
}
