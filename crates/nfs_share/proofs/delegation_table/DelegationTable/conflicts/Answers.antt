use Rattle.std.proofs.Common.{◌∙◌, sym}
use Rattle.nfs_share.proofs.LentTables.{all_conflict, writing_conflict}
use Rattle.nfs_share.proofs.delegation_table.DelegationTable.conflicts.Goals as goal

pub returns-then-is_in_way_of : goal.returns-then-is_in_way_of
returns-then-is_in_way_of c =
    all_conflict c.args.file_use c.args.self.now.delegations c.others-others.result.all (sym c.is_in_way_of.ensures ∙ c.if-is_in_way_of.true) c.others-others.ensures.all

pub returns-else-is_in_way_of : goal.returns-else-is_in_way_of
returns-else-is_in_way_of c =
    writing_conflict c.args.file_use c.args.self.now.delegations c.others-others.result.marked (sym c.is_in_way_of.ensures ∙ c.if-is_in_way_of.false) c.others-others.ensures.writing
