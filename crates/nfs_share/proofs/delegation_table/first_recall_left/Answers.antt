use Rattle.std.proofs.Common.{◌∙◌, sym}
use Rattle.std.proofs.lemmas.Bool.{eqb-true}
use Rattle.std.specs.Prelude.{length}
use Rattle.nfs_share.proofs.FirstRecalls.{none_left}
use Rattle.nfs_share.proofs.delegation_table.first_recall_left.Goals as goal

pub returns-then-is_empty : goal.returns-then-is_empty
returns-then-is_empty c = λ before.
    none_left c.args.delegations.now (eqb-true (length c.args.delegations.now) 0 (sym c.is_empty.ensures ∙ c.if-is_empty.true))
