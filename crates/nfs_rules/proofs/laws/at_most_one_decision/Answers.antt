use Rattle.nfs_rules.proofs.Uniqueness.{ruled_once}
use Rattle.nfs_rules.proofs.laws.at_most_one_decision.Goals as goal

pub returns : goal.returns
returns c = λ journal state request d e.
    ruled_once (record { one_range = c.at_most_one_range.ensures; one_report = c.at_most_one_report.ensures }) request.op journal state request d e
