use Rattle.std.proofs.Common.{sym, ◌∙◌, arith}
use Rattle.std.proofs.lemmas.Bool.{ltb-false, ltb-true}
use Rattle.nfs_ranges.specs.Merged.{in_order}
use Rattle.nfs_ranges.proofs.Elements.{get_none}
use Rattle.nfs_ranges.proofs.Ended.{ended_length, get_ended, get_not_ended}
use Rattle.nfs_ranges.proofs.runs.Runs.is_ended.Goals as goal

pub returns-in-Some-clause-some : goal.returns-in-Some-clause-some
returns-in-Some-clause-some c =
    λ less.
    get_ended c.args.byte (in_order c.args.self.now) c.args.place c.in-Some.run' c.requires.merged
    (sym c.get.ensures ∙ c.in-Some.is) (ltb-true c.in-Some.run'.range.last c.args.byte less)

pub returns-in-Some-clause-none : goal.returns-in-Some-clause-none
returns-in-Some-clause-none c =
    λ most.
    get_not_ended c.args.byte (in_order c.args.self.now) c.args.place c.in-Some.run' c.requires.merged
    (sym c.get.ensures ∙ c.in-Some.is) (ltb-false c.in-Some.run'.range.last c.args.byte most)

pub returns-in-None-clause-none : goal.returns-in-None-clause-none
returns-in-None-clause-none c =
    λ none.
    omega (
      arith,
      get_none (in_order c.args.self.now) c.args.place (sym c.get.ensures ∙ c.in-None.is),
      ended_length c.args.byte (in_order c.args.self.now),
    )
