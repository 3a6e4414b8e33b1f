use Rattle.std.proofs.Common.{ℕ, sym, ◌∙◌, ap}
use Rattle.std.proofs.lemmas.Bool.{eq-eqb, eqb-true}
use Rattle.nfs_ranges.specs.Merged.{in_order}
use Rattle.nfs_ranges.specs.RoomyRanges.{modes_in}
use Rattle.nfs_ranges.specs.Runs.{runs}
use Rattle.nfs_ranges.proofs.Merged.{held_none, none_held, runs_are}
use Rattle.nfs_ranges.proofs.ranges.Ranges.is_empty.Goals as goal

pub returns-clause-free : goal.returns-clause-free
returns-clause-free c =
    let same = ap modes_in c.self.view_is in (
      (λ none. λ byte bound. ap (λ (m : ℕ → _). m byte) (sym same)
          ∙ none_held (in_order c.self.inside.runs) (sym c.len.ensures ∙ eqb-true c.len.result 0 none) byte),
      (λ free. eq-eqb c.len.result 0 (c.len.ensures
          ∙ held_none (in_order c.self.inside.runs) c.self.invariant.0
          (λ byte bound. ap (λ (m : ℕ → _). m byte) same ∙ free byte bound))),
    )

pub returns-clause-count : goal.returns-clause-count
returns-clause-count c =
    let count =
    ap runs (sym (ap modes_in c.self.view_is)) ∙ runs_are (in_order c.self.inside.runs) c.self.invariant.0
    ∙ sym c.len.ensures in
    ((λ none. count ∙ eqb-true c.len.result 0 none), (λ none. eq-eqb c.len.result 0 (sym count ∙ none)))
