use Rattle.std.proofs.Common.{◌-◌, ◌++◌, ◌∙◌, ap₂, reverse, vec_len, List}
use Rattle.nfs_ranges.specs.declared.piece.Piece.{Piece}
use Rattle.nfs_ranges.proofs.InOrder.{moved_back, moved_on}
use Rattle.nfs_ranges.proofs.runs.Runs.divide.Goals as goal

pub returns-then-start-count-clause-runs : goal.returns-then-start-count-clause-runs
returns-then-start-count-clause-runs c =
    ap₂ (λ (xs ys : List Piece). xs ++ reverse ys) c.shift.ensures.from c.shift.ensures.to
    ∙ moved_back c.args.self.now.before.items c.args.self.now.behind.items
    (vec_len c.args.self.now.before - (c.len-count.result - c.args.start))

pub returns-else-start-count-clause-runs : goal.returns-else-start-count-clause-runs
returns-else-start-count-clause-runs c =
    ap₂ (λ (xs ys : List Piece). xs ++ reverse ys) c.shift-else-start-count.ensures.to
    c.shift-else-start-count.ensures.from
    ∙ moved_on c.args.self.now.before.items c.args.self.now.behind.items
    (vec_len c.args.self.now.behind - (c.args.start - c.len-count.result))
