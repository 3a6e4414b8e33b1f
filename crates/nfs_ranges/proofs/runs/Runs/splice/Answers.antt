use Rattle.std.proofs.Common.{◌-◌, ◌++◌, ◌∙◌, sym, ap, reverse, drop, List, arith}
use Rattle.std.specs.List.{cons_option}
use Rattle.nfs_ranges.specs.Merged.{in_order}
use Rattle.nfs_ranges.specs.declared.piece.Piece.{Piece}
use Rattle.nfs_ranges.proofs.InOrder.{first_part, last_part}
use Rattle.nfs_ranges.proofs.runs.Runs.splice.Goals as goal

pub returns-clause-runs : goal.returns-clause-runs
returns-clause-runs c =
    let splice = c.args.splice in
    let ps : List Piece = in_order c.args.self.now in
    let before : List Piece = c.divide.new.self.before.items in
    let behind : List Piece = c.divide.new.self.behind.items in
    let count = sym c.divide.new.self.before.ok.0 ∙ c.divide.ensures.start in
    let first = first_part before behind ps splice.start c.divide.ensures.runs count in
    let last =
    last_part before behind ps splice.start splice.stop (c.len.result - splice.stop) c.divide.ensures.runs count
    c.requires.order c.requires.end (omega (arith, c.len.ensures)) in
    ap (λ zs. before ++ zs)
    (c.push_some-3.ensures.items
    ∙ ap (cons_option splice.left) (c.push_some-2.ensures.items
    ∙ ap (cons_option splice.run) (c.push_some.ensures.items
    ∙ ap (cons_option splice.right) (ap reverse c.truncate.ensures.items ∙ sym last))))
    ∙ ap (λ zs. zs ++ cons_option splice.left (cons_option splice.run (cons_option splice.right (drop splice.stop ps))))
    (sym first)
