use Rattle.std.proofs.Common.{◌≡◌, ap, map, nat_eq, sym, ◌∙◌, arith}
use Rattle.std.specs.Prelude.{slice_get}
use Rattle.std.specs.List.{list_any}
use Rattle.nfs_nodes.specs.Numbers.{list_of, list_or_none}
use Rattle.nfs_nodes.proofs.Callers.{stand_without}
use Rattle.nfs_nodes.proofs.Listed.{none_numbered}
use Rattle.nfs_nodes.proofs.numbers.forget_other.Goals as goal

pub returns-else-has_number_at-clause-stand : goal.returns-else-has_number_at-clause-stand
returns-else-has_number_at-clause-stand g c =
    let number_of = g.F.Numbered.number_of in
    let all = map g.F.Numbered.states c.args.files.now in
    let number = c.in-Some.number in
    let node = c.in-Some.node in
    stand_without number_of c.args.nodes.now c.remove.new.self number node c.remove.ensures.nodes 0 all
    (λ place here there is.
    let same : node ≡ place = omega (arith, is) in
    let seen : list_of node all ≡ here = ap list_or_none (ap (slice_get all) same ∙ there) in
    none_numbered number_of number here (ap (list_any (λ s. nat_eq (number_of s) number)) (sym seen) ∙ sym c.has_number_at.ensures ∙ c.if-has_number_at.false))
    c.requires.stand
