use Rattle.std.proofs.Common.{ap, nat_eq, sym, ◌∙◌}
use Rattle.std.specs.List.{list_any}
use Rattle.std.proofs.lemmas.Bool.{ltb-false, ltb-true}
use Rattle.nfs_nodes.proofs.Listed.{list_there, none_there}
use Rattle.nfs_nodes.proofs.numbers.has_number_at.Goals as goal

pub returns-in-Some : goal.returns-in-Some
returns-in-Some g c =
    c.has_number.ensures
    ∙ ap (list_any (λ s. nat_eq (g.F.Numbered.number_of s) c.args.number))
    (sym (list_there g.F.Numbered.states c.args.files.now c.args.node c.in-Some.file.now (ltb-true _ _ (sym c.in-Some.ensures.lookup.0)) c.in-Some.ensures.lookup.1))

pub returns-in-None : goal.returns-in-None
returns-in-None g c =
    ap (list_any (λ s. nat_eq (g.F.Numbered.number_of s) c.args.number))
    (none_there g.F.Numbered.states c.args.files.now c.args.node (ltb-false _ _ (sym c.in-None.ensures.lookup.0)))
