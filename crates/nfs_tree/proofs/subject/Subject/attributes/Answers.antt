use Rattle.std.proofs.Common.{ap, ◌∙◌}
use Rattle.nfs_tree.proofs.Attributes.{few_attributes}
use Rattle.nfs_tree.proofs.subject.Subject.attributes.Goals as goal
use Rattle.nfs_tree.specs.Attributes.{common, words_of}

pub returns-clause-few : goal.returns-clause-few
returns-clause-few c =
    few_attributes c.in_ok-mask.mask c.in_ok-values.values c.args.self c.args.mask.now c.common-words.result
    (c.common-words.ensures ∙ ap (λ w. common w c.readable.result) c.of.ensures ∙ ap (common (words_of c.args.mask.now)) c.readable.ensures)
    c.in_ok-mask.ensures.mask
    c.in_ok-values.ensures
