use Rattle.std.proofs.Common.{◌≡◌, ◌++◌, drop}
use Rattle.nfs_tree.specs.Attributes.{values_in}
use Rattle.nfs_tree.proofs.subject.add_values.Given as goal

abbrev pub invariant-loop-attribute : goal.invariant-loop-attribute
invariant-loop-attribute l =
    l.values ++ values_in l.subject l.word (drop l.attribute-index l.attributes) ≡ l.fn.values ++ values_in l.subject l.word l.attributes
