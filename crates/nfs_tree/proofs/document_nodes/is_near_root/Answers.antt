use Rattle.std.proofs.Common.{◌==◌, sym, ap, ◌∙◌}
use Rattle.nfs_tree.specs.declared.path.TheConstants.{PATH_LIMIT}
use Rattle.nfs_tree.specs.declared.tree.TheConstants.{ROOT}
use Rattle.nfs_tree.proofs.DocumentNodes.{step_up, steps_done}
use Rattle.nfs_tree.proofs.document_nodes.is_near_root.Goals as goal

pub loop-preserved : goal.loop-preserved
loop-preserved c =
    rw c.parent_of-at.ensures
    (step_up c.args.nodes.now PATH_LIMIT c.loop.counter c.loop.at c.loop-test.true ∙ c.loop.invariant)

pub returns : goal.returns
returns c =
    ap (λ n. n == ROOT)
    (sym (steps_done c.args.nodes.now PATH_LIMIT c.loop.counter c.loop.at c.loop-test.false) ∙ c.loop.invariant)
