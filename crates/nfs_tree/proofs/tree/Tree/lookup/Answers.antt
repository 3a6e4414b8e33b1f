use Rattle.std.proofs.Common.{◌≡◌, ◌<◌, length, Some, position, arith, ap, ◌∙◌, sym}
use Rattle.nfs_tree.specs.Tree.{is_child}
use Rattle.nfs_tree.proofs.Nodes.{few_nodes, found_child}
use Rattle.nfs_tree.proofs.tree.Tree.lookup.Goals as goal

pub overflow_cast-result : goal.overflow_cast-result
overflow_cast-result c =
    let nodes = c.self.inside.nodes.items in
    let found : position (is_child c.args.node c.args.name.now) nodes ≡ Some c.in_ok-place.place =
    ap (position (is_child c.args.node c.args.name.now)) (sym c.as_slice.ensures.value) ∙ sym c.place_of.ensures ∙ c.in_ok-place.was in
    let at = found_child nodes c.args.node c.args.name.now c.in_ok-place.place c.self.invariant found in
    let below : c.in_ok-place.place < length nodes = at.0 in
    omega (arith, few_nodes nodes c.self.invariant)

pub overflow_add-result : goal.overflow_add-result
overflow_add-result c =
    let nodes = c.self.inside.nodes.items in
    let found : position (is_child c.args.node c.args.name.now) nodes ≡ Some c.in_ok-place.place =
    ap (position (is_child c.args.node c.args.name.now)) (sym c.as_slice.ensures.value) ∙ sym c.place_of.ensures ∙ c.in_ok-place.was in
    let at = found_child nodes c.args.node c.args.name.now c.in_ok-place.place c.self.invariant found in
    let below : c.in_ok-place.place < length nodes = at.0 in
    omega (arith, few_nodes nodes c.self.invariant)

pub returns-clause-parent : goal.returns-clause-parent
returns-clause-parent c =
    let nodes = c.self.inside.nodes.items in
    let found : position (is_child c.args.node c.args.name.now) nodes ≡ Some c.in_ok-place.place =
    ap (position (is_child c.args.node c.args.name.now)) (sym c.as_slice.ensures.value) ∙ sym c.place_of.ensures ∙ c.in_ok-place.was in
    let at = found_child nodes c.args.node c.args.name.now c.in_ok-place.place c.self.invariant found in
    rw (← c.self.view_is) at.1
