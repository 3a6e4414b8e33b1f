use Rattle.std.proofs.Common.{List, ◌≡◌, Some, length, ap, ◌∙◌, subst, sym, arith}
use Rattle.std.specs.Prelude.{slice_get}
use Rattle.std.proofs.lemmas.Bool.{ltb-false, ltb-true}
use Rattle.nfs_share.specs.AllOpens.{at_node, named_in, opens_in}
use Rattle.nfs_share.specs.OpenFound.{open_seen}
use Rattle.nfs_share.specs.OpenNodes.{open_number}
use Rattle.nfs_share.specs.Opens.{FileOpens, is_stateid_of}
use Rattle.nfs_share.proofs.AllOpens.{as_many}
use Rattle.nfs_share.proofs.Indexed.{list_there, named, only_open, opens_view, unnamed}
use Rattle.nfs_nodes.proofs.Callers.{nowhere, nowhere_beyond, somewhere}
use Rattle.std.specs.Prelude.{option_map}
use Rattle.nfs_share.proofs.opens.Opens.find.Goals as goal

pub returns-in_err-node : goal.returns-in_err-node
returns-in_err-node c =
    let lists = opens_in c.self.inside.files.items in
    ap (option_map open_seen) c.from_residual.ensures
    ∙ sym (unnamed c.args.stateid lists (nowhere open_number c.self.inside.nodes (is_stateid_of c.args.stateid) c.args.stateid.number (only_open c.args.stateid) lists (sym c.in_err-node.ensures) c.self.invariant.0.stand))
    ∙ ap (named_in c.args.stateid) (opens_view c.self.inside.nodes.room c.self.inside.lent.room c.self.inside.files.items c.args.self.now c.self.view_is)

pub returns-in_err-file : goal.returns-in_err-file
returns-in_err-file c =
    let lists = opens_in c.self.inside.files.items in
    ap (option_map open_seen) c.from_residual-in_err-file.ensures
    ∙ sym (unnamed c.args.stateid lists (nowhere_beyond open_number c.self.inside.nodes (is_stateid_of c.args.stateid) c.args.stateid.number (only_open c.args.stateid) lists c.in_ok-node.node (sym c.in_ok-node.ensures)
    (omega (arith, as_many (λ f. f.opens) c.self.inside.files.items, ltb-false _ _ (sym c.in_err-file.ensures.lookup.0), ap (λ (files : List FileOpens). length files) c.deref.ensures.value)) c.self.invariant.0.stand))
    ∙ ap (named_in c.args.stateid) (opens_view c.self.inside.nodes.room c.self.inside.lent.room c.self.inside.files.items c.args.self.now c.self.view_is)

pub returns : goal.returns
returns c =
    let lists = opens_in c.self.inside.files.items in
    let node = c.in_ok-node.node in
    let file = c.in_ok-file.file.now in
    let there : slice_get lists node ≡ Some file.opens =
    subst (λ (files : List FileOpens). slice_get (opens_in files) node ≡ Some file.opens) c.deref.ensures.value
    (list_there (λ f. f.opens) c.deref.result.now node file (ltb-true _ _ (sym c.in_ok-file.ensures.lookup.0)) c.in_ok-file.ensures.lookup.1) in
    c.found_at.ensures
    ∙ ap (at_node node) c.named_by.ensures
    ∙ named c.args.stateid lists node file.opens there
    (somewhere open_number c.self.inside.nodes (is_stateid_of c.args.stateid) c.args.stateid.number (only_open c.args.stateid) lists node file.opens (sym c.in_ok-node.ensures) there c.self.invariant.0.stand)
    ∙ ap (named_in c.args.stateid) (opens_view c.self.inside.nodes.room c.self.inside.lent.room c.self.inside.files.items c.args.self.now c.self.view_is)
