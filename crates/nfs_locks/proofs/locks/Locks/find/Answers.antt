use Rattle.std.proofs.Common.{List, length, sym, ap, option_map, subst, ◌∙◌, Some, ◌≡◌, arith}
use Rattle.std.specs.Prelude.{slice_get}
use Rattle.std.proofs.lemmas.Bool.{ltb-false, ltb-true}
use Rattle.nfs_locks.specs.AllLocks.{at_node, lock_named_in, locks_in}
use Rattle.nfs_locks.specs.LockFound.{lock_found_seen}
use Rattle.nfs_locks.specs.LockNodes.{number_of}
use Rattle.nfs_locks.specs.Locks.{is_stateid_of}
use Rattle.nfs_locks.specs.StoredLocks.{StoredLocks, lock_seen, locks_seen}
use Rattle.nfs_locks.proofs.Elements.{find_seen}
use Rattle.nfs_locks.proofs.Indexed.{as_many_locks, in_view, locks_there, named, only, unnamed}
use Rattle.nfs_nodes.proofs.Callers.{nowhere, nowhere_beyond, somewhere}
use Rattle.nfs_locks.proofs.locks.Locks.find.Goals as goal

pub returns-in_err-node : goal.returns-in_err-node
returns-in_err-node c =
    let id = c.args.stateid in
    let locks = locks_in c.self.inside.files.items in
    ap (option_map lock_found_seen) c.from_residual.ensures
    ∙ sym (unnamed id locks (nowhere number_of c.self.inside.nodes (is_stateid_of id) id.number (only id) locks (sym c.in_err-node.ensures) c.self.invariant.0.stand))
    ∙ ap (lock_named_in id) (in_view c.self.inside.nodes.room c.self.inside.files.items c.args.self.now c.self.view_is)

pub returns-in_err-file : goal.returns-in_err-file
returns-in_err-file c =
    let id = c.args.stateid in
    let files = c.self.inside.files.items in
    let locks = locks_in files in
    let node = c.in_ok-node.node in
    ap (option_map lock_found_seen) c.from_residual-in_err-file.ensures
    ∙ sym (unnamed id locks (nowhere_beyond number_of c.self.inside.nodes (is_stateid_of id) id.number (only id) locks node (sym c.in_ok-node.ensures)
    (omega (arith, as_many_locks files, ltb-false _ _ (sym c.in_err-file.ensures.lookup.0), ap (λ (files : List StoredLocks). length files) c.deref.ensures.value)) c.self.invariant.0.stand))
    ∙ ap (lock_named_in id) (in_view c.self.inside.nodes.room c.self.inside.files.items c.args.self.now c.self.view_is)

pub returns : goal.returns
returns c =
    let id = c.args.stateid in
    let files = c.self.inside.files.items in
    let locks = locks_in files in
    let node = c.in_ok-node.node in
    let file = c.in_ok-file.file.now in
    let there : slice_get locks node ≡ Some (locks_seen file.states) =
    subst (λ (files : List StoredLocks). slice_get (locks_in files) node ≡ Some (locks_seen file.states)) c.deref.ensures.value
    (locks_there c.deref.result.now node file (ltb-true _ _ (sym c.in_ok-file.ensures.lookup.0)) c.in_ok-file.ensures.lookup.1) in
    c.found_at.ensures
    ∙ ap (λ found. at_node node (option_map lock_seen found)) c.named_by.ensures
    ∙ ap (at_node node) (find_seen lock_seen (is_stateid_of id) file.states)
    ∙ named id locks node (locks_seen file.states) there
    (somewhere number_of c.self.inside.nodes (is_stateid_of id) id.number (only id) locks node (locks_seen file.states) (sym c.in_ok-node.ensures) there c.self.invariant.0.stand)
    ∙ ap (lock_named_in id) (in_view c.self.inside.nodes.room c.self.inside.files.items c.args.self.now c.self.view_is)
