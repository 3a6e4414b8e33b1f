use Rattle.std.proofs.Common.{◌∙◌, ap, option_map, sym}
use Rattle.std.proofs.lemmas.Bool.{ltb-true}
use Rattle.nfs_locks.specs.AllLocks.{locks_in, locks_of}
use Rattle.nfs_locks.specs.Locks.{is_lock_of, lock_of}
use Rattle.nfs_locks.specs.StoredLocks.{lock_seen}
use Rattle.nfs_locks.proofs.Elements.{find_seen}
use Rattle.nfs_locks.proofs.Files.{locks_at}
use Rattle.nfs_locks.proofs.Indexed.{in_view}
use Rattle.nfs_locks.proofs.locks.Locks.lock_of.Goals as goal

pub returns : goal.returns
returns c =
    let file = c.in_ok-get.field-0.now in
    ap (option_map lock_seen) c.lock_of.ensures
    ∙ find_seen lock_seen (is_lock_of c.args.owner.now) file.states
    ∙ ap (lock_of c.args.owner.now) (sym (locks_at c.deref.result.now c.args.node file (ltb-true _ _ (sym c.in_ok-get.ensures.lookup.0)) c.in_ok-get.ensures.lookup.1))
    ∙ ap (λ locks. lock_of c.args.owner.now (locks_of c.args.node locks)) (ap locks_in c.deref.ensures.value ∙ in_view c.self.inside.nodes.room c.self.inside.files.items c.args.self.now c.self.view_is)
