use Rattle.std.proofs.Common.{◌∙◌, Bool, ap}
use Rattle.std.specs.List.{list_any}
use Rattle.nfs_locks.specs.AllLocks.{locks_in}
use Rattle.nfs_locks.specs.Locks.{ByteLocks, is_lock_of_client}
use Rattle.nfs_locks.proofs.Files.{any_file}
use Rattle.nfs_locks.proofs.Indexed.{in_view}
use Rattle.nfs_locks.proofs.locks.Locks.has_client.Goals as goal

pub returns : goal.returns
returns c =
    let test : ByteLocks → Bool = is_lock_of_client c.args.client in
    c.has_client_in.ensures
    ∙ any_file test c.deref.result.now
    ∙ ap (list_any (list_any test)) (ap locks_in c.deref.ensures.value ∙ in_view c.self.inside.nodes.room c.self.inside.files.items c.args.self.now c.self.view_is)
