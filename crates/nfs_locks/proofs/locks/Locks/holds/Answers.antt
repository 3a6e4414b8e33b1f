use Rattle.std.proofs.Common.{◌∙◌, Bool, ◌&&◌, ap, subst, sym}
use Rattle.std.specs.List.{list_any}
use Rattle.nfs_locks.specs.AllLocks.{locks_in}
use Rattle.nfs_locks.specs.LockNodes.{HaveHash}
use Rattle.nfs_locks.specs.Locks.{ByteLocks, holds_bytes, is_lock_of}
use Rattle.nfs_locks.proofs.Files.{any_file}
use Rattle.nfs_locks.proofs.Indexed.{in_view}
use Rattle.nfs_locks.proofs.Named.{hashed}
use Rattle.nfs_locks.proofs.locks.Locks.holds.Goals as goal

pub returns : goal.returns
returns c =
    let test : ByteLocks → Bool = λ l. is_lock_of c.args.owner.now l && holds_bytes l in
    c.holds_in.ensures
    ∙ any_file test c.deref.result.now
    ∙ ap (list_any (list_any test)) (ap locks_in c.deref.ensures.value ∙ in_view c.self.inside.nodes.room c.self.inside.files.items c.args.self.now c.self.view_is)

pub holds_in-requires : goal.holds_in-requires
holds_in-requires c =
    subst (HaveHash c.owner_hash-hash.result c.args.owner.now) (sym c.deref.ensures.value)
    (hashed c.self.inside.names c.owner_hash-hash.result c.args.owner.now c.self.inside.files.items c.owner_hash-hash.ensures c.self.invariant.1)
