use Rattle.std.proofs.Common.{ap, ◌∙◌, sym}
use Rattle.nfs_locks.specs.KeptLocks.{owner_hash}
use Rattle.nfs_locks.specs.StoredLocks.{StoredLocks}
use Rattle.nfs_locks.proofs.Named.{hash_at}
use Rattle.nfs_locks.proofs.locks.holds_in.Goals as goal

pub holds-requires : goal.holds-requires
holds-requires c =
    hash_at c.args.hash c.args.owner.now c.args.files.now c.loop-file.file-index c.file-item.result c.loop-file-test.true c.requires
    ∙ ap (λ (f : StoredLocks). owner_hash f.names c.args.owner.now) (sym c.file-item.is)
