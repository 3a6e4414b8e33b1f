-- The keys of the hashes of owners, the same in all files.
use Rattle.std.proofs.Common.{◌≡◌, ℕ, zero, suc, ◌<◌, List, [], ◌∷◌, get_or, length, replicate, set, slice_index_or, slice_set, sym, ap, ◌∙◌, arith, refl}
use Rattle.std.specs.List.{AllByRecursion}
use Rattle.std.specs.declared.hash.RandomState.{RandomState}
use Rattle.nfs_forms.specs.declared.lock_owner.LockOwner.{LockOwner}
use Rattle.nfs_locks.specs.KeptLocks.{owner_hash}
use Rattle.nfs_locks.specs.LockNodes.{AreNamedBy, HaveHash, names_of}
use Rattle.nfs_locks.specs.StoredLocks.{StoredLocks}

pub all_same : (n : ℕ) (names : RandomState) → AllByRecursion (λ m. m ≡ names) (replicate n names)
all_same zero names = tt
all_same (suc n) names = (refl, all_same n names)

-- a hash by the one key is that by each
pub hashed : (names : RandomState) (hash : ℕ) (owner : LockOwner) (files : List StoredLocks) → hash ≡ owner_hash names owner → AreNamedBy names files → HaveHash hash owner files
hashed names hash owner [] is named = tt
hashed names hash owner (f ∷ files) is named = (is ∙ ap (λ n. owner_hash n owner) (sym named.0), hashed names hash owner files is named.1)

pub hash_at : (hash : ℕ) (owner : LockOwner) (files : List StoredLocks) (i : ℕ) (d : StoredLocks) → i < length files → HaveHash hash owner files → hash ≡ owner_hash (get_or files i d).names owner
hash_at hash owner [] i d below have = absurd (omega (arith, below))
hash_at hash owner (f ∷ files) zero d below have = have.0
hash_at hash owner (f ∷ files) (suc i) d below have = hash_at hash owner files i d (omega (arith, below)) have.1

-- a change of the lock states of one file leaves the keys
pub names_set : (files : List StoredLocks) (i : ℕ) (d next : StoredLocks) → i < length files → next.names ≡ (get_or files i d).names → names_of (set files i next) ≡ names_of files
names_set [] i d next below same = absurd (omega (arith, below))
names_set (f ∷ files) zero d next below same = ap (λ n. n ∷ names_of files) same
names_set (f ∷ files) (suc i) d next below same = ap (λ ns. f.names ∷ ns) (names_set files i d next (omega (arith, below)) same)

pub names_at : (files : List StoredLocks) (node : ℕ) (old new : StoredLocks) → node < length files → old ≡ slice_index_or files node old → new.names ≡ old.names → names_of (slice_set files node new) ≡ names_of files
names_at [] node old new below is same = absurd (omega (arith, below))
names_at (f ∷ files) zero old new below is same = ap (λ n. n ∷ names_of files) (same ∙ ap (λ (g : StoredLocks). g.names) is)
names_at (f ∷ files) (suc node) old new below is same = ap (λ ns. f.names ∷ ns) (names_at files node old new (omega (arith, below)) is same)
