-- nfs_lock_type4 (RFC 7530, section 16.10; RFC 7531): whether bytes are locked for reading or for writing, and whether
-- the client waits for the lock.
use Rattle.std.specs.Prelude.{◌≡◌, ℕ, [], ◌∷◌, Some, ◌==◌, List}
use Rattle.std.proofs.Common.{refl}
use Rattle.std.specs.List.{find}
use Rattle.nfs_forms.specs.declared.lock_type.LockType.{LockType}
use Rattle.nfs_forms.specs.declared.lock_type.LockType.TheVariants.{Read, Write, ReadWait, WriteWait}
use Rattle.xdr.specs.Form.{Form, enumeration}

-- enum nfs_lock_type4 { READ_LT = 1, WRITE_LT = 2, READW_LT = 3, WRITEW_LT = 4 };
abbrev pub number_of : LockType → ℕ
number_of Read = 1
number_of Write = 2
number_of ReadWait = 3
number_of WriteWait = 4

abbrev pub lock_types : List LockType
lock_types = Read ∷ Write ∷ ReadWait ∷ WriteWait ∷ []

pub known : (t : LockType) → find (λ v. number_of v == number_of t) lock_types ≡ Some t
known Read = refl
known t = refl

unfoldable pub lock_type : Form LockType
lock_type = enumeration number_of lock_types known
