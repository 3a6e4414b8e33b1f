-- What LOCK, LOCKT and LOCKU have in common (RFC 7530, sections 9.2, 9.3 and 16.10 to 16.12): the mode of a lock's
-- bytes, and the lock that is in the way of another.
use Rattle.std.specs.Prelude.{Some, None}
use Rattle.nfs_forms.specs.declared.lock_denied.LockDenied.{LockDenied}
use Rattle.nfs_forms.specs.declared.lock_type.LockType.{LockType}
use Rattle.nfs_forms.specs.declared.lock_type.LockType.TheVariants as types
use Rattle.nfs_locks.specs.Report.{Report}
use Rattle.nfs_ranges.specs.Bytes.{length_of}
use Rattle.nfs_ranges.specs.declared.mode.Mode.{Mode}
use Rattle.nfs_ranges.specs.declared.mode.Mode.TheVariants as modes
use Rattle.nfs_ranges.specs.declared.piece.Piece.{Piece}
use Rattle.nfs_ranges.specs.declared.range.Range.{Range}

-- The mode in which a lock of this type holds its bytes. No list of those who wait is kept, so that the types of lock
-- that wait are as those that don't.
abbrev pub mode_of : LockType → Mode
mode_of types.Read = modes.Read
mode_of types.Write = modes.Write
mode_of types.ReadWait = modes.Read
mode_of types.WriteWait = modes.Write

-- the type of lock that is held in this mode
abbrev pub type_of : Mode → LockType
type_of modes.Read = types.Read
type_of modes.Write = types.Write

-- the change of a LOCK, and that of a LOCKU
abbrev pub lock_of_bytes : Mode → Range → Piece
lock_of_bytes mode range = record { range = range; mode = Some mode }

abbrev pub unlock_of_bytes : Range → Piece
unlock_of_bytes range = record { range = range; mode = None }

-- what NFS4ERR_DENIED tells of the lock that is in the way
abbrev pub denied_by : Report → LockDenied
denied_by report = record {
  offset = report.range.first;
  length = length_of report.range;
  locktype = type_of report.mode;
  owner = report.owner;
}
