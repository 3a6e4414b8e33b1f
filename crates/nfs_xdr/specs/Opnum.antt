-- The operations of NFSv4.0: the number of each, what it works on, and the room of its reply (RFC 7530, section 16; RFC
-- 7531, nfs_opnum4).
use Rattle.std.specs.Prelude.{◌≡◌, ℕ, ◌+◌, Bool, true, false, Option, Some, None, ◌==◌}
use Rattle.std.proofs.Common.{refl}
use Rattle.std.specs.List.{find}
use Rattle.nfs_xdr.specs.declared.opnum.Class.{Class}
use Rattle.nfs_xdr.specs.declared.opnum.Class.TheVariants.{OnTree, OnState, OnLeases, OnNothing}
use Rattle.nfs_xdr.specs.declared.opnum.DirectoryChange.{DirectoryChange}
use Rattle.nfs_xdr.specs.declared.opnum.DirectoryChange.TheVariants as changes
use Rattle.nfs_xdr.specs.declared.opnum.Opnum.{Opnum}
use Rattle.nfs_xdr.specs.declared.opnum.Opnum.TheVariants as op
use Rattle.nfs_xdr.specs.declared.opnum.TheConstants.{OPNUMS}
use Rattle.nfs_xdr.specs.declared.opnum.Unsupported.{Unsupported}
use Rattle.nfs_xdr.specs.declared.opnum.Unsupported.TheVariants as without
use Rattle.xdr.specs.Form.{Form, enumeration}

abbrev pub number_of_unsupported : Unsupported → ℕ
number_of_unsupported without.Create = 6
number_of_unsupported without.Delegpurge = 7
number_of_unsupported without.Link = 11
number_of_unsupported without.Lookupp = 16
number_of_unsupported without.Nverify = 17
number_of_unsupported without.Openattr = 19
number_of_unsupported without.Putpubfh = 23
number_of_unsupported without.Readlink = 27
number_of_unsupported without.Remove = 28
number_of_unsupported without.Rename = 29
number_of_unsupported without.Secinfo = 33
number_of_unsupported without.Verify = 37

-- which change of a directory an operation without a rule would be, if it is one
abbrev pub change_of : Unsupported → Option DirectoryChange
change_of without.Create = Some changes.Create
change_of without.Link = Some changes.Link
change_of without.Remove = Some changes.Remove
change_of without.Rename = Some changes.Rename
change_of o = None

abbrev pub operation_of : DirectoryChange → Unsupported
operation_of changes.Create = without.Create
operation_of changes.Link = without.Link
operation_of changes.Remove = without.Remove
operation_of changes.Rename = without.Rename

-- an operation's row in the list: its number, and what it works on
abbrev pub row_of : Opnum → ℕ × Class
row_of op.Access = (3, OnTree)
row_of op.Close = (4, OnState)
row_of op.Commit = (5, OnTree)
row_of op.Delegreturn = (8, OnState)
row_of op.Getattr = (9, OnState)
row_of op.Getfh = (10, OnTree)
row_of op.Lock = (12, OnState)
row_of op.Lockt = (13, OnState)
row_of op.Locku = (14, OnState)
row_of op.Lookup = (15, OnTree)
row_of op.Open = (18, OnState)
row_of op.OpenConfirm = (20, OnState)
row_of op.OpenDowngrade = (21, OnState)
row_of op.Putfh = (22, OnTree)
row_of op.Putrootfh = (24, OnTree)
row_of op.Read = (25, OnState)
row_of op.Readdir = (26, OnState)
row_of op.Renew = (30, OnLeases)
row_of op.Restorefh = (31, OnTree)
row_of op.Savefh = (32, OnTree)
row_of op.Setattr = (34, OnState)
row_of op.Setclientid = (35, OnState)
row_of op.SetclientidConfirm = (36, OnState)
row_of op.Write = (38, OnState)
row_of op.ReleaseLockowner = (39, OnState)
row_of (op.Unsupported o) = (number_of_unsupported o, OnNothing)
row_of op.Illegal = (10044, OnNothing)

abbrev pub number_of : Opnum → ℕ
number_of o = (row_of o).0

abbrev pub class_of : Opnum → Class
class_of o = (row_of o).1

abbrev pub is_on_state : Class → Bool
is_on_state OnTree = false
is_on_state OnState = true
is_on_state OnLeases = false
is_on_state OnNothing = false

abbrev pub is_of_tree : Class → Bool
is_of_tree OnTree = true
is_of_tree OnState = false
is_of_tree OnLeases = false
is_of_tree OnNothing = false

-- No result of the operation is longer than this. READ's has the bytes of a whole file, of which there are at most
-- 65,536, and READDIR's has at most so many bytes behind its status.
abbrev pub answer_limit : Opnum → ℕ
answer_limit op.Read = 67_572
answer_limit op.Readdir = 67_572
answer_limit o = 2_036

-- the room that has to be left in the reply for the operation to be run: that of its result, and of a refusal of the
-- next operation
abbrev pub room_of : Opnum → ℕ
room_of o = answer_limit o + 12

-- the operation that has this number, if there is one
abbrev pub opnum_of : ℕ → Option Opnum
opnum_of number = find (λ o. number_of o == number) OPNUMS

pub known : (o : Opnum) → opnum_of (number_of o) ≡ Some o
known op.Illegal = refl
known (op.Unsupported without.Create) = refl
known (op.Unsupported o) = refl
known o = refl

unfoldable pub opnum : Form Opnum
opnum = enumeration number_of OPNUMS known
