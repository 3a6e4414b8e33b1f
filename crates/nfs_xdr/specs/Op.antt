-- Operations with their arguments (RFC 7530, section 16; RFC 7531, nfs_argop4).
use Rattle.std.specs.Prelude.{Bool}
use Rattle.std.proofs.Common.{refl}
use Rattle.nfs_xdr.specs.declared.op.Op.{Op}
use Rattle.nfs_xdr.specs.declared.op.Op.TheVariants as ops
use Rattle.nfs_xdr.specs.declared.opnum.Opnum.{Opnum}
use Rattle.nfs_xdr.specs.declared.opnum.Opnum.TheVariants as opnums
use Rattle.nfs_operations.specs as of
use Rattle.nfs_xdr.specs.Opnum.{class_of, is_on_state, is_of_tree, opnum}
use Rattle.xdr.specs.Form.{Form}
use Rattle.xdr.specs.Switch.{Case, Content, case, no_case, Arm, arm_in, Agrees, IsRead}
use Rattle.xdr.specs.Union.{switch}

-- union nfs_argop4 switch (nfs_opnum4 argop)
abbrev pub op_case : Opnum → Case Op
op_case opnums.Access = case of.Access.arguments ops.Access
op_case opnums.Close = case of.Close.arguments ops.Close
op_case opnums.Commit = case of.Commit.arguments ops.Commit
op_case opnums.Delegreturn = case of.Delegreturn.arguments ops.Delegreturn
op_case opnums.Getattr = case of.Getattr.arguments ops.Getattr
op_case opnums.Getfh = case of.Getfh.arguments (λ v. ops.Getfh)
op_case opnums.Lock = case of.Lock.arguments ops.Lock
op_case opnums.Lockt = case of.Lockt.arguments ops.Lockt
op_case opnums.Locku = case of.Locku.arguments ops.Locku
op_case opnums.Lookup = case of.Lookup.arguments ops.Lookup
op_case opnums.Open = case of.Open.arguments ops.Open
op_case opnums.OpenConfirm = case of.OpenConfirm.arguments ops.OpenConfirm
op_case opnums.OpenDowngrade = case of.OpenDowngrade.arguments ops.OpenDowngrade
op_case opnums.Putfh = case of.Putfh.arguments ops.Putfh
op_case opnums.Putrootfh = case of.Putrootfh.arguments (λ v. ops.Putrootfh)
op_case opnums.Read = case of.Read.arguments ops.Read
op_case opnums.Readdir = case of.Readdir.arguments ops.Readdir
op_case opnums.Renew = case of.Renew.arguments ops.Renew
op_case opnums.Restorefh = case of.Restorefh.arguments (λ v. ops.Restorefh)
op_case opnums.Savefh = case of.Savefh.arguments (λ v. ops.Savefh)
op_case opnums.Setattr = case of.Setattr.arguments ops.Setattr
op_case opnums.Setclientid = case of.Setclientid.arguments ops.Setclientid
op_case opnums.SetclientidConfirm = case of.SetclientidConfirm.arguments ops.SetclientidConfirm
op_case opnums.Write = case of.Write.arguments ops.Write
op_case opnums.ReleaseLockowner = case of.ReleaseLockowner.arguments ops.ReleaseLockowner
op_case (opnums.Unsupported o) = no_case
op_case opnums.Illegal = no_case

-- an operation's row: its number, and how its arguments are written after the number
abbrev row : (o : Opnum) → Content (op_case o) → Opnum × Arm Op
row o content = (o, arm_in (op_case o) content)

abbrev pub row_of : Op → Opnum × Arm Op
row_of (ops.Access v) = row opnums.Access v
row_of (ops.Close v) = row opnums.Close v
row_of (ops.Commit v) = row opnums.Commit v
row_of (ops.Delegreturn v) = row opnums.Delegreturn v
row_of (ops.Getattr v) = row opnums.Getattr v
row_of ops.Getfh = row opnums.Getfh tt
row_of (ops.Lock v) = row opnums.Lock v
row_of (ops.Lockt v) = row opnums.Lockt v
row_of (ops.Locku v) = row opnums.Locku v
row_of (ops.Lookup v) = row opnums.Lookup v
row_of (ops.Open v) = row opnums.Open v
row_of (ops.OpenConfirm v) = row opnums.OpenConfirm v
row_of (ops.OpenDowngrade v) = row opnums.OpenDowngrade v
row_of (ops.Putfh v) = row opnums.Putfh v
row_of ops.Putrootfh = row opnums.Putrootfh tt
row_of (ops.Read v) = row opnums.Read v
row_of (ops.Readdir v) = row opnums.Readdir v
row_of (ops.Renew v) = row opnums.Renew v
row_of ops.Restorefh = row opnums.Restorefh tt
row_of ops.Savefh = row opnums.Savefh tt
row_of (ops.Setattr v) = row opnums.Setattr v
row_of (ops.Setclientid v) = row opnums.Setclientid v
row_of (ops.SetclientidConfirm v) = row opnums.SetclientidConfirm v
row_of (ops.Write v) = row opnums.Write v
row_of (ops.ReleaseLockowner v) = row opnums.ReleaseLockowner v

abbrev pub opnum_of : Op → Opnum
opnum_of o = (row_of o).0

abbrev pub op_arm : Op → Arm Op
op_arm o = (row_of o).1

pub op_agrees : (o : Opnum) → Agrees opnum_of op_arm o (op_case o)
op_agrees opnums.Illegal = tt
op_agrees (opnums.Unsupported o) = tt
op_agrees o = λ v. (refl, refl)

pub op_is_read : (o : Op) → IsRead op_case opnum_of op_arm o
op_is_read (ops.Access v) = record { is = refl; reads = λ bytes. refl }
op_is_read o = record { is = refl; reads = λ bytes. refl }

unfoldable pub op : Form Op
op = switch opnum op_case opnum_of op_arm op_agrees op_is_read

-- every answer of the operation except NFS4ERR_RESOURCE is an entry of the journal
abbrev pub has_entry : Op → Bool
has_entry o = is_on_state (class_of (opnum_of o))

-- the operation needs only the tree of files and the filehandles
abbrev pub is_on_tree : Op → Bool
is_on_tree o = is_of_tree (class_of (opnum_of o))
