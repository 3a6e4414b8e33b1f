-- The results of operations (RFC 7530, section 16; RFC 7531, nfs_resop4).
use Rattle.std.specs.Prelude.{◌≡◌, ◌==◌, ℕ, Bool, true, false, Option, Some, None, [], ◌∷◌, if◌then◌else◌}
use Rattle.std.specs.List.{find}
use Rattle.std.proofs.Common.{refl}
use Rattle.nfs_forms.specs.declared.answer.Answer.{Answer}
use Rattle.nfs_forms.specs.declared.answer.Answer.TheVariants.{Refused}
use Rattle.nfs_xdr.specs.declared.op_result.OpResult.{OpResult}
use Rattle.nfs_xdr.specs.declared.op_result.OpResult.TheVariants as results
use Rattle.nfs_xdr.specs.declared.opnum.DirectoryChange.{DirectoryChange}
use Rattle.nfs_xdr.specs.declared.opnum.DirectoryChange.TheVariants as changes
use Rattle.nfs_xdr.specs.declared.opnum.Opnum.{Opnum}
use Rattle.nfs_xdr.specs.declared.opnum.Opnum.TheVariants as opnums
use Rattle.nfs_xdr.specs.declared.opnum.Unsupported.{Unsupported as UnsupportedOp}
use Rattle.nfs_xdr.specs.declared.opnum.Unsupported.TheVariants as without
use Rattle.nfs_forms.specs.declared.status.Refusal.{Refusal}
use Rattle.nfs_forms.specs.declared.status.Refusal.TheVariants as refusals
use Rattle.nfs_forms.specs.declared.status.Status.{Status}
use Rattle.nfs_forms.specs.declared.status.Status.TheVariants as statuses
use Rattle.nfs_forms.specs.Answer as answer
use Rattle.nfs_operations.specs as of
use Rattle.nfs_xdr.specs.Opnum.{change_of, operation_of, opnum}
use Rattle.xdr.specs.Form.{Form, nothing, constant, enumeration}
use Rattle.xdr.specs.Switch.{Case, Content, case, Arm, arm_in, Agrees, IsRead}
use Rattle.xdr.specs.Union.{switch}

-- The results of an operation: how its result is read, and its result for a refusal.
pub record Outcomes : Type 1 where
  pub read : Case OpResult
  pub refused : Refusal → OpResult

abbrev outcomes : {A D C : Type 0} → Form (Answer A D C) → (Answer A D C → OpResult) → Outcomes
outcomes form make = record { read = case form make; refused = λ r. make (Refused r) }

-- An operation without a rule has one result, NFS4ERR_NOTSUPP; one that would change a directory also has NFS4ERR_ROFS.
abbrev status_number : Bool → ℕ
status_number is_read_only = if is_read_only then 30 else 10004

pub status_known : (b : Bool)
    → find (λ v. status_number v == status_number b) (true ∷ false ∷ []) ≡ Some b
status_known true = refl
status_known false = refl

abbrev of_change : DirectoryChange → Bool → OpResult
of_change change true = results.ReadOnly change
of_change change false = results.Unsupported (operation_of change)

abbrev pub change_case : DirectoryChange → Case OpResult
change_case change =
    case (enumeration status_number (true ∷ false ∷ []) status_known) (of_change change)

abbrev without_rule : UnsupportedOp → Option DirectoryChange → Case OpResult
without_rule o (Some change) = change_case change
without_rule o None = case (constant 10004) (λ v. results.Unsupported o)

-- the result of an operation without a rule that is refused with the given status
abbrev pub refused_change : Option DirectoryChange → UnsupportedOp → OpResult
refused_change (Some change) o = results.ReadOnly change
refused_change None o = results.Unsupported o

abbrev pub refused_without_rule : UnsupportedOp → Refusal → OpResult
refused_without_rule o refusals.Rofs = refused_change (change_of o) o
refused_without_rule o r = results.Unsupported o

-- union nfs_resop4 switch (nfs_opnum4 resop)
abbrev pub outcomes_of : Opnum → Outcomes
outcomes_of opnums.Access = outcomes of.Access.result results.Access
outcomes_of opnums.Close = outcomes of.Close.result results.Close
outcomes_of opnums.Commit = outcomes of.Commit.result results.Commit
outcomes_of opnums.Delegreturn = outcomes of.Delegreturn.result results.Delegreturn
outcomes_of opnums.Getattr = outcomes of.Getattr.result results.Getattr
outcomes_of opnums.Getfh = outcomes of.Getfh.result results.Getfh
outcomes_of opnums.Lock = outcomes of.Lock.result results.Lock
outcomes_of opnums.Lockt = outcomes of.Lockt.result results.Lockt
outcomes_of opnums.Locku = outcomes of.Locku.result results.Locku
outcomes_of opnums.Lookup = outcomes of.Lookup.result results.Lookup
outcomes_of opnums.Open = outcomes of.Open.result results.Open
outcomes_of opnums.OpenConfirm = outcomes of.OpenConfirm.result results.OpenConfirm
outcomes_of opnums.OpenDowngrade = outcomes of.OpenDowngrade.result results.OpenDowngrade
outcomes_of opnums.Putfh = outcomes of.Putfh.result results.Putfh
outcomes_of opnums.Putrootfh = outcomes of.Putrootfh.result results.Putrootfh
outcomes_of opnums.Read = outcomes of.Read.result results.Read
outcomes_of opnums.Readdir = outcomes of.Readdir.result results.Readdir
outcomes_of opnums.Renew = outcomes of.Renew.result results.Renew
outcomes_of opnums.Restorefh = outcomes of.Restorefh.result results.Restorefh
outcomes_of opnums.Savefh = outcomes of.Savefh.result results.Savefh
outcomes_of opnums.Setattr = record {
  read = case of.Setattr.result results.Setattr;
  refused = λ r. results.Setattr (of.Setattr.refused r);
}
outcomes_of opnums.Setclientid = outcomes of.Setclientid.result results.Setclientid
outcomes_of opnums.SetclientidConfirm =
    outcomes of.SetclientidConfirm.result results.SetclientidConfirm
outcomes_of opnums.Write = outcomes of.Write.result results.Write
outcomes_of opnums.ReleaseLockowner = outcomes of.ReleaseLockowner.result results.ReleaseLockowner
outcomes_of (opnums.Unsupported o) = record {
  read = without_rule o (change_of o);
  refused = refused_without_rule o;
}
outcomes_of opnums.Illegal = outcomes (answer.plain_answer nothing) results.Illegal

abbrev pub result_case : Opnum → Case OpResult
result_case o = (outcomes_of o).read

-- A result's row: its operation, its status, and how it is written after the operation's number.
pub record Row : Type 1 where
  pub opnum : Opnum
  pub status : Status
  pub arm : Arm OpResult

abbrev row : (o : Opnum) → Status → Content (result_case o) → Row
row o status content = record { opnum = o; status = status; arm = arm_in (result_case o) content }

abbrev not_supported : (o : UnsupportedOp) → Content (result_case (opnums.Unsupported o))
not_supported without.Create = false
not_supported without.Link = false
not_supported without.Remove = false
not_supported without.Rename = false
not_supported o = tt

abbrev read_only : (change : DirectoryChange)
    → Content (result_case (opnums.Unsupported (operation_of change)))
read_only changes.Create = true
read_only change = true

abbrev pub row_of : OpResult → Row
row_of (results.Access a) = row opnums.Access (answer.status_of a) a
row_of (results.Close a) = row opnums.Close (answer.status_of a) a
row_of (results.Commit a) = row opnums.Commit (answer.status_of a) a
row_of (results.Delegreturn a) = row opnums.Delegreturn (answer.status_of a) a
row_of (results.Getattr a) = row opnums.Getattr (answer.status_of a) a
row_of (results.Getfh a) = row opnums.Getfh (answer.status_of a) a
row_of (results.Lock a) = row opnums.Lock (answer.status_of a) a
row_of (results.Lockt a) = row opnums.Lockt (answer.status_of a) a
row_of (results.Locku a) = row opnums.Locku (answer.status_of a) a
row_of (results.Lookup a) = row opnums.Lookup (answer.status_of a) a
row_of (results.Open a) = row opnums.Open (answer.status_of a) a
row_of (results.OpenConfirm a) = row opnums.OpenConfirm (answer.status_of a) a
row_of (results.OpenDowngrade a) = row opnums.OpenDowngrade (answer.status_of a) a
row_of (results.Putfh a) = row opnums.Putfh (answer.status_of a) a
row_of (results.Putrootfh a) = row opnums.Putrootfh (answer.status_of a) a
row_of (results.Read a) = row opnums.Read (answer.status_of a) a
row_of (results.Readdir a) = row opnums.Readdir (answer.status_of a) a
row_of (results.Renew a) = row opnums.Renew (answer.status_of a) a
row_of (results.Restorefh a) = row opnums.Restorefh (answer.status_of a) a
row_of (results.Savefh a) = row opnums.Savefh (answer.status_of a) a
row_of (results.Setattr a) = row opnums.Setattr a.status a
row_of (results.Setclientid a) = row opnums.Setclientid (answer.status_of a) a
row_of (results.SetclientidConfirm a) = row opnums.SetclientidConfirm (answer.status_of a) a
row_of (results.Write a) = row opnums.Write (answer.status_of a) a
row_of (results.ReleaseLockowner a) = row opnums.ReleaseLockowner (answer.status_of a) a
row_of (results.Unsupported o) =
    row (opnums.Unsupported o) (statuses.Refused refusals.NotSupp) (not_supported o)
row_of (results.ReadOnly change) =
    row (opnums.Unsupported (operation_of change)) (statuses.Refused refusals.Rofs)
    (read_only change)
row_of (results.Illegal a) = row opnums.Illegal (answer.status_of a) a

abbrev pub opnum_of : OpResult → Opnum
opnum_of r = (row_of r).opnum

abbrev pub status_of : OpResult → Status
status_of r = (row_of r).status

abbrev pub result_arm : OpResult → Arm OpResult
result_arm r = (row_of r).arm

change_agrees : (change : DirectoryChange)
    → Agrees opnum_of result_arm (opnums.Unsupported (operation_of change)) (change_case change)
change_agrees changes.Create true = (refl, refl)
change_agrees changes.Create false = (refl, refl)
change_agrees change true = (refl, refl)
change_agrees change false = (refl, refl)

pub result_agrees : (o : Opnum) → Agrees opnum_of result_arm o (result_case o)
result_agrees opnums.Illegal = λ a. (refl, refl)
result_agrees (opnums.Unsupported without.Create) = change_agrees changes.Create
result_agrees (opnums.Unsupported without.Link) = change_agrees changes.Link
result_agrees (opnums.Unsupported without.Remove) = change_agrees changes.Remove
result_agrees (opnums.Unsupported without.Rename) = change_agrees changes.Rename
result_agrees (opnums.Unsupported o) = λ a. (refl, refl)
result_agrees o = λ a. (refl, refl)

pub result_is_read : (r : OpResult) → IsRead result_case opnum_of result_arm r
result_is_read (results.Illegal a) = record { is = refl; reads = λ bytes. refl }
result_is_read (results.Unsupported without.Create) = record { is = refl; reads = λ bytes. refl }
result_is_read (results.Unsupported o) = record { is = refl; reads = λ bytes. refl }
result_is_read (results.ReadOnly changes.Create) = record { is = refl; reads = λ bytes. refl }
result_is_read (results.ReadOnly change) = record { is = refl; reads = λ bytes. refl }
result_is_read r = record { is = refl; reads = λ bytes. refl }

unfoldable pub op_result : Form OpResult
op_result = switch opnum result_case opnum_of result_arm result_agrees result_is_read

-- The result of an operation that is refused with the given status.
abbrev pub refusal_of : Opnum → Refusal → OpResult
refusal_of o = (outcomes_of o).refused
