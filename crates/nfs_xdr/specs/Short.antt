-- What bounds the length of a result where neither its form nor its type does. A new operation has a line here only if
-- its result has data of any length.
use Rattle.std.specs.Prelude.{◌≡◌, ◌≤◌, [], length, ⊤}
use Rattle.nfs_forms.specs.Bitmap.{bitmap}
use Rattle.nfs_forms.specs.Fattr.{fattr}
use Rattle.nfs_forms.specs.declared.answer.Answer.{Answer}
use Rattle.nfs_forms.specs.declared.answer.Answer.TheVariants.{Done, Denied, ClidInUse, Refused}
use Rattle.nfs_forms.specs.declared.callback.Address.{Address}
use Rattle.nfs_forms.specs.declared.fattr.Fattr.{Fattr}
use Rattle.nfs_forms.specs.declared.lock_denied.LockDenied.{LockDenied}
use Rattle.nfs_forms.specs.declared.open_owner.TheConstants.{OWNER_NAME_LIMIT}
use Rattle.nfs_operations.specs.declared.«open».OpenOk.{OpenOk}
use Rattle.nfs_operations.specs.declared.read.ReadOk.{ReadOk}
use Rattle.nfs_operations.specs.declared.readdir.ReaddirOk.{ReaddirOk}
use Rattle.nfs_operations.specs.declared.setattr.SetattrResult.{SetattrResult}
use Rattle.nfs_operations.specs.Readdir.{readdir_ok}
use Rattle.nfs_xdr.specs.declared.op_result.OpResult.{OpResult}
use Rattle.nfs_xdr.specs.declared.op_result.OpResult.TheVariants as results

-- GETATTR: the attributes fit their form, and take few bytes
abbrev pub AreFewAttributes : Fattr → Type 0
AreFewAttributes attributes =
    fattr.Fits attributes × (length (fattr.encoding attributes) ≤ 1_024)

-- NFS4ERR_DENIED: the name of the owner whose lock is in the way is within its limit
abbrev pub HasShortName : LockDenied → Type 0
HasShortName denied = length denied.owner.name ≤ OWNER_NAME_LIMIT

-- OPEN: no attributes were set
abbrev pub SetsNothing : OpenOk → Type 0
SetsNothing answer = answer.attrset ≡ []

-- READ: no more bytes than a file can have
abbrev pub AreFewBytes : ReadOk → Type 0
AreFewBytes answer = length answer.bytes ≤ 65_536

-- READDIR: the entries fit their form, and take no more bytes than READDIR may give behind its status
abbrev pub AreFewEntries : ReaddirOk → Type 0
AreFewEntries answer = readdir_ok.Fits answer × (length (readdir_ok.encoding answer) ≤ 65_536)

-- SETATTR: the attributes that were set fit their form, in at most two words
abbrev pub SetsFew : SetattrResult → Type 0
SetsFew answer = bitmap.Fits answer.attributes × (length answer.attributes ≤ 2)

-- NFS4ERR_CLID_INUSE: both parts of the address are short
abbrev pub IsShortAddress : Address → Type 0
IsShortAddress address = (length address.netid ≤ 128) × (length address.addr ≤ 128)

-- each value is bounded by its type
abbrev pub Any : {A : Type 0} → A → Type 0
Any value = ⊤

-- the data of the answer is as these say of it
abbrev pub IsShortAnswer : {A D C : Type 0}
    → (A → Type 0) → (D → Type 0) → (C → Type 0) → Answer A D C → Type 0
IsShortAnswer done denied in_use (Done value) = done value
IsShortAnswer done denied in_use (Denied value) = denied value
IsShortAnswer done denied in_use (ClidInUse value) = in_use value
IsShortAnswer done denied in_use (Refused refusal) = ⊤

abbrev pub IsShort : OpResult → Type 0
IsShort (results.Getattr a) = IsShortAnswer AreFewAttributes Any Any a
IsShort (results.Lock a) = IsShortAnswer Any HasShortName Any a
IsShort (results.Lockt a) = IsShortAnswer Any HasShortName Any a
IsShort (results.Open a) = IsShortAnswer SetsNothing Any Any a
IsShort (results.Read a) = IsShortAnswer AreFewBytes Any Any a
IsShort (results.Readdir a) = IsShortAnswer AreFewEntries Any Any a
IsShort (results.Setattr a) = SetsFew a
IsShort (results.Setclientid a) = IsShortAnswer Any Any IsShortAddress a
IsShort r = ⊤
