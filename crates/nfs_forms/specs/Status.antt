-- The statuses and their numbers (RFC 7530, section 13; RFC 7531, nfsstat4).
use Rattle.std.specs.Prelude.{◌≡◌, ℕ, Option, Some, ◌==◌}
use Rattle.std.proofs.Common.{refl}
use Rattle.std.specs.List.{find}
use Rattle.nfs_forms.specs.declared.status.Refusal.{Refusal}
use Rattle.nfs_forms.specs.declared.status.Refusal.TheVariants as refusal
use Rattle.nfs_forms.specs.declared.status.Status.{Status}
use Rattle.nfs_forms.specs.declared.status.Status.TheVariants.{Ok, Denied, ClidInUse, Refused}
use Rattle.nfs_forms.specs.declared.status.TheConstants.{STATUSES}
use Rattle.xdr.specs.Form.{Form, enumeration}

-- enum nfsstat4, of which these are known here
abbrev pub number_of_refusal : Refusal → ℕ
number_of_refusal refusal.NoEnt = 2
number_of_refusal refusal.Access = 13
number_of_refusal refusal.Exist = 17
number_of_refusal refusal.NotDir = 20
number_of_refusal refusal.IsDir = 21
number_of_refusal refusal.Inval = 22
number_of_refusal refusal.FBig = 27
number_of_refusal refusal.Rofs = 30
number_of_refusal refusal.NameTooLong = 63
number_of_refusal refusal.BadHandle = 10001
number_of_refusal refusal.BadCookie = 10003
number_of_refusal refusal.NotSupp = 10004
number_of_refusal refusal.TooSmall = 10005
number_of_refusal refusal.Delay = 10008
number_of_refusal refusal.Same = 10009
number_of_refusal refusal.Expired = 10011
number_of_refusal refusal.Locked = 10012
number_of_refusal refusal.ShareDenied = 10015
number_of_refusal refusal.Resource = 10018
number_of_refusal refusal.NoFileHandle = 10020
number_of_refusal refusal.MinorVersMismatch = 10021
number_of_refusal refusal.StaleClientId = 10022
number_of_refusal refusal.StaleStateId = 10023
number_of_refusal refusal.OldStateId = 10024
number_of_refusal refusal.BadStateId = 10025
number_of_refusal refusal.BadSeqId = 10026
number_of_refusal refusal.NotSame = 10027
number_of_refusal refusal.RestoreFh = 10030
number_of_refusal refusal.AttrNotSupp = 10032
number_of_refusal refusal.NoGrace = 10033
number_of_refusal refusal.BadXdr = 10036
number_of_refusal refusal.LocksHeld = 10037
number_of_refusal refusal.OpenMode = 10038
number_of_refusal refusal.OpIllegal = 10044
number_of_refusal refusal.CbPathDown = 10048

abbrev pub number_of : Status → ℕ
number_of Ok = 0
number_of Denied = 10010
number_of ClidInUse = 10017
number_of (Refused r) = number_of_refusal r

-- the status that has this number, if there is one
abbrev pub status_of : ℕ → Option Status
status_of number = find (λ s. number_of s == number) STATUSES

pub known : (s : Status) → status_of (number_of s) ≡ Some s
known (Refused refusal.NoEnt) = refl
known (Refused r) = refl
known Ok = refl
known s = refl

unfoldable pub status : Form Status
status = enumeration number_of STATUSES known
