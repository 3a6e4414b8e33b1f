-- What the two profiles of the server differ in, beside attributes: which operations there are.
use Rattle.std.specs.Prelude.{Bool, ◌&&◌, Option, Some, None, is_none}
use Rattle.nfs_forms.specs.declared.status.Refusal.{Refusal}
use Rattle.nfs_forms.specs.declared.status.Refusal.TheVariants.{NotSupp, Rofs}
use Rattle.nfs_tree.specs.declared.profile.Profile.{Profile}
use Rattle.nfs_tree.specs.declared.profile.Profile.TheVariants.{Plain, Clients}
use Rattle.nfs_xdr.specs.Op.{opnum_of}
use Rattle.nfs_xdr.specs.Opnum.{change_of, class_of, is_on_state}
use Rattle.nfs_xdr.specs.declared.op.Op.{Op}
use Rattle.nfs_xdr.specs.declared.opnum.DirectoryChange.{DirectoryChange}
use Rattle.nfs_xdr.specs.declared.opnum.Opnum.{Opnum}
use Rattle.nfs_xdr.specs.declared.opnum.Opnum.TheVariants as opnums

-- NFS4ERR_ROFS for what would change a directory, and NFS4ERR_NOTSUPP for the other operations without a rule
abbrev pub refusal_of : Option DirectoryChange → Refusal
refusal_of None = NotSupp
refusal_of (Some change) = Rofs

-- What an operation is answered under a profile whatever its arguments are, if it is refused. Under the plain one all
-- operations without a rule are NFS4ERR_NOTSUPP, and so are three that have one.
abbrev pub refusal : Profile → Opnum → Option Refusal
refusal Plain opnums.Commit = Some NotSupp
refusal Plain opnums.Readdir = Some NotSupp
refusal Plain opnums.Setattr = Some NotSupp
refusal Plain (opnums.Unsupported o) = Some NotSupp
refusal Clients (opnums.Unsupported o) = Some (refusal_of (change_of o))
refusal profile o = None

-- every answer of the operation except NFS4ERR_RESOURCE is an entry of the journal: it works on the state, and isn't
-- refused under the profile
abbrev pub has_entry : Profile → Op → Bool
has_entry profile o = is_on_state (class_of (opnum_of o)) && is_none (refusal profile (opnum_of o))
