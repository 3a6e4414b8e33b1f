-- ACCESS (RFC 7530, section 16.1): which of the requested access rights the client has on the object of the current
-- filehandle.
use Rattle.std.specs.Prelude.{ℕ, ◌+◌, Bool, Option, Some, None, bit_and, if◌then◌else◌}
use Rattle.nfs_tree.specs.declared.filehandles.Filehandles.{Filehandles}
use Rattle.nfs_tree.specs.declared.profile.Profile.{Profile}
use Rattle.nfs_tree.specs.declared.profile.Profile.TheVariants.{Plain, Clients}
use Rattle.nfs_tree.specs.declared.operations.access.TheConstants.{ACCESS_READ, ACCESS_LOOKUP, ACCESS_MODIFY, ACCESS_EXTEND, ACCESS_DELETE, ACCESS_EXECUTE}
use Rattle.nfs_tree.specs.Effect.{Effect, stays}
use Rattle.nfs_tree.specs.Exports.{Exported}
use Rattle.nfs_tree.specs.Tree.{is_directory}
use Rattle.nfs_operations.specs.declared.access.AccessBits.{AccessBits}
use Rattle.nfs_forms.specs.declared.answer.Answer.TheVariants.{Done, Refused}
use Rattle.nfs_xdr.specs.declared.op_result.OpResult.TheVariants as results
use Rattle.nfs_forms.specs.declared.status.Refusal.TheVariants as refusals
use Rattle.nfs_forms.specs.Answer.{PlainAnswer}

-- all access rights that there are
abbrev pub all_access : ℕ
all_access =
    ACCESS_READ + ACCESS_LOOKUP + ACCESS_MODIFY + ACCESS_EXTEND + ACCESS_DELETE + ACCESS_EXECUTE

-- Everyone may list and search a directory, and read, change and extend a file. Under the profile for clients everyone
-- may change what is in a directory, too, as clients ask that before they write to a file.
abbrev pub directory_access : Profile → ℕ
directory_access Plain = ACCESS_READ + ACCESS_LOOKUP
directory_access Clients = ACCESS_READ + ACCESS_LOOKUP + ACCESS_MODIFY

abbrev pub allowed_access : Profile → Bool → ℕ
allowed_access profile is_directory =
    if is_directory then directory_access profile
    else ACCESS_READ + ACCESS_MODIFY + ACCESS_EXTEND

-- of the requested access rights, those that the server can check, and those that the client has
abbrev pub access_of : Profile → Bool → ℕ → AccessBits
access_of profile is_directory requested = record {
  supported = bit_and requested all_access;
  access = bit_and requested (allowed_access profile is_directory);
}

-- NFS4ERR_NOFILEHANDLE if there is no current filehandle
abbrev pub access_to : Exported → Option ℕ → ℕ → PlainAnswer AccessBits
access_to export None requested = Refused refusals.NoFileHandle
access_to export (Some node) requested =
    Done (access_of export.profile (is_directory export.nodes node) requested)

-- neither filehandle changes
abbrev pub access : Exported → Filehandles → ℕ → Effect
access export old requested = stays old (results.Access (access_to export old.current requested))
