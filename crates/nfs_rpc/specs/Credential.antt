-- Credentials and verifiers (RFC 5531, section 8.2).
use Rattle.std.specs.Prelude.{◌≡◌, ℕ, ◌==◌, List, Option, Some, None, Ok, Err, if◌then◌else◌}
use Rattle.nfs_rpc.specs.declared.credential.TheConstants.{AUTH_NONE, AUTH_SYS, BODY_LIMIT}
use Rattle.nfs_rpc.specs.AuthSys.{AuthSys, auth_sys}
use Rattle.nfs_forms.specs.declared.principal.Principal.{Principal}
use Rattle.nfs_forms.specs.declared.principal.Principal.TheVariants as principals
use Rattle.xdr.specs.Form.{Form, ◌and◌, u32, opaque}
use Rattle.xdr.specs.Reading.{Begins, Read}

-- struct opaque_auth { auth_flavor flavor; opaque body<400>; };
abbrev pub OpaqueAuth : Type 0
OpaqueAuth = ℕ × List ℕ

abbrev pub opaque_auth : Form OpaqueAuth
opaque_auth = u32 and opaque BODY_LIMIT

-- The principal of a credential. With AUTH_NONE the body may be anything, and with AUTH_SYS any bytes after the groups
-- are ignored.
abbrev pub IsOf : OpaqueAuth → Principal → Type 0
IsOf credential principals.AuthNone = credential.0 ≡ AUTH_NONE
IsOf credential (principals.AuthSys uid) =
    (credential.0 ≡ AUTH_SYS)
    × ((a : AuthSys) × (rest : List ℕ) × Begins (auth_sys.layout a) credential.1 rest
    × (a.uid ≡ uid))

-- How a credential is read: the user, if the body could be read.
abbrev pub user_of : Read AuthSys → Option Principal
user_of (Ok a) = Some (principals.AuthSys a.0.uid)
user_of (Err e) = None

abbrev pub principal_of : OpaqueAuth → Option Principal
principal_of credential =
    if credential.0 == AUTH_NONE then Some principals.AuthNone
    else if credential.0 == AUTH_SYS then user_of (auth_sys.at credential.1)
    else None
