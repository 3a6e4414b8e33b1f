-- Who sends a call (RFC 5531, section 8.2): the flavor, and under AUTH_SYS the uid.
use Rattle.std.specs.Prelude.{Bool, true, false, ◌==◌}
use Rattle.nfs_forms.specs.declared.principal.Principal.{Principal}
use Rattle.nfs_forms.specs.declared.principal.Principal.TheVariants.{AuthNone, AuthSys}

-- the two principals are the same
abbrev pub is_same_principal : Principal → Principal → Bool
is_same_principal AuthNone AuthNone = true
is_same_principal AuthNone (AuthSys uid) = false
is_same_principal (AuthSys uid) AuthNone = false
is_same_principal (AuthSys uid) (AuthSys other) = uid == other
