-- The body of an AUTH_SYS credential (RFC 5531, appendix A): for which user a client says that it acts.
use Rattle.std.specs.Prelude.{ℕ, List}
use Rattle.std.proofs.Common.{refl}
use Rattle.nfs_rpc.specs.declared.auth_sys.TheConstants.{GID_LIMIT, MACHINE_NAME_LIMIT}
use Rattle.xdr.specs.Form.{Form, ◌and◌, of, u32, opaque, many}

-- a stamp, the name of the machine, the user, the user's group, and the user's other groups
pub record AuthSys : Type 0 where
  pub stamp : ℕ
  pub machine_name : List ℕ
  pub uid : ℕ
  pub gid : ℕ
  pub gids : List ℕ

abbrev pub gids : Form (List ℕ)
gids = many GID_LIMIT u32

-- struct authsys_parms { unsigned int stamp; string machinename<255>; unsigned int uid; unsigned int gid;
--   unsigned int gids<16>; };
unfoldable pub auth_sys : Form AuthSys
auth_sys =
    of
    (λ p. record {
      stamp = p.0;
      machine_name = p.1.0;
      uid = p.1.1.0;
      gid = p.1.1.1.0;
      gids = p.1.1.1.1;
    })
    (λ a. (a.stamp, (a.machine_name, (a.uid, (a.gid, a.gids))))) (λ p. refl) (λ a. refl)
    (u32 and opaque MACHINE_NAME_LIMIT and u32 and u32 and gids)
