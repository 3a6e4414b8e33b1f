-- open_delegation4 (RFC 7530, section 16.16; RFC 7531): the delegation that an open is given. This server never sets
-- `recall`, lets a file grow to 65,536 bytes under a write delegation, and gives an ace that permits nobody anything.
use Rattle.std.proofs.Common.{refl}
use Rattle.nfs_forms.specs.declared.delegation_type.DelegationType.{DelegationType}
use Rattle.nfs_forms.specs.declared.delegation_type.DelegationType.TheVariants as types
use Rattle.nfs_forms.specs.declared.open_delegation.EmptyAce.{EmptyAce}
use Rattle.nfs_forms.specs.declared.open_delegation.OpenDelegation.{OpenDelegation}
use Rattle.nfs_forms.specs.declared.open_delegation.OpenDelegation.TheVariants.{None, Read, Write}
use Rattle.nfs_forms.specs.declared.open_delegation.SpaceLimit.{SpaceLimit}
use Rattle.nfs_forms.specs.declared.stateid.Stateid.{Stateid}
use Rattle.nfs_forms.specs.DelegationType.{delegation_type}
use Rattle.nfs_forms.specs.Stateid.{stateid}
use Rattle.xdr.specs.Form.{Form, ◌and◌, of, nothing, constant}
use Rattle.xdr.specs.Switch.{Case, case, Arm, arm, Agrees, IsRead}
use Rattle.xdr.specs.Union.{switch}

-- struct nfsace4 { acetype4 type; aceflag4 flag; acemask4 access_mask; utf8str_mixed who; };
-- each number is 0, and `who` is empty
unfoldable pub empty_ace : Form EmptyAce
empty_ace = of (λ p. record {}) (λ a. (tt, (tt, (tt, tt)))) (λ p. refl) (λ a. refl)
    (constant 0 and constant 0 and constant 0 and constant 0)

-- union nfs_space_limit4 switch (limit_by4 limitby) { case NFS_LIMIT_SIZE: uint64_t filesize; .. };
-- NFS_LIMIT_SIZE is 1, and `filesize` is 65,536
unfoldable pub space_limit : Form SpaceLimit
space_limit = of (λ p. record {}) (λ a. (tt, (tt, tt))) (λ p. refl) (λ a. refl)
    (constant 1 and constant 0 and constant 65_536)

-- bool recall, which is FALSE
abbrev pub not_recalled : Form (Unit {0})
not_recalled = constant 0

-- struct open_read_delegation4 { stateid4 stateid; bool recall; nfsace4 permissions; };
unfoldable pub read_delegation : Form Stateid
read_delegation = of (λ p. p.0) (λ s. (s, (tt, record {}))) (λ p. refl) (λ s. refl)
    (stateid and not_recalled and empty_ace)

-- struct open_write_delegation4
--   { stateid4 stateid; bool recall; nfs_space_limit4 space_limit; nfsace4 permissions; };
unfoldable pub write_delegation : Form Stateid
write_delegation = of (λ p. p.0) (λ s. (s, (tt, (record {}, record {})))) (λ p. refl) (λ s. refl)
    (stateid and not_recalled and space_limit and empty_ace)

abbrev pub type_of : OpenDelegation → DelegationType
type_of None = types.None
type_of (Read s) = types.Read
type_of (Write s) = types.Write

-- union open_delegation4 switch (open_delegation_type4 delegation_type) {
--   case OPEN_DELEGATE_NONE: void;
--   case OPEN_DELEGATE_READ: open_read_delegation4 read;
--   case OPEN_DELEGATE_WRITE: open_write_delegation4 write;
-- };
abbrev pub delegation_case : DelegationType → Case OpenDelegation
delegation_case types.None = case nothing (λ v. None)
delegation_case types.Read = case read_delegation Read
delegation_case types.Write = case write_delegation Write

abbrev pub delegation_arm : OpenDelegation → Arm OpenDelegation
delegation_arm None = arm nothing (λ v. None) tt
delegation_arm (Read s) = arm read_delegation Read s
delegation_arm (Write s) = arm write_delegation Write s

pub delegation_agrees : (t : DelegationType) → Agrees type_of delegation_arm t (delegation_case t)
delegation_agrees types.None = λ v. (refl, refl)
delegation_agrees t = λ v. (refl, refl)

pub delegation_is_read : (d : OpenDelegation) → IsRead delegation_case type_of delegation_arm d
delegation_is_read None = record { is = refl; reads = λ bytes. refl }
delegation_is_read d = record { is = refl; reads = λ bytes. refl }

unfoldable pub open_delegation : Form OpenDelegation
open_delegation =
    switch delegation_type delegation_case type_of delegation_arm delegation_agrees
    delegation_is_read
