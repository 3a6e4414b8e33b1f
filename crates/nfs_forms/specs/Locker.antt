-- locker4 (RFC 7530, section 16.10; RFC 7531): whose lock LOCK asks for.
use Rattle.std.specs.Prelude.{Bool, true, false}
use Rattle.std.proofs.Common.{refl}
use Rattle.nfs_forms.specs.declared.locker.KnownLocker.{KnownLocker}
use Rattle.nfs_forms.specs.declared.locker.Locker.{Locker}
use Rattle.nfs_forms.specs.declared.locker.Locker.TheVariants.{New, Known}
use Rattle.nfs_forms.specs.declared.locker.NewLocker.{NewLocker}
use Rattle.nfs_forms.specs.LockOwner.{lock_owner}
use Rattle.nfs_forms.specs.Stateid.{stateid}
use Rattle.xdr.specs.Form.{Form, ◌and◌, of, u32, flag}
use Rattle.xdr.specs.Switch.{Case, case, Arm, arm, Agrees, IsRead}
use Rattle.xdr.specs.Union.{switch}

-- struct open_to_lock_owner4 { seqid4 open_seqid; stateid4 open_stateid; seqid4 lock_seqid; lock_owner4 lock_owner; };
unfoldable pub new_locker : Form NewLocker
new_locker =
    of (λ p. record {
      open_seqid = p.0;
      open_stateid = p.1.0;
      lock_seqid = p.1.1.0;
      lock_owner = p.1.1.1;
    })
    (λ l. (l.open_seqid, (l.open_stateid, (l.lock_seqid, l.lock_owner)))) (λ p. refl) (λ l. refl)
    (u32 and stateid and u32 and lock_owner)

-- struct exist_lock_owner4 { stateid4 lock_stateid; seqid4 lock_seqid; };
unfoldable pub known_locker : Form KnownLocker
known_locker =
    of (λ p. record { lock_stateid = p.0; lock_seqid = p.1 }) (λ l. (l.lock_stateid, l.lock_seqid))
    (λ p. refl) (λ l. refl) (stateid and u32)

abbrev pub is_new : Locker → Bool
is_new (New l) = true
is_new (Known l) = false

-- union locker4 switch (bool new_lock_owner) {
--   case TRUE: open_to_lock_owner4 open_owner;
--   case FALSE: exist_lock_owner4 lock_owner;
-- };
abbrev pub locker_case : Bool → Case Locker
locker_case true = case new_locker New
locker_case false = case known_locker Known

abbrev pub locker_arm : Locker → Arm Locker
locker_arm (New l) = arm new_locker New l
locker_arm (Known l) = arm known_locker Known l

pub locker_agrees : (b : Bool) → Agrees is_new locker_arm b (locker_case b)
locker_agrees true = λ l. (refl, refl)
locker_agrees false = λ l. (refl, refl)

pub locker_is_read : (l : Locker) → IsRead locker_case is_new locker_arm l
locker_is_read (New l) = record { is = refl; reads = λ bytes. refl }
locker_is_read (Known l) = record { is = refl; reads = λ bytes. refl }

unfoldable pub locker : Form Locker
locker = switch flag locker_case is_new locker_arm locker_agrees locker_is_read
