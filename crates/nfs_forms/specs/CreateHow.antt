-- createhow4 (RFC 7530, section 16.16; RFC 7531): how OPEN creates a file.
use Rattle.std.specs.Prelude.{◌≡◌, ℕ, [], ◌∷◌, Some, ◌==◌, List}
use Rattle.std.proofs.Common.{refl}
use Rattle.std.specs.List.{find}
use Rattle.nfs_forms.specs.declared.create_how.CreateHow.{CreateHow}
use Rattle.nfs_forms.specs.declared.create_how.CreateHow.TheVariants.{Unchecked, Guarded, Exclusive}
use Rattle.nfs_forms.specs.declared.create_how.CreateMode.{CreateMode}
use Rattle.nfs_forms.specs.declared.create_how.CreateMode.TheVariants as modes
use Rattle.nfs_forms.specs.Fattr.{fattr}
use Rattle.nfs_forms.specs.Verifier.{verifier}
use Rattle.xdr.specs.Form.{Form, enumeration}
use Rattle.xdr.specs.Switch.{Case, case, Arm, arm, Agrees, IsRead}
use Rattle.xdr.specs.Union.{switch}

-- enum createmode4 { UNCHECKED4 = 0, GUARDED4 = 1, EXCLUSIVE4 = 2 };
abbrev pub number_of : CreateMode → ℕ
number_of modes.Unchecked = 0
number_of modes.Guarded = 1
number_of modes.Exclusive = 2

abbrev pub create_modes : List CreateMode
create_modes = modes.Unchecked ∷ modes.Guarded ∷ modes.Exclusive ∷ []

pub known : (m : CreateMode) → find (λ v. number_of v == number_of m) create_modes ≡ Some m
known modes.Unchecked = refl
known m = refl

unfoldable pub create_mode : Form CreateMode
create_mode = enumeration number_of create_modes known

abbrev pub mode_of : CreateHow → CreateMode
mode_of (Unchecked f) = modes.Unchecked
mode_of (Guarded f) = modes.Guarded
mode_of (Exclusive v) = modes.Exclusive

-- union createhow4 switch (createmode4 mode) {
--   case UNCHECKED4: case GUARDED4: fattr4 createattrs;
--   case EXCLUSIVE4: verifier4 createverf;
-- };
abbrev pub create_case : CreateMode → Case CreateHow
create_case modes.Unchecked = case fattr Unchecked
create_case modes.Guarded = case fattr Guarded
create_case modes.Exclusive = case verifier Exclusive

abbrev pub create_arm : CreateHow → Arm CreateHow
create_arm (Unchecked f) = arm fattr Unchecked f
create_arm (Guarded f) = arm fattr Guarded f
create_arm (Exclusive v) = arm verifier Exclusive v

pub create_agrees : (m : CreateMode) → Agrees mode_of create_arm m (create_case m)
create_agrees modes.Unchecked = λ v. (refl, refl)
create_agrees m = λ v. (refl, refl)

pub create_is_read : (h : CreateHow) → IsRead create_case mode_of create_arm h
create_is_read (Unchecked f) = record { is = refl; reads = λ bytes. refl }
create_is_read h = record { is = refl; reads = λ bytes. refl }

unfoldable pub create_how : Form CreateHow
create_how = switch create_mode create_case mode_of create_arm create_agrees create_is_read
