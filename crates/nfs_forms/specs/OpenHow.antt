-- openflag4 (RFC 7530, section 16.16; RFC 7531): whether OPEN creates a file, and how.
use Rattle.std.specs.Prelude.{◌≡◌, ℕ, [], ◌∷◌, Some, ◌==◌, List}
use Rattle.std.proofs.Common.{refl}
use Rattle.std.specs.List.{find}
use Rattle.nfs_forms.specs.declared.open_how.OpenHow.{OpenHow}
use Rattle.nfs_forms.specs.declared.open_how.OpenHow.TheVariants.{Nocreate, Create}
use Rattle.nfs_forms.specs.declared.open_how.OpenType.{OpenType}
use Rattle.nfs_forms.specs.declared.open_how.OpenType.TheVariants as types
use Rattle.nfs_forms.specs.CreateHow.{create_how}
use Rattle.xdr.specs.Form.{Form, enumeration, nothing}
use Rattle.xdr.specs.Switch.{Case, case, Arm, arm, Agrees, IsRead}
use Rattle.xdr.specs.Union.{switch}

-- enum opentype4 { OPEN4_NOCREATE = 0, OPEN4_CREATE = 1 };
abbrev pub number_of : OpenType → ℕ
number_of types.Nocreate = 0
number_of types.Create = 1

abbrev pub open_types : List OpenType
open_types = types.Nocreate ∷ types.Create ∷ []

pub known : (t : OpenType) → find (λ v. number_of v == number_of t) open_types ≡ Some t
known types.Nocreate = refl
known t = refl

unfoldable pub open_type : Form OpenType
open_type = enumeration number_of open_types known

abbrev pub type_of : OpenHow → OpenType
type_of Nocreate = types.Nocreate
type_of (Create h) = types.Create

-- union openflag4 switch (opentype4 opentype) { case OPEN4_CREATE: createhow4 how; default: void; };
abbrev pub how_case : OpenType → Case OpenHow
how_case types.Nocreate = case nothing (λ v. Nocreate)
how_case types.Create = case create_how Create

abbrev pub how_arm : OpenHow → Arm OpenHow
how_arm Nocreate = arm nothing (λ v. Nocreate) tt
how_arm (Create h) = arm create_how Create h

pub how_agrees : (t : OpenType) → Agrees type_of how_arm t (how_case t)
how_agrees types.Nocreate = λ v. (refl, refl)
how_agrees types.Create = λ v. (refl, refl)

pub how_is_read : (h : OpenHow) → IsRead how_case type_of how_arm h
how_is_read Nocreate = record { is = refl; reads = λ bytes. refl }
how_is_read (Create h) = record { is = refl; reads = λ bytes. refl }

unfoldable pub open_how : Form OpenHow
open_how = switch open_type how_case type_of how_arm how_agrees how_is_read
