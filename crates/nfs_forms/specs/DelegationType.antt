-- open_delegation_type4 (RFC 7531): which delegation an open is given, if any.
use Rattle.std.specs.Prelude.{◌≡◌, ℕ, [], ◌∷◌, Some, ◌==◌, List}
use Rattle.std.proofs.Common.{refl}
use Rattle.std.specs.List.{find}
use Rattle.nfs_forms.specs.declared.delegation_type.DelegationType.{DelegationType}
use Rattle.nfs_forms.specs.declared.delegation_type.DelegationType.TheVariants.{None, Read, Write}
use Rattle.xdr.specs.Form.{Form, enumeration}

-- enum open_delegation_type4 { OPEN_DELEGATE_NONE = 0, OPEN_DELEGATE_READ = 1, OPEN_DELEGATE_WRITE = 2 };
abbrev pub number_of : DelegationType → ℕ
number_of None = 0
number_of Read = 1
number_of Write = 2

abbrev pub types : List DelegationType
types = None ∷ Read ∷ Write ∷ []

pub known : (t : DelegationType) → find (λ v. number_of v == number_of t) types ≡ Some t
known None = refl
known t = refl

unfoldable pub delegation_type : Form DelegationType
delegation_type = enumeration number_of types known
