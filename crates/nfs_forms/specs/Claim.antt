-- open_claim4 (RFC 7530, section 16.16; RFC 7531): which file OPEN opens, and what it is opened on the strength of.
use Rattle.std.specs.Prelude.{◌≡◌, ℕ, [], ◌∷◌, Some, ◌==◌, List}
use Rattle.std.proofs.Common.{refl}
use Rattle.std.specs.List.{find}
use Rattle.nfs_forms.specs.declared.claim.Claim.{Claim}
use Rattle.nfs_forms.specs.declared.claim.Claim.TheVariants.{Null, Previous, DelegateCur, DelegatePrev}
use Rattle.nfs_forms.specs.declared.claim.ClaimType.{ClaimType}
use Rattle.nfs_forms.specs.declared.claim.ClaimType.TheVariants as types
use Rattle.nfs_forms.specs.DelegationType.{delegation_type}
use Rattle.nfs_forms.specs.Stateid.{stateid}
use Rattle.xdr.specs.Form.{Form, ◌and◌, enumeration, bytes}
use Rattle.xdr.specs.Switch.{Case, case, Arm, arm, Agrees, IsRead}
use Rattle.xdr.specs.Union.{switch}

-- enum open_claim_type4
--   { CLAIM_NULL = 0, CLAIM_PREVIOUS = 1, CLAIM_DELEGATE_CUR = 2, CLAIM_DELEGATE_PREV = 3 };
abbrev pub number_of : ClaimType → ℕ
number_of types.Null = 0
number_of types.Previous = 1
number_of types.DelegateCur = 2
number_of types.DelegatePrev = 3

abbrev pub claim_types : List ClaimType
claim_types = types.Null ∷ types.Previous ∷ types.DelegateCur ∷ types.DelegatePrev ∷ []

pub known : (t : ClaimType) → find (λ v. number_of v == number_of t) claim_types ≡ Some t
known types.Null = refl
known t = refl

unfoldable pub claim_type : Form ClaimType
claim_type = enumeration number_of claim_types known

abbrev pub type_of : Claim → ClaimType
type_of (Null name) = types.Null
type_of (Previous t) = types.Previous
type_of (DelegateCur s name) = types.DelegateCur
type_of (DelegatePrev name) = types.DelegatePrev

-- union open_claim4 switch (open_claim_type4 claim) {
--   case CLAIM_NULL: component4 file;
--   case CLAIM_PREVIOUS: open_delegation_type4 delegate_type;
--   case CLAIM_DELEGATE_CUR: open_claim_delegate_cur4 delegate_cur_info;
--   case CLAIM_DELEGATE_PREV: component4 file_delegate_prev;
-- };
-- struct open_claim_delegate_cur4 { stateid4 delegate_stateid; component4 file; };
abbrev pub claim_case : ClaimType → Case Claim
claim_case types.Null = case bytes Null
claim_case types.Previous = case delegation_type Previous
claim_case types.DelegateCur = case (stateid and bytes) (λ p. DelegateCur p.0 p.1)
claim_case types.DelegatePrev = case bytes DelegatePrev

abbrev pub claim_arm : Claim → Arm Claim
claim_arm (Null name) = arm bytes Null name
claim_arm (Previous t) = arm delegation_type Previous t
claim_arm (DelegateCur s name) = arm (stateid and bytes) (λ p. DelegateCur p.0 p.1) (s, name)
claim_arm (DelegatePrev name) = arm bytes DelegatePrev name

pub claim_agrees : (t : ClaimType) → Agrees type_of claim_arm t (claim_case t)
claim_agrees types.Null = λ v. (refl, refl)
claim_agrees t = λ v. (refl, refl)

pub claim_is_read : (c : Claim) → IsRead claim_case type_of claim_arm c
claim_is_read (Null name) = record { is = refl; reads = λ bytes. refl }
claim_is_read c = record { is = refl; reads = λ bytes. refl }

unfoldable pub claim : Form Claim
claim = switch claim_type claim_case type_of claim_arm claim_agrees claim_is_read
