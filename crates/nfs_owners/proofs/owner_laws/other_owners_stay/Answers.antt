use Rattle.std.proofs.Common.{◌≡◌, ℕ, Bool, true, false, List, [], ◌∷◌, ◌++◌, refl, ap, ◌∙◌, arith}
use Rattle.nfs_owners.specs.Owner.{has_name, is_known, with_request, new_owner, owner_of}
use Rattle.nfs_owners.specs.Owners.{with_change, with_kept, without_owner}
use Rattle.nfs_owners.specs.StateOwner.{is_same_state_owner}
use Rattle.nfs_owners.specs.declared.kept.KeptSummary.{KeptSummary}
use Rattle.nfs_owners.specs.declared.owner.Owner.{Owner}
use Rattle.nfs_owners.specs.declared.owner.OwnerState.{OwnerState}
use Rattle.nfs_owners.specs.declared.state_owner.StateOwner.{StateOwner}
use Rattle.nfs_owners.proofs.OwnerLists.{name_exact}
use Rattle.nfs_owners.proofs.owner_laws.other_owners_stay.Goals as goal

-- an owner with one name doesn't have the other
not_other : (name other : StateOwner) (o : Owner) → is_same_state_owner name other ≡ false → has_name name o ≡ true → has_name other o ≡ false
not_other name other o apart same = ap (λ n. is_same_state_owner n other) (name_exact name o same) ∙ apart

changed : (change : OwnerState → OwnerState) (name other : StateOwner) (owners : List Owner) → is_same_state_owner name other ≡ false → owner_of other (with_change change name owners) ≡ owner_of other owners
changed change name other [] apart = refl
changed change name other (o ∷ owners) apart = by (has_name name o) refl (changed change name other owners apart)
  where
    by : (b : Bool) → has_name name o ≡ b → owner_of other (with_change change name owners) ≡ owner_of other owners → owner_of other (with_change change name (o ∷ owners)) ≡ owner_of other (o ∷ owners)
    by true same rest = grind (arith, same, rest, not_other name other o apart same)
    by false different rest = grind (arith, different, rest)

added : (name other : StateOwner) (number : ℕ) (kept : KeptSummary) (confirmed : Bool) (owners : List Owner) → is_same_state_owner name other ≡ false → owner_of other (owners ++ new_owner name number kept confirmed ∷ []) ≡ owner_of other owners
added name other number kept confirmed [] apart = grind (arith, apart)
added name other number kept confirmed (o ∷ owners) apart = grind (arith, added name other number kept confirmed owners apart)

kept_for : (name other : StateOwner) (number : ℕ) (kept : KeptSummary) (confirmed : Bool) (owners : List Owner) → is_same_state_owner name other ≡ false → owner_of other (with_kept name number kept confirmed owners) ≡ owner_of other owners
kept_for name other number kept confirmed owners apart = by (is_known name owners) refl
  where
    by : (b : Bool) → is_known name owners ≡ b → owner_of other (with_kept name number kept confirmed owners) ≡ owner_of other owners
    by true known = rw known (changed (with_request number kept) name other owners apart)
    by false unknown = rw unknown (added name other number kept confirmed owners apart)

removed : (name other : StateOwner) (owners : List Owner) → is_same_state_owner name other ≡ false → owner_of other (without_owner name owners) ≡ owner_of other owners
removed name other [] apart = refl
removed name other (o ∷ owners) apart = by (has_name name o) refl (removed name other owners apart)
  where
    by : (b : Bool) → has_name name o ≡ b → owner_of other (without_owner name owners) ≡ owner_of other owners → owner_of other (without_owner name (o ∷ owners)) ≡ owner_of other (o ∷ owners)
    by true same rest = grind (arith, same, rest, not_other name other o apart same)
    by false different rest = grind (arith, different, rest)

pub returns : goal.returns
returns c name other owners apart = ((λ number kept confirmed. kept_for name other number kept confirmed owners apart), changed (λ s. record s { confirmed = true }) name other owners apart, removed name other owners apart)
