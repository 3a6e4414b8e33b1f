use Rattle.std.proofs.Common.{◌≡◌, Bool, true, false, None, List, [], ◌∷◌, refl, ap, arith}
use Rattle.std.specs.Prelude.{if◌then◌else◌}
use Rattle.nfs_forms.specs.ClientId.{is_same_client}
use Rattle.nfs_forms.specs.declared.client_id.ClientId.{ClientId}
use Rattle.nfs_owners.specs.Owner.{has_client, has_name, owner_of}
use Rattle.nfs_owners.specs.Owners.{without_owners_of}
use Rattle.nfs_owners.specs.declared.owner.Owner.{Owner}
use Rattle.nfs_owners.specs.declared.state_owner.StateOwner.{StateOwner}
use Rattle.nfs_owners.proofs.OwnerLists.{name_exact}
use Rattle.nfs_owners.proofs.owner_laws.client_takes_its_owners.Goals as goal

-- an owner with this name is of the client that the name has
client_of : (client : ClientId) (name : StateOwner) (o : Owner) → has_name name o ≡ true → has_client client o ≡ is_same_client name.client client
client_of client name o same = ap (λ n. is_same_client n.client client) (name_exact name o same)

taken : (client : ClientId) (name : StateOwner) (owners : List Owner) → owner_of name (without_owners_of client owners) ≡ (if is_same_client name.client client then None else owner_of name owners)
taken client name [] = by (is_same_client name.client client)
  where
    by : (b : Bool) → owner_of name [] ≡ (if b then None else owner_of name [])
    by true = refl
    by false = refl
taken client name (o ∷ owners) = by (has_name name o) refl (taken client name owners)
  where
    by : (b : Bool) → has_name name o ≡ b → owner_of name (without_owners_of client owners) ≡ (if is_same_client name.client client then None else owner_of name owners) → owner_of name (without_owners_of client (o ∷ owners)) ≡ (if is_same_client name.client client then None else owner_of name (o ∷ owners))
    by true same rest = grind (arith, same, rest, client_of client name o same)
    by false other rest = grind (arith, other, rest)

pub returns : goal.returns
returns c = taken
