-- The owners that the server knows (RFC 7530, section 9.1.5).
use Rattle.std.specs.Prelude.{ℕ, Bool, List, find, Option, Some, None, if◌then◌else◌}
use Rattle.std.specs.List.{list_any}
use Rattle.nfs_owners.specs.declared.kept.KeptSummary.{KeptSummary}
use Rattle.nfs_owners.specs.declared.owner.Owner.{Owner}
use Rattle.nfs_owners.specs.declared.owner.OwnerState.{OwnerState}
use Rattle.nfs_owners.specs.declared.owner.OwnerStanding.{OwnerStanding}
use Rattle.nfs_owners.specs.declared.owner.OwnerStanding.TheVariants.{Unknown, Unconfirmed, Confirmed}
use Rattle.nfs_forms.specs.ClientId.{is_same_client}
use Rattle.nfs_owners.specs.StateOwner.{is_same_state_owner}
use Rattle.nfs_forms.specs.declared.client_id.ClientId.{ClientId}
use Rattle.nfs_owners.specs.declared.state_owner.OwnerKind.{OwnerKind}
use Rattle.nfs_owners.specs.declared.state_owner.OwnerKind.TheVariants as kinds
use Rattle.nfs_owners.specs.declared.state_owner.StateOwner.{StateOwner}

-- the owner is one of this client's
abbrev pub has_client : ClientId → Owner → Bool
has_client client o = is_same_client o.name.client client

-- the owner has this name at this client
abbrev pub has_name : StateOwner → Owner → Bool
has_name name o = is_same_state_owner o.name name

-- the owner with this name, if it is known
abbrev pub owner_of : StateOwner → List Owner → Option Owner
owner_of name owners = find (has_name name) owners

-- an owner with this name is known
abbrev pub is_known : StateOwner → List Owner → Bool
is_known name owners = list_any (has_name name) owners

-- What is known of an owner of this kind, given the one with its name. Only open owners need an OPEN_CONFIRM.
abbrev pub standing_of : Option Owner → OwnerKind → OwnerStanding
standing_of None kind = Unknown
standing_of (Some o) kinds.Open = if o.state.confirmed then Confirmed else Unconfirmed
standing_of (Some o) kinds.Lock = Confirmed

-- the state of an owner that is recorded by its first request, in the journal's entry of this number, confirmed or not
abbrev pub new_state : ℕ → KeptSummary → Bool → OwnerState
new_state number kept confirmed =
    record { confirmed = confirmed; recorded = number; number = number; kept = kept }

-- the state of an owner with this as the kept request, in the journal's entry of this number
abbrev pub with_request : ℕ → KeptSummary → OwnerState → OwnerState
with_request number kept s = record s { number = number; kept = kept }

-- an owner that is recorded by its first request, in the journal's entry of this number
abbrev pub new_owner : StateOwner → ℕ → KeptSummary → Bool → Owner
new_owner name number kept confirmed =
    record { name = name; state = new_state number kept confirmed }
