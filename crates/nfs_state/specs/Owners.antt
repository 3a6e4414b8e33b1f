-- The owners as the rules see them (RFC 7530, sections 9.1.5 and 9.1.7): each with the number of the journal's entry
-- that recorded it, and the number of the entry whose request and answer are kept for it.
use Rattle.std.specs.Prelude.{ℕ, Bool, false, true, List, [], ◌∷◌, ◌++◌, map, filter, find, not, Option, Some, None, if◌then◌else◌}
use Rattle.nfs_owners.specs.StateOwner.{is_same_state_owner}
use Rattle.nfs_owners.specs.declared.state_owner.StateOwner.{StateOwner}

pub record KnownOwner : Type 0 where
  pub name : StateOwner
  pub confirmed : Bool
  pub recording_entry : ℕ
  pub kept_entry : ℕ

-- the owner has this name
abbrev pub has_name : StateOwner → KnownOwner → Bool
has_name name o = is_same_state_owner o.name name

-- the owner with this name, if it is known
abbrev pub owner_of : StateOwner → List KnownOwner → Option KnownOwner
owner_of name owners = find (has_name name) owners

-- an owner, if it is known, is confirmed
abbrev pub confirmed_if_known : Option KnownOwner → Bool
confirmed_if_known None = false
confirmed_if_known (Some o) = o.confirmed

-- the owner with this name is known and confirmed
abbrev pub is_confirmed : StateOwner → List KnownOwner → Bool
is_confirmed name owners = confirmed_if_known (owner_of name owners)

-- the entry with this number records an owner, whose name nobody has, confirmed or not
abbrev pub with_record : ℕ → StateOwner → Bool → List KnownOwner → List KnownOwner
with_record number name confirmed owners =
    owners ++ record {
      name = name;
      confirmed = confirmed;
      recording_entry = number;
      kept_entry = number;
    } ∷ []

-- the entry with this number is kept for the owner with this name
abbrev pub with_kept_entry : ℕ → StateOwner → List KnownOwner → List KnownOwner
with_kept_entry number name owners =
    map (λ o. if has_name name o then record o { kept_entry = number } else o) owners

-- the owner with this name is confirmed
abbrev pub with_confirmation : StateOwner → List KnownOwner → List KnownOwner
with_confirmation name owners =
    map (λ o. if has_name name o then record o { confirmed = true } else o) owners

-- the owner with this name isn't known any longer
abbrev pub without_owner : StateOwner → List KnownOwner → List KnownOwner
without_owner name owners = filter (λ o. not (has_name name o)) owners
