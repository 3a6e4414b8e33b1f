-- What the calls on owners tell and change.
use Rattle.std.specs.Prelude.{◌≡◌, ℕ, ◌<◌, ◌≤◌, nat_le, nat_lt, ⊤, Bool, true, not, ◌||◌, IsFalse, List, [], ◌∷◌, ◌++◌, map, filter, length, Option, Some, None, if◌then◌else◌}
use Rattle.std.specs.List.{AllByRecursion}
use Rattle.nfs_rows.specs.Rows.{StandSo}
use Rattle.nfs_owners.specs.declared.kept.KeptSummary.{KeptSummary}
use Rattle.nfs_owners.specs.declared.kept.Verdict.{Verdict}
use Rattle.nfs_owners.specs.declared.owner.Owner.{Owner}
use Rattle.nfs_owners.specs.declared.owner.OwnerState.{OwnerState}
use Rattle.nfs_owners.specs.declared.owner.TheConstants.{OWNER_LIMIT}
use Rattle.nfs_owners.specs.Kept.{IsVerdict, Kept, KeptRequest}
use Rattle.nfs_owners.specs.Owner.{has_client, has_name, is_known, with_request, new_owner}
use Rattle.nfs_forms.specs.declared.client_id.ClientId.{ClientId}
use Rattle.nfs_owners.specs.declared.state_owner.StateOwner.{StateOwner}

-- The owners in the order in which they were recorded, and how many more of them fit without taking memory.
pub record RoomyOwners : Type 0 where
  pub owners : List Owner
  pub room : ℕ

-- no two owners have one name
abbrev pub AreApart : List Owner → Type 0
AreApart [] = ⊤
AreApart (o ∷ owners) = IsFalse (is_known o.name owners) × AreApart owners

-- the server can know these owners at a time
abbrev pub AreOwners : List Owner → Type 0
AreOwners owners = (length owners ≤ OWNER_LIMIT) × AreApart owners

-- no entry from this one on recorded the owners
abbrev pub AreBefore : ℕ → List Owner → Type 0
AreBefore entry owners = AllByRecursion (λ o. o.state.recorded < entry) owners

-- this entry recorded the owner, or a later one
abbrev pub is_from : ℕ → Owner → Bool
is_from entry o = nat_le entry o.state.recorded

-- The owners stand in the order of the entries that recorded them, no two of which are one.
abbrev pub StandInOrder : List Owner → Type 0
StandInOrder owners = StandSo (λ o p. o.state.recorded < p.state.recorded) owners

-- the owner is known, or may be recorded without passing the limit
abbrev pub has_place : StateOwner → List Owner → Bool
has_place name owners = is_known name owners || nat_lt (length owners) OWNER_LIMIT

-- The verdict on a request of an owner for which this is kept; there is none on that of an unknown owner.
abbrev pub IsJudged : Option Kept → ℕ → KeptRequest → Option Verdict → Type 0
IsJudged None seqid request verdict = verdict ≡ None
IsJudged (Some kept) seqid request None = ⊥
IsJudged (Some kept) seqid request (Some verdict) = IsVerdict kept seqid request verdict

-- the owner with this name is changed, and the others stay
abbrev pub with_change : (OwnerState → OwnerState) → StateOwner → List Owner → List Owner
with_change change name owners =
    map (λ o. if has_name name o then record o { state = change o.state } else o) owners

-- The owner's kept request is now this one, in the journal's entry of this number. An owner that was unknown is
-- recorded by it, confirmed or not.
abbrev pub with_kept : StateOwner → ℕ → KeptSummary → Bool → List Owner → List Owner
with_kept name number kept confirmed owners =
    if is_known name owners
    then with_change (with_request number kept) name owners
    else owners ++ new_owner name number kept confirmed ∷ []

-- the owner is confirmed
abbrev pub with_confirmed : StateOwner → List Owner → List Owner
with_confirmed name owners = with_change (λ s. record s { confirmed = true }) name owners

-- the owner is no longer known
abbrev pub without_owner : StateOwner → List Owner → List Owner
without_owner name owners = filter (λ o. not (has_name name o)) owners

-- no owner of the client is known any longer
abbrev pub without_owners_of : ClientId → List Owner → List Owner
without_owners_of client owners = filter (λ o. not (has_client client o)) owners
