-- The opens of a file (RFC 7530, sections 9.9 to 9.11).
use Rattle.std.specs.Prelude.{ℕ, ◌<◌, Bool, ◌&&◌, ◌==◌, not, if◌then◌else◌, List, [], ◌∷◌, ◌++◌, filter, find, map, Option, is_some, IsFalse, IsSomeAnd}
use Rattle.std.specs.List.{AllByRecursion, list_any}
use Rattle.nfs_forms.specs.ClientId.{is_same_client}
use Rattle.nfs_forms.specs.OpenOwner.{is_same_owner}
use Rattle.nfs_forms.specs.Stateid.{seqid_after_change, next_stateid}
use Rattle.nfs_forms.specs.declared.client_id.ClientId.{ClientId}
use Rattle.nfs_forms.specs.declared.open_owner.OpenOwner.{OpenOwner}
use Rattle.nfs_forms.specs.declared.stateid.Stateid.{Stateid}
use Rattle.nfs_share.specs.declared.delegation.Delegation.{Delegation}
use Rattle.nfs_share.specs.declared.modes.Modes.{Modes}
use Rattle.nfs_share.specs.declared.open_state.OpenState.{OpenState}
use Rattle.nfs_share.specs.declared.share.Share.{Share}
use Rattle.nfs_share.specs.Modes.{meets}
use Rattle.nfs_share.specs.Share.{conflicts_with, contains}
use Rattle.nfs_share.specs.Shares.{IsLawfulDowngrade, union_of, with_share}

-- The opens and the delegations of a file in the order in which they came, and how many more of each can come without
-- taking memory.
pub record FileOpens : Type 0 where
  pub opens : List OpenState
  pub delegations : List Delegation
  pub room : ℕ
  pub lending_room : ℕ

-- the owner has the open
abbrev pub is_of : OpenOwner → OpenState → Bool
is_of owner o = is_same_owner o.owner owner

-- an owner of the client has the open
abbrev pub is_of_client : ClientId → OpenState → Bool
is_of_client client o = is_same_client o.owner.client client

-- the open's stateid has this number
abbrev pub is_numbered : ℕ → OpenState → Bool
is_numbered number o = o.number == number

-- the owner with this name at this client
abbrev pub owner_named : ClientId → List ℕ → OpenOwner
owner_named client name = record { client = client; name = name }

-- the open of the owner, if there is one
abbrev pub open_of : OpenOwner → List OpenState → Option OpenState
open_of owner opens = find (is_of owner) opens

-- the open with this number, if there is one
abbrev pub open_with_number : ℕ → List OpenState → Option OpenState
open_with_number number opens = find (is_numbered number) opens

-- the stateid is one of the open's, no matter its seqid (section 9.1.4)
abbrev pub is_stateid_of : Stateid → OpenState → Bool
is_stateid_of stateid o = is_of_client stateid.client o && is_numbered stateid.number o

-- the open that the stateid names, if there is one
abbrev pub open_named_by : Stateid → List OpenState → Option OpenState
open_named_by stateid opens = find (is_stateid_of stateid) opens

-- all access of the open, with all that it denies
abbrev pub share_of : OpenState → Share
share_of o = union_of o.shares

-- an open denies one of the modes
abbrev pub is_denied : Modes → List OpenState → Bool
is_denied modes opens = list_any (λ o. meets (share_of o).deny modes) opens

-- an open of another owner conflicts with the share (section 9.9)
abbrev pub is_refused : OpenOwner → Share → List OpenState → Bool
is_refused owner share opens =
    list_any (λ o. not (is_of owner o) && conflicts_with share (share_of o)) opens

-- the open's stateid (section 9.1.4)
abbrev pub stateid_of : OpenState → Stateid
stateid_of o = record { seqid = o.seqid; client = o.owner.client; number = o.number }

-- the open's stateid after its next change
abbrev pub next_stateid_of : OpenState → Stateid
next_stateid_of o = next_stateid (stateid_of o)

-- the open that an owner's first OPEN of the file makes
abbrev pub first_open : OpenOwner → Share → ℕ → OpenState
first_open owner share number =
    record { owner = owner; shares = share ∷ []; number = number; seqid = 1 }

-- the open with its next seqid
abbrev pub with_next_seqid : OpenState → OpenState
with_next_seqid o = record o { seqid = seqid_after_change o.seqid }

-- the open after one more OPEN of its owner (section 9.11)
abbrev pub after_open : Share → OpenState → OpenState
after_open share o =
    record o { shares = with_share share o.shares; seqid = seqid_after_change o.seqid }

-- the open after OPEN_DOWNGRADE to the share (section 9.11)
abbrev pub after_downgrade : Share → OpenState → OpenState
after_downgrade share o =
    record o { shares = filter (contains share) o.shares; seqid = seqid_after_change o.seqid }

-- the opens, with a change of each that passes the test
abbrev pub with_each : (OpenState → Bool) → (OpenState → OpenState) → List OpenState
    → List OpenState
with_each test change opens = map (λ o. if test o then change o else o) opens

-- the opens without those that pass the test
abbrev pub without : (OpenState → Bool) → List OpenState → List OpenState
without test opens = filter (λ o. not (test o)) opens

-- The opens after an OPEN: it joins the owner's open, or is a new open with this number.
abbrev pub with_opening : OpenOwner → Share → ℕ → List OpenState → List OpenState
with_opening owner share number opens =
    if is_some (open_of owner opens) then with_each (is_of owner) (after_open share) opens
    else opens ++ first_open owner share number ∷ []

-- each open has a lower number
abbrev pub IsAbove : ℕ → List OpenState → Type 0
IsAbove number opens = AllByRecursion (λ o. o.number < number) opens

-- If an OPEN of the owner is a new open, this number is above those of all opens.
abbrev pub IsNewestFor : OpenOwner → ℕ → List OpenState → Type 0
IsNewestFor owner number opens = IsFalse (is_some (open_of owner opens)) → IsAbove number opens

-- There is an open with this number, and OPEN_DOWNGRADE of it to the share is allowed.
abbrev pub CanDowngrade : ℕ → Share → List OpenState → Type 0
CanDowngrade number share opens =
    IsSomeAnd (open_with_number number opens) (λ o. IsLawfulDowngrade o.shares share)
