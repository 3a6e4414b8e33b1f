-- How the delegations of a file are kept.
use Rattle.std.specs.Prelude.{⊤, ℕ, ◌+◌, ◌≤◌, Bool, false, true, List, Option, Some, None, map, vec_capacity, vec_len}
use Rattle.std.specs.List.{AllByRecursion}
use Rattle.std.specs.Global.{Vec}
use Rattle.nfs_share.specs.Delegations.{StandInOrder}
use Rattle.nfs_share.specs.Tally.{IsTally, Mark, mark_of, room_of}
use Rattle.nfs_share.specs.declared.delegation.Delegation.{Delegation}
use Rattle.nfs_share.specs.declared.delegation.DelegationKind.{DelegationKind}
use Rattle.nfs_share.specs.declared.delegation.DelegationKind.TheVariants as kinds
use Rattle.nfs_share.specs.declared.tally.Tally.{Tally}

-- the delegations of a file, and how many more can come without taking memory
pub record RoomyDelegations : Type 0 where
  pub delegations : List Delegation
  pub room : ℕ

-- a delegation of this kind is for writing
abbrev pub is_writing : DelegationKind → Bool
is_writing kinds.Read = false
is_writing kinds.Write = true

-- whose the delegation is, and whether it is for writing
abbrev pub mark_lent : Delegation → Mark
mark_lent d = mark_of d.client (is_writing d.kind)

-- The moment, if there is one, is not before the first. Where there is no first, there is none.
abbrev pub IsNotBefore : Option ℕ → Option ℕ → Type 0
IsNotBefore None first = ⊤
IsNotBefore (Some moment) None = ⊥
IsNotBefore (Some moment) (Some first) = first ≤ moment

-- none of the delegations was called back before the first moment
abbrev pub AreNotBefore : Option ℕ → List Delegation → Type 0
AreNotBefore first ds = AllByRecursion (λ d. IsNotBefore d.recalled first) ds

-- what is kept of the delegations is so
pub record AreLent (lent : Vec Delegation) (holders : Tally) (first : Option ℕ) (room : ℕ) : Type 0 where
  pub order : StandInOrder lent.items
  pub tally : IsTally holders (map mark_lent lent.items)
  pub recalls : AreNotBefore first lent.items
  pub in_list : vec_len lent + room ≤ vec_capacity lent
  pub in_tally : room ≤ room_of holders
