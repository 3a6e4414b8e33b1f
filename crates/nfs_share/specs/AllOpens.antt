-- The opens and the delegations of all files: those of each node of the tree, by its number.
use Rattle.std.specs.Prelude.{◌<◌, ◌≤◌, ℕ, ◌+◌, Bool, List, [], ◌∷◌, length, map, option_map, find, position, slice_get, slice_set, is_some, IfSome, IsFalse, IsTrue, Option, Some, None}
use Rattle.std.specs.List.{AllByRecursion, Contains, list_any}
use Rattle.nfs_forms.specs.declared.open_owner.OpenOwner.{OpenOwner}
use Rattle.nfs_forms.specs.declared.stateid.Stateid.{Stateid}
use Rattle.nfs_share.specs.Delegations.{IsAboveLent, is_delegation_numbered, is_due, is_stateid_of_delegation, lesser}
use Rattle.nfs_share.specs.Opens.{FileOpens, IsAbove, is_stateid_of, open_named_by, open_of}
use Rattle.nfs_share.specs.declared.delegation.Delegation.{Delegation}
use Rattle.nfs_share.specs.declared.open_state.OpenState.{OpenState}

-- the list at a node; the empty one where there is no such node
abbrev pub list_or_none : {X : Type 0} → Option (List X) → List X
list_or_none None = []
list_or_none (Some xs) = xs

abbrev pub list_at : {X : Type 0} → ℕ → List (List X) → List X
list_at node lists = list_or_none (slice_get lists node)

-- the lists, with a change of that at a node
abbrev pub with_list_at : {X : Type 0} → ℕ → (List X → List X) → List (List X) → List (List X)
with_list_at node change lists = slice_set lists node (change (list_at node lists))

-- how many elements the lists have
abbrev pub total_length : {X : Type 0} → List (List X) → ℕ
total_length [] = 0
total_length (xs ∷ more) = length xs + total_length more

-- an open, and the node of its file
pub record OpenAt : Type 0 where
  pub node : ℕ
  pub state : OpenState

-- the opens of each file, no matter how much room it has
abbrev pub opens_in : List FileOpens → List (List OpenState)
opens_in files = map (λ f. f.opens) files

-- the opens of a node; none where there is no such node
abbrev pub opens_of : ℕ → List (List OpenState) → List OpenState
opens_of node opens = list_at node opens

-- how many opens there are
abbrev pub open_count : List (List OpenState) → ℕ
open_count opens = total_length opens

-- the opens, with a change of those of one node
abbrev pub with_opens : ℕ → (List OpenState → List OpenState) → List (List OpenState)
    → List (List OpenState)
with_opens node change opens = with_list_at node change opens

-- the open, if there is one, as one of this node's file
abbrev pub at_node : ℕ → Option OpenState → Option OpenAt
at_node node found = option_map (λ o. record { node = node; state = o }) found

-- the open that the stateid names, given the node that has one
abbrev pub named_at : Stateid → List (List OpenState) → Option ℕ → Option OpenAt
named_at id opens None = None
named_at id opens (Some node) = at_node node (open_named_by id (opens_of node opens))

-- the open that the stateid names, no matter its seqid, if there is one
abbrev pub named_in : Stateid → List (List OpenState) → Option OpenAt
named_in id opens = named_at id opens (position (list_any (is_stateid_of id)) opens)

-- each open of each file has a lower number
abbrev pub IsAboveAll : ℕ → List (List OpenState) → Type 0
IsAboveAll number opens = AllByRecursion (IsAbove number) opens

-- If an OPEN of the node's file by the owner is a new open, this number is above those of all opens of all files.
abbrev pub IsNewestAt : ℕ → OpenOwner → ℕ → List (List OpenState) → Type 0
IsNewestAt node owner number opens =
    IsFalse (is_some (open_of owner (opens_of node opens))) → IsAboveAll number opens

-- an open of the node takes no memory
abbrev pub HasRoomAt : ℕ → List FileOpens → Type 0
HasRoomAt node files = IfSome (slice_get files node) (λ f. 0 < f.room)

-- a delegation, and the node of its file
pub record DelegationAt : Type 0 where
  pub node : ℕ
  pub state : Delegation

-- the delegations of each file
abbrev pub delegations_in : List FileOpens → List (List Delegation)
delegations_in files = map (λ f. f.delegations) files

-- the delegations of a node; none where there is no such node
abbrev pub delegations_of : ℕ → List (List Delegation) → List Delegation
delegations_of node all = list_at node all

-- how many delegations there are
abbrev pub delegation_count : List (List Delegation) → ℕ
delegation_count all = total_length all

-- the delegations, with a change of those of one node
abbrev pub with_delegations : ℕ → (List Delegation → List Delegation) → List (List Delegation)
    → List (List Delegation)
with_delegations node change all = with_list_at node change all

-- the delegation, if there is one, as one of this node's file
abbrev pub lent_at : ℕ → Option Delegation → Option DelegationAt
lent_at node found = option_map (λ d. record { node = node; state = d }) found

-- the delegation that passes the test, given the node that has one
abbrev pub lent_found : (Delegation → Bool) → List (List Delegation) → Option ℕ → Option DelegationAt
lent_found test all None = None
lent_found test all (Some node) = lent_at node (find test (delegations_of node all))

-- the first delegation that passes the test, if there is one
abbrev pub lent_in : (Delegation → Bool) → List (List Delegation) → Option DelegationAt
lent_in test all = lent_found test all (position (list_any test) all)

-- the delegation that the stateid names, no matter its seqid, if there is one
abbrev pub delegation_named_in : Stateid → List (List Delegation) → Option DelegationAt
delegation_named_in id all = lent_in (is_stateid_of_delegation id) all

-- the delegation with this number, if there is one
abbrev pub delegation_numbered_in : ℕ → List (List Delegation) → Option DelegationAt
delegation_numbered_in number all = lent_in (is_delegation_numbered number) all

-- each delegation of each file has a lower number
abbrev pub IsAboveAllLent : ℕ → List (List Delegation) → Type 0
IsAboveAllLent number all = AllByRecursion (IsAboveLent number) all

-- of two delegations, of which there may be none, the one with the lesser number
abbrev pub lesser_at : Option DelegationAt → Option DelegationAt → Option DelegationAt
lesser_at a b = lesser (λ found. found.state.number) a b

-- Of the delegations that are due, this is one with the least number; or there are none.
abbrev pub IsNextDue : ℕ → ℕ → List (List Delegation) → Option DelegationAt → Type 0
IsNextDue lease now all None =
    AllByRecursion (AllByRecursion (λ d. IsFalse (is_due lease now d))) all
IsNextDue lease now all (Some next) = Contains (delegations_of next.node all) next.state
    × IsTrue (is_due lease now next.state)
    × AllByRecursion (AllByRecursion (λ d.
    IsTrue (is_due lease now d) → next.state.number ≤ d.number)) all

-- a delegation of the node's file takes no memory
abbrev pub HasLendingRoomAt : ℕ → List FileOpens → Type 0
HasLendingRoomAt node files = IfSome (slice_get files node) (λ f. 0 < f.lending_room)
