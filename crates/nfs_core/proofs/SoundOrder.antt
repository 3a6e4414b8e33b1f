-- The delegations of each file stand in the order of their numbers.
use Rattle.std.proofs.Common.{ℕ, ◌+◌, Bool, cond, Some, None, List, [], ◌∷◌, ◌++◌}
use Rattle.std.specs.Prelude.{not}
use Rattle.std.specs.List.{AllByRecursion}
use Rattle.nfs_core.proofs.SafeFiles.{lists_at, set_lists}
use Rattle.nfs_core.proofs.SafeLists.{all_map, all_replicate, all_set}
use Rattle.nfs_core.proofs.SafeOrder.{filter_in_order, map_in_order, push_in_order}
use Rattle.nfs_core.proofs.SoundNumbers.{HasNumbers, given_numbers, numbered_before, numbered_owned, numbers_given, recalled_number}
use Rattle.nfs_owners.specs.declared.clients.client_change.ClientChange.TheVariants as client_changes
use Rattle.nfs_share.specs.AllOpens.{delegations_of}
use Rattle.nfs_share.specs.Delegations.{IsAboveLent, StandInOrder, conflicts, first_delegation, is_delegation_numbered, is_lent_to, with_recall, with_recalls, without_lent}
use Rattle.nfs_share.specs.declared.delegation.Delegation.{Delegation}
use Rattle.nfs_share.specs.declared.delegation.FileUse.{FileUse}
use Rattle.nfs_state.specs.Changes.{after, with_open, with_owner_change, with_state_change}
use Rattle.nfs_state.specs.State.{State, empty_server}
use Rattle.nfs_state.specs.declared.change.Change.{Change}
use Rattle.nfs_state.specs.declared.change.Change.TheVariants as changes
use Rattle.nfs_state.specs.declared.effect.Effect.{Effect}
use Rattle.nfs_state.specs.declared.owner_change.OwnerChange.{OwnerChange}
use Rattle.nfs_state.specs.declared.owner_change.OwnerChange.TheVariants as owner_changes
use Rattle.nfs_tree.specs.Tree.{node_count}
use Rattle.nfs_tree.specs.declared.node.Node.{Node}

-- the delegations of each file do
abbrev pub HasOrder : State → Type 0
HasOrder state = AllByRecursion StandInOrder state.delegations

-- those that aren't given back
left_in_order : (test : Delegation → Bool) (ds : List Delegation) → StandInOrder ds → StandInOrder (without_lent test ds)
left_in_order test ds h = filter_in_order (λ d. not (test d)) ds h

-- some are called back
recalled_in_order : (file_use : FileUse) (moment : ℕ) (ds : List Delegation) → StandInOrder ds → StandInOrder (with_recalls file_use moment ds)
recalled_in_order file_use moment ds h =
    map_in_order (λ d. cond (conflicts file_use d) (with_recall moment d) d)
    (λ d. recalled_number (λ n. n) moment (conflicts file_use d) d) ds h

-- an operation's own change
order_changed : (change : Change) (old : State) → HasNumbers old → HasOrder old → HasOrder (with_state_change change old)
order_changed changes.Nothing old numbered h = h
order_changed (changes.Clients (client_changes.Replaces r client)) old numbered h =
    all_map StandInOrder StandInOrder (without_lent (is_lent_to client)) (λ ds k. left_in_order (is_lent_to client) ds k) old.delegations h
order_changed (changes.Clients change) old numbered h = h
order_changed (changes.Opens node owner share None) old numbered h = h
order_changed (changes.Opens node owner share (Some kind)) old numbered h =
    let opened = with_open node owner share old in
    let number = opened.last_state + 1 in
    let new = first_delegation owner.client kind number in
    let given = given_numbers opened (numbers_given opened (numbered_before (changes.Opens node owner share (Some kind)) old numbered)) in
    let above = lists_at (IsAboveLent number) tt node old.delegations given.of_delegations in
    all_set StandInOrder old.delegations node (delegations_of node old.delegations ++ new ∷ []) h
    (push_in_order new (delegations_of node old.delegations) above (lists_at StandInOrder tt node old.delegations h))
order_changed (changes.Expires client) old numbered h =
    all_map StandInOrder StandInOrder (without_lent (is_lent_to client)) (λ ds k. left_in_order (is_lent_to client) ds k) old.delegations h
order_changed (changes.Recalls node file_use moment) old numbered h =
    let recall : List Delegation → List Delegation = with_recalls file_use moment in
    set_lists StandInOrder tt recall (λ ds k. recalled_in_order file_use moment ds k) node old.delegations h
order_changed (changes.Returns node number) old numbered h =
    let give_back : List Delegation → List Delegation = without_lent (is_delegation_numbered number) in
    set_lists StandInOrder tt give_back (λ ds k. left_in_order (is_delegation_numbered number) ds k) node old.delegations h
order_changed change old numbered h = h

-- what an entry means for an owner
order_owned : (change : OwnerChange) (number : ℕ) (old : State) → HasOrder old → HasOrder (with_owner_change change number old)
order_owned owner_changes.Nothing number old h = h
order_owned change number old h = h

-- an entry with any effect
pub order_after : (number : ℕ) (effect : Effect) (old : State) → HasNumbers old → HasOrder old → HasOrder (after number effect old)
order_after number effect old numbered h =
    order_changed effect.change (with_owner_change effect.owner number old) (numbered_owned effect.owner number old numbered)
    (order_owned effect.owner number old h)

-- A server to which no client has come has none.
pub order_empty : (nodes : List Node) → HasOrder (empty_server nodes)
order_empty nodes = all_replicate StandInOrder [] tt (node_count nodes)
