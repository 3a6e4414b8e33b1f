-- The numbers of opens, lock states and delegations: how many an entry adds, and that each was given once.
use Rattle.std.proofs.Common.{◌≡◌, ℕ, zero, suc, Bool, true, false, cond, Option, Some, None, List, [], ◌∷◌, ◌++◌, map, slice_set, refl, sym, ap, subst, arith}
use Rattle.std.specs.Prelude.{◌+◌, ◌≤◌, ◌<◌, ◌==◌, flat_map, is_none, is_some, not}
use Rattle.std.specs.List.{AllByRecursion, IsDistinct}
use Rattle.std.proofs.lemmas.Bool.{cond_both}
use Rattle.nfs_forms.specs.declared.client_id.ClientId.{ClientId}
use Rattle.nfs_core.specs.Safe.{WasGiven, numbers_of}
use Rattle.nfs_core.proofs.SafeSums.{IsOnce, all_from_count, distinct_from_once, is_one, once_given, once_less, once_never, sum_all_map, sum_all_none, sum_append, sum_filter, sum_flat, sum_map, sum_of, sum_of_all, sum_push}
use Rattle.nfs_forms.specs.OpenOwner.{is_same_owner}
use Rattle.nfs_forms.specs.declared.open_owner.OpenOwner.{OpenOwner}
use Rattle.nfs_locks.specs.AllLocks.{locks_of}
use Rattle.nfs_locks.specs.Locks.{ByteLocks, after_change, first_state, is_lock_of, is_lock_of_client, is_numbered as is_lock_numbered, is_under}
use Rattle.nfs_locks.specs.Locks as locks
use Rattle.nfs_owners.specs.declared.clients.client_change.ClientChange.TheVariants as client_changes
use Rattle.nfs_share.specs.AllOpens.{delegations_of, opens_of}
use Rattle.nfs_share.specs.Delegations.{conflicts, first_delegation, is_delegation_numbered, is_lent_to, with_recall, with_recalls, without_lent}
use Rattle.nfs_share.specs.Opens.{after_downgrade, after_open, first_open, is_numbered, is_of, is_of_client, open_of, with_each, with_next_seqid, with_opening}
use Rattle.nfs_share.specs.Opens as opens
use Rattle.nfs_share.specs.declared.delegation.Delegation.{Delegation}
use Rattle.nfs_share.specs.declared.delegation.DelegationKind.{DelegationKind}
use Rattle.nfs_share.specs.declared.delegation.FileUse.{FileUse}
use Rattle.nfs_share.specs.declared.open_state.OpenState.{OpenState}
use Rattle.nfs_share.specs.declared.share.Share.{Share}
use Rattle.nfs_state.specs.Changes.{after, last_state_after, with_grant, with_open, with_owner_change, with_state_change, without_client}
use Rattle.nfs_state.specs.Room.{HasGivenNumbers}
use Rattle.nfs_state.specs.State.{State, empty_server}
use Rattle.nfs_state.specs.declared.change.Change.{Change}
use Rattle.nfs_state.specs.declared.change.Change.TheVariants as changes
use Rattle.nfs_state.specs.declared.effect.Effect.{Effect}
use Rattle.nfs_state.specs.declared.owner_change.OwnerChange.{OwnerChange}
use Rattle.nfs_state.specs.declared.owner_change.OwnerChange.TheVariants as owner_changes
use Rattle.nfs_tree.specs.Tree.{node_count}
use Rattle.nfs_tree.specs.declared.node.Node.{Node}

-- Opens, lock states and delegations by a weight of their numbers.

abbrev pub of_open : (ℕ → ℕ) → OpenState → ℕ
of_open w o = w o.number

abbrev pub of_lock : (ℕ → ℕ) → ByteLocks → ℕ
of_lock w l = w l.number

abbrev pub of_lent : (ℕ → ℕ) → Delegation → ℕ
of_lent w d = w d.number

-- the weights of all numbers together
abbrev pub weight : (ℕ → ℕ) → State → ℕ
weight w state =
    sum_of_all (of_open w) state.opens + sum_of_all (of_lock w) state.locks + sum_of_all (of_lent w) state.delegations

pub weight_of_numbers : (w : ℕ → ℕ) (state : State) → sum_of w (numbers_of state) ≡ weight w state
weight_of_numbers w state =
    let of_opens = flat_map (map (λ (o : OpenState). o.number)) state.opens in
    let of_locks = flat_map (map (λ (l : ByteLocks). l.number)) state.locks in
    let of_delegations = flat_map (map (λ (d : Delegation). d.number)) state.delegations in
    omega (
      arith,
      sum_append w (of_opens ++ of_locks) of_delegations,
      sum_append w of_opens of_locks,
      sum_flat w (λ (o : OpenState). o.number) state.opens,
      sum_flat w (λ (l : ByteLocks). l.number) state.locks,
      sum_flat w (λ (d : Delegation). d.number) state.delegations,
    )

-- the opens, the lock states or the delegations of one node change
pub sum_opens_set : (w : OpenState → ℕ) (more : ℕ) (new : List OpenState) (node : ℕ) (opens : List (List OpenState)) → sum_of w new ≤ sum_of w (opens_of node opens) + more
    → sum_of_all w (slice_set opens node new) ≤ sum_of_all w opens + more
sum_opens_set w more new node [] h = omega arith
sum_opens_set w more new zero (xs ∷ opens) h = omega (arith, h)
sum_opens_set w more new (suc node) (xs ∷ opens) h = omega (arith, sum_opens_set w more new node opens h)

pub sum_locks_set : (w : ByteLocks → ℕ) (more : ℕ) (new : List ByteLocks) (node : ℕ) (locks : List (List ByteLocks)) → sum_of w new ≤ sum_of w (locks_of node locks) + more
    → sum_of_all w (slice_set locks node new) ≤ sum_of_all w locks + more
sum_locks_set w more new node [] h = omega arith
sum_locks_set w more new zero (xs ∷ locks) h = omega (arith, h)
sum_locks_set w more new (suc node) (xs ∷ locks) h = omega (arith, sum_locks_set w more new node locks h)

pub sum_lent_set : (w : Delegation → ℕ) (more : ℕ) (new : List Delegation) (node : ℕ) (lent : List (List Delegation)) → sum_of w new ≤ sum_of w (delegations_of node lent) + more
    → sum_of_all w (slice_set lent node new) ≤ sum_of_all w lent + more
sum_lent_set w more new node [] h = omega arith
sum_lent_set w more new zero (xs ∷ lent) h = omega (arith, h)
sum_lent_set w more new (suc node) (xs ∷ lent) h = omega (arith, sum_lent_set w more new node lent h)

-- What a change adds.

-- the owner's OPEN of the node's file makes an open
abbrev pub opens_anew : ℕ → OpenOwner → State → Bool
opens_anew node owner old = not (is_some (open_of owner (opens_of node old.opens)))

-- it makes a state, with the next number, apart from a delegation that is lent
abbrev pub gives : Change → State → Bool
gives (changes.Opens node owner share lent) old = opens_anew node owner old
gives (changes.Begins node first) old = true
gives change old = false

-- the state after the change, apart from a delegation that is lent
abbrev pub before_grant : Change → State → State
before_grant (changes.Opens node owner share lent) old = with_open node owner share old
before_grant change old = with_state_change change old

open_number_kept : (w : ℕ → ℕ) (change : OpenState → OpenState) → ((o : OpenState) → (change o).number ≡ o.number) → (b : Bool) (o : OpenState) → w (cond b (change o) o).number ≡ w o.number
open_number_kept w change keeps true o = ap w (keeps o)
open_number_kept w change keeps false o = refl

-- a change of some opens of a node, none of whose numbers changes
each_weight : (w : ℕ → ℕ) (test : OpenState → Bool) (change : OpenState → OpenState) → ((o : OpenState) → (change o).number ≡ o.number) → (xs : List OpenState)
    → sum_of (of_open w) (with_each test change xs) ≡ sum_of (of_open w) xs
each_weight w test change keeps xs =
    sum_map (of_open w) (λ o. cond (test o) (change o) o) (λ o. open_number_kept w change keeps (test o) o) xs

each_weighs : (w : ℕ → ℕ) (test : OpenState → Bool) (change : OpenState → OpenState) → ((o : OpenState) → (change o).number ≡ o.number) → (node : ℕ) (old : State)
    → sum_of_all (of_open w) (slice_set old.opens node (with_each test change (opens_of node old.opens))) ≤ sum_of_all (of_open w) old.opens + 0
each_weighs w test change keeps node old =
    let here = opens_of node old.opens in
    let same = each_weight w test change keeps here in
    sum_opens_set (of_open w) 0 (with_each test change here) node old.opens (omega arith)

chosen : (w : OpenState → ℕ) (b : Bool) (joined new : List OpenState) (before more : ℕ) → sum_of w joined ≡ before → sum_of w new ≡ before + more → sum_of w (cond b joined new) ≤ before + cond (not b) more 0
chosen w true joined new before more same adds = omega (arith, same)
chosen w false joined new before more same adds = omega (arith, adds)

opening_weight : (w : ℕ → ℕ) (owner : OpenOwner) (share : Share) (number : ℕ) (xs : List OpenState)
    → sum_of (of_open w) (with_opening owner share number xs) ≤ sum_of (of_open w) xs + cond (not (is_some (open_of owner xs))) (w number) 0
opening_weight w owner share number xs =
    chosen (of_open w) (is_some (open_of owner xs)) (with_each (is_of owner) (after_open share) xs) (xs ++ first_open owner share number ∷ []) (sum_of (of_open w) xs) (w number)
    (each_weight w (is_of owner) (after_open share) (λ o. refl) xs)
    (sum_push (of_open w) xs (first_open owner share number))

opens_without : (w : ℕ → ℕ) (test : OpenState → Bool) (xs : List OpenState) → sum_of (of_open w) (opens.without test xs) ≤ sum_of (of_open w) xs
opens_without w test xs = sum_filter (of_open w) (λ o. not (test o)) xs

locks_without : (w : ℕ → ℕ) (test : ByteLocks → Bool) (xs : List ByteLocks) → sum_of (of_lock w) (locks.without test xs) ≤ sum_of (of_lock w) xs
locks_without w test xs = sum_filter (of_lock w) (λ l. not (test l)) xs

lock_number_kept : (w : ℕ → ℕ) (change : ByteLocks → ByteLocks) → ((l : ByteLocks) → (change l).number ≡ l.number) → (b : Bool) (l : ByteLocks) → w (cond b (change l) l).number ≡ w l.number
lock_number_kept w change keeps true l = ap w (keeps l)
lock_number_kept w change keeps false l = refl

lent_without : (w : ℕ → ℕ) (test : Delegation → Bool) (ds : List Delegation) → sum_of (of_lent w) (without_lent test ds) ≤ sum_of (of_lent w) ds
lent_without w test ds = sum_filter (of_lent w) (λ d. not (test d)) ds

-- delegations that are called back
pub recalled_number : (w : ℕ → ℕ) (moment : ℕ) (b : Bool) (d : Delegation) → w (cond b (with_recall moment d) d).number ≡ w d.number
recalled_number w moment true d = cond_both (is_none d.recalled) (record d { recalled = Some moment }) d (λ x. w x.number ≡ w d.number) (λ _. refl) (λ _. refl)
recalled_number w moment false d = refl

recalls_weight : (w : ℕ → ℕ) (file_use : FileUse) (moment : ℕ) (ds : List Delegation) → sum_of (of_lent w) (with_recalls file_use moment ds) ≡ sum_of (of_lent w) ds
recalls_weight w file_use moment ds =
    sum_map (of_lent w) (λ d. cond (conflicts file_use d) (with_recall moment d) d) (λ d. recalled_number w moment (conflicts file_use d) d) ds

-- A client is lost with all that it has.
client_weight : (w : ℕ → ℕ) (client : ClientId) (old : State) → weight w (without_client client old) ≤ weight w old + 0
client_weight w client old =
    omega (
      arith,
      sum_all_map (of_open w) (opens.without (is_of_client client)) (opens_without w (is_of_client client)) old.opens,
      sum_all_map (of_lock w) (locks.without (is_lock_of_client client)) (locks_without w (is_lock_of_client client)) old.locks,
      sum_all_map (of_lent w) (without_lent (is_lent_to client)) (lent_without w (is_lent_to client)) old.delegations,
    )

-- A change adds the next number at most, apart from a delegation that is lent.
pub weight_changed : (w : ℕ → ℕ) (change : Change) (old : State) → weight w (before_grant change old) ≤ weight w old + cond (gives change old) (w (old.last_state + 1)) 0
weight_changed w changes.Nothing old = omega arith
weight_changed w (changes.Clients (client_changes.Replaces r client)) old = client_weight w client old
weight_changed w (changes.Clients change) old = omega arith
weight_changed w (changes.Opens node owner share lent) old =
    let here = opens_of node old.opens in
    let number = old.last_state + 1 in
    omega (arith, sum_opens_set (of_open w) (cond (opens_anew node owner old) (w number) 0) (with_opening owner share number here) node old.opens (opening_weight w owner share number here))
weight_changed w (changes.Confirms node number owner) old =
    omega (arith, each_weighs w (is_numbered number) with_next_seqid (λ o. refl) node old)
weight_changed w (changes.Downgrades node number share) old =
    omega (arith, each_weighs w (is_numbered number) (after_downgrade share) (λ o. refl) node old)
weight_changed w (changes.Closes node number) old =
    let open_here = opens_of node old.opens in
    let locks_here = locks_of node old.locks in
    let fewer_opens = opens_without w (is_numbered number) open_here in
    let fewer_locks = locks_without w (is_under number) locks_here in
    omega (
      arith,
      sum_opens_set (of_open w) 0 (opens.without (is_numbered number) open_here) node old.opens (omega (arith, fewer_opens)),
      sum_locks_set (of_lock w) 0 (locks.without (is_under number) locks_here) node old.locks (omega (arith, fewer_locks)),
    )
weight_changed w (changes.Begins node first) old =
    let here = locks_of node old.locks in
    let number = old.last_state + 1 in
    let adds = sum_push (of_lock w) here (first_state first number) in
    omega (arith, sum_locks_set (of_lock w) (w number) (here ++ first_state first number ∷ []) node old.locks (omega (arith, adds)))
weight_changed w (changes.Locks node number change) old =
    let here = locks_of node old.locks in
    let f : ByteLocks → ByteLocks = λ l. cond (is_lock_numbered number l) (after_change change l) l in
    let same = sum_map (of_lock w) f (λ l. lock_number_kept w (after_change change) (λ x. refl) (is_lock_numbered number l) l) here in
    omega (arith, sum_locks_set (of_lock w) 0 (map f here) node old.locks (omega (arith, same)))
weight_changed w (changes.Releases owner) old =
    omega (arith, sum_all_map (of_lock w) (locks.without (is_lock_of owner)) (locks_without w (is_lock_of owner)) old.locks)
weight_changed w (changes.Expires client) old = client_weight w client old
weight_changed w (changes.Recalls node file_use moment) old =
    let here = delegations_of node old.delegations in
    let same = recalls_weight w file_use moment here in
    omega (arith, sum_lent_set (of_lent w) 0 (with_recalls file_use moment here) node old.delegations (omega (arith, same)))
weight_changed w (changes.Returns node number) old =
    let here = delegations_of node old.delegations in
    let fewer = lent_without w (is_delegation_numbered number) here in
    omega (arith, sum_lent_set (of_lent w) 0 (without_lent (is_delegation_numbered number) here) node old.delegations (omega (arith, fewer)))
weight_changed w (changes.Forgets owner) old = omega arith
weight_changed w (changes.Writes node offset bytes) old = omega arith
weight_changed w (changes.Cuts node size) old = omega arith
weight_changed w (changes.MarksPath client path) old = omega arith

-- A delegation that is lent adds the number after that.
pub weight_granted : (w : ℕ → ℕ) (node : ℕ) (client : ClientId) (lent : Option DelegationKind) (old : State) → weight w (with_grant node client lent old) ≤ weight w old + cond (is_some lent) (w (old.last_state + 1)) 0
weight_granted w node client None old = omega arith
weight_granted w node client (Some kind) old =
    let here = delegations_of node old.delegations in
    let new = first_delegation client kind (old.last_state + 1) in
    let adds = sum_push (of_lent w) here new in
    omega (arith, sum_lent_set (of_lent w) (w (old.last_state + 1)) (here ++ new ∷ []) node old.delegations (omega (arith, adds)))

-- What an entry means for an owner adds none.
pub weight_owned : (w : ℕ → ℕ) (change : OwnerChange) (number : ℕ) (old : State) → weight w (with_owner_change change number old) ≤ weight w old
weight_owned w (owner_changes.Restarts name confirmed) number old =
    omega (arith, sum_all_map (of_open w) (opens.without (λ o. is_same_owner o.owner name)) (opens_without w (λ o. is_same_owner o.owner name)) old.opens)
weight_owned w (owner_changes.Drops name) number old =
    omega (arith, sum_all_map (of_open w) (opens.without (λ o. is_same_owner o.owner name)) (opens_without w (λ o. is_same_owner o.owner name)) old.opens)
weight_owned w change number old = omega arith

-- The number that was given last.

last_opened : (has_open : Bool) (last : ℕ) → last_state_after has_open last ≡ cond (not has_open) (last + 1) last
last_opened true last = refl
last_opened false last = refl

last_changed : (change : Change) (old : State) → (before_grant change old).last_state ≡ cond (gives change old) (old.last_state + 1) old.last_state
last_changed changes.Nothing old = refl
last_changed (changes.Clients (client_changes.Replaces r client)) old = refl
last_changed (changes.Clients change) old = refl
last_changed (changes.Opens node owner share lent) old = last_opened (is_some (open_of owner (opens_of node old.opens))) old.last_state
last_changed change old = refl

last_granted : (node : ℕ) (client : ClientId) (lent : Option DelegationKind) (old : State) → (with_grant node client lent old).last_state ≡ cond (is_some lent) (old.last_state + 1) old.last_state
last_granted node client None old = refl
last_granted node client (Some kind) old = refl

last_owned : (change : OwnerChange) (number : ℕ) (old : State) → (with_owner_change change number old).last_state ≡ old.last_state
last_owned owner_changes.Nothing number old = refl
last_owned change number old = refl

-- Each number was given once, to one state.

pub HasNumbers : State → Type 0
HasNumbers state = (n : ℕ) → IsOnce state.last_state n (weight (is_one n) state)

once_after : (given : Bool) (last next n count more : ℕ) → more ≤ count + cond given (is_one n (last + 1)) 0 → next ≡ cond given (last + 1) last → IsOnce last n count → IsOnce next n more
once_after true last next n count more grows is h = subst (λ k. IsOnce k n more) (sym is) (once_given last n count more grows h)
once_after false last next n count more grows is h = subst (λ k. IsOnce k n more) (sym is) (once_less last n count more (omega (arith, grows)) h)

pub numbered_before : (change : Change) (old : State) → HasNumbers old → HasNumbers (before_grant change old)
unfolding HasNumbers
numbered_before change old h n =
    once_after (gives change old) old.last_state (before_grant change old).last_state n (weight (is_one n) old) (weight (is_one n) (before_grant change old))
    (weight_changed (is_one n) change old) (last_changed change old) (h n)

numbered_granted : (node : ℕ) (client : ClientId) (lent : Option DelegationKind) (old : State) → HasNumbers old → HasNumbers (with_grant node client lent old)
unfolding HasNumbers
numbered_granted node client lent old h n =
    let new = with_grant node client lent old in
    once_after (is_some lent) old.last_state new.last_state n (weight (is_one n) old) (weight (is_one n) new)
    (weight_granted (is_one n) node client lent old) (last_granted node client lent old) (h n)

numbered_changed : (change : Change) (old : State) → HasNumbers old → HasNumbers (with_state_change change old)
numbered_changed (changes.Opens node owner share lent) old h =
    numbered_granted node owner.client lent (with_open node owner share old) (numbered_before (changes.Opens node owner share lent) old h)
numbered_changed change old h = numbered_before change old h

pub numbered_owned : (change : OwnerChange) (number : ℕ) (old : State) → HasNumbers old → HasNumbers (with_owner_change change number old)
unfolding HasNumbers
numbered_owned change number old h n =
    subst (λ last. IsOnce last n (weight (is_one n) (with_owner_change change number old))) (sym (last_owned change number old))
    (once_less old.last_state n (weight (is_one n) old) (weight (is_one n) (with_owner_change change number old)) (weight_owned (is_one n) change number old) (h n))

-- an entry with any effect
pub numbered_after : (number : ℕ) (effect : Effect) (old : State) → HasNumbers old → HasNumbers (after number effect old)
numbered_after number effect old h =
    numbered_changed effect.change (with_owner_change effect.owner number old) (numbered_owned effect.owner number old h)

pub numbered_empty : (nodes : List Node) → HasNumbers (empty_server nodes)
unfolding HasNumbers
numbered_empty nodes n =
    let count = node_count nodes in
    let no_opens = sum_all_none (of_open (is_one n)) count in
    let no_locks = sum_all_none (of_lock (is_one n)) count in
    let no_delegations = sum_all_none (of_lent (is_one n)) count in
    once_never 0 n (weight (is_one n) (empty_server nodes)) (omega (arith, no_opens, no_locks, no_delegations))

-- So the numbers differ, and are numbers that were given.

pub numbers_differ : (state : State) → HasNumbers state → IsDistinct (λ a b. a == b) (numbers_of state)
unfolding HasNumbers
numbers_differ state h = distinct_from_once (numbers_of state) (λ n. omega (arith, weight_of_numbers (is_one n) state, (h n).once))

-- a number is that of one state at most
pub once_there : (number : ℕ) (state : State) → HasNumbers state → weight (is_one number) state ≤ 1
unfolding HasNumbers
once_there number state h = (h number).once

pub numbers_given : (state : State) → HasNumbers state → AllByRecursion (WasGiven state.last_state) (numbers_of state)
unfolding HasNumbers
numbers_given state h =
    all_from_count (WasGiven state.last_state) (numbers_of state)
    (λ n some.
    let there : 0 < weight (is_one n) state = omega (arith, some, weight_of_numbers (is_one n) state) in
    ((h n).least there, (h n).most there))

-- So each open, each lock state and each delegation has a number that was given.

front : (P : ℕ → Type 0) (xs ys : List ℕ) → AllByRecursion P (xs ++ ys) → AllByRecursion P xs
front P [] ys h = tt
front P (x ∷ xs) ys h = (h.0, front P xs ys h.1)

back : (P : ℕ → Type 0) (xs ys : List ℕ) → AllByRecursion P (xs ++ ys) → AllByRecursion P ys
back P [] ys h = h
back P (x ∷ xs) ys h = back P xs ys h.1

module _ {X : Type 0} (number_of : X → ℕ) (last : ℕ) where
  below_mapped : (xs : List X) → AllByRecursion (WasGiven last) (map number_of xs) → AllByRecursion (λ x. number_of x < last + 1) xs
  below_mapped [] h = tt
  below_mapped (x ∷ xs) h = (omega (arith, h.0.1), below_mapped xs h.1)

  below_flat : (lists : List (List X)) → AllByRecursion (WasGiven last) (flat_map (map number_of) lists) → AllByRecursion (AllByRecursion (λ x. number_of x < last + 1)) lists
  below_flat [] h = tt
  below_flat (xs ∷ lists) h =
      let more = flat_map (map number_of) lists in
      (below_mapped xs (front (WasGiven last) (map number_of xs) more h), below_flat lists (back (WasGiven last) (map number_of xs) more h))

pub given_numbers : (state : State) → AllByRecursion (WasGiven state.last_state) (numbers_of state) → HasGivenNumbers state
given_numbers state given =
    let last = state.last_state in
    let of_opens = flat_map (map (λ (o : OpenState). o.number)) state.opens in
    let of_locks = flat_map (map (λ (l : ByteLocks). l.number)) state.locks in
    let of_delegations = flat_map (map (λ (d : Delegation). d.number)) state.delegations in
    let before = front (WasGiven last) (of_opens ++ of_locks) of_delegations given in
    record {
      of_opens = below_flat (λ (o : OpenState). o.number) last state.opens (front (WasGiven last) of_opens of_locks before);
      of_locks = below_flat (λ (l : ByteLocks). l.number) last state.locks (back (WasGiven last) of_opens of_locks before);
      of_delegations = below_flat (λ (d : Delegation). d.number) last state.delegations (back (WasGiven last) (of_opens ++ of_locks) of_delegations given);
    }
