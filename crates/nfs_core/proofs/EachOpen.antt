-- What holds of each open holds after an entry, if it holds of the opens that the entry makes and changes.
use Rattle.std.proofs.Common.{◌≡◌, ℕ, Bool, true, Option, Some, None, List, [], ◌∷◌, ◌++◌, map}
use Rattle.std.specs.Prelude.{⊤, ◌+◌, is_some, not}
use Rattle.std.specs.List.{AllByRecursion}
use Rattle.std.proofs.lemmas.Bool.{cond_both}
use Rattle.nfs_core.specs.Safe.{EachOpen}
use Rattle.nfs_core.proofs.SafeFiles.{lists_at, set_lists}
use Rattle.nfs_core.proofs.SafeLists.{all_always, all_filter, all_map, all_push, all_set, all_weaken}
use Rattle.nfs_forms.specs.OpenOwner.{is_same_owner}
use Rattle.nfs_forms.specs.declared.client_id.ClientId.{ClientId}
use Rattle.nfs_forms.specs.declared.open_owner.OpenOwner.{OpenOwner}
use Rattle.nfs_owners.specs.declared.clients.client_change.ClientChange.TheVariants as client_changes
use Rattle.nfs_share.specs.AllOpens.{opens_of}
use Rattle.nfs_share.specs.Opens.{after_downgrade, after_open, first_open, is_numbered, is_of, is_of_client, open_of, with_each, with_next_seqid, with_opening}
use Rattle.nfs_share.specs.Opens as opens
use Rattle.nfs_share.specs.declared.delegation.DelegationKind.{DelegationKind}
use Rattle.nfs_share.specs.declared.open_state.OpenState.{OpenState}
use Rattle.nfs_share.specs.declared.share.Share.{Share}
use Rattle.nfs_state.specs.Changes.{with_grant, with_open, with_owner_change, with_state_change}
use Rattle.nfs_state.specs.State.{State}
use Rattle.nfs_state.specs.declared.change.Change.{Change}
use Rattle.nfs_state.specs.declared.change.Change.TheVariants as changes
use Rattle.nfs_state.specs.declared.owner_change.OwnerChange.{OwnerChange}
use Rattle.nfs_state.specs.declared.owner_change.OwnerChange.TheVariants as owner_changes

-- it holds of the opens that a change makes and changes
abbrev pub HoldsAfter : (OpenState → Type 0) → Change → State → Type 0
HoldsAfter P (changes.Opens node owner share lent) old =
    P (first_open owner share (old.last_state + 1)) × ((o : OpenState) → P o → P (after_open share o))
HoldsAfter P (changes.Confirms node number owner) old = (o : OpenState) → P o → P (with_next_seqid o)
HoldsAfter P (changes.Downgrades node number share) old =
    AllByRecursion (λ o. P o → is_numbered number o ≡ true → P (after_downgrade share o)) (opens_of node old.opens)
HoldsAfter P change old = ⊤

-- what holds of all holds of each in a list
pub all_of_any : {X : Type 0} (P : X → Type 0) → ((x : X) → P x) → (xs : List X) → AllByRecursion P xs
all_of_any P holds xs = all_weaken (λ x. ⊤) P (λ x _. holds x) xs (all_always xs)

module _ (P : OpenState → Type 0) where
  each_kept : (test : OpenState → Bool) (change : OpenState → OpenState) (xs : List OpenState) → AllByRecursion (λ o. P o → test o ≡ true → P (change o)) xs → AllByRecursion P xs
      → AllByRecursion P (with_each test change xs)
  each_kept test change [] keeps h = tt
  each_kept test change (o ∷ xs) keeps h =
      (cond_both (test o) (change o) o P (λ passes. keeps.0 h.0 passes) (λ _. h.0), each_kept test change xs keeps.1 h.1)

  all_kept : (test : OpenState → Bool) (change : OpenState → OpenState) → ((o : OpenState) → P o → P (change o)) → (xs : List OpenState) → AllByRecursion P xs
      → AllByRecursion P (with_each test change xs)
  all_kept test change keeps xs h =
      each_kept test change xs (all_of_any (λ o. P o → test o ≡ true → P (change o)) (λ o k _. keeps o k) xs) h

  opening_kept : (owner : OpenOwner) (share : Share) (number : ℕ) → P (first_open owner share number) → ((o : OpenState) → P o → P (after_open share o))
      → (xs : List OpenState) → AllByRecursion P xs → AllByRecursion P (with_opening owner share number xs)
  opening_kept owner share number first again xs h =
      cond_both (is_some (open_of owner xs)) (with_each (is_of owner) (after_open share) xs) (xs ++ first_open owner share number ∷ []) (AllByRecursion P)
      (λ _. all_kept (is_of owner) (after_open share) again xs h) (λ _. all_push P xs (first_open owner share number) h first)

  left : (test : OpenState → Bool) (xs : List OpenState) → AllByRecursion P xs → AllByRecursion P (opens.without test xs)
  left test xs h = all_filter P P (λ o. not (test o)) (λ o k _. k) xs h

  all_left : (test : OpenState → Bool) (old : State) → EachOpen P old → AllByRecursion (AllByRecursion P) (map (opens.without test) old.opens)
  all_left test old h = all_map (AllByRecursion P) (AllByRecursion P) (opens.without test) (λ xs k. left test xs k) old.opens h

  granted : (node : ℕ) (client : ClientId) (lent : Option DelegationKind) (old : State) → EachOpen P old → EachOpen P (with_grant node client lent old)
  granted node client None old h = h
  granted node client (Some kind) old h = h

  -- an operation's own change
  pub each_changed : (change : Change) (old : State) → HoldsAfter P change old → EachOpen P old → EachOpen P (with_state_change change old)
  each_changed changes.Nothing old after h = h
  each_changed (changes.Clients (client_changes.Replaces r client)) old after h = all_left (is_of_client client) old h
  each_changed (changes.Clients change) old after h = h
  each_changed (changes.Opens node owner share lent) old after h =
      granted node owner.client lent (with_open node owner share old)
      (set_lists (AllByRecursion P) tt (with_opening owner share (old.last_state + 1)) (opening_kept owner share (old.last_state + 1) after.0 after.1) node old.opens h)
  each_changed (changes.Confirms node number owner) old after h =
      set_lists (AllByRecursion P) tt (with_each (is_numbered number) with_next_seqid) (all_kept (is_numbered number) with_next_seqid after) node old.opens h
  each_changed (changes.Downgrades node number share) old after h =
      let here = opens_of node old.opens in
      all_set (AllByRecursion P) old.opens node (with_each (is_numbered number) (after_downgrade share) here) h
      (each_kept (is_numbered number) (after_downgrade share) here after (lists_at (AllByRecursion P) tt node old.opens h))
  each_changed (changes.Closes node number) old after h =
      set_lists (AllByRecursion P) tt (opens.without (is_numbered number)) (left (is_numbered number)) node old.opens h
  each_changed (changes.Expires client) old after h = all_left (is_of_client client) old h
  each_changed change old after h = h

  -- what an entry means for an owner
  pub each_owned : (change : OwnerChange) (number : ℕ) (old : State) → EachOpen P old → EachOpen P (with_owner_change change number old)
  each_owned owner_changes.Nothing number old h = h
  each_owned (owner_changes.Restarts name confirmed) number old h = all_left (λ o. is_same_owner o.owner name) old h
  each_owned (owner_changes.Drops name) number old h = all_left (λ o. is_same_owner o.owner name) old h
  each_owned change number old h = h
