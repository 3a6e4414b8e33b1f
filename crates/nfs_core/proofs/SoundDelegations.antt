-- No delegation stands beside what it is in the way of, a client has one of a file at most, and each is of a live client.
use Rattle.std.proofs.Common.{◌≡◌, ℕ, zero, suc, Bool, true, false, cond, Option, Some, None, List, [], ◌∷◌, ◌++◌, filter, map, refl, sym, ap, ◌∙◌, subst}
use Rattle.std.specs.Prelude.{◌+◌, ◌&&◌, ◌||◌, is_none, not, replicate, IsFalse, IsTrue}
use Rattle.std.specs.List.{AllByRecursion, list_any}
use Rattle.std.proofs.lemmas.Bool.{cond_both}
use Rattle.std.proofs.lemmas.List.Folds.{list_any-append}
use Rattle.nfs_core.proofs.SafeDistinct.{distinct_none}
use Rattle.nfs_core.proofs.SafeFiles.{lists_at, lists_of_map, lists_where_set, set_lists}
use Rattle.nfs_core.proofs.SafeLists.{all_filter, all_map, all_push, all_replicate, all_set, all_weaken}
use Rattle.nfs_core.proofs.Sound.{IsSound, is_live_in, live_without, marked_live, none_of, others_live, same_client_self, still_live}
use Rattle.nfs_core.proofs.SoundSequences.{live_owner}
use Rattle.nfs_core.proofs.SoundSteps.{IsChangeReady, IsClientReady, MayOpen}
use Rattle.nfs_forms.specs.ClientId.{is_same_client}
use Rattle.nfs_forms.specs.OpenOwner.{is_same_owner}
use Rattle.nfs_forms.specs.declared.client_id.ClientId.{ClientId}
use Rattle.nfs_forms.specs.declared.open_owner.OpenOwner.{OpenOwner}
use Rattle.nfs_owners.specs.Registry.{after_mark, is_of_client as is_record_of_client, without_id}
use Rattle.nfs_owners.specs.StateOwner.{open_owner}
use Rattle.nfs_owners.specs.declared.client_record.ClientRecord.{ClientRecord}
use Rattle.nfs_owners.specs.declared.clients.client_change.ClientChange.{ClientChange}
use Rattle.nfs_owners.specs.declared.clients.client_change.ClientChange.TheVariants as client_changes
use Rattle.nfs_share.specs.AllOpens.{delegations_of, opens_of, with_delegations, with_opens}
use Rattle.nfs_share.specs.Delegations.{can_delegate, conflicts, first_delegation, has_conflict, is_delegation_numbered, is_in_way, is_lent_to, with_recall, with_recalls, without_lent}
use Rattle.nfs_share.specs.Laws.{AreApart, OneEach}
use Rattle.nfs_share.specs.Opens.{after_downgrade, is_numbered, is_of_client, with_each, with_next_seqid, share_of, with_opening, without}
use Rattle.nfs_share.specs.declared.delegation.Delegation.{Delegation}
use Rattle.nfs_share.specs.declared.delegation.DelegationKind.{DelegationKind}
use Rattle.nfs_share.specs.declared.delegation.FileUse.{FileUse}
use Rattle.nfs_share.specs.declared.delegation.FileUse.TheVariants as uses
use Rattle.nfs_share.specs.declared.open_state.OpenState.{OpenState}
use Rattle.nfs_share.specs.declared.share.Share.{Share}
use Rattle.nfs_state.specs.Changes.{with_open, with_owner_change, with_state_change}
use Rattle.nfs_state.specs.State.{State, empty_server}
use Rattle.nfs_state.specs.declared.change.Change.{Change}
use Rattle.nfs_state.specs.declared.change.Change.TheVariants as changes
use Rattle.nfs_state.specs.declared.owner_change.OwnerChange.{OwnerChange}
use Rattle.nfs_state.specs.declared.owner_change.OwnerChange.TheVariants as owner_changes
use Rattle.nfs_tree.specs.Tree.{node_count}
use Rattle.nfs_tree.specs.declared.node.Node.{Node}

-- the laws by which opens and delegations stay apart
pub record StayApart : Type 0 where
  pub try_open : (owner : OpenOwner) (share : Share) (number : ℕ) (opens : List OpenState) (lent : List Delegation) → AreApart opens lent
      → IsFalse (has_conflict (uses.Open owner.client share) lent) → AreApart (with_opening owner share number opens) lent
  pub advance : (test : OpenState → Bool) (opens : List OpenState) (lent : List Delegation) → AreApart opens lent → AreApart (with_each test with_next_seqid opens) lent
  pub downgrade : (test : OpenState → Bool) (share : Share) (opens : List OpenState) (lent : List Delegation) → AreApart opens lent
      → AreApart (with_each test (after_downgrade share) opens) lent
  pub removal : (test : OpenState → Bool) (opens : List OpenState) (lent : List Delegation) → AreApart opens lent → AreApart (without test opens) lent
  pub recall : (file_use : FileUse) (moment : ℕ) (opens : List OpenState) (lent : List Delegation) → AreApart opens lent
      → AreApart opens (with_recalls file_use moment lent)
  pub give_back : (test : Delegation → Bool) (opens : List OpenState) (lent : List Delegation) → AreApart opens lent → AreApart opens (without_lent test lent)
  pub lend : (client : ClientId) (kind : DelegationKind) (number : ℕ) (opens : List OpenState) (lent : List Delegation) → AreApart opens lent
      → IsTrue (can_delegate client kind opens lent) → AreApart opens (lent ++ first_delegation client kind number ∷ [])

-- the laws by which no client gets two delegations of a file
pub record StaySingle : Type 0 where
  pub recall : (file_use : FileUse) (moment : ℕ) (lent : List Delegation) → OneEach lent → OneEach (with_recalls file_use moment lent)
  pub give_back : (test : Delegation → Bool) (lent : List Delegation) → OneEach lent → OneEach (without_lent test lent)
  pub lend : (client : ClientId) (kind : DelegationKind) (number : ℕ) (opens : List OpenState) (lent : List Delegation) → OneEach lent
      → IsTrue (can_delegate client kind opens lent) → OneEach (lent ++ first_delegation client kind number ∷ [])

-- the opens and the delegations of each node are apart
abbrev AreApartIn : List (List OpenState) → List (List Delegation) → Type 0
AreApartIn opens lent = (node : ℕ) → AreApart (opens_of node opens) (delegations_of node lent)

-- the client of the delegation is live
abbrev IsOfLive : List ClientRecord → Delegation → Type 0
IsOfLive records d = is_live_in records d.client ≡ true

-- the client of each delegation is live
abbrev HoldersLive : List ClientRecord → List (List Delegation) → Type 0
HoldersLive records lent = AllByRecursion (AllByRecursion (IsOfLive records)) lent

-- what holds of the delegations
pub record HasSoundDelegations (state : State) : Type 0 where
  pub apart : AreApartIn state.opens state.delegations
  pub single : AllByRecursion OneEach state.delegations
  pub live : HoldersLive state.clients.confirmed state.delegations

none_each : OneEach []
none_each = distinct_none (λ (a : Delegation) b. is_same_client a.client b.client)

-- That they are apart.

-- a change of the opens, or of the delegations, of one node
apart_opens : (node : ℕ) (change : List OpenState → List OpenState) (opens : List (List OpenState)) (lent : List (List Delegation))
    → (AreApart (opens_of node opens) (delegations_of node lent) → AreApart (change (opens_of node opens)) (delegations_of node lent))
    → AreApartIn opens lent → AreApartIn (with_opens node change opens) lent
apart_opens node change opens lent keep apart = λ m.
    lists_where_set (λ xs. AreApart xs (delegations_of m lent)) m node opens (change (opens_of node opens)) (apart m)
    (λ same. subst (λ k. AreApart (change (opens_of node opens)) (delegations_of k lent)) (sym same) (keep (apart node)))

apart_lent : (node : ℕ) (change : List Delegation → List Delegation) (opens : List (List OpenState)) (lent : List (List Delegation))
    → (AreApart (opens_of node opens) (delegations_of node lent) → AreApart (opens_of node opens) (change (delegations_of node lent)))
    → AreApartIn opens lent → AreApartIn opens (with_delegations node change lent)
apart_lent node change opens lent keep apart = λ m.
    lists_where_set (λ ds. AreApart (opens_of m opens) ds) m node lent (change (delegations_of node lent)) (apart m)
    (λ same. subst (λ k. AreApart (opens_of k opens) (change (delegations_of node lent))) (sym same) (keep (apart node)))

-- of all nodes
apart_dropped : StayApart → (test : OpenState → Bool) (opens : List (List OpenState)) (lent : List (List Delegation)) → AreApartIn opens lent → AreApartIn (map (without test) opens) lent
apart_dropped law test opens lent apart = λ node.
    subst (λ xs. AreApart xs (delegations_of node lent)) (sym (lists_of_map (without test) refl node opens))
    (law.removal test (opens_of node opens) (delegations_of node lent) (apart node))

apart_given_back : StayApart → (test : Delegation → Bool) (opens : List (List OpenState)) (lent : List (List Delegation)) → AreApartIn opens lent → AreApartIn opens (map (without_lent test) lent)
apart_given_back law test opens lent apart = λ node.
    subst (AreApart (opens_of node opens)) (sym (lists_of_map (without_lent test) refl node lent))
    (law.give_back test (opens_of node opens) (delegations_of node lent) (apart node))

-- That their clients are live.

-- clients' records of which none of a delegation's client is lost
live_still : (records new : List ClientRecord) (lent : List (List Delegation)) → ((client : ClientId) → is_live_in records client ≡ true → is_live_in new client ≡ true) → HoldersLive records lent → HoldersLive new lent
live_still records new lent keeps live =
    all_weaken (AllByRecursion (IsOfLive records)) (AllByRecursion (IsOfLive new)) (λ ds h. all_weaken (IsOfLive records) (IsOfLive new) (λ d k. keeps d.client k) ds h) lent live

-- a client that is lost with its delegations
live_left : (goes : ClientId) (records new : List ClientRecord) (lent : List (List Delegation)) → ((client : ClientId) → not (is_same_client client goes) ≡ true → is_live_in records client ≡ true → is_live_in new client ≡ true)
    → HoldersLive records lent → HoldersLive new (map (without_lent (is_lent_to goes)) lent)
live_left goes records new lent keeps live =
    all_map (AllByRecursion (IsOfLive records)) (AllByRecursion (IsOfLive new)) (without_lent (is_lent_to goes))
    (λ ds h. all_filter (IsOfLive records) (IsOfLive new) (λ d. not (is_lent_to goes d)) (λ d k others. keeps d.client others k) ds h) lent live

-- delegations that are called back

recalled_client : (P : ClientId → Type 0) (moment : ℕ) (b : Bool) (d : Delegation) → P d.client → P (cond b (with_recall moment d) d).client
recalled_client P moment true d h = cond_both (is_none d.recalled) (record d { recalled = Some moment }) d (λ x. P x.client) (λ _. h) (λ _. h)
recalled_client P moment false d h = h

recalls_live : (file_use : FileUse) (moment : ℕ) (records : List ClientRecord) (ds : List Delegation) → AllByRecursion (IsOfLive records) ds → AllByRecursion (IsOfLive records) (with_recalls file_use moment ds)
recalls_live file_use moment records ds h =
    all_map (IsOfLive records) (IsOfLive records) (λ d. cond (conflicts file_use d) (with_recall moment d) d)
    (λ d k. recalled_client (λ c. is_live_in records c ≡ true) moment (conflicts file_use d) d k) ds h

returns_live : (test : Delegation → Bool) (records : List ClientRecord) (ds : List Delegation) → AllByRecursion (IsOfLive records) ds → AllByRecursion (IsOfLive records) (without_lent test ds)
returns_live test records ds h = all_filter (IsOfLive records) (IsOfLive records) (λ d. not (test d)) (λ d k _. k) ds h

-- A client is lost with its opens and its delegations.
without_client_sound : StayApart → StaySingle → (goes : ClientId) (old : State) (records : List ClientRecord)
    → ((client : ClientId) → not (is_same_client client goes) ≡ true → is_live_in old.clients.confirmed client ≡ true → is_live_in records client ≡ true) → HasSoundDelegations old
    → AreApartIn (map (without (is_of_client goes)) old.opens) (map (without_lent (is_lent_to goes)) old.delegations)
    × AllByRecursion OneEach (map (without_lent (is_lent_to goes)) old.delegations)
    × HoldersLive records (map (without_lent (is_lent_to goes)) old.delegations)
without_client_sound law single goes old records keeps h = (
  apart_dropped law (is_of_client goes) old.opens (map (without_lent (is_lent_to goes)) old.delegations) (apart_given_back law (is_lent_to goes) old.opens old.delegations h.apart),
  all_map OneEach OneEach (without_lent (is_lent_to goes)) (λ ds k. single.give_back (is_lent_to goes) ds k) old.delegations h.single,
  live_left goes old.clients.confirmed records old.delegations keeps h.live,
)

-- What an entry means for an owner: where it is dropped, so are its opens.

dropped_sound : StayApart → (name : OpenOwner) (old : State) → HasSoundDelegations old → AreApartIn (map (without (λ o. is_same_owner o.owner name)) old.opens) old.delegations
dropped_sound law name old h = apart_dropped law (λ o. is_same_owner o.owner name) old.opens old.delegations h.apart

pub delegations_owned : StayApart → (change : OwnerChange) (number : ℕ) (old : State) → HasSoundDelegations old → HasSoundDelegations (with_owner_change change number old)
delegations_owned law owner_changes.Nothing number old h = h
delegations_owned law (owner_changes.Restarts name confirmed) number old h = record { apart = dropped_sound law name old h; single = h.single; live = h.live }
delegations_owned law (owner_changes.Drops name) number old h = record { apart = dropped_sound law name old h; single = h.single; live = h.live }
delegations_owned law change number old h = record { apart = h.apart; single = h.single; live = h.live }

-- A change of the clients' records.

delegations_of_clients : StayApart → StaySingle → (change : ClientChange) (old : State) → IsClientReady change old.clients → HasSoundDelegations old → HasSoundDelegations (with_state_change (changes.Clients change) old)
delegations_of_clients law single client_changes.Nothing old ready h = record { apart = h.apart; single = h.single; live = h.live }
delegations_of_clients law single (client_changes.Arrives r) old ready h = record { apart = h.apart; single = h.single; live = h.live }
delegations_of_clients law single (client_changes.Updates r) old ready h = record { apart = h.apart; single = h.single; live = h.live }
delegations_of_clients law single (client_changes.Confirms r) old ready h = record {
  apart = h.apart;
  single = h.single;
  live = live_still old.clients.confirmed (without_id r.id old.clients.confirmed ++ r ∷ []) old.delegations
      (λ client live. still_live r old.clients.confirmed client (none_of r.state.client r.id old.clients.confirmed ready.0) live) h.live;
}
delegations_of_clients law single (client_changes.Refreshes r) old ready h = record {
  apart = h.apart;
  single = h.single;
  live = live_still old.clients.confirmed (without_id r.id old.clients.confirmed ++ r ∷ []) old.delegations
      (λ client live. still_live r old.clients.confirmed client ready.0 live) h.live;
}
delegations_of_clients law single (client_changes.Replaces r goes) old ready h =
    let left = without_client_sound law single goes old (without_id r.id old.clients.confirmed ++ r ∷ [])
    (λ client others live. others_live r goes old.clients.confirmed client ready.0 others live) h in
    record { apart = left.0; single = left.1; live = left.2 }

-- An OPEN, and the delegation that is lent with it.

none_pushed : {X : Type 0} (p : X → Bool) (xs : List X) (x : X) → list_any p xs ≡ false → p x ≡ false → list_any p (xs ++ x ∷ []) ≡ false
none_pushed p xs x none fails = list_any-append p xs (x ∷ []) ∙ ap (λ b. b || (p x || false)) none ∙ ap (λ b. b || false) fails

-- no delegation of the client's own is in its way
own_apart : (client : ClientId) (share : Share) (kind : DelegationKind) (number : ℕ) (ds : List Delegation) → has_conflict (uses.Open client share) ds ≡ false
    → has_conflict (uses.Open client share) (ds ++ first_delegation client kind number ∷ []) ≡ false
own_apart client share kind number ds none =
    let new = first_delegation client kind number in
    none_pushed (conflicts (uses.Open client share)) ds new none (ap (λ b. not b && is_in_way kind (uses.Open client share)) (same_client_self client))

opened_sound : StayApart → (node : ℕ) (owner : OpenOwner) (share : Share) (number : ℕ) (opens : List (List OpenState)) (lent : List (List Delegation))
    → has_conflict (uses.Open owner.client share) (delegations_of node lent) ≡ false → AreApartIn opens lent → AreApartIn (with_opens node (with_opening owner share number) opens) lent
opened_sound law node owner share number opens lent free apart =
    apart_opens node (with_opening owner share number) opens lent
    (λ here. law.try_open owner share number (opens_of node opens) (delegations_of node lent) here free) apart

delegations_granted : StayApart → StaySingle → (node : ℕ) (owner : OpenOwner) (share : Share) (lent : Option DelegationKind) (old : State)
    → is_live_in old.clients.confirmed owner.client ≡ true → MayOpen node owner share lent old → HasSoundDelegations old → HasSoundDelegations (with_state_change (changes.Opens node owner share lent) old)
delegations_granted law single node owner share None old live may h = record {
  apart = opened_sound law node owner share (old.last_state + 1) old.opens old.delegations may.2 h.apart;
  single = h.single;
  live = h.live;
}
delegations_granted law single node owner share (Some kind) old live may h =
    let client = owner.client in
    let number = (with_open node owner share old).last_state + 1 in
    let new = first_delegation client kind number in
    let here = delegations_of node old.delegations in
    let lend : List Delegation → List Delegation = λ ds. ds ++ new ∷ [] in
    let delegations = with_delegations node lend old.delegations in
    let free = lists_where_set (λ ds. has_conflict (uses.Open client share) ds ≡ false) node node old.delegations (lend here) may.2
    (λ _. own_apart client share kind number here may.2) in
    let apart = apart_lent node lend old.opens old.delegations (λ k. law.lend client kind number (opens_of node old.opens) here k may.4) h.apart in
    record {
      apart = opened_sound law node owner share (old.last_state + 1) old.opens delegations free apart;
      single = all_set OneEach old.delegations node (lend here) h.single
          (single.lend client kind number (opens_of node old.opens) here (lists_at OneEach none_each node old.delegations h.single) may.4);
      live = set_lists (AllByRecursion (IsOfLive old.clients.confirmed)) tt lend (λ ds k. all_push (IsOfLive old.clients.confirmed) ds new k live) node old.delegations h.live;
    }

-- An operation's own change leaves all this so.

pub delegations_changed : StayApart → StaySingle → (change : Change) (old : State) → IsChangeReady change old → IsSound old → HasSoundDelegations old → HasSoundDelegations (with_state_change change old)
delegations_changed law single changes.Nothing old ready sound h = h
delegations_changed law single (changes.Clients change) old ready sound h = delegations_of_clients law single change old ready h
delegations_changed law single (changes.Opens node owner share lent) old ready sound h =
    delegations_granted law single node owner share lent old (live_owner old sound (open_owner owner) ready.0) ready.1 h
delegations_changed law single (changes.Confirms node number owner) old ready sound h = record {
  apart = apart_opens node (with_each (is_numbered number) with_next_seqid) old.opens old.delegations (λ here. law.advance (is_numbered number) (opens_of node old.opens) (delegations_of node old.delegations) here) h.apart;
  single = h.single;
  live = h.live;
}
delegations_changed law single (changes.Downgrades node number share) old ready sound h = record {
  apart = apart_opens node (with_each (is_numbered number) (after_downgrade share)) old.opens old.delegations
      (λ here. law.downgrade (is_numbered number) share (opens_of node old.opens) (delegations_of node old.delegations) here) h.apart;
  single = h.single;
  live = h.live;
}
delegations_changed law single (changes.Closes node number) old ready sound h = record {
  apart = apart_opens node (without (is_numbered number)) old.opens old.delegations (λ here. law.removal (is_numbered number) (opens_of node old.opens) (delegations_of node old.delegations) here) h.apart;
  single = h.single;
  live = h.live;
}
delegations_changed law single (changes.Expires goes) old ready sound h =
    let left = without_client_sound law single goes old (filter (λ r. not (is_record_of_client goes.number r)) old.clients.confirmed)
    (λ client others live. live_without goes old.clients.confirmed client ready.1 others live) h in
    record { apart = left.0; single = left.1; live = left.2 }
delegations_changed law single (changes.Recalls node file_use moment) old ready sound h =
    let recall : List Delegation → List Delegation = with_recalls file_use moment in
    record {
      apart = apart_lent node recall old.opens old.delegations (λ k. law.recall file_use moment (opens_of node old.opens) (delegations_of node old.delegations) k) h.apart;
      single = set_lists OneEach none_each recall (λ ds k. single.recall file_use moment ds k) node old.delegations h.single;
      live = set_lists (AllByRecursion (IsOfLive old.clients.confirmed)) tt recall (recalls_live file_use moment old.clients.confirmed) node old.delegations h.live;
    }
delegations_changed law single (changes.Returns node number) old ready sound h =
    let give_back : List Delegation → List Delegation = without_lent (is_delegation_numbered number) in
    record {
      apart = apart_lent node give_back old.opens old.delegations
          (λ k. law.give_back (is_delegation_numbered number) (opens_of node old.opens) (delegations_of node old.delegations) k) h.apart;
      single = set_lists OneEach none_each give_back (λ ds k. single.give_back (is_delegation_numbered number) ds k) node old.delegations h.single;
      live = set_lists (AllByRecursion (IsOfLive old.clients.confirmed)) tt give_back (returns_live (is_delegation_numbered number) old.clients.confirmed) node old.delegations h.live;
    }
delegations_changed law single (changes.MarksPath client path) old ready sound h = record {
  apart = h.apart;
  single = h.single;
  live = live_still old.clients.confirmed (map (after_mark client path) old.clients.confirmed) old.delegations (λ c live. marked_live client path c old.clients.confirmed live) h.live;
}
delegations_changed law single change old ready sound h = record { apart = h.apart; single = h.single; live = h.live }

-- A server to which no client has come has none.

none_at : (count node : ℕ) → delegations_of node (replicate count []) ≡ []
none_at zero node = refl
none_at (suc count) zero = refl
none_at (suc count) (suc node) = none_at count node

apart_of_none : (opens : List OpenState) → AreApart opens []
apart_of_none opens = (none_in opens, tt)
  where
    none_in : (xs : List OpenState) → AllByRecursion (λ o. has_conflict (uses.Open o.owner.client (share_of o)) [] ≡ false) xs
    none_in [] = tt
    none_in (x ∷ xs) = (refl, none_in xs)

pub delegations_empty : (nodes : List Node) → HasSoundDelegations (empty_server nodes)
delegations_empty nodes =
    let count = node_count nodes in
    let opens = (empty_server nodes).opens in
    let lent = (empty_server nodes).delegations in
    record {
      apart = λ node. subst (λ ds. AreApart (opens_of node opens) ds) (sym (none_at count node)) (apart_of_none (opens_of node opens));
      single = all_replicate OneEach [] none_each count;
      live = all_replicate (AllByRecursion (IsOfLive [])) [] tt count;
    }
