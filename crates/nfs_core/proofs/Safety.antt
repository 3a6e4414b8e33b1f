-- Each state that a lawful journal leads to is safe.
use Rattle.std.proofs.Common.{ℕ, List, [], ◌∷◌, length, refl, sym, subst}
use Rattle.std.specs.Prelude.{replicate}
use Rattle.std.specs.List.{AllByRecursion}
use Rattle.nfs_state.specs.declared.effect.Effect.{Effect}
use Rattle.nfs_state.specs.declared.entry.Entry.{Entry}
use Rattle.nfs_state.specs.declared.entry.Entry.TheVariants as entries
use Rattle.nfs_core.specs.Lawful.{Leads, Lawful}
use Rattle.nfs_core.specs.Safe.{EachOpen, HasKnownLocker, HasKnownOwner, HasLiveClient, HasLiveLocker, HasShares, HaveSeqids, IsSafe, KeepsLimits, StandsUnderOpen, bears}
use Rattle.nfs_rules.specs.entries.Expire.{client_of}
use Rattle.nfs_state.specs.Changes.{after, with_owner_change}
use Rattle.nfs_state.specs.State.{State, History, empty_server}
use Rattle.nfs_core.specs.Step.{Allows, Step}
use Rattle.nfs_state.specs.Entries.{with_entry}
use Rattle.nfs_core.proofs.SafeFiles.{locks_at}
use Rattle.nfs_core.proofs.SafeLists.{all_replicate, all_weaken, any_found}
use Rattle.nfs_core.proofs.Sound.{AreNumbered, HasSoundLocks, IsKnownIn, IsLockerKnownIn, IsSound, StandsUnder, OpensStay}
use Rattle.nfs_core.proofs.IdleOwners.{forgets_idle}
use Rattle.nfs_core.proofs.SoundClients.{HasSingles, alone, are_records, one_of_client, singles_after, singles_empty, singles_owned}
use Rattle.nfs_core.proofs.SoundConfirms.{HasConfirms, IsChangeValued, allowed_valued, confirms_after, confirms_empty, have_confirm_values}
use Rattle.nfs_core.proofs.SoundDelegations.{HasSoundDelegations, StayApart, StaySingle, delegations_changed, delegations_empty, delegations_owned}
use Rattle.nfs_core.proofs.SoundLimits.{FirstRuns, limits_changed, limits_empty, limits_owned}
use Rattle.nfs_core.proofs.SoundLocks.{LocksStay}
use Rattle.nfs_core.proofs.SoundNames.{HaveNames, names_changed, names_empty, names_owned}
use Rattle.nfs_core.proofs.SoundNumbers.{HasNumbers, numbered_after, numbered_empty, numbered_owned, numbers_differ, numbers_given}
use Rattle.nfs_core.proofs.SoundOrder.{HasOrder, order_after, order_empty}
use Rattle.nfs_core.proofs.SoundOwners.{HasOnes, ones_changed, ones_empty, ones_owned}
use Rattle.nfs_core.proofs.SoundRules.{ruled_ready}
use Rattle.nfs_core.proofs.SoundSeqids.{seqids_changed, seqids_empty, seqids_owned}
use Rattle.nfs_core.proofs.SoundSequences.{live_owner}
use Rattle.nfs_core.proofs.SoundShares.{shares_changed, shares_empty, shares_owned}
use Rattle.nfs_core.proofs.SoundSteps.{IsEffectReady, sound_after, sound_owner}
use Rattle.nfs_locks.specs.AllLocks.{locks_of}
use Rattle.nfs_locks.specs.Laws.{AllLocksAreCompatible}
use Rattle.nfs_locks.specs.Locks.{ByteLocks}
use Rattle.nfs_owners.specs.StateOwner.{lock_owner, open_owner}
use Rattle.nfs_share.specs.AllOpens.{opens_of}
use Rattle.nfs_share.specs.Laws.{AllAreCompatible}
use Rattle.nfs_share.specs.declared.open_state.OpenState.{OpenState}
use Rattle.nfs_tree.specs.Tree.{node_count}

no_locks : (count : ℕ) (opens : List (List OpenState)) → HasSoundLocks [] opens 0 (replicate count [])
no_locks count opens =
    let none : List (List ByteLocks) = replicate count [] in
    record {
      known = all_replicate (AllByRecursion (IsLockerKnownIn [])) [] tt count;
      compatible = all_replicate AllLocksAreCompatible [] (λ byte. tt) count;
      under = λ node. locks_at (AllByRecursion (StandsUnder [] (opens_of node opens))) tt node none
          (all_replicate (AllByRecursion (StandsUnder [] (opens_of node opens))) [] tt count);
      numbered = all_replicate (AreNumbered 0) [] (tt, tt) count;
    }

sound_empty : (journal : History) → IsSound (empty_server journal.nodes)
sound_empty journal =
    let count = node_count journal.nodes in
    record {
      live = tt;
      known = all_replicate (AllByRecursion (IsKnownIn [])) [] tt count;
      compatible = all_replicate AllAreCompatible [] tt count;
      single = tt;
      locks = no_locks count (empty_server journal.nodes).opens;
    }

-- what an entry may do is ready to keep the state sound
pub allowed_ready : (journal : History) (old : State) (entry : Entry) (effect : Effect) → IsSound old → HasSingles old.clients → Allows journal old entry effect → IsEffectReady (length journal.entries) old effect
allowed_ready journal old (entries.Expire expire) effect sound singles allowed =
    subst (IsEffectReady (length journal.entries) old) (sym allowed.removal) (tt, (allowed.live, alone (client_of journal expire.client) old.clients allowed.live singles.same))
allowed_ready journal old (entries.Revoke revoke) effect sound singles allowed =
    subst (IsEffectReady (length journal.entries) old) (sym allowed.removal) (tt, tt)
allowed_ready journal old (entries.Path path) effect sound singles allowed =
    subst (IsEffectReady (length journal.entries) old) (sym allowed.mark) (tt, tt)
allowed_ready journal old (entries.Forget forget) effect sound singles allowed =
    subst (IsEffectReady (length journal.entries) old) (sym allowed.removal) (tt, forgets_idle journal old forget effect allowed)
allowed_ready journal old (entries.Call call) effect sound singles allowed =
    ruled_ready (length journal.entries) journal old call.request.op call.request (record { answer = call.answer; effect = effect }) refl sound singles allowed.rule

-- What holds of the state after each entry.
pub record Holds (state : State) : Type 0 where
  pub sound : IsSound state
  pub names : HaveNames state.owners
  pub numbered : HasNumbers state
  pub ones : HasOnes state
  pub delegations : HasSoundDelegations state
  pub order : HasOrder state
  pub singles : HasSingles state.clients
  pub confirms : HasConfirms state.clients
  pub within : KeepsLimits state
  pub seqids : HaveSeqids state
  pub shares : EachOpen HasShares state

pub holds_empty : (journal : History) → Holds (empty_server journal.nodes)
holds_empty journal = record {
  sound = sound_empty journal;
  names = names_empty journal.nodes;
  numbered = numbered_empty journal.nodes;
  ones = ones_empty journal.nodes;
  delegations = delegations_empty journal.nodes;
  order = order_empty journal.nodes;
  singles = singles_empty;
  confirms = confirms_empty;
  within = limits_empty journal.nodes;
  seqids = seqids_empty journal.nodes;
  shares = shares_empty journal.nodes;
}

-- The laws of the crates below: of opens and of lock states that stay compatible, of delegations that stay apart from opens
-- and from one another, and single, and of the runs of a first lock.
pub record Laws : Type 0 where
  pub opens : OpensStay
  pub locks : LocksStay
  pub apart : StayApart
  pub single : StaySingle
  pub runs : FirstRuns

holds_after : Laws → (number : ℕ) (effect : Effect) (old : State) → IsEffectReady number old effect → IsChangeValued effect.change old.clients → Holds old → Holds (after number effect old)
holds_after laws number effect old ready valued holds =
    let mid = with_owner_change effect.owner number old in
    record {
      sound = sound_after laws.opens laws.locks number effect old ready holds.sound;
      names = names_changed effect.change mid (names_owned effect.owner number old ready.0 holds.names);
      numbered = numbered_after number effect old holds.numbered;
      ones = ones_changed effect.change mid ready.1 (ones_owned effect.owner number old holds.ones);
      delegations = delegations_changed laws.apart laws.single effect.change mid ready.1
          (sound_owner laws.opens effect.owner number old ready.0 holds.sound) (delegations_owned laws.apart effect.owner number old holds.delegations);
      order = order_after number effect old holds.numbered holds.order;
      singles = singles_after effect.change mid ready.1 (singles_owned effect.owner number old holds.singles);
      confirms = confirms_after number effect old valued holds.confirms;
      within = limits_changed laws.runs effect.change mid ready.1 (limits_owned effect.owner number old ready.0 holds.within);
      seqids = seqids_changed effect.change mid (seqids_owned effect.owner number old holds.seqids);
      shares = shares_changed effect.change mid ready.1 (numbered_owned effect.owner number old holds.numbered)
          (shares_owned effect.owner number old holds.shares);
    }

pub holds_step : Laws → (journal : History) (old : State) (entry : Entry) (new : State) → Step journal old entry new → Holds old → Holds new
holds_step laws journal old entry new step holds =
    subst Holds (sym step.state)
    (holds_after laws (length journal.entries) step.effect old (allowed_ready journal old entry step.effect holds.sound holds.singles step.allowed)
    (allowed_valued journal old entry step.effect holds.singles step.allowed) holds)

pub holds_leads : Laws → (journal : History) (old new : State) (entries : List Entry) → Leads journal old entries new → Holds old → Holds new
holds_leads laws journal old new [] leads holds = subst Holds (sym leads) holds
holds_leads laws journal old new (entry ∷ entries) leads holds =
    holds_leads laws (with_entry entry journal) leads.0 new entries leads.2 (holds_step laws journal old entry leads.0 leads.1 holds)

-- So it is safe.

safe : (state : State) → Holds state → IsSafe state
safe state holds =
    let sound = holds.sound in
    record {
      compatible = sound.compatible;
      known = sound.known;
      live = all_weaken (AllByRecursion (HasKnownOwner state)) (AllByRecursion (HasLiveClient state))
          (λ opens known. all_weaken (HasKnownOwner state) (HasLiveClient state) (λ o h. live_owner state sound (open_owner o.owner) h) opens known) state.opens sound.known;
      owners_live = sound.live;
      owners_differ = holds.names;
      locks_compatible = sound.locks.compatible;
      lockers_known = sound.locks.known;
      lockers_live = all_weaken (AllByRecursion (HasKnownLocker state)) (AllByRecursion (HasLiveLocker state))
          (λ locks known. all_weaken (HasKnownLocker state) (HasLiveLocker state) (λ l h. live_owner state sound (lock_owner l.owner) h) locks known) state.locks sound.locks.known;
      locks_under_opens = λ node. all_weaken (StandsUnder state.owners (opens_of node state.opens)) (StandsUnderOpen state node)
          (λ l h. any_found (bears state.owners l) (opens_of node state.opens) h) (locks_of node state.locks) (sound.locks.under node);
      numbers_differ = numbers_differ state holds.numbered;
      numbers_given = numbers_given state holds.numbered;
      seqids = holds.seqids;
      shares = holds.shares;
      one_open = holds.ones.opens;
      one_lock = holds.ones.locks;
      apart = holds.delegations.apart;
      one_delegation = holds.delegations.single;
      delegations_in_order = holds.order;
      holders_live = holds.delegations.live;
      records = are_records state.clients holds.singles;
      one_of_client = one_of_client state.clients holds.singles;
      confirm_values = have_confirm_values state.clients holds.confirms;
      within = holds.within;
    }

pub Lawful-safe : Laws → (journal : History) (state : State) → Lawful journal state → IsSafe state
Lawful-safe laws journal state lawful =
    safe state (holds_leads laws (record journal { entries = [] }) (empty_server journal.nodes) state journal.entries lawful (holds_empty journal))
