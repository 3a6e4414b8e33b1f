-- The confirm values of the clients' records: each was given once, to one record, be it confirmed or not.
use Rattle.std.proofs.Common.{◌≡◌, inl, inr, ℕ, Bool, true, Option, Some, None, List, [], ◌∷◌, ◌++◌, filter, refl, sym, ap, subst, arith}
use Rattle.std.specs.Prelude.{⊤, ◌+◌, ◌<◌, ◌≤◌, ◌&&◌, ◌==◌, IfSome, find, is_some, not, option_map, if◌then◌else◌}
use Rattle.std.proofs.lemmas.Bool.{and_from, and_parts, cond-false, cond_both, eq-eqb, eqb-true}
use Rattle.std.proofs.lemmas.Slice.Eq.{bytes_eq-Decides}
use Rattle.nfs_core.proofs.ClientChanges.{IsClientsFor, IsFor, ruled_for}
use Rattle.nfs_core.proofs.SafeLists.{found_cases, found_some}
use Rattle.nfs_core.proofs.SafeSums.{IsOnce, all_from_count, distinct_from_once, is_one, once_given, once_less, once_never, sum_append, sum_filter, sum_map, sum_mapped, sum_of, sum_push}
use Rattle.nfs_core.proofs.SoundClients.{HasSingles}
use Rattle.nfs_core.proofs.SoundSequences.{some_equal}
use Rattle.nfs_core.specs.Safe.{HaveConfirmValues, WasGiven, confirm_value, confirm_values_of}
use Rattle.nfs_core.specs.Step.{Allows}
use Rattle.nfs_forms.specs.ClientId.{is_same_client}
use Rattle.nfs_forms.specs.Principal.{is_same_principal}
use Rattle.nfs_forms.specs.declared.principal.Principal.{Principal}
use Rattle.nfs_operations.specs.declared.setclientid.Setclientid.{Setclientid}
use Rattle.nfs_operations.specs.declared.setclientid_confirm.SetclientidConfirm.{SetclientidConfirm}
use Rattle.nfs_owners.specs.Addresses.{is_within_limit}
use Rattle.nfs_owners.specs.Choice.{choice, has_slot}
use Rattle.nfs_owners.specs.ClientChange.{with_change, with_confirmed}
use Rattle.nfs_owners.specs.Confirmation as confirmations
use Rattle.nfs_owners.specs.Confirmation.{Confirmation, InPlaceOf, InUse, Retransmission, Update, confirmation_before, confirmation_beside, confirmation_by}
use Rattle.nfs_owners.specs.Registration as registrations
use Rattle.nfs_owners.specs.Registration.{arrival, registration_by}
use Rattle.nfs_owners.specs.Registry.{Registry, after_mark, confirmed_named_by, confirmed_of, is_named_by, is_of, is_of_client, no_clients, record_state, unconfirmed_named_by, with_mark, without_client, without_id}
use Rattle.nfs_owners.specs.Slots.{slot_of}
use Rattle.nfs_owners.specs.declared.client_record.ClientRecord.{ClientRecord}
use Rattle.nfs_owners.specs.declared.client_record.ClientState.{ClientState}
use Rattle.nfs_owners.specs.declared.client_record.PathMark.{PathMark}
use Rattle.nfs_owners.specs.declared.clients.client_change.ClientChange.{ClientChange}
use Rattle.nfs_owners.specs.declared.clients.client_change.ClientChange.TheVariants as client_changes
use Rattle.nfs_rules.specs.declared.decision.Decision.{Decision}
use Rattle.nfs_rules.specs.operations.{IsRuled}
use Rattle.nfs_rules.specs.operations.Setclientid as setclientid
use Rattle.nfs_rules.specs.operations.SetclientidConfirm as confirm
use Rattle.nfs_state.specs.Changes.{after, with_owner_change, with_state_change}
use Rattle.nfs_state.specs.State.{History, State, record_has_state}
use Rattle.nfs_state.specs.declared.change.Change.{Change}
use Rattle.nfs_state.specs.declared.change.Change.TheVariants as changes
use Rattle.nfs_state.specs.declared.effect.Effect.{Effect}
use Rattle.nfs_state.specs.declared.entry.Entry.{Entry}
use Rattle.nfs_state.specs.declared.entry.Entry.TheVariants as entries
use Rattle.nfs_state.specs.declared.owner_change.OwnerChange.{OwnerChange}
use Rattle.nfs_state.specs.declared.owner_change.OwnerChange.TheVariants as owner_changes
use Rattle.nfs_state.specs.declared.request.Request.{Request}
use Rattle.nfs_xdr.specs.declared.op.Op.{Op}
use Rattle.nfs_xdr.specs.declared.op.Op.TheVariants as ops

-- Records by a weight of their confirm values.

abbrev of_record : (ℕ → ℕ) → ClientRecord → ℕ
of_record w r = w (confirm_value r)

abbrev weight : (ℕ → ℕ) → Registry → ℕ
weight w registry = sum_of (of_record w) registry.confirmed + sum_of (of_record w) registry.unconfirmed

weight_of_values : (w : ℕ → ℕ) (registry : Registry) → sum_of w (confirm_values_of registry) ≡ weight w registry
weight_of_values w registry =
    omega (
      arith,
      sum_mapped w confirm_value (registry.confirmed ++ registry.unconfirmed),
      sum_append (of_record w) registry.confirmed registry.unconfirmed,
    )

-- What a change needs.

-- the record has this id and this confirm value
abbrev is_valued : List ℕ → ℕ → ClientRecord → Bool
is_valued id value r = is_of id r && (confirm_value r == value)

-- an unconfirmed record has the id and the confirm value of this one
abbrev TakesValue : ClientRecord → Registry → Type 0
TakesValue r registry = is_some (find (is_valued r.id (confirm_value r)) registry.unconfirmed) ≡ true

-- A new record has the next confirm value, and one that is confirmed has that of an unconfirmed record of its id.
abbrev IsValued : ClientChange → Registry → Type 0
IsValued client_changes.Nothing registry = ⊤
IsValued (client_changes.Arrives r) registry = confirm_value r ≡ registry.last_confirm + 1
IsValued (client_changes.Updates r) registry = confirm_value r ≡ registry.last_confirm + 1
IsValued (client_changes.Confirms r) registry = TakesValue r registry
IsValued (client_changes.Refreshes r) registry = TakesValue r registry
IsValued (client_changes.Replaces r client) registry = TakesValue r registry

abbrev pub IsChangeValued : Change → Registry → Type 0
IsChangeValued (changes.Clients change) registry = IsValued change registry
IsChangeValued change registry = ⊤

-- What a change adds.

-- one record of the id goes with its value, and more may go
value_leaves : (w : ℕ → ℕ) (id : List ℕ) (value : ℕ) (records : List ClientRecord) → is_some (find (is_valued id value) records) ≡ true
    → sum_of (of_record w) (without_id id records) + w value ≤ sum_of (of_record w) records
value_leaves w id value [] found = absurd cc
value_leaves w id value (r ∷ records) found = elim (found_cases (is_valued id value) r records found) [
  | inl first ↦
      let both = and_parts (is_of id r) (confirm_value r == value) first in
      let gone : without_id id (r ∷ records) ≡ without_id id records =
      cond-false (not (is_of id r)) (r ∷ without_id id records) (without_id id records) (ap not both.0) in
      omega (
        arith,
        ap (sum_of (of_record w)) gone,
        ap w (eqb-true (confirm_value r) value both.1),
        sum_filter (of_record w) (λ s. not (is_of id s)) records,
      )
  | inr beyond ↦
      let rest : sum_of (of_record w) (without_id id records) + w value ≤ sum_of (of_record w) records = value_leaves w id value records beyond in
      cond_both (not (is_of id r)) (r ∷ without_id id records) (without_id id records)
      (λ ys. sum_of (of_record w) ys + w value ≤ of_record w r + sum_of (of_record w) records)
      (λ _. omega (arith, rest)) (λ _. omega (arith, rest))
]

-- a record takes the place of others of its id
put_weight : (w : ℕ → ℕ) (r : ClientRecord) (records : List ClientRecord)
    → sum_of (of_record w) (without_id r.id records ++ r ∷ []) ≤ sum_of (of_record w) records + w (confirm_value r)
put_weight w r records =
    omega (arith, sum_push (of_record w) (without_id r.id records) r, sum_filter (of_record w) (λ s. not (is_of r.id s)) records)

-- a record that is confirmed takes its value from an unconfirmed one
confirmed_weight : (w : ℕ → ℕ) (r : ClientRecord) (old : Registry) → TakesValue r old → weight w (with_confirmed r old) ≤ weight w old
confirmed_weight w r old takes =
    omega (arith, put_weight w r old.confirmed, value_leaves w r.id (confirm_value r) old.unconfirmed takes)

-- Each confirm value was given once, to one record.

pub HasConfirms : Registry → Type 0
HasConfirms registry = (n : ℕ) → IsOnce registry.last_confirm n (weight (is_one n) registry)

-- none is given, and none is added
fewer_values : (old new : Registry) → new.last_confirm ≡ old.last_confirm → ((w : ℕ → ℕ) → weight w new ≤ weight w old) → HasConfirms old → HasConfirms new
unfolding HasConfirms
fewer_values old new same less h n =
    subst (λ last. IsOnce last n (weight (is_one n) new)) (sym same)
    (once_less old.last_confirm n (weight (is_one n) old) (weight (is_one n) new) (less (is_one n)) (h n))

-- the next is given, and added once
next_value : (old new : Registry) → new.last_confirm ≡ old.last_confirm + 1 → ((w : ℕ → ℕ) → weight w new ≤ weight w old + w (old.last_confirm + 1)) → HasConfirms old → HasConfirms new
unfolding HasConfirms
next_value old new same grows h n =
    subst (λ last. IsOnce last n (weight (is_one n) new)) (sym same)
    (once_given old.last_confirm n (weight (is_one n) old) (weight (is_one n) new) (grows (is_one n)) (h n))

confirms_confirmed : (r : ClientRecord) (old : Registry) → TakesValue r old → HasConfirms old → HasConfirms (with_confirmed r old)
confirms_confirmed r old takes h = fewer_values old (with_confirmed r old) refl (λ w. confirmed_weight w r old takes) h

confirms_by_clients : (change : ClientChange) (old : Registry) → IsValued change old → HasConfirms old → HasConfirms (with_change change old)
confirms_by_clients client_changes.Nothing old ready h = h
confirms_by_clients (client_changes.Arrives r) old ready h =
    let stays : ClientRecord → Bool = λ s. not (has_slot (slot_of r.state.client.number) s) in
    next_value old (with_change (client_changes.Arrives r) old) refl
    (λ w. omega (arith, put_weight w r (filter stays old.unconfirmed), sum_filter (of_record w) stays old.unconfirmed, ap w ready)) h
confirms_by_clients (client_changes.Updates r) old ready h =
    next_value old (with_change (client_changes.Updates r) old) refl (λ w. omega (arith, put_weight w r old.unconfirmed, ap w ready)) h
confirms_by_clients (client_changes.Confirms r) old ready h = confirms_confirmed r old ready h
confirms_by_clients (client_changes.Refreshes r) old ready h = confirms_confirmed r old ready h
confirms_by_clients (client_changes.Replaces r client) old ready h = confirms_confirmed r old ready h

-- a mark of a path leaves the value
value_marked : (w : ℕ → ℕ) (number : ℕ) (path : PathMark) (r : ClientRecord) → of_record w (after_mark number path r) ≡ of_record w r
value_marked w number path r =
    cond_both (is_of_client number r) (record r { state = record r.state { path = path } }) r (λ s. of_record w s ≡ of_record w r) (λ _. refl) (λ _. refl)

pub confirms_changed : (change : Change) (old : State) → IsChangeValued change old.clients → HasConfirms old.clients → HasConfirms (with_state_change change old).clients
confirms_changed changes.Nothing old ready h = h
confirms_changed (changes.Clients change) old ready h = confirms_by_clients change old.clients ready h
confirms_changed (changes.Expires client) old ready h =
    let stays : ClientRecord → Bool = λ r. not (is_of_client client.number r) in
    fewer_values old.clients (without_client client.number old.clients) refl
    (λ w. omega (arith, sum_filter (of_record w) stays old.clients.confirmed, sum_filter (of_record w) stays old.clients.unconfirmed)) h
confirms_changed (changes.MarksPath client path) old ready h =
    fewer_values old.clients (with_mark client path old.clients) refl
    (λ w. omega (arith, sum_map (of_record w) (after_mark client path) (value_marked w client path) old.clients.confirmed)) h
-- an OPEN leaves the clients as they are, be a delegation given or not
confirms_changed (changes.Opens node owner share None) old ready h = h
confirms_changed (changes.Opens node owner share (Some kind)) old ready h = h
confirms_changed change old ready h = h

-- what an entry means for an owner leaves the clients as they are
pub owned_clients : (change : OwnerChange) (number : ℕ) (old : State) → (with_owner_change change number old).clients ≡ old.clients
owned_clients owner_changes.Nothing number old = refl
owned_clients change number old = refl

-- an entry with an effect that its rule makes sure of
pub confirms_after : (number : ℕ) (effect : Effect) (old : State) → IsChangeValued effect.change old.clients → HasConfirms old.clients → HasConfirms (after number effect old).clients
confirms_after number effect old ready h =
    let same = sym (owned_clients effect.owner number old) in
    confirms_changed effect.change (with_owner_change effect.owner number old)
    (subst (λ (r : Registry). IsChangeValued effect.change r) same ready) (subst HasConfirms same h)

pub confirms_empty : HasConfirms no_clients
unfolding HasConfirms
confirms_empty n = once_never 0 n 0 refl

-- So they were given, and differ.
pub have_confirm_values : (registry : Registry) → HasConfirms registry → HaveConfirmValues registry
unfolding HasConfirms
have_confirm_values registry h = record {
  given = all_from_count (WasGiven registry.last_confirm) (confirm_values_of registry)
      (λ n some.
      let there : 0 < weight (is_one n) registry = omega (arith, some, weight_of_values (is_one n) registry) in
      ((h n).least there, (h n).most there));
  differ = distinct_from_once (confirm_values_of registry) (λ n. omega (arith, weight_of_values (is_one n) registry, (h n).once));
}

-- What the rules make sure of: SETCLIENTID gives the next value.

registered : (found : registrations.Finding) (epoch : ℕ) (registry : Registry) (principal : Principal) (args : Setclientid)
    → IfSome (registration_by found epoch registry principal args) (λ x. IsValued x.1 registry)
registered (registrations.InUse address) epoch registry principal args = tt
registered (registrations.Update client) epoch registry principal args =
    cond_both (is_within_limit args.callback.address) _ None (λ o. IfSome o (λ x. IsValued x.1 registry)) (λ _. refl) (λ _. tt)
registered registrations.Arrival epoch registry principal args =
    cond_both (is_within_limit args.callback.address) _ None (λ o. IfSome o (λ x. IsValued x.1 registry)) (λ _. by (choice args.id registry)) (λ _. tt)
  where
    by : (chosen : Option ℕ) → IfSome (option_map (arrival epoch registry principal args) chosen) (λ x. IsValued x.1 registry)
    by None = tt
    by (Some number) = refl

decided : (registry : Registry) (d e : Decision) → Some d ≡ Some e → IsChangeValued e.effect.change registry → IsChangeValued d.effect.change registry
decided registry d e same h = subst (λ (x : Decision). IsChangeValued x.effect.change registry) (sym (some_equal d e same)) h

registers : (registry : Registry) (d : Decision) (o : Option (registrations.Outcome × ClientChange)) → IfSome o (λ x. IsValued x.1 registry) → Some d ≡ option_map setclientid.decision_of o
    → IsChangeValued d.effect.change registry
registers registry d None valued is = absurd cc
registers registry d (Some x) valued is = decided registry d (setclientid.decision_of x) is valued

-- SETCLIENTID_CONFIRM confirms a record with the value of the unconfirmed one that it names.

beside_valued : (registry : Registry) (r : ClientRecord) (found : Option ClientState) (has_state : Bool) (path : PathMark) → TakesValue r registry
    → IsValued (confirmation_by (confirmation_beside found r has_state) path).1 registry
beside_valued registry r None has_state path takes = takes
beside_valued registry r (Some old) has_state path takes =
    let P : Confirmation → Type 0 = λ c. IsValued (confirmation_by c path).1 registry in
    let taken = not (is_same_principal old.principal r.state.principal) && has_state in
    cond_both (is_same_client old.client r.state.client) (Update old r) (if taken then InUse else InPlaceOf old r) P
    (λ _. takes) (λ _. cond_both taken InUse (InPlaceOf old r) P (λ _. tt) (λ _. takes))

before_valued : (registry : Registry) (found : Option ClientState) (principal : Principal) (path : PathMark) → IsValued (confirmation_by (confirmation_before found principal) path).1 registry
before_valued registry None principal path = tt
before_valued registry (Some s) principal path =
    let P : Confirmation → Type 0 = λ c. IsValued (confirmation_by c path).1 registry in
    cond_both (is_same_principal s.principal principal) Retransmission InUse P (λ _. tt) (λ _. tt)

confirms : (registry : Registry) (args : SetclientidConfirm) (named : Option ClientRecord) (has_state : Bool) (principal : Principal) (path : PathMark) → unconfirmed_named_by args registry ≡ named
    → IsValued (confirmation_by (confirmations.finding named registry has_state principal args) path).1 registry
confirms registry args None has_state principal path is = before_valued registry (record_state (confirmed_named_by args registry)) principal path
confirms registry args (Some r) has_state principal path is =
    let P : Confirmation → Type 0 = λ c. IsValued (confirmation_by c path).1 registry in
    let value = confirm_value r in
    let takes : TakesValue r registry =
    found_some (is_named_by args) (is_valued r.id value) registry.unconfirmed r is
    (and_from (is_of r.id r) (value == value) ((bytes_eq-Decides r.id r.id).1 refl) (eq-eqb value value refl)) in
    let holder = record_state (confirmed_of registry r.id) in
    cond_both (is_same_principal r.state.principal principal) (confirmation_beside holder r has_state) InUse P
    (λ _. beside_valued registry r holder has_state path takes) (λ _. tt)

-- no other operation changes the records
others : (epoch : ℕ) (registry : Registry) (op : Op) (change : Change) → ((c : ClientChange) → IsClientsFor epoch registry op c → ⊥) → IsFor epoch registry op change → IsChangeValued change registry
others epoch registry op (changes.Clients change) none is = absurd (none change is)
others epoch registry op change none is = tt

ruled_valued : (journal : History) (state : State) (op : Op) (request : Request) (d : Decision) → HasSingles state.clients → IsRuled op journal state request (Some d) → IsChangeValued d.effect.change state.clients
ruled_valued journal state (ops.Setclientid args) request d singles is =
    let holder = record_state (confirmed_of state.clients args.id) in
    let has_state = record_has_state state holder in
    registers state.clients d (registrations.registration journal.epoch has_state state.clients request.principal args)
    (registered (registrations.finding holder has_state request.principal args) journal.epoch state.clients request.principal args) is
ruled_valued journal state (ops.SetclientidConfirm args) request d singles is =
    let path = confirm.path_of journal.policy.callbacks in
    let named = unconfirmed_named_by args state.clients in
    let has_state = record_has_state state (record_state (confirmations.holder_of named state.clients)) in
    decided state.clients d _ is (confirms state.clients args named has_state request.principal path refl)
ruled_valued journal state op request d singles is =
    others journal.epoch state.clients op d.effect.change (λ c none. none) (ruled_for journal state op request d singles is)

-- what an entry may do gives and takes confirm values in this way
pub allowed_valued : (journal : History) (old : State) (entry : Entry) (effect : Effect) → HasSingles old.clients → Allows journal old entry effect → IsChangeValued effect.change old.clients
allowed_valued journal old (entries.Call call) effect singles allowed =
    ruled_valued journal old call.request.op call.request (record { answer = call.answer; effect = effect }) singles allowed.rule
allowed_valued journal old (entries.Expire expire) effect singles allowed =
    subst (λ (e : Effect). IsChangeValued e.change old.clients) (sym allowed.removal) tt
allowed_valued journal old (entries.Revoke revoke) effect singles allowed =
    subst (λ (e : Effect). IsChangeValued e.change old.clients) (sym allowed.removal) tt
allowed_valued journal old (entries.Path path) effect singles allowed =
    subst (λ (e : Effect). IsChangeValued e.change old.clients) (sym allowed.mark) tt
allowed_valued journal old (entries.Forget forget) effect singles allowed =
    subst (λ (e : Effect). IsChangeValued e.change old.clients) (sym allowed.removal) tt
