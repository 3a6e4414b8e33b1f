-- The open, the lock state and the delegation that a stateid names.
use Rattle.std.proofs.Common.{◌≡◌, inl, inr, ℕ, Bool, true, false, Option, Some, None, List, [], ◌∷◌, Result, Ok, Err, refl, sym, ap, ◌∙◌, subst}
use Rattle.std.specs.Prelude.{⊤, ◌||◌, not, position, if◌then◌else◌}
use Rattle.std.specs.List.{list_any}
use Rattle.std.proofs.lemmas.Bool.{cases_Bool, cond-false, cond-true, not-false}
use Rattle.nfs_core.proofs.SoundSequences.{some_equal}
use Rattle.nfs_forms.specs.declared.stateid.Stateid.{Stateid}
use Rattle.nfs_forms.specs.declared.status.Refusal.{Refusal}
use Rattle.nfs_locks.specs.AllLocks.{LockAt, lock_named_in, locks_of}
use Rattle.nfs_locks.specs.AllLocks as all_locks
use Rattle.nfs_locks.specs.Locks.{ByteLocks, lock_named_by, is_stateid_of as is_stateid_of_lock}
use Rattle.nfs_owners.specs.StateOwner.{open_owner}
use Rattle.nfs_rules.specs.Refusing.{◌>>=◌, first_refusal, refused_if}
use Rattle.nfs_rules.specs.Stateids.{ADelegation, ALock, AnOpen, Found, as_lock, as_open, before_state, delegation_or, found_in, has_confirmed_owner, is_of_kinds, judged, of_state, open_or_lock, target_of}
use Rattle.nfs_rules.specs.declared.demand.Demand.{Demand}
use Rattle.nfs_share.specs.AllOpens.{DelegationAt, OpenAt, delegation_named_in, named_in, opens_of}
use Rattle.nfs_share.specs.AllOpens as all_opens
use Rattle.nfs_share.specs.Opens.{is_stateid_of, open_named_by}
use Rattle.nfs_share.specs.declared.open_state.OpenState.{OpenState}
use Rattle.nfs_state.specs.Owners.{is_confirmed}
use Rattle.nfs_state.specs.State.{State}

-- What isn't refused.

abbrev pub ok : {A : Type 0} → A → Result A Refusal
ok x = Ok x

pub ok_equal : {A : Type 0} (x y : A) → ok x ≡ ok y → x ≡ y
ok_equal x y same = search same

-- where a refusal comes first, what follows
pub unrefused : {A : Type 0} (test : Bool) (refusal : Refusal) (next : Result A Refusal) (o : A) → (if test then Err refusal else next) ≡ Ok o → (test ≡ false) × (next ≡ Ok o)
unrefused test refusal next o is = elim (cases_Bool test) [
  | inl set ↦
      let err : Err refusal ≡ Ok o = sym (cond-true test (Err refusal) next set) ∙ is in
      absurd cc
  | inr unset ↦ (unset, sym (cond-false test (Err refusal) next unset) ∙ is)
]

pub unrefused_then : {A B : Type 0} (test : Bool) (refusal : Refusal) (a : A) (next : A → Result B Refusal) (o : B) → (refused_if test refusal a >>= next) ≡ Ok o → (test ≡ false) × (next a ≡ Ok o)
unrefused_then test refusal a next o is = elim (cases_Bool test) [
  | inl set ↦
      let err : Err refusal ≡ Ok o = sym (ap (λ r. r >>= next) (cond-true test (Err refusal) (Ok a) set)) ∙ is in
      absurd cc
  | inr unset ↦ (unset, sym (ap (λ r. r >>= next) (cond-false test (Err refusal) (Ok a) unset)) ∙ is)
]

-- where a step isn't refused, what it gives and what follows
pub bound : {A B : Type 0} (P : Type 0) (r : Result A Refusal) (next : A → Result B Refusal) (o : B) → ((x : A) → r ≡ Ok x → next x ≡ Ok o → P) → (r >>= next) ≡ Ok o → P
bound P (Err refusal) next o from is = absurd cc
bound P (Ok x) next o from is = from x refl is

-- where none of the tests refuses, each of them fails
abbrev AreFalse : List (Bool × Refusal) → Type 0
AreFalse [] = ⊤
AreFalse ((test, refusal) ∷ more) = (test ≡ false) × AreFalse more

passed : {A : Type 0} (tests : List (Bool × Refusal)) (a o : A) → first_refusal tests a ≡ Ok o → AreFalse tests × (a ≡ o)
passed [] a o is = (tt, ok_equal a o is)
passed ((true, refusal) ∷ more) a o is = absurd cc
passed ((false, refusal) ∷ more) a o is =
    let rest = passed more a o is in
    ((refl, rest.0), rest.1)

-- What a stateid names.

-- what isn't refused is the state that the stateid names
found_named : (epoch : ℕ) (state : State) (id : Stateid) (found : Found) → target_of epoch state id ≡ Ok (Some found) → found_in state id ≡ Some found
found_named epoch state id found is = (passed (before_state epoch state id) (found_in state id) (Some found) is).1

-- what is no delegation is found beside them
beside_delegations : (d : Option DelegationAt) (other : Option Found) (found : Found) → is_of_kinds (record { opens = true; locks = true; delegations = false }) found ≡ true → delegation_or d other ≡ Some found → other ≡ Some found
beside_delegations None other found is_other is = is
beside_delegations (Some at) other (AnOpen o) is_other is = absurd cc
beside_delegations (Some at) other (ALock l) is_other is = absurd cc
beside_delegations (Some at) other (ADelegation d) is_other is = absurd cc

open_in_found : (o : Option OpenAt) (l : Option LockAt) (at : OpenAt) → open_or_lock o l ≡ Some (AnOpen at) → o ≡ Some at
open_in_found None None at is = absurd cc
open_in_found None (Some other) at is = absurd cc
open_in_found (Some other) l at is =
    let same : other ≡ at = search is in
    ap (λ x. Some x) same

lock_in_found : (o : Option OpenAt) (l : Option LockAt) (at : LockAt) → open_or_lock o l ≡ Some (ALock at) → l ≡ Some at
lock_in_found None None at is = absurd cc
lock_in_found None (Some other) at is =
    let same : other ≡ at = search is in
    ap (λ x. Some x) same
lock_in_found (Some other) l at is = absurd cc

-- A stateid's open is one of its node's.

open_at_node : (node : ℕ) (found : Option OpenState) (at : OpenAt) → all_opens.at_node node found ≡ Some at → (node ≡ at.node) × (found ≡ Some at.state)
open_at_node node None at is = absurd cc
open_at_node node (Some o) at is =
    let here : OpenAt = record { node = node; state = o } in
    let same = some_equal here at is in
    (ap (λ (a : OpenAt). a.node) same, ap (λ (a : OpenAt). Some a.state) same)

open_of_node : (id : Stateid) (opens : List (List OpenState)) (node : Option ℕ) (at : OpenAt) → all_opens.named_at id opens node ≡ Some at → open_named_by id (opens_of at.node opens) ≡ Some at.state
open_of_node id opens None at is = absurd cc
open_of_node id opens (Some node) at is =
    let here = open_at_node node (open_named_by id (opens_of node opens)) at is in
    subst (λ n. open_named_by id (opens_of n opens) ≡ Some at.state) here.0 here.1

pub named_open : (epoch : ℕ) (state : State) (id : Stateid) (at : OpenAt) → target_of epoch state id ≡ Ok (Some (AnOpen at)) → open_named_by id (opens_of at.node state.opens) ≡ Some at.state
named_open epoch state id at is =
    open_of_node id state.opens (position (list_any (is_stateid_of id)) state.opens) at
    (open_in_found (named_in id state.opens) (lock_named_in id state.locks) at
    (beside_delegations (delegation_named_in id state.delegations) _ (AnOpen at) refl (found_named epoch state id (AnOpen at) is)))

-- A stateid's lock state is one of its node's.

lock_at_node : (node : ℕ) (found : Option ByteLocks) (at : LockAt) → all_locks.at_node node found ≡ Some at → (node ≡ at.node) × (found ≡ Some at.state)
lock_at_node node None at is = absurd cc
lock_at_node node (Some l) at is =
    let here : LockAt = record { node = node; state = l } in
    let same = some_equal here at is in
    (ap (λ (a : LockAt). a.node) same, ap (λ (a : LockAt). Some a.state) same)

lock_of_node : (id : Stateid) (locks : List (List ByteLocks)) (node : Option ℕ) (at : LockAt) → all_locks.named_at id locks node ≡ Some at → lock_named_by id (locks_of at.node locks) ≡ Some at.state
lock_of_node id locks None at is = absurd cc
lock_of_node id locks (Some node) at is =
    let here = lock_at_node node (lock_named_by id (locks_of node locks)) at is in
    subst (λ n. lock_named_by id (locks_of n locks) ≡ Some at.state) here.0 here.1

pub named_lock : (epoch : ℕ) (state : State) (id : Stateid) (at : LockAt) → target_of epoch state id ≡ Ok (Some (ALock at)) → lock_named_by id (locks_of at.node state.locks) ≡ Some at.state
named_lock epoch state id at is =
    lock_of_node id state.locks (position (list_any (is_stateid_of_lock id)) state.locks) at
    (lock_in_found (named_in id state.opens) (lock_named_in id state.locks) at
    (beside_delegations (delegation_named_in id state.delegations) _ (ALock at) refl (found_named epoch state id (ALock at) is)))

-- The verdicts.

opened : (found : Found) (at : OpenAt) → as_open found ≡ Ok at → found ≡ AnOpen at
opened (AnOpen other) at is = ap AnOpen (ok_equal other at is)
opened (ALock other) at is = absurd cc
opened (ADelegation other) at is = absurd cc

locked : (found : Found) (at : LockAt) → as_lock found ≡ Ok at → found ≡ ALock at
locked (AnOpen other) at is = absurd cc
locked (ALock other) at is = ap ALock (ok_equal other at is)
locked (ADelegation other) at is = absurd cc

-- the stateid names an open, and its owner is confirmed unless the operation accepts others
pub open_found : (demand : Demand) (state : State) (id : Stateid) (target : Result (Option Found) Refusal) (at : OpenAt) → (target >>= judged demand state id >>= as_open) ≡ Ok at
    → (target ≡ Ok (Some (AnOpen at))) × ((demand.also_unconfirmed || is_confirmed (open_owner at.state.owner) state.owners) ≡ true)
open_found demand state id (Err refusal) at is = absurd cc
open_found demand state id (Ok None) at is = absurd cc
open_found demand state id (Ok (Some found)) at is =
    let P : Type 0 = (ok (Some found) ≡ Ok (Some (AnOpen at))) × ((demand.also_unconfirmed || is_confirmed (open_owner at.state.owner) state.owners) ≡ true) in
    bound P (first_refusal (of_state demand state id found) found) as_open at (λ x is_x opens.
    let all = passed (of_state demand state id found) found x is_x in
    let here : found ≡ AnOpen at = all.1 ∙ opened x at opens in
    let accepted : Found → Bool = λ f. demand.also_unconfirmed || has_confirmed_owner state f in
    (ap (λ f. ok (Some f)) here, not-false (accepted (AnOpen at)) (subst (λ f. not (accepted f) ≡ false) here all.0.1.1.1.0))) is

-- the stateid names a lock state
pub lock_found : (demand : Demand) (state : State) (id : Stateid) (target : Result (Option Found) Refusal) (at : LockAt) → (target >>= judged demand state id >>= as_lock) ≡ Ok at → target ≡ Ok (Some (ALock at))
lock_found demand state id (Err refusal) at is = absurd cc
lock_found demand state id (Ok None) at is = absurd cc
lock_found demand state id (Ok (Some found)) at is =
    let P : Type 0 = ok (Some found) ≡ Ok (Some (ALock at)) in
    bound P (first_refusal (of_state demand state id found) found) as_lock at (λ x is_x locks.
    let all = passed (of_state demand state id found) found x is_x in
    ap (λ f. ok (Some f)) (all.1 ∙ locked x at locks)) is
