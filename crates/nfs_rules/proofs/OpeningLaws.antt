-- What an OPEN opens, in the state without an owner that starts anew.
use Rattle.std.proofs.Common.{inl, inr, ◌≡◌, ◌≢◌, ℕ, zero, suc, ◌<◌, Bool, true, false, Option, Some, None, Result, Ok, Err, List, [], ◌∷◌, length, refl, sym, ap, ◌∙◌, subst, arith}
use Rattle.std.specs.Prelude.{◌⊎◌, ◌||◌, IsTrue, map, nat_lt, is_some, option_map, if◌then◌else◌}
use Rattle.std.specs.List.{list_any}
use Rattle.std.specs.Result.{IsOk}
use Rattle.std.proofs.lemmas.Bool.{lt-ltb}
use Rattle.std.proofs.lemmas.List.{length-map}
use Rattle.nfs_rules.specs.declared.passage.Passage.{Passage}
use Rattle.nfs_rules.specs.declared.passage.Passage.TheVariants as passages
use Rattle.nfs_state.specs.declared.change.Change.TheVariants.{Opens}
use Rattle.nfs_rules.specs.declared.demand.Demand.{Demand}
use Rattle.nfs_rules.specs.declared.opening.Opening.{Opening}
use Rattle.nfs_rules.specs.declared.ruling.Ruling.{Ruling}
use Rattle.nfs_locks.specs.AllLocks.{LockAt, lock_named_in}
use Rattle.nfs_rules.specs.Lending.{delegation_with, lending_number, lent}
use Rattle.nfs_rules.specs.Refusing.{◌>>=◌, first_refusal}
use Rattle.nfs_rules.specs.Deciding.{ByOwnRule, IsOther, IsPassage}
use Rattle.nfs_rules.proofs.Sequencing.{refusal_sendable}
use Rattle.nfs_rules.proofs.Sendable.{then_other, verdict_other}
use Rattle.nfs_rules.specs.operations.Open.{claimed, delayed, file_at, found_by, granted, granted_within, has_open, has_owner_place, has_places, name_of, opening, opening_or_ruling, own, refused, ruling_of, share_or_inval, stateid_after, unless_denied}
use Rattle.nfs_rules.specs.operations.OpenGrant.{ok_answer, opened}
use Rattle.nfs_state.specs.Places as places
use Rattle.nfs_state.specs.declared.tables.Tables.{Tables}
use Rattle.nfs_state.specs.Owners.{owner_of, without_owner}
use Rattle.nfs_state.specs.Entries.{IsSendable}
use Rattle.nfs_state.specs.declared.request.Request.{Request}
use Rattle.nfs_state.specs.Room.{IsWithinLimits, state_of}
use Rattle.nfs_state.specs.Stored.{known_owner}
use Rattle.nfs_owners.specs.StateOwner.{open_owner}
use Rattle.nfs_owners.specs.declared.state_owner.StateOwner.{StateOwner}
use Rattle.nfs_owners.specs.declared.owner.Owner.{Owner}
use Rattle.nfs_owners.specs.declared.owner.TheConstants.{OWNER_LIMIT}
use Rattle.nfs_owners.specs.Owner as stored
use Rattle.nfs_owners.specs.Owners as stored_owners
use Rattle.nfs_owners.specs.Owners.{has_place}
use Rattle.nfs_state.specs.Changes as changes
use Rattle.nfs_rules.specs.Sequences.{before_own}
use Rattle.nfs_state.specs.State.{State, History}
use Rattle.nfs_rules.specs.Stateids.{Found, before_state, delegation_of, delegation_or, found_in, judged, open_or_lock, target_of, verdict, verdict_on}
use Rattle.nfs_share.specs.AllOpens.{DelegationAt, OpenAt, delegation_named_in, delegations_of, named_in, opens_of}
use Rattle.nfs_share.specs.Delegations.{conflicts}
use Rattle.nfs_share.specs.declared.delegation.DelegationKind.{DelegationKind}
use Rattle.nfs_share.specs.declared.delegation.FileUse.TheVariants as uses
use Rattle.nfs_share.specs.declared.open_state.OpenState.{OpenState}
use Rattle.nfs_share.specs.declared.share.Share.{Share}
use Rattle.nfs_share.specs.Opens.{is_of, is_refused, open_of, without}
use Rattle.nfs_share.specs.Share.{share_of_numbers}
use Rattle.nfs_tree.specs.Tree.{found_or, resolution}
use Rattle.nfs_forms.specs.declared.claim.Claim.{Claim}
use Rattle.nfs_forms.specs.declared.claim.Claim.TheVariants as claims
use Rattle.nfs_forms.specs.declared.client_id.ClientId.{ClientId}
use Rattle.nfs_forms.specs.declared.open_delegation.OpenDelegation.{OpenDelegation}
use Rattle.nfs_forms.specs.declared.open_how.OpenHow.{OpenHow}
use Rattle.nfs_forms.specs.declared.open_how.OpenHow.TheVariants as hows
use Rattle.nfs_forms.specs.declared.open_owner.OpenOwner.{OpenOwner}
use Rattle.nfs_operations.specs.declared.«open».Open.{Open}
use Rattle.nfs_forms.specs.declared.stateid.Stateid.{Stateid}
use Rattle.nfs_forms.specs.declared.status.Refusal.{Refusal}
use Rattle.nfs_forms.specs.declared.status.Refusal.TheVariants as refusals
use Rattle.nfs_xdr.specs.declared.op.Op.TheVariants as ops

-- the opens of a node that are left are among those of all nodes that are left
pub opens_without : (test : OpenState → Bool) (node : ℕ) (opens : List (List OpenState)) → opens_of node (map (without test) opens) ≡ without test (opens_of node opens)
opens_without test node [] = refl
opens_without test zero (of_first ∷ opens) = refl
opens_without test (suc node) (of_first ∷ opens) = opens_without test node opens

-- an owner's own opens refuse it nothing
pub refused_without : (owner : OpenOwner) (share : Share) (opens : List OpenState) → is_refused owner share (without (is_of owner) opens) ≡ is_refused owner share opens
refused_without owner share [] = refl
refused_without owner share (o ∷ opens) = grind (arith, refused_without owner share opens)

-- without its opens an owner has none
pub none_without : (owner : OpenOwner) (opens : List OpenState) → open_of owner (without (is_of owner) opens) ≡ None
none_without owner [] = refl
none_without owner (o ∷ opens) = by (none_without owner opens) (is_of owner o) refl
  where
    by : open_of owner (without (is_of owner) opens) ≡ None → (b : Bool) → is_of owner o ≡ b → open_of owner (without (is_of owner) (o ∷ opens)) ≡ None
    by rest true is = grind (arith, is, rest)
    by rest false is = grind (arith, is, rest)

-- what follows the tests is the same where what follows what is found is
then_same : {A B : Type 0} (tests : List (Bool × Refusal)) (a b : A) (f g : A → Result B Refusal) → f a ≡ g b → (first_refusal tests a >>= f) ≡ (first_refusal tests b >>= g)
then_same [] a b f g same = same
then_same ((true, refusal) ∷ more) a b f g same = refl
then_same ((false, refusal) ∷ more) a b f g same = then_same more a b f g same

-- where a delegation is demanded, an open and a lock state are as bad as no state
other_judged : (client : ClientId) (node : ℕ) (state : State) (id : Stateid) (open_found : Option OpenAt) (lock_found : Option LockAt) → judged (delegation_of client node) state id (open_or_lock open_found lock_found) ≡ Err refusals.BadStateId
other_judged client node state id (Some at) lock_found = refl
other_judged client node state id None (Some at) = refl
other_judged client node state id None None = refl

-- so the verdict on a delegation doesn't depend on the opens and the owners
judged_same : (client : ClientId) (node : ℕ) (left state : State) (id : Stateid) (lent : Option DelegationAt) (one other : Option OpenAt) (lock_found : Option LockAt)
    → judged (delegation_of client node) left id (delegation_or lent (open_or_lock one lock_found)) ≡ judged (delegation_of client node) state id (delegation_or lent (open_or_lock other lock_found))
judged_same client node left state id (Some at) one other lock_found = refl
judged_same client node left state id None one other lock_found =
    other_judged client node left id one lock_found ∙ sym (other_judged client node state id other lock_found)

verdict_same : (client : ClientId) (node epoch : ℕ) (state : State) (name : OpenOwner) (id : Stateid) → verdict (delegation_of client node) epoch (changes.without name state) id ≡ verdict (delegation_of client node) epoch state id
verdict_same client node epoch state name id =
    let left = changes.without name state in
    then_same (before_state epoch state id) (found_in left id) (found_in state id) (judged (delegation_of client node) left id) (judged (delegation_of client node) state id)
    (judged_same client node left state id (delegation_named_in id state.delegations) (named_in id left.opens) (named_in id state.opens) (lock_named_in id state.locks))

claimed_same : (journal : History) (state : State) (name : OpenOwner) (client : ClientId) (claim : Claim) (node : ℕ) → claimed journal (changes.without name state) client claim node ≡ claimed journal state client claim node
claimed_same journal state name client (claims.DelegateCur id file) node =
    ap (λ r. r >>= λ found. Ok node) (verdict_same client node journal.epoch state name id)
claimed_same journal state name client claim node = refl

denied_same : (state : State) (name : OpenOwner) (share : Share) (node : ℕ) → unless_denied (changes.without name state) name share node ≡ unless_denied state name share node
denied_same state name share node =
    ap (λ b. if b then Err refusals.ShareDenied else Ok (record { node = node; share = share }))
    (ap (is_refused name share) (opens_without (is_of name) node state.opens) ∙ refused_without name share (opens_of node state.opens))

and_so : {A B : Type 0} (r : Result A Refusal) (f g : A → Result B Refusal) → ((a : A) → f a ≡ g a) → (r >>= f) ≡ (r >>= g)
and_so (Err refusal) f g same = refl
and_so (Ok a) f g same = same a

without_same : (journal : History) (state : State) (directory : ℕ) (args : Open) → opening journal (changes.without args.owner state) directory args ≡ opening journal state directory args
without_same journal state directory args =
    let left = changes.without args.owner state in
    and_so (name_of args.claim) _ _ λ name.
    and_so (share_or_inval (share_of_numbers args.access args.deny)) _ _ λ share.
    and_so (found_by args.how (resolution journal.nodes directory name)) _ _ λ found.
    and_so (file_at journal args.how found) _ _ λ file.
    ap (λ r. r >>= λ node. unless_denied left args.owner share node) (claimed_same journal state args.owner args.owner.client args.claim file)
    ∙ and_so (claimed journal state args.owner.client args.claim file) _ _ (denied_same state args.owner share)

-- an owner that starts anew opens the same, and has the same refusals
pub opening_same : (passage : Passage) (journal : History) (state : State) (directory : ℕ) (args : Open) → opening journal (before_own passage args.owner state) directory args ≡ opening journal state directory args
opening_same passages.Restarts journal state directory args = without_same journal state directory args
opening_same passage journal state directory args = refl

-- what is claimed, by the verdict on the stateid of a CLAIM_DELEGATE_CUR
pub claimed_by : (journal : History) (state : State) (client : ClientId) (claim : Claim) (id : Stateid) (name : List ℕ) (node epoch : ℕ) (demand : Demand) (target : Result (Option Found) Refusal) (r : Result Found Refusal)
    → claim ≡ claims.DelegateCur id name → epoch ≡ journal.epoch → demand ≡ delegation_of client node → target ≡ target_of epoch state id → r ≡ verdict_on demand state id target
    → (r >>= λ found. Ok node) ≡ claimed journal state client claim node
claimed_by journal state client claim id name node epoch demand target r claims_it is_epoch demands is_target is =
    ap (λ v. v >>= λ found. Ok node)
    (is ∙ ap (λ d. verdict_on d state id target) demands
    ∙ ap (verdict_on (delegation_of client node) state id) (is_target ∙ ap (λ e. target_of e state id) is_epoch))
    ∙ ap (λ c. claimed journal state client c node) (sym claims_it)

-- the delegations are the same too, so it is delayed by the same ones
pub delayed_same : (passage : Passage) (owner : OpenOwner) (state : State) (moment : ℕ) (client : ClientId) (r : Result Opening Refusal) → opening_or_ruling (before_own passage owner state) moment client r ≡ opening_or_ruling state moment client r
delayed_same passage owner state moment client (Err refusal) = refl
delayed_same passages.Restarts owner state moment client (Ok o) = refl
delayed_same passage owner state moment client (Ok o) = refl

-- an owner that starts anew has no open
pub none_left : (passage : Passage) (owner : OpenOwner) (node : ℕ) (state : State) → passage ≡ passages.Restarts → None ≡ open_of owner (opens_of node (before_own passage owner state).opens)
none_left passages.Restarts owner node state is =
    sym (ap (open_of owner) (opens_without (is_of owner) node state.opens) ∙ none_without owner (opens_of node state.opens))
none_left passage owner node state is = absurd cc

-- No refusal of OPEN's own rule is NFS4ERR_RESOURCE.
err_is : {A : Type 0} (a b : Refusal) → ◌≡◌ {A = Result A Refusal} (Err a) (Err b) → a ≡ b
err_is a b same = search same

and_never : {A B : Type 0} (r : Result A Refusal) (f : A → Result B Refusal) → (r ≡ Err refusals.Resource → ⊥) → ((a : A) → f a ≡ Err refusals.Resource → ⊥) → (r >>= f) ≡ Err refusals.Resource → ⊥
and_never (Err refusal) f never then_never is = never (ap Err (err_is refusal refusals.Resource is))
and_never (Ok a) f never then_never is = then_never a is

name_never : (claim : Claim) → name_of claim ≡ Err refusals.Resource → ⊥
name_never (claims.Null name) is = absurd cc
name_never claim is = absurd cc

share_never : (share : Option Share) → share_or_inval share ≡ Err refusals.Resource → ⊥
share_never None is = absurd cc
share_never (Some share) is = absurd cc

found_never : (how : OpenHow) (r : Result ℕ Refusal) → (r ≡ Err refusals.Resource → ⊥) → found_by how r ≡ Err refusals.Resource → ⊥
found_never (hows.Create how) (Err refusals.NoEnt) never is = absurd cc
found_never how r never is = never is

child_never : (found : Option ℕ) → found_or refusals.NoEnt found ≡ Err refusals.Resource → ⊥
child_never None is = absurd cc
child_never (Some node) is = absurd cc

resolved_never : (a b c : Bool) (found : Option ℕ) → (if a then Err refusals.NotDir else if b then Err refusals.Inval else if c then Err refusals.NameTooLong else found_or refusals.NoEnt found) ≡ Err refusals.Resource → ⊥
resolved_never true b c found is = absurd cc
resolved_never false true c found is = absurd cc
resolved_never false false true found is = absurd cc
resolved_never false false false found is = child_never found is

file_never : (a b : Bool) (node : ℕ) → (if a then Err refusals.IsDir else if b then Err refusals.Exist else Ok node) ≡ Err refusals.Resource → ⊥
file_never true b node is = absurd cc
file_never false true node is = absurd cc
file_never false false node is = absurd cc

claimed_never : (journal : History) (state : State) (client : ClientId) (claim : Claim) (node : ℕ) → claimed journal state client claim node ≡ Err refusals.Resource → ⊥
claimed_never journal state client (claims.DelegateCur id name) node is =
    let found : Result Found Refusal = verdict (delegation_of client node) journal.epoch state id in
    let may_open : Found → Result ℕ Refusal = λ found. Ok node in
    let other : IsOther (found >>= may_open) = then_other found may_open (verdict_other (delegation_of client node) journal.epoch state id) (λ found. tt) in
    (subst IsOther is other) refl
claimed_never journal state client claim node is = absurd cc

denied_never : (b : Bool) (opened : Opening) → (if b then Err refusals.ShareDenied else Ok opened) ≡ Err refusals.Resource → ⊥
denied_never true opened is = absurd cc
denied_never false opened is = absurd cc

opening_never : (journal : History) (state : State) (directory : ℕ) (args : Open) → opening journal state directory args ≡ Err refusals.Resource → ⊥
opening_never journal state directory args =
    and_never (name_of args.claim) _ (name_never args.claim) λ name.
    and_never (share_or_inval (share_of_numbers args.access args.deny)) _ (share_never (share_of_numbers args.access args.deny)) λ share.
    and_never (found_by args.how (resolution journal.nodes directory name)) _ (found_never args.how (resolution journal.nodes directory name) (resolved_never _ _ _ _)) λ found.
    and_never (file_at journal args.how found) _ (file_never _ _ found) λ file.
    and_never (claimed journal state args.owner.client args.claim file) _ (claimed_never journal state args.owner.client args.claim file) λ node.
    denied_never _ _

pub opening_refusal : (journal : History) (state : State) (directory : ℕ) (args : Open) (refusal : Refusal) → opening journal state directory args ≡ Err refusal → refusal ≢ refusals.Resource
opening_refusal journal state directory args refusal refuses is = opening_never journal state directory args (refuses ∙ ap Err is)

-- what is opened, or the ruling in its place, by what is found in the state with an owner that starts anew
pub opened_same : (passage : Passage) (journal : History) (state : State) (directory : ℕ) (args : Open) (moment now : ℕ) (found : Result Opening Refusal) → found ≡ opening journal state directory args → now ≡ moment
    → opening_or_ruling state moment args.owner.client found ≡ opening_or_ruling (before_own passage args.owner state) now args.owner.client (opening journal (before_own passage args.owner state) directory args)
opened_same passage journal state directory args moment now found is at =
    let client = args.owner.client in
    let seen = before_own passage args.owner state in
    ap (opening_or_ruling state moment client) (is ∙ sym (opening_same passage journal state directory args))
    ∙ sym (delayed_same passage args.owner state moment client (opening journal seen directory args))
    ∙ ap (λ m. opening_or_ruling seen m client (opening journal seen directory args)) (sym at)

-- a ruling in place of an opening is that of a refusal
ruling_refuses : (state : State) (moment : ℕ) (client : ClientId) (r : Result Opening Refusal) (ruling : Ruling) → Err ruling ≡ opening_or_ruling state moment client r
    → ((refusal : Refusal) × (r ≡ Err refusal) × (ruling ≡ refused refusal)) ⊎ ((o : Opening) × (ruling ≡ delayed moment client o))
ruling_refuses state moment client (Err refusal) ruling same = inl (refusal, refl, search same)
ruling_refuses state moment client (Ok o) ruling same = inr (o, by (list_any (conflicts (uses.Open client o.share)) (delegations_of o.node state.delegations)) same)
  where
    by : (b : Bool) → Err ruling ≡ (if b then Err (delayed moment client o) else Ok o) → ruling ≡ delayed moment client o
    by true same = search same
    by false same = absurd cc

-- it can be sent, and is within the limits
pub ruling_given : (passage : Passage) (journal : History) (state : State) (directory : ℕ) (args : Open) (request : Request) (ruling : Ruling)
    → Err ruling ≡ opening_or_ruling (before_own passage args.owner state) request.moment args.owner.client (opening journal (before_own passage args.owner state) directory args)
    → ByOwnRule (own journal state args request directory passage) state (ops.Open args) (Ok ruling)
ruling_given passage journal state directory args request ruling same =
    let seen = before_own passage args.owner state in
    let found = opening journal seen directory args in
    let both = by (ruling_refuses seen request.moment args.owner.client found ruling same) (opening_refusal journal seen directory args) in
    (ap (ruling_of journal seen passage args) same, both.0, both.1)
  where
    by : {found : Result Opening Refusal} → ((refusal : Refusal) × (found ≡ Err refusal) × (ruling ≡ refused refusal)) ⊎ ((o : Opening) × (ruling ≡ delayed request.moment args.owner.client o))
        → ((refusal : Refusal) → found ≡ Err refusal → refusal ≢ refusals.Resource)
        → IsSendable (ops.Open args) ruling.answer × IsWithinLimits ruling.change state
    by (inl (refusal, is, made)) never = (
      refusal_sendable (ops.Open args) refusal ruling.answer (never refusal is) (ap (λ (r : Ruling). r.answer) made),
      subst (λ (r : Ruling). IsWithinLimits r.change state) (sym made) tt,
    )
    by (inr (o, made)) never = (
      refusal_sendable (ops.Open args) refusals.Delay ruling.answer (λ e. cc) (ap (λ (r : Ruling). r.answer) made),
      subst (λ (r : Ruling). IsWithinLimits r.change state) (sym made) tt,
    )

pub opening_opens : (state : State) (moment : ℕ) (client : ClientId) (r : Result Opening Refusal) (o : Opening) → Ok o ≡ opening_or_ruling state moment client r → IsOk r
opening_opens state moment client (Err refusal) o same = absurd cc
opening_opens state moment client (Ok opened) o same = refl

-- what the rule gives for an OPEN without a refusal
pub ruled_by : (journal : History) (passage : Passage) (state : State) (args : Open) (o : Opening) (kind : Option DelegationKind) → kind ≡ lent journal state passage args o
    → option_map {T = Stateid × OpenDelegation} {U = Ruling} (λ both. record { answer = ok_answer passage both.0 both.1; change = Opens o.node args.owner o.share kind }) (opened passage state args.owner o.node kind) ≡ ruling_of journal state passage args (Ok o)
ruled_by journal passage state args o kind is = by (has_places state passage args.owner o.node kind) ∙ ap (granted_within state passage args.owner o) is
  where
    by : (b : Bool)
        → option_map {T = Stateid × OpenDelegation} {U = Ruling} (λ both. record { answer = ok_answer passage both.0 both.1; change = Opens o.node args.owner o.share kind })
        (if b then Some (stateid_after state args.owner (open_of args.owner (opens_of o.node state.opens)), delegation_with (lending_number state (has_open state args.owner o.node)) args.owner.client kind) else None)
        ≡ (if b then Some (granted state passage args.owner o kind) else None)
    by true = refl
    by false = refl

-- Whether there is a place for the owner: how many other owners there are matters only to one that starts anew.
pub known_seen : (name : StateOwner) (owners : List Owner) → is_some (owner_of name (map known_owner owners)) ≡ stored.is_known name owners
known_seen name [] = refl
known_seen name (o ∷ owners) = by (known_seen name owners) (stored.has_name name o) refl
  where
    by : is_some (owner_of name (map known_owner owners)) ≡ stored.is_known name owners → (b : Bool) → stored.has_name name o ≡ b → is_some (owner_of name (map known_owner (o ∷ owners))) ≡ stored.is_known name (o ∷ owners)
    by rest true is = grind (arith, is)
    by rest false is = grind (arith, is, rest)

others_seen : (name : StateOwner) (owners : List Owner) → length (without_owner name (map known_owner owners)) ≡ length (stored_owners.without_owner name owners)
others_seen name [] = refl
others_seen name (o ∷ owners) = by (others_seen name owners) (stored.has_name name o) refl
  where
    by : length (without_owner name (map known_owner owners)) ≡ length (stored_owners.without_owner name owners) → (b : Bool) → stored.has_name name o ≡ b → length (without_owner name (map known_owner (o ∷ owners))) ≡ length (stored_owners.without_owner name (o ∷ owners))
    by rest true is = grind (arith, is, rest)
    by rest false is = grind (arith, is, rest)

known_place : (known below : Bool) → known ≡ true → known || below ≡ true
known_place true below is = refl
known_place false below is = absurd cc

new_place : (known below : Bool) → known ≡ false → known || below ≡ below
new_place true below is = absurd cc
new_place false below is = refl

pub owner_place : (passage : Passage) (owner : OpenOwner) (tables : Tables) (place : Bool) → IsPassage passage (open_owner owner) (state_of tables)
    → place ≡ has_place (open_owner owner) tables.owners.owners → (IsTrue place → length (stored_owners.without_owner (open_owner owner) tables.owners.owners) < OWNER_LIMIT)
    → place ≡ has_owner_place passage (before_own passage owner (state_of tables))
owner_place passages.Continues owner tables place known is left = is ∙ known_place _ _ (sym (known_seen (open_owner owner) tables.owners.owners) ∙ known)
owner_place passages.Begins owner tables place unknown is left =
    is ∙ new_place _ _ (sym (known_seen (open_owner owner) tables.owners.owners) ∙ unknown)
    ∙ ap (λ n. nat_lt n OWNER_LIMIT) (sym (length-map tables.owners.owners known_owner))
owner_place passages.Restarts owner tables place known is left =
    let has : place ≡ true = is ∙ known_place _ _ (sym (known_seen (open_owner owner) tables.owners.owners) ∙ known) in
    has ∙ sym (lt-ltb _ _ (omega (arith, left has, others_seen (open_owner owner) tables.owners.owners)))

-- Whether there is a place for an owner, by what is stored.
pub place_seen : (name : StateOwner) (tables : Tables) → places.has_owner_place name (state_of tables) ≡ has_place name tables.owners.owners
place_seen name tables =
    λ i. known_seen name tables.owners.owners i || nat_lt (length-map tables.owners.owners known_owner i) OWNER_LIMIT
