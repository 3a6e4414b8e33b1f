-- What a sequenced operation decides is ready to keep the state sound, if what its own rule gives is.
use Rattle.std.proofs.Common.{◌≡◌, inl, inr, ℕ, Bool, true, false, Option, Some, None, List, refl, sym, ap, ◌∙◌, subst}
use Rattle.std.specs.Prelude.{⊤, ◌&&◌, length, nat_lt, not, is_some, option_map, if◌then◌else◌}
use Rattle.std.proofs.lemmas.Bool.{and_parts, cases_Bool, cond-false, cond-true, cond_both, not-true}
use Rattle.nfs_core.proofs.SafeLists.{found_holds}
use Rattle.nfs_core.proofs.Sound.{IsSound, KeepsOwners, equal_clients, equal_names, is_known_in, is_live_in, keeps_both, keeps_mapped, keeps_recorded}
use Rattle.nfs_core.proofs.SoundSteps.{IsChangeReady, IsOwnerReady, IsReady, keeps_kept}
use Rattle.nfs_forms.specs.ClientId.{is_same_client}
use Rattle.nfs_forms.specs.declared.client_id.ClientId.{ClientId}
use Rattle.nfs_forms.specs.declared.locker.Locker.{Locker}
use Rattle.nfs_forms.specs.declared.locker.Locker.TheVariants as lockers
use Rattle.nfs_forms.specs.declared.locker.NewLocker.{NewLocker}
use Rattle.nfs_forms.specs.declared.status.Refusal.TheVariants as refusals
use Rattle.nfs_forms.specs.declared.status.Status.{Status}
use Rattle.nfs_owners.specs.StateOwner.{lock_owner}
use Rattle.nfs_owners.specs.Kept.{Kept}
use Rattle.nfs_owners.specs.declared.kept.Verdict.{Verdict}
use Rattle.nfs_owners.specs.declared.kept.Verdict.TheVariants as verdicts
use Rattle.nfs_owners.specs.declared.owner.TheConstants.{OWNER_LIMIT}
use Rattle.nfs_owners.specs.declared.state_owner.StateOwner.{StateOwner}
use Rattle.nfs_rules.specs.Newcomers.{Newcomer, Nobody, Known, Unknown, is_next, newcomer_by, newcomer_if, newcomer_in, newcomer_of}
use Rattle.nfs_rules.specs.Sequences.{Answered, GoesOn, IsDecided, IsOfKnown, IsOfOwner, IsSequence, IsSequenced, IsUnder, Own, Owner, Refused, Requester, SequenceStep, by_verdict, counts, decision_of, is_ok_status, is_open, kept_with, only, owner_change_of, refusal_to}
use Rattle.nfs_rules.specs.declared.decision.Decision.{Decision}
use Rattle.nfs_rules.specs.declared.passage.Passage.{Passage}
use Rattle.nfs_rules.specs.declared.passage.Passage.TheVariants as passages
use Rattle.nfs_rules.specs.declared.ruling.Ruling.{Ruling}
use Rattle.nfs_state.specs.Changes.{with_owner_change}
use Rattle.nfs_state.specs.Kept.{kept_for}
use Rattle.nfs_state.specs.Owners.{KnownOwner, confirmed_if_known, has_name, is_confirmed, owner_of, with_kept_entry, with_record}
use Rattle.nfs_state.specs.State.{State, History}
use Rattle.nfs_state.specs.declared.owner_change.OwnerChange.{OwnerChange}
use Rattle.nfs_state.specs.declared.owner_change.OwnerChange.TheVariants as owner_changes
use Rattle.nfs_state.specs.declared.request.Request.{Request}
use Rattle.nfs_xdr.specs.OpResult.{status_of}
use Rattle.nfs_xdr.specs.declared.op.Op.{Op}
use Rattle.nfs_xdr.specs.declared.op.Op.TheVariants as ops

pub some_equal : {A : Type 0} (x y : A) → Some x ≡ Some y → x ≡ y
some_equal x y same = search same

pub never : (b : Bool) → b ≡ false → b ≡ true → ⊥
never b unset is_set = cc

-- a decision that is ready, as the one that a rule gives
pub as_decided : (number : ℕ) (old : State) (d e : Decision) → Some d ≡ Some e → IsReady number old e → IsReady number old d
as_decided number old d e same ready = subst (IsReady number old) (sym (some_equal d e same)) ready

-- Whose request goes on, and what is known of the owner.
abbrev pub IsFit : State → Op → StateOwner → Passage → Type 0
IsFit state op name passages.Continues = is_known_in state.owners name ≡ true
IsFit state op name passages.Begins = (is_open op ≡ true) × (is_known_in state.owners name ≡ false)
IsFit state op name passages.Restarts = (is_open op ≡ true) × (is_confirmed name state.owners ≡ false)

going : (p q : Passage) (n m : StateOwner) → GoesOn p n ≡ GoesOn q m → (p ≡ q) × (n ≡ m)
going p q n m same = (search same, search same)

judged_fits : (state : State) (name : StateOwner) (op : Op) (passage : Passage) (owner : StateOwner) (v : Verdict) → is_known_in state.owners name ≡ true → GoesOn passage owner ≡ by_verdict name op v → (owner ≡ name) × IsFit state op owner passage
judged_fits state name op passage owner verdicts.New known is =
    let same = going passage passages.Continues owner name is in
    let fit : IsFit state op owner passages.Continues = ap (is_known_in state.owners) same.1 ∙ known in
    (same.1, subst (IsFit state op owner) (sym same.0) fit)
judged_fits state name op passage owner (verdicts.Replay answer) known is = absurd cc
judged_fits state name op passage owner verdicts.Bad known is = absurd cc

fits_known : (state : State) (b : Bool) (kept : Kept) (name : StateOwner) (seqid : ℕ) (request : Request) (passage : Passage) (owner : StateOwner) → is_known_in state.owners name ≡ true
    → (b ≡ true → (is_open request.op ≡ true) × (is_confirmed name state.owners ≡ false)) → IsOfKnown b kept name seqid request (GoesOn passage owner) → (owner ≡ name) × IsFit state request.op owner passage
fits_known state true kept name seqid request passage owner known opens h =
    let fit : IsFit state request.op owner passages.Restarts = subst (λ n. (is_open request.op ≡ true) × (is_confirmed n state.owners ≡ false)) (sym h.2) (opens refl) in
    (h.2, subst (IsFit state request.op owner) (sym h.1) fit)
fits_known state false kept name seqid request passage owner known opens h =
    judged_fits state name request.op passage owner h.0 known h.2

owner_fits : (journal : History) (state : State) (found : Option KnownOwner) (name : StateOwner) (seqid : ℕ) (request : Request) (passage : Passage) (owner : StateOwner) → owner_of name state.owners ≡ found → IsOfOwner journal found name seqid request (GoesOn passage owner) → (owner ≡ name) × IsFit state request.op owner passage
owner_fits journal state None name seqid request passage owner is h =
    let begins = GoesOn passages.Begins name in
    let refuses = refusal_to request.op refusals.BadStateId in
    elim (cases_Bool (is_open request.op)) [
      | inl opens ↦
          let same = going passage passages.Begins owner name (h ∙ cond-true (is_open request.op) begins refuses opens) in
          let new : is_known_in state.owners owner ≡ false = ap (is_known_in state.owners) same.1 ∙ ap is_some is in
          let fit : IsFit state request.op owner passages.Begins = (opens, new) in
          (same.1, subst (IsFit state request.op owner) (sym same.0) fit)
      | inr others ↦
          let same : GoesOn passage owner ≡ refuses = h ∙ cond-false (is_open request.op) begins refuses others in
          absurd cc
    ]
owner_fits journal state (Some o) name seqid request passage owner is h =
    fits_known state (is_open request.op && not o.confirmed) h.0 name seqid request passage owner (ap is_some is)
    (λ both.
    let parts = and_parts (is_open request.op) (not o.confirmed) both in
    (parts.0, ap confirmed_if_known is ∙ not-true o.confirmed parts.1)) h.2

-- the request is one of this owner's, by its sequence id
abbrev pub IsOf : StateOwner → Requester → Type 0
IsOf owner requester = (seqid : ℕ) × (requester ≡ Owner owner seqid)

sequence_fits : (journal : History) (state : State) (requester : Requester) (request : Request) (passage : Passage) (owner : StateOwner) → IsSequence journal state requester request (GoesOn passage owner) → IsOf owner requester × IsFit state request.op owner passage
sequence_fits journal state (Refused refusal) request passage owner h = absurd cc
sequence_fits journal state (Owner name seqid) request passage owner h =
    let fits = owner_fits journal state (owner_of name state.owners) name seqid request passage owner refl h in
    ((seqid, ap (λ n. Owner n seqid) (sym fits.0)), fits.1)

-- what the own rule of an operation gives, as what is decided, is ready
abbrev pub IsOwnReady : ℕ → History → State → Requester → Op → (ℕ → Passage → Option Ruling → Type 0) → Type 0
IsOwnReady number journal state requester op own =
    (node : ℕ) (passage : Passage) (owner : StateOwner) (ruling : Ruling) → IsOf owner requester → IsFit state op owner passage → own node passage (Some ruling)
    → IsReady number state (decision_of passage owner (newcomer_of journal state owner.client op) ruling)

rules_ready : (number : ℕ) (journal : History) (state : State) (requester : Requester) (op : Op) (own : ℕ → Passage → Option Ruling → Type 0) → IsOwnReady number journal state requester op own
    → (node : ℕ) (passage : Passage) (owner : StateOwner) (ruling : Option Ruling) (d : Decision) → IsOf owner requester → IsFit state op owner passage → own node passage ruling
    → Some d ≡ option_map (decision_of passage owner (newcomer_of journal state owner.client op)) ruling → IsReady number state d
rules_ready number journal state requester op own ready node passage owner None d of fit h is = absurd cc
rules_ready number journal state requester op own ready node passage owner (Some ruling) d of fit h is =
    as_decided number state d (decision_of passage owner (newcomer_of journal state owner.client op) ruling) is (ready node passage owner ruling of fit h)

decided_ready : (number : ℕ) (journal : History) (state : State) (requester : Requester) (request : Request) (own : Own) → IsOwnReady number journal state requester request.op (own request)
    → (node : ℕ) (sequence : SequenceStep) (d : Decision) → IsSequence journal state requester request sequence
    → IsDecided sequence (λ client. newcomer_of journal state client request.op) (own request node) (Some d) → IsReady number state d
decided_ready number journal state requester request own ready node (Answered answer) d h is =
    as_decided number state d (only answer) is (tt, tt)
decided_ready number journal state requester request own ready node (GoesOn passage owner) d h is =
    let fits = sequence_fits journal state requester request passage owner h in
    rules_ready number journal state requester request.op (own request) ready node passage owner is.0 d fits.0 fits.1 is.1 is.2

-- what is decided under the current filehandle
under_ready : (number : ℕ) (state : State) (op : Op) (decides : ℕ → Type 0) (filehandle : Option ℕ) (d : Decision) → ((node : ℕ) → decides node → IsReady number state d) → IsUnder filehandle op decides (Some d) → IsReady number state d
under_ready number state op decides None d ready is = as_decided number state d _ is (tt, tt)
under_ready number state op decides (Some node) d ready h = ready node h

pub sequenced_ready : (number : ℕ) (journal : History) (state : State) (requester : Requester) (request : Request) (own : Own) → IsOwnReady number journal state requester request.op (own request)
    → (d : Decision) → IsSequenced journal state requester own request (Some d) → IsReady number state d
sequenced_ready number journal state requester request own ready d h =
    under_ready number state request.op
    (λ node. (sequence : SequenceStep) × IsSequence journal state requester request sequence × IsDecided sequence (λ client. newcomer_of journal state client request.op) (own request node) (Some d))
    request.filehandle d (λ node k. decided_ready number journal state requester request own ready node k.0 d k.1 k.2) h

-- The lock owner that a request introduces is of the client of the request's owner. One that is introduced as unknown
-- isn't known.

abbrev IsOfClient : List KnownOwner → ClientId → Newcomer → Type 0
IsOfClient owners client Nobody = ⊤
IsOfClient owners client (Known newcomer) = is_same_client newcomer.client client ≡ true
IsOfClient owners client (Unknown newcomer) =
    (is_same_client newcomer.client client ≡ true) × (is_known_in owners (lock_owner newcomer) ≡ false)

newcomer_if_client : (journal : History) (owners : List KnownOwner) (locker : NewLocker) (client : ClientId) → is_same_client locker.lock_owner.client client ≡ true
    → (found : Option KnownOwner) → owner_of (lock_owner locker.lock_owner) owners ≡ found → IsOfClient owners client (newcomer_if journal locker found)
newcomer_if_client journal owners locker client same None is = (same, ap is_some is)
newcomer_if_client journal owners locker client same (Some o) is =
    cond_both (is_next locker.lock_seqid (kept_for journal o)) (Known locker.lock_owner) Nobody (IsOfClient owners client) (λ _. same) (λ _. tt)

newcomer_in_client : (journal : History) (state : State) (client : ClientId) (locker : Locker) → IsOfClient state.owners client (newcomer_in journal state client locker)
newcomer_in_client journal state client (lockers.Known locker) = tt
newcomer_in_client journal state client (lockers.New locker) =
    cond_both (is_same_client locker.lock_owner.client client) (newcomer_by journal state locker) Nobody (IsOfClient state.owners client)
    (λ same. newcomer_if_client journal state.owners locker client same (owner_of (lock_owner locker.lock_owner) state.owners) refl) (λ _. tt)

newcomer_of_client : (journal : History) (state : State) (client : ClientId) (op : Op) → IsOfClient state.owners client (newcomer_of journal state client op)
newcomer_of_client journal state client (ops.Lock args) = newcomer_in_client journal state client args.locker
newcomer_of_client journal state client op = tt

-- A request that continues.

-- the client of a known owner is live
pub live_owner : (state : State) → IsSound state → (name : StateOwner) → is_known_in state.owners name ≡ true → is_live_in state.clients.confirmed name.client ≡ true
live_owner state sound name known =
    let held = found_holds (λ (k : KnownOwner). is_live_in state.clients.confirmed k.name.client ≡ true) (has_name name) state.owners known sound.live in
    ap (λ n. is_live_in state.clients.confirmed n.client) (sym (equal_names held.0.name name held.2)) ∙ held.1

-- Where the answer is OK, there is a place for a lock owner that isn't known.
abbrev pub HasPlaceFor : State → Newcomer → Status → Type 0
HasPlaceFor state (Unknown newcomer) status = is_ok_status status ≡ true → nat_lt (length state.owners) OWNER_LIMIT ≡ true
HasPlaceFor state newcomer status = ⊤

-- no place is needed where there is nobody
pub place_for_nobody : (state : State) (newcomer : Newcomer) (status : Status) → newcomer ≡ Nobody → HasPlaceFor state newcomer status
place_for_nobody state newcomer status nobody = subst (λ n. HasPlaceFor state n status) (sym nobody) tt

kept_ready : (state : State) (name : StateOwner) (newcomer : Newcomer) (status : Status) → is_live_in state.clients.confirmed name.client ≡ true → IsOfClient state.owners name.client newcomer
    → HasPlaceFor state newcomer status → IsOwnerReady (kept_with name newcomer status) state
kept_ready state name Nobody status live of place = tt
kept_ready state name (Known newcomer) status live of place = tt
kept_ready state name (Unknown newcomer) status live of place =
    cond_both (is_ok_status status) (owner_changes.Introduces name (lock_owner newcomer)) (owner_changes.Keeps name) (λ c. IsOwnerReady c state)
    (λ ok. (subst (λ c. is_live_in state.clients.confirmed c ≡ true) (sym (equal_clients newcomer.client name.client of.0)) live, place ok, of.1)) (λ _. tt)

pub continues_ready : (journal : History) (state : State) (op : Op) (name : StateOwner) (status : Status) → IsSound state → is_known_in state.owners name ≡ true
    → HasPlaceFor state (newcomer_of journal state name.client op) status
    → IsOwnerReady (owner_change_of passages.Continues name (newcomer_of journal state name.client op) status) state
continues_ready journal state op name status sound known place =
    let newcomer = newcomer_of journal state name.client op in
    cond_both (counts status) (kept_with name newcomer status) owner_changes.Nothing (λ c. IsOwnerReady c state)
    (λ _. kept_ready state name newcomer status (live_owner state sound name known) (newcomer_of_client journal state name.client op) place) (λ _. tt)

-- After such a request the owners that were known or confirmed are so still, and nothing else has changed.
pub record Continues (number : ℕ) (old : State) (change : OwnerChange) : Type 0 where
  pub owners : List KnownOwner
  pub state : with_owner_change change number old ≡ record old { owners = owners }
  pub keeps : KeepsOwners old.owners owners

pub keeps_entry : (number : ℕ) (name : StateOwner) (owners : List KnownOwner) → KeepsOwners owners (with_kept_entry number name owners)
keeps_entry number name owners =
    keeps_mapped (λ o. if has_name name o then record o { kept_entry = number } else o) (keeps_kept number name) owners

pub keeps_record : (number : ℕ) (name : StateOwner) (confirmed : Bool) (owners : List KnownOwner) → KeepsOwners owners (with_record number name confirmed owners)
keeps_record number name confirmed owners = keeps_recorded (record { name = name; confirmed = confirmed; recording_entry = number; kept_entry = number }) owners

continues_alone : (number : ℕ) (old : State) (name : StateOwner) → Continues number old (owner_changes.Keeps name)
continues_alone number old name = record { owners = with_kept_entry number name old.owners; state = refl; keeps = keeps_entry number name old.owners }

kept_continues : (number : ℕ) (old : State) (name : StateOwner) (newcomer : Newcomer) (status : Status) → Continues number old (kept_with name newcomer status)
kept_continues number old name Nobody status = continues_alone number old name
kept_continues number old name (Known newcomer) status =
    let owners = with_kept_entry number name old.owners in
    record {
      owners = with_kept_entry number (lock_owner newcomer) owners;
      state = refl;
      keeps = keeps_both old.owners owners (with_kept_entry number (lock_owner newcomer) owners) (keeps_entry number name old.owners) (keeps_entry number (lock_owner newcomer) owners);
    }
kept_continues number old name (Unknown newcomer) status =
    let owners = with_kept_entry number name old.owners in
    cond_both (is_ok_status status) (owner_changes.Introduces name (lock_owner newcomer)) (owner_changes.Keeps name) (Continues number old)
    (λ _. record {
      owners = with_record number (lock_owner newcomer) false owners;
      state = refl;
      keeps = keeps_both old.owners owners (with_record number (lock_owner newcomer) false owners) (keeps_entry number name old.owners) (keeps_record number (lock_owner newcomer) false owners);
    })
    (λ _. continues_alone number old name)

pub continuing : (number : ℕ) (old : State) (name : StateOwner) (newcomer : Newcomer) (status : Status) → Continues number old (owner_change_of passages.Continues name newcomer status)
continuing number old name newcomer status =
    cond_both (counts status) (kept_with name newcomer status) owner_changes.Nothing (Continues number old)
    (λ _. kept_continues number old name newcomer status)
    (λ _. record { owners = old.owners; state = refl; keeps = record { known = λ n h. h; confirmed = λ n h. h } })

-- what such a request decides is ready, but for its owner
abbrev pub IsContinuing : ℕ → State → StateOwner → Newcomer → Ruling → Type 0
IsContinuing number state name newcomer ruling =
    HasPlaceFor state newcomer (status_of ruling.answer)
    × IsChangeReady ruling.change (with_owner_change (owner_change_of passages.Continues name newcomer (status_of ruling.answer)) number state)

-- Operations other than OPEN: their requests continue.
pub others_ready : (number : ℕ) (journal : History) (state : State) (requester : Requester) (op : Op) (own : ℕ → Passage → Option Ruling → Type 0) → IsSound state → is_open op ≡ false
    → ((node : ℕ) (name : StateOwner) (ruling : Ruling) → IsOf name requester → is_known_in state.owners name ≡ true → own node passages.Continues (Some ruling)
    → IsContinuing number state name (newcomer_of journal state name.client op) ruling)
    → IsOwnReady number journal state requester op own
others_ready number journal state requester op own sound other ready node passages.Continues owner ruling of fit h =
    let here = ready node owner ruling of fit h in
    (continues_ready journal state op owner (status_of ruling.answer) sound fit here.0, here.1)
others_ready number journal state requester op own sound other ready node passages.Begins owner ruling of fit h = absurd (never (is_open op) other fit.0)
others_ready number journal state requester op own sound other ready node passages.Restarts owner ruling of fit h = absurd (never (is_open op) other fit.0)

-- operations that introduce nobody, and whose changes are ready in each state
pub quiet_ready : (number : ℕ) (journal : History) (state : State) (requester : Requester) (op : Op) (own : ℕ → Passage → Option Ruling → Type 0) → IsSound state → is_open op ≡ false
    → ((client : ClientId) → newcomer_of journal state client op ≡ Nobody)
    → ((node : ℕ) (passage : Passage) (ruling : Ruling) → own node passage (Some ruling) → (s : State) → IsChangeReady ruling.change s)
    → IsOwnReady number journal state requester op own
quiet_ready number journal state requester op own sound other nobody quiet =
    others_ready number journal state requester op own sound other
    (λ node name ruling of known h. (
      place_for_nobody state (newcomer_of journal state name.client op) (status_of ruling.answer) (nobody name.client),
      quiet node passages.Continues ruling h
          (with_owner_change (owner_change_of passages.Continues name (newcomer_of journal state name.client op) (status_of ruling.answer)) number state),
    ))

-- operations that introduce nobody, and whose changes are ready with any owners
pub any_owners_ready : (number : ℕ) (journal : History) (state : State) (requester : Requester) (op : Op) (own : ℕ → Passage → Option Ruling → Type 0) → IsSound state → is_open op ≡ false
    → ((client : ClientId) → newcomer_of journal state client op ≡ Nobody)
    → ((node : ℕ) (ruling : Ruling) → own node passages.Continues (Some ruling) → (owners : List KnownOwner) → IsChangeReady ruling.change (record state { owners = owners }))
    → IsOwnReady number journal state requester op own
any_owners_ready number journal state requester op own sound other nobody ready =
    others_ready number journal state requester op own sound other
    (λ node name ruling of known h.
    let newcomer = newcomer_of journal state name.client op in
    let status = status_of ruling.answer in
    let goes = continuing number state name newcomer status in
    (place_for_nobody state newcomer status (nobody name.client), subst (IsChangeReady ruling.change) (sym goes.state) (ready node ruling h goes.owners)))
