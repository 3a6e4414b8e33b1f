-- Answering calls in batches: what is answered so far, one more call, and records that are left.
use Rattle.std.proofs.Common.{◌≡◌, ℕ, ◌+◌, ◌<◌, ◌≤◌, true, List, [], ◌∷◌, ◌++◌, length, refl, sym, ap, subst, ◌∙◌, append_assoc, arith}
use Rattle.std.specs.Prelude.{◌≢◌, Result, Ok, Err, OnErr}
use Rattle.std.specs.List.{flat_map}
use Rattle.std.proofs.lemmas.List.{append-nil, flat_map_more, length-append}
use Rattle.std.proofs.lemmas.List.Concat.{flat_map-cons}
use Rattle.nfs_rpc.specs.Records.{Stream}
use Rattle.nfs_rpc.specs.RpcCall.{HasFewOperations, IsCallWithinLimits}
use Rattle.nfs_rpc.specs.declared.records.TheConstants.{RECORD_LIMIT}
use Rattle.nfs_rpc.specs.declared.rpc_call.RpcCall.{RpcCall}
use Rattle.nfs_rpc.specs.declared.rpc_call.RpcCall.TheVariants as calls
use Rattle.nfs_server.specs.Answering.{operations_of}
use Rattle.nfs_server.specs.Batch.{AreAnswered, Gathering, gathering, goes_on, messages_in, questions_in, waiting_bytes}
use Rattle.nfs_server.specs.PendingCall.{PendingView}
use Rattle.nfs_server.specs.declared.replies.TheConstants.{BATCH_QUESTIONS, GATHER_LIMIT}
use Rattle.nfs_server.specs.Connection.{Scene, scene}
use Rattle.nfs_server.specs.Device.{Device}
use Rattle.nfs_server.specs.Exchange.{Rules, AreExchanged, AreLeft, messages_of, written_for, written_for_all}
use Rattle.nfs_xdr.specs.declared.compound.CompoundRequest.{CompoundRequest}
use Rattle.nfs_xdr.specs.declared.compound.CompoundRequest.TheVariants as requests
use Rattle.nfs_xdr.specs.declared.compound.TheConstants.{OPERATION_LIMIT}
use Rattle.nfs_server.proofs.Exchanges.{IsAnswered}
use Rattle.nfs_server.specs.laws.Exchanges.{exchanged_then}
use Rattle.nfs_server.proofs.Serving.{HasServed, exchanged_more, left_so, messages-append, messages-more, written-append, written-more}

-- something is left
pub some_left : (message : List ℕ) (rest : List (List ℕ)) → message ∷ rest ≢ []
some_left message rest none = cc

-- what is within the limits of a record is within those of the greatest one
pub within_limits : (len : ℕ) (call : RpcCall) → len ≤ RECORD_LIMIT → IsCallWithinLimits len call → IsCallWithinLimits RECORD_LIMIT call
within_limits len calls.Silent le within = within
within_limits len (calls.Null xid) le within = within
within_limits len (calls.Compound xid principal c) le within = (omega (arith, le, within.0), within.1)
within_limits len (calls.Answer xid reply) le within = within

-- the reply to one more call waits
pub waiting-more : (gathered : List ℕ) (answered : List (List ℕ)) (reply : List ℕ) → waiting_bytes gathered (answered ++ reply ∷ []) ≡ waiting_bytes gathered answered ++ reply
waiting-more gathered answered reply = sym (flat_map_more (λ (r : List ℕ). r) gathered answered reply)

-- where no call was answered, only what was gathered waits
pub waiting-none : (gathered : List ℕ) (answered : List (List ℕ)) → answered ≡ [] → waiting_bytes gathered answered ≡ gathered
waiting-none gathered answered none = ap (λ (a : List (List ℕ)). waiting_bytes gathered a) none ∙ append-nil gathered

-- the first of the calls that were answered is written
pub waiting-written : (gathered reply : List ℕ) (answered : List (List ℕ)) → waiting_bytes (gathered ++ reply) answered ≡ waiting_bytes gathered (reply ∷ answered)
waiting-written gathered reply answered =
    append_assoc gathered reply (flat_map (λ (r : List ℕ). r) answered) ∙ ap (λ (w : List ℕ). gathered ++ w) (sym (flat_map-cons (λ (r : List ℕ). r) reply answered))

-- a reply that waits has its bytes among those that wait
pub waiting-length : (gathered reply : List ℕ) (answered : List (List ℕ)) → length gathered + length reply ≤ length (waiting_bytes gathered (reply ∷ answered))
waiting-length gathered reply answered =
    omega (arith, ap (λ (w : List ℕ). length w) (waiting-written gathered reply answered), length-append (gathered ++ reply) (flat_map (λ (r : List ℕ). r) answered), length-append gathered reply)

-- where a record was ready, some were there
pub some_records : (all : List (List ℕ)) (pending : List PendingView) (ready : List (List ℕ)) (message : List ℕ) (rest : List (List ℕ)) → all ≡ messages_in pending ++ ready → ready ≡ message ∷ rest → all ≢ []
some_records all [] ready message rest is first none = some_left message rest (sym first ∙ sym is ∙ none)
some_records all (p ∷ pending) ready message rest is first none = some_left p.message (messages_in pending ++ ready) (sym is ∙ none)

-- nothing was answered yet
pub answered_none : {S C : Type 0} (rules : Rules S C) (now : Gathering S C) → AreAnswered rules now [] now
answered_none rules now = record {
  exchanges = [];
  service = now.service;
  served = refl;
  exchanged = (refl, refl);
  stays = refl;
  written = sym (append-nil now.gathered);
}

-- the exchanges so far end with the service as it is
reached : {S C : Type 0} (rules : Rules S C) (before after : Gathering S C) (a : AreAnswered rules before [] after) → AreExchanged rules before.service before.clock a.exchanges after.service after.clock
reached {S = S} rules before after a = subst (λ (s : S). AreExchanged rules before.service before.clock a.exchanges s after.clock) (sym a.stays) a.exchanged

-- one more call was answered
pub answered_more : {S C : Type 0} (rules : Rules S C) (before mid after : Gathering S C) (message bytes : List ℕ)
    → AreAnswered rules before [] mid → mid.left ≡ message ∷ after.left → after.gathered ≡ mid.gathered ++ bytes
    → IsAnswered rules mid.service mid.clock message bytes after.service after.clock
    → AreAnswered rules before [] after
answered_more rules before mid after message bytes a first more one =
    let e = one.0 in
    record {
      exchanges = a.exchanges ++ e ∷ [];
      service = after.service;
      served = a.served ∙ ap (λ (l : List (List ℕ)). messages_of a.exchanges ++ l) (first ∙ ap (λ (m : List ℕ). m ∷ after.left) (sym one.1)) ∙ messages-more a.exchanges e after.left;
      exchanged = exchanged_more rules a.exchanges e before.service mid.service after.service before.clock mid.clock after.clock (reached rules before mid a) one.2;
      stays = refl;
      written = more ∙ ap (λ (b : List ℕ). mid.gathered ++ b) one.3 ∙ ap (λ (g : List ℕ). g ++ written_for rules.export e) a.written ∙ append_assoc before.gathered (written_for_all rules.export a.exchanges) (written_for rules.export e)
          ∙ ap (λ (w : List ℕ). before.gathered ++ w) (sym (written-more rules.export a.exchanges e));
    }

-- there was no room for answering the next one
pub answered_until : {S C : Type 0} (rules : Rules S C) (before mid : Gathering S C) (service : S) (clock : C) (gathered : List ℕ) (message : List ℕ) (rest : List (List ℕ))
    → AreAnswered rules before [] mid → mid.left ≡ message ∷ rest → rules.alike mid.service service → clock ≡ mid.clock → gathered ≡ mid.gathered
    → AreAnswered rules before (message ∷ rest) (gathering service clock gathered [])
answered_until {C = C} rules before mid service clock gathered message rest a first is_alike same_clock same = record {
  exchanges = a.exchanges;
  service = mid.service;
  served = a.served ∙ ap (λ (l : List (List ℕ)). messages_of a.exchanges ++ l) (first ∙ sym (append-nil (message ∷ rest)));
  exchanged = subst (λ (c : C). AreExchanged rules before.service before.clock a.exchanges mid.service c) (sym same_clock) (reached rules before mid a);
  stays = is_alike;
  written = same ∙ a.written;
}

-- more records wait behind those of the batch
pub answered_with : {S C : Type 0} (rules : Rules S C) (before after : Gathering S C) (more : List (List ℕ)) → AreAnswered rules before [] after
    → AreAnswered rules (record before { left = before.left ++ more }) [] (record after { left = after.left ++ more })
answered_with rules before after more a = record {
  exchanges = a.exchanges;
  service = a.service;
  served = ap (λ (l : List (List ℕ)). l ++ more) a.served ∙ append_assoc (messages_of a.exchanges) after.left more;
  exchanged = a.exchanged;
  stays = a.stays;
  written = a.written;
}

-- the service stays alike where there are more records to which nothing is answered
left_with : {S : Type 0} (alike : S → S → Type 0) (old new : S) (refused more : List (List ℕ)) → refused ≢ [] → AreLeft alike old refused new → AreLeft alike old (refused ++ more) new
left_with alike old new [] more some stays = absurd (some refl)
left_with alike old new (message ∷ refused) more some stays = stays

some_with : (refused more : List (List ℕ)) → refused ≢ [] → refused ++ more ≢ []
some_with [] more some none = absurd (some refl)
some_with (message ∷ refused) more some none = cc

pub refused_with : {S C : Type 0} (rules : Rules S C) (before after : Gathering S C) (refused more : List (List ℕ)) → refused ≢ [] → after.left ≡ [] → AreAnswered rules before refused after
    → (refused ++ more ≢ []) × AreAnswered rules (record before { left = before.left ++ more }) (refused ++ more) after
refused_with rules before after refused more some none a = (
  some_with refused more some,
  record {
    exchanges = a.exchanges;
    service = a.service;
    served = ap (λ (l : List (List ℕ)). l ++ more) (a.served ∙ ap (λ (l : List (List ℕ)). messages_of a.exchanges ++ (refused ++ l)) none ∙ ap (λ (r : List (List ℕ)). messages_of a.exchanges ++ r) (append-nil refused))
        ∙ append_assoc (messages_of a.exchanges) refused more
        ∙ ap (λ (r : List (List ℕ)). messages_of a.exchanges ++ r) (sym (append-nil (refused ++ more)) ∙ ap (λ (l : List (List ℕ)). (refused ++ more) ++ l) (sym none));
    exchanged = a.exchanged;
    stays = left_with rules.alike a.service after.service refused more some a.stays;
    written = a.written;
  },
)

-- nothing was answered, as there was no room for calls
pub refused_at_once : {S C : Type 0} (rules : Rules S C) (same : (s : S) → rules.alike s s) (service : S) (clock : C) (before after : List ℕ) (left : List (List ℕ)) → after ≡ before
    → AreAnswered rules (gathering service clock before left) left (gathering service clock after [])
refused_at_once rules same service clock before after left is = record {
  exchanges = [];
  service = service;
  served = sym (append-nil left);
  exchanged = (refl, refl);
  stays = left_so rules.alike same service left;
  written = is ∙ sym (append-nil before);
}

-- a batch was answered
pub serves_more : {D S C : Type 0} (device : Device D) (rules : Rules S C) (before mid : Scene D S C) (messages left : List (List ℕ)) (waiting : List ℕ) (after : Gathering S C)
    → HasServed device rules before messages left waiting mid → AreAnswered rules (gathering mid.service mid.clock waiting left) [] after
    → HasServed device rules before messages after.left after.gathered (scene mid.device after.service after.clock)
serves_more device rules before mid messages left waiting after s a =
    let start = gathering mid.service mid.clock waiting left in
    record {
      exchanges = s.exchanges ++ a.exchanges;
      out = s.out;
      served = s.served ∙ ap (λ (l : List (List ℕ)). messages_of s.exchanges ++ l) a.served ∙ sym (append_assoc (messages_of s.exchanges) (messages_of a.exchanges) after.left)
          ∙ ap (λ (m : List (List ℕ)). m ++ after.left) (sym (messages-append s.exchanges a.exchanges));
      exchanged = exchanged_then rules s.exchanges a.exchanges before.service mid.service after.service before.clock mid.clock after.clock s.exchanged (reached rules start after a);
      all = written-append rules.export s.exchanges a.exchanges ∙ ap (λ (w : List ℕ). w ++ written_for_all rules.export a.exchanges) s.all ∙ append_assoc s.out waiting (written_for_all rules.export a.exchanges)
          ∙ ap (λ (w : List ℕ). s.out ++ w) (sym a.written);
      written = s.written;
    }

-- a batch was answered in part: the service is as it was after the last record that was answered, but for room
pub serves_part : {D S C : Type 0} (device : Device D) (rules : Rules S C) (before mid : Scene D S C) (messages left : List (List ℕ)) (waiting : List ℕ) (refused : List (List ℕ)) (after : Gathering S C)
    → HasServed device rules before messages left waiting mid → after.left ≡ [] → (a : AreAnswered rules (gathering mid.service mid.clock waiting left) refused after)
    → HasServed device rules before messages refused after.gathered (scene mid.device a.service after.clock)
serves_part device rules before mid messages left waiting refused after s none a = record {
  exchanges = s.exchanges ++ a.exchanges;
  out = s.out;
  served = s.served ∙ ap (λ (l : List (List ℕ)). messages_of s.exchanges ++ l) (a.served ∙ ap (λ (l : List (List ℕ)). messages_of a.exchanges ++ (refused ++ l)) none ∙ ap (λ (r : List (List ℕ)). messages_of a.exchanges ++ r) (append-nil refused))
      ∙ sym (append_assoc (messages_of s.exchanges) (messages_of a.exchanges) refused)
      ∙ ap (λ (m : List (List ℕ)). m ++ refused) (sym (messages-append s.exchanges a.exchanges));
  exchanged = exchanged_then rules s.exchanges a.exchanges before.service mid.service a.service before.clock mid.clock after.clock s.exchanged a.exchanged;
  all = written-append rules.export s.exchanges a.exchanges ∙ ap (λ (w : List ℕ). w ++ written_for_all rules.export a.exchanges) s.all ∙ append_assoc s.out waiting (written_for_all rules.export a.exchanges)
      ∙ ap (λ (w : List ℕ). s.out ++ w) (sym a.written);
  written = s.written;
}

-- a call asks few questions
few_operations : (request : CompoundRequest) → HasFewOperations request → length (operations_of request) ≤ OPERATION_LIMIT
few_operations (requests.MinorVersion minor) few = omega arith
few_operations (requests.TooMany count) few = omega arith
few_operations (requests.Operations ops) few = few

pub few_questions : (call : RpcCall) → IsCallWithinLimits RECORD_LIMIT call → questions_in call ≤ BATCH_QUESTIONS
few_questions calls.Silent within = omega arith
few_questions (calls.Null xid) within = omega arith
few_questions (calls.Compound xid principal c) within = few_operations c.request within.1
few_questions (calls.Answer xid reply) within = omega arith

-- a batch goes on with its first call, which asks few questions
pub first_goes_on : (pending : List PendingView) (asked waiting : ℕ) → ((p : PendingView) (others : List PendingView) → pending ≡ p ∷ others → questions_in p.call ≤ BATCH_QUESTIONS)
    → pending ≢ [] → asked ≡ 0 → waiting ≤ GATHER_LIMIT → goes_on pending asked waiting ≡ true
first_goes_on [] asked waiting few some none within = absurd (some refl)
first_goes_on (p ∷ pending) asked waiting few some none within = grind (arith, none, within, few p pending refl)

-- where a batch goes on there is a call, whose questions are few enough
pub going_on : (pending : List PendingView) (asked waiting : ℕ) → goes_on pending asked waiting ≡ true → 0 < length pending
going_on [] asked waiting goes = absurd cc
going_on (p ∷ pending) asked waiting goes = omega arith

pub waits_few : (p : PendingView) (pending : List PendingView) (asked waiting : ℕ) → goes_on (p ∷ pending) asked waiting ≡ true → waiting ≤ GATHER_LIMIT
waits_few p pending asked waiting goes = grind (arith, goes)

pub asked_then : (p : PendingView) (pending : List PendingView) (asked waiting : ℕ) → goes_on (p ∷ pending) asked waiting ≡ true → asked + questions_in p.call ≤ BATCH_QUESTIONS
asked_then p pending asked waiting goes = grind (arith, goes)

-- where a call is pending, there is a record
pub some_pending : (all : List (List ℕ)) (pending : List PendingView) (ready : List (List ℕ)) → all ≡ messages_in pending ++ ready → pending ≢ [] → all ≢ []
some_pending all [] ready is some none = some refl
some_pending all (p ∷ pending) ready is some none = some_left p.message (messages_in pending ++ ready) (sym is ∙ none)

-- nothing is left: neither pending nor ready
pub none_ready : (pending : List PendingView) (ready : List (List ℕ)) → messages_in pending ++ ready ≡ [] → ready ≡ []
none_ready [] ready none = none
none_ready (p ∷ pending) ready none = absurd cc

pub none_pending : (pending : List PendingView) (ready : List (List ℕ)) → messages_in pending ++ ready ≡ [] → pending ≡ []
none_pending [] ready none = refl
none_pending (p ∷ pending) ready none = absurd cc

pub on_err : {T E : Type 0} (r : Result T E) (P : Type 0) → P → OnErr r P
on_err (Ok x) P p = tt
on_err (Err e) P p = p

-- calls were read, and nothing was answered
pub answered_same : {S C : Type 0} (rules : Rules S C) (service : S) (clock : C) (before after : List ℕ) (left left' : List (List ℕ)) → after ≡ before → left ≡ left'
    → AreAnswered rules (gathering service clock before left) [] (gathering service clock after left')
answered_same rules service clock before after left left' is lefts = record {
  exchanges = [];
  service = service;
  served = lefts;
  exchanged = (refl, refl);
  stays = refl;
  written = is ∙ sym (append-nil before);
}

-- taking records from a stream changes only those that are ready
pub same_then : (old now next : Stream) → now ≡ record old { ready = now.ready } → next ≡ record now { ready = next.ready } → next ≡ record old { ready = next.ready }
same_then old now next first second = second ∙ ap (λ (s : Stream). record s { ready = next.ready }) first
