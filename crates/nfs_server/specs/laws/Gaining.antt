-- What a service gains in a connection: a relation of the service before, the questions that it is asked, its answers,
-- and the service after. It holds of each question by itself, goes over from questions to more questions after them,
-- and holds of alike services where nothing is asked.
use Rattle.std.proofs.Common.{List, [], ◌∷◌, ◌++◌, Result, ap, inl, inr, sym, subst}
use Rattle.std.specs.Prelude.{ℕ}
use Rattle.std.specs.List.{flat_map}
use Rattle.std.proofs.lemmas.List.{append-nil}
use Rattle.std.proofs.lemmas.List.Concat.{flat_map-cons}
use Rattle.nfs_rpc.specs.declared.rpc_call.RpcCall.{RpcCall}
use Rattle.nfs_rpc.specs.declared.rpc_call.RpcCall.TheVariants as calls
use Rattle.nfs_server.specs.declared.serve_error.ServeError.{ServeError}
use Rattle.nfs_server.specs.Asking.{Asks, Operation, Question, Renewal}
use Rattle.nfs_server.specs.Connection.{Scene, Course, IsCourse, all_exchanges}
use Rattle.nfs_server.specs.Device.{Device}
use Rattle.nfs_server.specs.Entries.{AreEntries}
use Rattle.nfs_server.specs.Exchange.{Exchange, Rules, AreExchanged, MakesRoom, questions_of}
use Rattle.nfs_server.specs.laws.Exchanges.{course_exchanged}
use Rattle.nfs_state.specs.declared.entry.Entry.{Entry}
use Rattle.nfs_xdr.specs.declared.op_result.OpResult.{OpResult}

pub record IsGain {S : Type 0} (gives : S → Question → OpResult → S → Type 0)
    (alike : S → S → Type 0) (Gains : S → List Question → List OpResult → S → Type 0) : Type 0 where
  pub same : (s : S) → alike s s
  pub stays : (old new : S) → alike old new → Gains old [] [] new
  pub one : (old new : S) (question : Question) (answer : OpResult)
      → gives old question answer new → Gains old (question ∷ []) (answer ∷ []) new
  pub more : (old mid new : S) (questions others : List Question) (answers replies : List OpResult)
      → Gains old questions answers mid → Gains mid others replies new
      → Gains old (questions ++ others) (answers ++ replies) new

-- questions one after the other
pub asked_gain : {S : Type 0} (gives : S → Question → OpResult → S → Type 0)
    (alike : S → S → Type 0) (Gains : S → List Question → List OpResult → S → Type 0)
    (gain : IsGain gives alike Gains) (old new : S) (questions : List Question) (answers : List OpResult)
    → Asks gives old questions answers new → Gains old questions answers new
asked_gain {S = S} gives alike Gains gain old new [] [] asked =
    subst (λ (s : S). Gains old [] [] s) (sym asked) (gain.stays old old (gain.same old))
asked_gain gives alike Gains gain old new (question ∷ questions) (answer ∷ answers) asked =
    gain.more old asked.0 new (question ∷ []) questions (answer ∷ []) answers
    (gain.one old asked.0 question answer asked.1)
    (asked_gain gives alike Gains gain asked.0 new questions answers asked.2)
asked_gain gives alike Gains gain old new [] (answer ∷ answers) asked = absurd asked
asked_gain gives alike Gains gain old new (question ∷ questions) [] asked = absurd asked

-- before the first question of a call the service is alike
ready_alike : {S : Type 0} (alike : S → S → Type 0) (same : (s : S) → alike s s) (old ready : S) (call : RpcCall)
    → MakesRoom alike old call ready → alike old ready
ready_alike alike same old ready (calls.Compound xid principal compound) made = made
ready_alike {S = S} alike same old ready calls.Silent made = subst (λ (s : S). alike old s) (sym made) (same old)
ready_alike {S = S} alike same old ready (calls.Null xid) made = subst (λ (s : S). alike old s) (sym made) (same old)
ready_alike {S = S} alike same old ready (calls.Answer xid reply) made =
    subst (λ (s : S). alike old s) (sym made) (same old)

-- exchanges that follow one another
exchanges_gain : {S C : Type 0} (rules : Rules S C) (Gains : S → List Question → List OpResult → S → Type 0)
    (gain : IsGain rules.gives rules.alike Gains) (s new : S) (c after : C) (es : List Exchange)
    → AreExchanged rules s c es new after
    → Gains s (flat_map (questions_of rules.export) es) (flat_map (λ (e : Exchange). e.answers) es) new
exchanges_gain {S = S} rules Gains gain s new c after [] are =
    subst (λ (x : S). Gains s [] [] x) (sym are.0) (gain.stays s s (gain.same s))
exchanges_gain rules Gains gain s new c after (e ∷ es) are =
    let mid = are.0 in
    let one = are.2 in
    let questions = questions_of rules.export e in
    let others = flat_map (questions_of rules.export) es in
    let replies = flat_map (λ (x : Exchange). x.answers) es in
    let here = gain.more s one.0 mid [] questions [] e.answers
    (gain.stays s one.0 (ready_alike rules.alike gain.same s one.0 e.call one.2))
    (asked_gain rules.gives rules.alike Gains gain one.0 mid questions e.answers one.3) in
    let all = gain.more s mid new questions others e.answers replies here
    (exchanges_gain rules Gains gain mid new are.1 after es are.3) in
    subst (λ (q : List Question). Gains s q (flat_map (λ (x : Exchange). x.answers) (e ∷ es)) new)
    (sym (flat_map-cons (questions_of rules.export) e es))
    (subst (λ (a : List OpResult). Gains s (questions ++ others) a new)
    (sym (flat_map-cons (λ (x : Exchange). x.answers) e es)) all)

-- a whole connection
pub course_gains : {D S C : Type 0} (device : Device D) (rules : Rules S C)
    (Gains : S → List Question → List OpResult → S → Type 0) (gain : IsGain rules.gives rules.alike Gains)
    (before : Scene D S C) (course : Course) (result : Result ℕ ServeError) (after : Scene D S C)
    → IsCourse device rules before course result after
    → Gains before.service (flat_map (questions_of rules.export) (all_exchanges course))
    (flat_map (λ (e : Exchange). e.answers) (all_exchanges course)) after.service
course_gains device rules Gains gain before course result after is =
    let led = course_exchanged device rules gain.same before course result after is in
    let es = all_exchanges course in
    let questions = flat_map (questions_of rules.export) es in
    let answers = flat_map (λ (e : Exchange). e.answers) es in
    let all = gain.more before.service led.0 after.service questions [] answers []
    (exchanges_gain rules Gains gain before.service led.0 before.clock after.clock es led.1)
    (gain.stays led.0 after.service led.2) in
    subst (λ (q : List Question). Gains before.service q answers after.service) (append-nil questions)
    (subst (λ (a : List OpResult). Gains before.service (questions ++ []) a after.service) (append-nil answers) all)

-- the entries of questions and of more questions after them
pub entries_then : (questions more : List Question) (answers others : List OpResult) (entries last : List Entry)
    → AreEntries questions answers entries → AreEntries more others last
    → AreEntries (questions ++ more) (answers ++ others) (entries ++ last)
entries_then [] more [] others entries last are rest = rw are rest
entries_then (Operation request ∷ questions) more (answer ∷ answers) others entries last (inl refused) rest =
    inl (refused.0, entries_then questions more answers others entries last refused.1 rest)
entries_then (Operation request ∷ questions) more (answer ∷ answers) others entries last (inr entered) rest =
    inr (
      entered.0,
      entered.1 ++ last,
      ap (λ (es : List Entry). es ++ last) entered.2,
      entries_then questions more answers others entered.1 last entered.3 rest,
    )
entries_then (Renewal moment client ∷ questions) more (answer ∷ answers) others entries last are rest =
    entries_then questions more answers others entries last are rest
entries_then [] more (answer ∷ answers) others entries last are rest = absurd are
entries_then (question ∷ questions) more [] others entries last are rest = absurd are
