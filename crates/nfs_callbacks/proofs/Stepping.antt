-- Steps, one after the other, and what makes each of them.
use Rattle.std.proofs.Common.{◌≡◌, ◌≢◌, ℕ, Bool, true, false, List, [], ◌∷◌, ◌++◌, Option, Some, None, Result, Ok, Err, refl, sym, subst, ap, ◌∙◌, inl, inr, if◌then◌else◌, Bor, OnErr, OnOk}
use Rattle.std.proofs.Math.Path.{fun_ext}
use Rattle.std.proofs.lemmas.Bool.{cases_eq, eq-eqb, ne_eqb}
use Rattle.std.specs.Option.{is_some, option_copied}
use Rattle.std.specs.Result.{is_err}
use Rattle.nfs_callbacks.specs.Callers.{stopped}
use Rattle.nfs_callbacks.specs.Errands.{callback_of}
use Rattle.nfs_callbacks.specs.Exchanges.{Conversation, IsBegun}
use Rattle.nfs_callbacks.specs.Lines.{Standing, changed, current_in, empty, first_in, joined, owed_in, state_at, state_of, turned}
use Rattle.nfs_callbacks.specs.Network.{Closes}
use Rattle.nfs_callbacks.specs.Source.{Answered, Noticed, Probed, Took, due}
use Rattle.nfs_callbacks.specs.Steps.{Advances, Asks, Begins, Drops, Files, Goes, GoesOnOrRests, Happens, IsCause, IsStep, IsTold, LeavesAlone, Notices, Probes, Retries, Rules, Scene, Settles, Step, Stops, Takes, begun, client_of, settled, xid_behind}
use Rattle.nfs_callbacks.specs.declared.errand.Errand.{Errand}
use Rattle.nfs_callbacks.specs.declared.errand.Errand.TheVariants as errands
use Rattle.nfs_callbacks.specs.declared.fault.Fault.{Fault}
use Rattle.nfs_callbacks.specs.declared.flow.ConnectError.{ConnectError}
use Rattle.nfs_callbacks.specs.declared.line.LineState.TheVariants as states
use Rattle.nfs_callbacks.specs.declared.line.Stage.{Stage}
use Rattle.nfs_callbacks.specs.declared.line.Stage.TheVariants as stages
use Rattle.nfs_callbacks.specs.declared.line.Turn.{Turn}
use Rattle.nfs_callbacks.specs.declared.line.Turn.TheVariants as turns
use Rattle.nfs_callbacks.specs.declared.probe.MarkError.{MarkError}
use Rattle.nfs_callbacks.specs.declared.probe.MarkError.TheVariants as marks
use Rattle.nfs_forms.specs.declared.callback.Callback.{Callback}
use Rattle.nfs_rpc.specs.declared.recall.Recall.{Recall}

pub none : {S D : Type 0} (r : Rules S D) (a b : Scene S D) → b ≡ a → Happens r a b
none r a b is = ([], is)

pub one : {S D : Type 0} (r : Rules S D) (a b : Scene S D) (step : Step) → IsStep r a step b → Happens r a b
one r a b step is = (step ∷ [], (b, is, refl))

go_on : {S D : Type 0} (r : Rules S D) (a b c : Scene S D) (steps more : List Step) → Goes r a steps b → Goes r b more c
    → Goes r a (steps ++ more) c
go_on r a b c [] more is next = subst (λ s. Goes r s more c) is next
go_on r a b c (step ∷ steps) more is next = (is.0, is.1, go_on r is.0 b c steps more is.2 next)

pub and_then : {S D : Type 0} (r : Rules S D) (a b c : Scene S D) → Happens r a b → Happens r b c → Happens r a c
and_then r a b c first next = (first.0 ++ next.0, go_on r a b c first.0 next.0 first.1 next.1)

-- the lines are equal, except this
pub but_one : (client : ℕ) (standing : Standing) (old new : ℕ → Standing) → new client ≡ standing
    → ((other : ℕ) → other ≢ client → new other ≡ old other) → new ≡ changed client standing old
but_one client standing old new own others = fun_ext (λ (other : ℕ). elim (cases_eq other client) [
  | inl same ↦ rw (eq-eqb other client same) (subst (λ (n : ℕ). new n ≡ standing) (sym same) own)
  | inr apart ↦ rw (ne_eqb other client apart) (others other apart)
])

-- the lines are all alike
pub alike : (client : ℕ) (old new : ℕ → Standing) → new client ≡ old client
    → ((other : ℕ) → other ≢ client → new other ≡ old other) → new ≡ old
alike client old new own others = fun_ext (λ (other : ℕ). elim (cases_eq other client) [
  | inl same ↦ subst (λ (n : ℕ). new n ≡ old n) (sym same) own
  | inr apart ↦ others other apart
])

pub all_alike : (old new : ℕ → Standing) → ((other : ℕ) → new other ≡ old other) → new ≡ old
all_alike old new same = fun_ext same

-- a line that is so already
unchanged : (client : ℕ) (standing : Standing) (lines : ℕ → Standing) → lines client ≡ standing
    → lines ≡ changed client standing lines
unchanged client standing lines is = but_one client standing lines lines is (λ other apart. refl)

stands_so : (s : Standing) (stage : Stage) (waiting : List Errand) → s.stage ≡ stage → s.waiting ≡ waiting
    → s ≡ record { stage = stage; waiting = waiting }
stands_so s stage waiting is are =
    ap (λ (t : Stage). record { stage = t; waiting = s.waiting }) is ∙ ap (λ (l : List Errand). record { stage = stage; waiting = l }) are

-- a recall is taken, or there is none
pub takes : {S D : Type 0} (r : Rules S D) (old : Scene S D) (found : Option Recall) (source : S) → old.hand ≡ None
    → r.answers old.source (Took found) source → Happens r old (record old { hand = found; source = source })
takes r old None source held is =
    one r old _ (Asks (Took None)) (tt, is, ap (λ (h : Option Recall). record old { hand = h; source = source }) (sym held))
takes r old (Some recall) source held is = one r old _ (Takes recall) (held, is, refl)

-- the recall in `hand` goes to its client's line
pub files : {S D : Type 0} (r : Rules S D) (old : Scene S D) (recall : Recall) (lines : ℕ → Standing)
    → old.hand ≡ Some recall
    → lines ≡ changed (client_of recall) (joined (errands.Recall recall) (old.lines (client_of recall))) old.lines
    → Happens r old (record old { hand = None; lines = lines })
files r old recall lines held is =
    one r old _ (Files recall) (held, ap (λ (l : ℕ → Standing). record old { hand = None; lines = l }) is)

-- the state is asked, and nothing follows
pub asks : {S D : Type 0} (r : Rules S D) (old : Scene S D) (question : Answered) (source : S) → LeavesAlone question
    → r.answers old.source question source → Happens r old (record old { source = source })
asks r old question source alone is = one r old _ (Asks question) (alone, is, refl)

due_alone : (client : ℕ) (errand : Errand) (is : Bool) → LeavesAlone (due client errand is)
due_alone client (errands.Recall recall) is = tt
due_alone client (errands.Null callback) is = tt

pub asks_due : {S D : Type 0} (r : Rules S D) (old : Scene S D) (client : ℕ) (errand : Errand) (answer : Bool) (source : S)
    → r.answers old.source (due client errand answer) source → Happens r old (record old { source = source })
asks_due r old client errand answer source is =
    asks r old (due client errand answer) source (due_alone client errand answer) is

-- what a line does of which this is under way, or owed
pub calling_at : (stage : Stage) (errand : Errand) → current_in stage ≡ Some errand
    → (exchange : Conversation) × (stage ≡ stages.Calling errand exchange)
calling_at (stages.Calling other exchange) errand is =
    let same : other ≡ errand = cc in (exchange, ap (λ (e : Errand). stages.Calling e exchange) same)
calling_at stages.Idle errand is = absurd cc
calling_at stages.Refused errand is = absurd cc
calling_at (stages.Owing other reached) errand is = absurd cc

pub owing_at : (stage : Stage) (errand : Errand) (reached : Result (Unit {0}) Fault) → owed_in stage ≡ Some (errand, reached)
    → stage ≡ stages.Owing errand reached
owing_at (stages.Owing other before) errand reached is =
    let same : (other, before) ≡ (errand, reached) = cc in
    ap (λ (p : Errand × Result (Unit {0}) Fault). stages.Owing p.0 p.1) same
owing_at stages.Idle errand reached is = absurd cc
owing_at stages.Refused errand reached is = absurd cc
owing_at (stages.Calling other exchange) errand reached is = absurd cc

by_flag : (b : Bool) → (if b then states.Stalled else states.UnderWay) ≡ states.Refused → ⊥
by_flag true is = cc
by_flag false is = cc

not_ready : (b : Bool) → (if b then states.Stalled else states.UnderWay) ≡ states.Ready → ⊥
not_ready true is = cc
not_ready false is = cc

not_empty : (b : Bool) → (if b then states.Stalled else states.UnderWay) ≡ states.Empty → ⊥
not_empty true is = cc
not_empty false is = cc

pub refused_stage : (stage : Stage) (waiting : List Errand) → state_at stage waiting ≡ states.Refused
    → stage ≡ stages.Refused
refused_stage stages.Refused waiting is = refl
refused_stage stages.Idle [] is = absurd cc
refused_stage stages.Idle (errand ∷ rest) is = absurd cc
refused_stage (stages.Calling errand exchange) waiting is = absurd (by_flag exchange.is_stalled is)
refused_stage (stages.Owing errand reached) waiting is = absurd cc

-- a line that is ready has a call that waits, and does nothing
pub ready_line : (stage : Stage) (waiting : List Errand) (errand : Errand) → state_at stage waiting ≡ states.Ready
    → first_in waiting ≡ Some errand → (stage ≡ stages.Idle) × ((rest : List Errand) × (waiting ≡ errand ∷ rest))
ready_line stages.Idle [] errand is first = absurd cc
ready_line stages.Idle (other ∷ rest) errand is first =
    let same : other ≡ errand = cc in (refl, (rest, ap (λ (e : Errand). e ∷ rest) same))
ready_line stages.Refused waiting errand is first = absurd cc
ready_line (stages.Calling other exchange) waiting errand is first = absurd (not_ready exchange.is_stalled is)
ready_line (stages.Owing other reached) waiting errand is first = absurd cc

pub empty_line : (stage : Stage) (waiting : List Errand) → state_at stage waiting ≡ states.Empty
    → record { stage = stage; waiting = waiting } ≡ empty
empty_line stages.Idle [] is = refl
empty_line stages.Idle (other ∷ rest) is = absurd cc
empty_line stages.Refused waiting is = absurd cc
empty_line (stages.Calling other exchange) waiting is = absurd (not_empty exchange.is_stalled is)
empty_line (stages.Owing other reached) waiting is = absurd cc

-- a CB_NULL goes into an empty line
pub probes : {S D : Type 0} (r : Rules S D) (old : Scene S D) (client after : ℕ) (callback : Callback) (source : S)
    (lines : ℕ → Standing) → state_of (old.lines client) ≡ states.Empty
    → r.answers old.source (Probed after (Ok (Some (record { client = client; callback = callback })))) source
    → lines ≡ changed client (joined (errands.Null callback) (old.lines client)) old.lines
    → Happens r old (record old { source = source; lines = lines })
probes r old client after callback source lines none answer is =
    one r old _ (Probes client callback) (
      after,
      empty_line (old.lines client).stage (old.lines client).waiting none,
      answer,
      ap (λ (l : ℕ → Standing). record old { source = source; lines = l }) is,
    )

-- the time has come to try again
pub retries : {S D : Type 0} (r : Rules S D) (old : Scene S D) (client : ℕ) (lines : ℕ → Standing)
    → state_of (old.lines client) ≡ states.Refused → lines ≡ changed client (turned turns.Clears (old.lines client)) old.lines
    → Happens r old (record old { lines = lines })
retries r old client lines refused is =
    one r old _ (Retries client) (
      refused_stage (old.lines client).stage (old.lines client).waiting refused,
      ap (λ (l : ℕ → Standing). record old { lines = l }) is,
    )

-- the call under way goes on, if there is one
pub goes_on : {S D : Type 0} (r : Rules S D) (old : Scene S D) (client : ℕ) (network : D) (lines : ℕ → Standing)
    → GoesOnOrRests r.carries client old.network (old.lines client) network (lines client)
    → ((other : ℕ) → other ≢ client → lines other ≡ old.lines other)
    → Happens r old (record old { network = network; lines = lines })
goes_on r old client network lines (inl rests) others =
    none r old _ (ap (λ (l : ℕ → Standing). record old { network = network; lines = l })
    (alike client old.lines lines rests.2 others) ∙ ap (λ d. record old { network = d }) rests.1)
goes_on r old client network lines (inr goes) others =
    one r old _ (Advances client goes.0 goes.1 goes.2) (
      goes.3,
      ap (λ (l : ℕ → Standing). record old { network = network; lines = l })
          (but_one client (lines client) old.lines lines refl others),
    )

-- the first call that waits is cancelled
pub drops : {S D : Type 0} (r : Rules S D) (old : Scene S D) (client : ℕ) (errand : Errand) (source : S)
    (lines : ℕ → Standing) → state_of (old.lines client) ≡ states.Ready
    → first_in (old.lines client).waiting ≡ Some errand → r.answers old.source (due client errand false) source
    → lines ≡ changed client (turned turns.Drops (old.lines client)) old.lines
    → Happens r old (record old { source = source; lines = lines })
drops r old client errand source lines ready first answer is =
    let line = ready_line (old.lines client).stage (old.lines client).waiting errand ready first in
    let stands : old.lines client ≡ record { stage = stages.Idle; waiting = errand ∷ line.1.0 } = stands_so (old.lines client) stages.Idle (errand ∷ line.1.0) line.0 line.1.1 in
    one r old _ (Drops client errand) (
      line.1.0,
      stands,
      answer,
      ap (λ (l : ℕ → Standing). record old { source = source; lines = l })
          (is ∙ ap (λ (s : Standing). changed client (turned turns.Drops s) old.lines) stands),
    )

-- the first call that waits is begun, or can't be
pub begins : {S D : Type 0} (r : Rules S D) (old : Scene S D) (client : ℕ) (errand : Errand)
    (result : Result Conversation ConnectError) (turn : Turn) (source : S) (network : D) (lines : ℕ → Standing)
    → state_of (old.lines client) ≡ states.Ready → first_in (old.lines client).waiting ≡ Some errand
    → r.answers old.source (due client errand true) source
    → IsBegun r.carries client errand old.next_xid result old.network network
    → ((rest : List Errand) → turned turn (record { stage = stages.Idle; waiting = errand ∷ rest }) ≡ begun errand rest result)
    → lines ≡ changed client (turned turn (old.lines client)) old.lines
    → Happens r old (record old {
      source = source;
      network = network;
      lines = lines;
      next_xid = xid_behind old.next_xid result;
    })
begins r old client errand result turn source network lines ready first answer starts so is =
    let line = ready_line (old.lines client).stage (old.lines client).waiting errand ready first in
    let stands : old.lines client ≡ record { stage = stages.Idle; waiting = errand ∷ line.1.0 } = stands_so (old.lines client) stages.Idle (errand ∷ line.1.0) line.0 line.1.1 in
    one r old _ (Begins client errand old.next_xid result) (
      line.1.0,
      stands,
      answer,
      starts,
      refl,
      ap (λ (l : ℕ → Standing). record old { source = source; network = network; lines = l; next_xid = xid_behind old.next_xid result })
          (is ∙ ap (λ (s : Standing). changed client (turned turn s) old.lines) stands
          ∙ ap (λ (s : Standing). changed client s old.lines) (so line.1.0)),
    )

-- the call under way is cancelled
pub stops : {S D : Type 0} (r : Rules S D) (old new : Scene S D) (client : ℕ) (errand : Errand) (why : Answered) (source : S)
    → current_in (old.lines client).stage ≡ Some errand → IsCause client errand why
    → r.answers old.source why source → r.carries old.network (Closes client) new.network
    → new ≡ stopped client new.network (record old { source = source }) → Happens r old new
stops {S = S} {D = D} r old new client errand why source current cause answer closes is =
    let call = calling_at (old.lines client).stage errand current in
    let same : new.source ≡ source = ap (λ (x : Scene S D). x.source) is in
    one r old new (Stops client errand why) (
      call.0,
      call.1,
      cause,
      subst (λ (x : S). r.answers old.source why x) (sym same) answer,
      closes,
      is ∙ ap (λ (x : S). record (stopped client new.network old) { source = x }) (sym same),
    )

-- a call that is shown is there
pub some_from : (o : Option (Bor Errand)) → is_some o ≡ true → (errand : Errand) × (option_copied o ≡ Some errand)
some_from None is = absurd cc
some_from (Some errand) is = (errand.now, refl)

pub on_err : (result : Result (Unit {0}) Errand) (P : Type 0) → is_err result ≡ true → OnErr result P → P
on_err (Ok done) P is h = absurd cc
on_err (Err errand) P is h = h

pub on_ok : (result : Result (Unit {0}) Errand) (P : Type 0) → is_err result ≡ false → OnOk result P → P
on_ok (Ok done) P is h = h
on_ok (Err errand) P is h = absurd cc

-- a call is over, and the state was told, or not
pub settles : {S D : Type 0} (r : Rules S D) (old : Scene S D) (client : ℕ) (errand : Errand) (reached : Result (Unit {0}) Fault)
    (told : Option (Result (Unit {0}) MarkError)) (source : S) (lines : ℕ → Standing)
    → owed_in (old.lines client).stage ≡ Some (errand, reached) → IsTold r.answers client errand reached told old.source source
    → lines ≡ changed client (record (old.lines client) { stage = settled errand reached told }) old.lines
    → Happens r old (record old { source = source; lines = lines })
settles r old client errand reached told source lines owed tells is =
    one r old _ (Settles client errand reached told)
    (owing_at (old.lines client).stage errand reached owed, tells, ap (λ (l : ℕ → Standing). record old { source = source; lines = l }) is)

-- if the state had no memory for the mark, it is told again
pub settles_later : {S D : Type 0} (r : Rules S D) (old : Scene S D) (client : ℕ) (errand : Errand) (reached : Result (Unit {0}) Fault)
    (source : S) → owed_in (old.lines client).stage ≡ Some (errand, reached)
    → IsTold r.answers client errand reached (Some (Err marks.Later)) old.source source
    → Happens r old (record old { source = source })
settles_later r old client errand reached source owed tells =
    let owes = owing_at (old.lines client).stage errand reached owed in
    settles r old client errand reached (Some (Err marks.Later)) source old.lines owed tells
    (unchanged client (record (old.lines client) { stage = stages.Owing errand reached }) old.lines
    (ap (λ (s : Stage). record (old.lines client) { stage = s }) owes))

-- elsewhere the line is done with it
pub settles_so : (errand : Errand) (reached : Result (Unit {0}) Fault) (told : Result (Unit {0}) MarkError) → (told ≡ Err marks.Later → ⊥)
    → settled errand reached (Some told) ≡ stages.Idle
settles_so errand reached (Ok done) unlike = refl
settles_so errand reached (Err marks.Later) unlike = absurd (unlike refl)
settles_so errand reached (Err marks.Never) unlike = refl

pub none_from : (o : Option Recall) → is_some o ≡ false → o ≡ None
none_from None is = refl
none_from (Some recall) is = absurd cc

-- the state takes notice that the call under way has had no reply for long
pub notices : {S D : Type 0} (r : Rules S D) (old : Scene S D) (client : ℕ) (errand : Errand) (source : S)
    → current_in (old.lines client).stage ≡ Some errand
    → r.answers old.source (Noticed client (callback_of errand)) source → Happens r old (record old { source = source })
notices r old client errand source current answer =
    let call = calling_at (old.lines client).stage errand current in
    one r old _ (Notices client errand) (call.0, call.1, answer, refl)
