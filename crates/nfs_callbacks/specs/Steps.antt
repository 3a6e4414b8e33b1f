-- What happens while callbacks are sent, step by step.
use Rattle.std.specs.Prelude.{◌≡◌, ℕ, ◌+◌, ◌%◌, ◌^◌, ◌↔◌, ◌⊎◌, true, false, List, [], ◌∷◌, IsTrue, Option, Some, None, Result, Ok, Err}
use Rattle.nfs_callbacks.specs.Errands.{callback_of}
use Rattle.nfs_callbacks.specs.Exchanges.{Conversation, GoesOnBy, HasCome, IsBegun}
use Rattle.nfs_callbacks.specs.Lines.{Standing, changed, current_in, empty, joined, stage_by}
use Rattle.nfs_callbacks.specs.Network.{Closes, Talk, Traffic, Waits}
use Rattle.nfs_callbacks.specs.Source.{Answered, HasCallback, HasDelegation, Lives, Marked, Noticed, Probed, Took, current, due}
use Rattle.nfs_callbacks.specs.declared.errand.Errand.{Errand}
use Rattle.nfs_callbacks.specs.declared.errand.Errand.TheVariants as errands
use Rattle.nfs_callbacks.specs.declared.exchange.Progress.{Progress}
use Rattle.nfs_callbacks.specs.declared.exchange.Progress.TheVariants.{UnderWay, Stalled, Ended}
use Rattle.nfs_callbacks.specs.declared.fault.Fault.{Fault}
use Rattle.nfs_callbacks.specs.declared.flow.ConnectError.{ConnectError}
use Rattle.nfs_callbacks.specs.declared.flow.ConnectError.TheVariants as errors
use Rattle.nfs_callbacks.specs.declared.line.Stage.{Stage}
use Rattle.nfs_callbacks.specs.declared.line.Stage.TheVariants as stages
use Rattle.nfs_callbacks.specs.declared.probe.MarkError.{MarkError}
use Rattle.nfs_callbacks.specs.declared.probe.MarkError.TheVariants as marks
use Rattle.nfs_forms.specs.declared.callback.Callback.{Callback}
use Rattle.nfs_rpc.specs.declared.recall.Recall.{Recall}

-- What there is: the line of each client; `hand`, a recall that was taken and isn't in a line yet; the xid of the next
-- call; the state that is asked, and the network.
pub record Scene (S D : Type 0) : Type 0 where
  pub lines : ℕ → Standing
  pub hand : Option Recall
  pub next_xid : ℕ
  pub source : S
  pub network : D

-- how the state may answer, and what may happen on the network
pub record Rules (S D : Type 0) : Type 1 where
  pub answers : S → Answered → S → Type 0
  pub carries : D → Traffic → D → Type 0

abbrev pub rules : {S D : Type 0} → (S → Answered → S → Type 0) → (D → Traffic → D → Type 0) → Rules S D
rules answers carries = record { answers = answers; carries = carries }

-- A step. Those of a client's line have the client's number first.
pub data Step : Type 0 where
  -- a recall is taken, and is in `hand`
  Takes : Recall → Step
  -- the recall in `hand` goes to the end of its client's line
  Files : Recall → Step
  -- the state told of a client of whose path nothing is known: a CB_NULL goes into its line
  Probes : ℕ → Callback → Step
  -- the first call that waits is begun with this xid, or can't be
  Begins : ℕ → Errand → ℕ → Result Conversation ConnectError → Step
  -- it is time to try again, after the system refused a socket
  Retries : ℕ → Step
  -- the call under way goes on: this goes out and comes in, and it is so far
  Advances : ℕ → Errand → List Talk → Progress → Step
  -- the first call that waits is cancelled, since it isn't due any more
  Drops : ℕ → Errand → Step
  -- the call under way is cancelled, since the state answered so
  Stops : ℕ → Errand → Answered → Step
  -- A call is over: the state was told how it reached the client, or why it didn't, and answered so; or nothing, as
  -- the call isn't due any more.
  Settles : ℕ → Errand → Result (Unit {0}) Fault → Option (Result (Unit {0}) MarkError) → Step
  -- the state takes notice that the call under way has had no reply for long
  Notices : ℕ → Errand → Step
  -- the state is asked, and nothing follows
  Asks : Answered → Step
  -- connections are waited for
  Looks : Step

-- the client whose delegation is recalled
abbrev pub client_of : Recall → ℕ
client_of recall = recall.stateid.client.number

-- a line whose first call was begun
abbrev pub begun : Errand → List Errand → Result Conversation ConnectError → Standing
begun errand rest (Ok exchange) = record { stage = stages.Calling errand exchange; waiting = rest }
begun errand rest (Err (errors.Fault fault)) = record { stage = stages.Owing errand (Err fault); waiting = rest }
begun errand rest (Err errors.Refused) = record { stage = stages.Refused; waiting = errand ∷ rest }

-- The xid of the next call: each call that is begun takes one, and one that can't be begun leaves it to the next.
abbrev pub xid_behind : ℕ → Result Conversation ConnectError → ℕ
xid_behind xid (Ok exchange) = (xid + 1) % 2 ^ 32
xid_behind xid (Err error) = xid

-- a call under way is cancelled if its client isn't live any more, has another callback, or hasn't the delegation
abbrev pub IsCause : ℕ → Errand → Answered → Type 0
IsCause client errand why =
    (why ≡ due client errand false) ⊎ ((why ≡ current client errand false) ⊎ (why ≡ Lives client false))

-- the connection is closed if the call is over
abbrev pub ClosesAfter : {D : Type 0} → (D → Traffic → D → Type 0) → ℕ → Progress → D → D → Type 0
ClosesAfter carries client UnderWay old new = new ≡ old
ClosesAfter carries client Stalled old new = new ≡ old
ClosesAfter carries client (Ended reached) old new = carries old (Closes client) new

-- The call that was under way goes on by what goes out and comes in, and has come so far then.
pub record IsAdvance {D : Type 0} (carries : D → Traffic → D → Type 0) (client : ℕ) (network : D) (old : Standing)
    (errand : Errand) (talks : List Talk) (progress : Progress) (network' : D) (new : Standing) : Type 0 where
  pub before : Conversation
  pub after : Conversation
  pub mid : D
  pub was : old.stage ≡ stages.Calling errand before
  pub goes : GoesOnBy carries client network before talks mid after
  pub comes : HasCome after talks progress
  pub stalled : IsTrue after.is_stalled ↔ (progress ≡ Stalled)
  pub closes : ClosesAfter carries client progress mid network'
  pub is : new ≡ record old { stage = stage_by errand after progress }

-- If no call is under way, nothing happens.
abbrev pub GoesOnOrRests : {D : Type 0} → (D → Traffic → D → Type 0) → ℕ → D → Standing → D → Standing → Type 0
GoesOnOrRests carries client network old network' new =
    ((current_in old.stage ≡ None) × (network' ≡ network) × (new ≡ old))
    ⊎ ((errand : Errand) × (talks : List Talk) × (progress : Progress)
    × IsAdvance carries client network old errand talks progress network' new)

-- A call that is over: if it isn't due any more, nothing is told.
abbrev pub IsTold : {S : Type 0} → (S → Answered → S → Type 0) → ℕ → Errand → Result (Unit {0}) Fault
    → Option (Result (Unit {0}) MarkError) → S → S → Type 0
IsTold answers client errand reached None old new = answers old (due client errand false) new
IsTold {S = S} answers client errand reached (Some result) old new =
    (mid : S) × answers old (due client errand true) mid
    × answers mid (Marked client (callback_of errand) reached result) new

-- What the line does then: it tells the state again if the state had no memory.
abbrev pub settled : Errand → Result (Unit {0}) Fault → Option (Result (Unit {0}) MarkError) → Stage
settled errand reached None = stages.Idle
settled errand reached (Some (Ok done)) = stages.Idle
settled errand reached (Some (Err marks.Later)) = stages.Owing errand reached
settled errand reached (Some (Err marks.Never)) = stages.Idle

-- an answer from which nothing follows: no recall was taken, no path marked, and no notice taken
abbrev pub LeavesAlone : Answered → Type 0
LeavesAlone (Took None) = Unit {0}
LeavesAlone (Took (Some recall)) = ⊥
LeavesAlone (Probed after found) = Unit {0}
LeavesAlone (Lives client is) = Unit {0}
LeavesAlone (HasCallback client callback is) = Unit {0}
LeavesAlone (HasDelegation recall is) = Unit {0}
LeavesAlone (Marked client callback reached result) = ⊥
LeavesAlone (Noticed client callback) = ⊥

-- the line of this client is so then
abbrev pub with_line : {S D : Type 0} → ℕ → Standing → Scene S D → Scene S D
with_line client standing scene = record scene { lines = changed client standing scene.lines }

-- What each step is.
abbrev pub IsStep : {S D : Type 0} → Rules S D → Scene S D → Step → Scene S D → Type 0
IsStep r old (Takes recall) new =
    (old.hand ≡ None) × r.answers old.source (Took (Some recall)) new.source
    × (new ≡ record old { hand = Some recall; source = new.source })
IsStep r old (Files recall) new =
    let client = client_of recall in
    (old.hand ≡ Some recall)
    × (new ≡ record (with_line client (joined (errands.Recall recall) (old.lines client)) old) { hand = None })
IsStep r old (Probes client callback) new =
    (after : ℕ) × (old.lines client ≡ empty)
    × r.answers old.source (Probed after (Ok (Some (record { client = client; callback = callback })))) new.source
    × (new ≡ record (with_line client (joined (errands.Null callback) (old.lines client)) old) { source = new.source })
IsStep r old (Begins client errand xid result) new =
    (rest : List Errand)
    × (old.lines client ≡ record { stage = stages.Idle; waiting = errand ∷ rest })
    × r.answers old.source (due client errand true) new.source
    × IsBegun r.carries client errand xid result old.network new.network × (xid ≡ old.next_xid)
    × (new ≡ record (with_line client (begun errand rest result) old) {
      next_xid = xid_behind xid result;
      source = new.source;
      network = new.network;
    })
IsStep r old (Retries client) new =
    ((old.lines client).stage ≡ stages.Refused)
    × (new ≡ with_line client (record (old.lines client) { stage = stages.Idle }) old)
IsStep r old (Advances client errand talks progress) new =
    IsAdvance r.carries client old.network (old.lines client) errand talks progress new.network (new.lines client)
    × (new ≡ record (with_line client (new.lines client) old) { network = new.network })
IsStep r old (Drops client errand) new =
    (rest : List Errand)
    × (old.lines client ≡ record { stage = stages.Idle; waiting = errand ∷ rest })
    × r.answers old.source (due client errand false) new.source
    × (new ≡ record (with_line client (record { stage = stages.Idle; waiting = rest }) old) { source = new.source })
IsStep r old (Stops client errand why) new =
    (exchange : Conversation) × ((old.lines client).stage ≡ stages.Calling errand exchange)
    × IsCause client errand why × r.answers old.source why new.source
    × r.carries old.network (Closes client) new.network
    × (new ≡ record (with_line client (record (old.lines client) { stage = stages.Idle }) old) {
      source = new.source;
      network = new.network;
    })
IsStep r old (Settles client errand reached told) new =
    ((old.lines client).stage ≡ stages.Owing errand reached)
    × IsTold r.answers client errand reached told old.source new.source
    × (new ≡ record (with_line client (record (old.lines client) { stage = settled errand reached told }) old) {
      source = new.source;
    })
IsStep r old (Notices client errand) new =
    (exchange : Conversation) × ((old.lines client).stage ≡ stages.Calling errand exchange)
    × r.answers old.source (Noticed client (callback_of errand)) new.source
    × (new ≡ record old { source = new.source })
IsStep r old (Asks question) new =
    LeavesAlone question × r.answers old.source question new.source × (new ≡ record old { source = new.source })
IsStep r old Looks new =
    r.carries old.network Waits new.network × (new ≡ record old { network = new.network })

-- these steps, one after the other
abbrev pub Goes : {S D : Type 0} → Rules S D → Scene S D → List Step → Scene S D → Type 0
Goes r old [] new = new ≡ old
Goes {S = S} {D = D} r old (step ∷ steps) new =
    (mid : Scene S D) × IsStep r old step mid × Goes r mid steps new

-- the scene changes by steps of a caller alone
abbrev pub Happens : {S D : Type 0} → Rules S D → Scene S D → Scene S D → Type 0
Happens r old new = (steps : List Step) × Goes r old steps new
