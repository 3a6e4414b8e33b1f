-- What becomes of the recalls to a client.
use Rattle.std.specs.Prelude.{◌≡◌, ℕ, eqb, ◌⊎◌, Result, List, [], ◌∷◌, ◌++◌, Option, Some, None, Ok, Err, if◌then◌else◌}
use Rattle.std.specs.List.{flat_map}
use Rattle.nfs_callbacks.specs.Lines.{Standing}
use Rattle.nfs_callbacks.specs.Callers.{idle}
use Rattle.nfs_callbacks.specs.Network.{Talk}
use Rattle.nfs_callbacks.specs.Source.{Answered, Took}
use Rattle.nfs_callbacks.specs.Steps.{Advances, Begins, Drops, Goes, Happens, Rules, Scene, Settles, Step, Stops, Takes, client_of}
use Rattle.nfs_callbacks.specs.declared.errand.Errand.{Errand}
use Rattle.nfs_callbacks.specs.declared.errand.Errand.TheVariants as errands
use Rattle.nfs_callbacks.specs.declared.exchange.Progress.TheVariants.{Ended}
use Rattle.nfs_callbacks.specs.declared.fault.Fault.{Fault}
use Rattle.nfs_callbacks.specs.declared.flow.ConnectError.TheVariants as errors
use Rattle.nfs_callbacks.specs.declared.line.Stage.{Stage}
use Rattle.nfs_callbacks.specs.declared.line.Stage.TheVariants as stages
use Rattle.nfs_callbacks.specs.declared.probe.MarkError.{MarkError}
use Rattle.nfs_callbacks.specs.declared.probe.MarkError.TheVariants as marks
use Rattle.nfs_rpc.specs.declared.recall.Recall.{Recall}

-- the recalls of these calls, in their order
abbrev pub recalls_in : List Errand → List Recall
recalls_in [] = []
recalls_in (errands.Recall recall ∷ rest) = recall ∷ recalls_in rest
recalls_in (errands.Null callback ∷ rest) = recalls_in rest

-- the call of a line that is under way, or over and not told of yet
abbrev pub in_stage : Stage → List Errand
in_stage stages.Idle = []
in_stage stages.Refused = []
in_stage (stages.Calling errand exchange) = errand ∷ []
in_stage (stages.Owing errand reached) = errand ∷ []

-- the recalls of a line, first that which is under way
abbrev pub recalls_of : Standing → List Recall
recalls_of s = recalls_in (in_stage s.stage) ++ recalls_in s.waiting

-- the list, if these numbers are equal, and else nothing
abbrev pub if_of : {X : Type 0} → ℕ → ℕ → List X → List X
if_of client other xs = if eqb client other then xs else []

abbrev pub in_hand : ℕ → Option Recall → List Recall
in_hand client None = []
in_hand client (Some recall) = if_of client (client_of recall) (recall ∷ [])

-- the recalls that are still to be told to this client, in their order
abbrev pub recalls_for : {S D : Type 0} → ℕ → Scene S D → List Recall
recalls_for client scene = recalls_of (scene.lines client) ++ in_hand client scene.hand

-- the recalls to this client that come by a step
abbrev pub taken_by : ℕ → Step → List Recall
taken_by client (Takes recall) = if_of client (client_of recall) (recall ∷ [])
taken_by client step = []

-- The recalls to this client that leave by a step: a recall that is cancelled, or whose call is over, once that was
-- told.
abbrev pub left_by : ℕ → Step → List Recall
left_by client (Drops other errand) = if_of client other (recalls_in (errand ∷ []))
left_by client (Stops other errand why) = if_of client other (recalls_in (errand ∷ []))
left_by client (Settles other errand reached None) = if_of client other (recalls_in (errand ∷ []))
left_by client (Settles other errand reached (Some (Ok done))) = if_of client other (recalls_in (errand ∷ []))
left_by client (Settles other errand reached (Some (Err marks.Never))) = if_of client other (recalls_in (errand ∷ []))
left_by client step = []

-- No recall is lost, doubled, sent to another client, or overtaken by a later one: those that a
-- client's line had and those that were taken for it are those that have left it, and then those that it has.
abbrev pub NothingIsLost : {S D : Type 0} → Rules S D → Type 0
NothingIsLost {S = S} {D = D} r =
    (client : ℕ) (old new : Scene S D) (steps : List Step) → Goes r old steps new
    → recalls_for client old ++ flat_map (taken_by client) steps
    ≡ flat_map (left_by client) steps ++ recalls_for client new

-- the step is one of these
abbrev pub IsAmong : Step → List Step → Type 0
IsAmong step steps = (before : List Step) × (after : List Step) × (steps ≡ before ++ step ∷ after)

-- A call to this client is over so: it reached the client or failed as it went on; or it couldn't be begun.
abbrev pub HasEnded : ℕ → Errand → Result (Unit {0}) Fault → List Step → Type 0
HasEnded client errand reached steps =
    ((talks : List Talk) × IsAmong (Advances client errand talks (Ended reached)) steps)
    ⊎ ((fault : Fault) × (xid : ℕ) × (reached ≡ Err fault)
    × IsAmong (Begins client errand xid (Err (errors.Fault fault))) steps)

-- A client's path is marked as up, or as down for a reason, only after a call to it that ended so.
abbrev pub MarksAreEarned : {S D : Type 0} → Rules S D → Type 0
MarksAreEarned {S = S} {D = D} r =
    (source : S) (network : D) (new : Scene S D) (before after : List Step) (client : ℕ) (errand : Errand)
    (reached : Result (Unit {0}) Fault) (told : Result (Unit {0}) MarkError)
    → Goes r (idle source network) (before ++ Settles client errand reached (Some told) ∷ after) new
    → HasEnded client errand reached before

-- the recalls that come by a step, whoever's
abbrev pub taken_in : Step → List Recall
taken_in (Takes recall) = recall ∷ []
taken_in step = []

-- a recall that an answer hands over
abbrev pub handed_over : Answered → List Recall
handed_over (Took (Some recall)) = recall ∷ []
handed_over answered = []

-- the source's list has what it handed over, in order
abbrev pub Lists : {S D : Type 0} → Rules S D → (S → List Recall) → Type 0
Lists {S = S} r listed =
    (old new : S) (answered : Answered) → r.answers old answered new → listed new ≡ listed old ++ handed_over answered

-- Each recall that the source handed over was taken by a step, in order, and no others were.
abbrev pub NothingIsOverlooked : {S D : Type 0} → Rules S D → Type 0
NothingIsOverlooked {S = S} {D = D} r =
    (listed : S → List Recall) → Lists r listed → (old new : Scene S D) (steps : List Step) → Goes r old steps new
    → listed new.source ≡ listed old.source ++ flat_map taken_in steps

-- Steps, and then steps, are steps.
abbrev pub StepsJoin : {S D : Type 0} → Rules S D → Type 0
StepsJoin {S = S} {D = D} r = (a b c : Scene S D) → Happens r a b → Happens r b c → Happens r a c
