-- The lines of the clients: the calls that wait, and what each line does.
use Rattle.std.specs.Prelude.{◌≡◌, ℕ, ◌<◌, ◌≤◌, eqb, List, [], ◌∷◌, ◌++◌, Option, Some, None, Result, Err, if◌then◌else◌}
use Rattle.nfs_callbacks.specs.Exchanges.{Conversation}
use Rattle.nfs_callbacks.specs.declared.exchange.Progress.{Progress}
use Rattle.nfs_callbacks.specs.declared.exchange.Progress.TheVariants.{UnderWay, Stalled, Ended}
use Rattle.nfs_callbacks.specs.declared.errand.Errand.{Errand}
use Rattle.nfs_callbacks.specs.declared.errand.Errand.TheVariants as errands
use Rattle.nfs_callbacks.specs.declared.fault.Fault.{Fault}
use Rattle.nfs_callbacks.specs.declared.line.Line.{Line}
use Rattle.nfs_callbacks.specs.declared.lines.Lines.{Lines}
use Rattle.nfs_callbacks.specs.declared.line.LineState.{LineState}
use Rattle.nfs_callbacks.specs.declared.line.LineState.TheVariants as states
use Rattle.nfs_callbacks.specs.declared.line.Stage.{Stage}
use Rattle.nfs_callbacks.specs.declared.line.Stage.TheVariants as stages
use Rattle.nfs_callbacks.specs.declared.line.Turn.{Turn}
use Rattle.nfs_callbacks.specs.declared.line.Turn.TheVariants as turns
use Rattle.std.specs.BTreeMap as tree
use Rattle.std.specs.Ordering.{nat_cmp}

-- what a client's line is: what it does, and the calls that wait
pub record Standing : Type 0 where
  pub stage : Stage
  pub waiting : List Errand

-- no call is to be made to this client
abbrev pub empty : Standing
empty = record { stage = stages.Idle; waiting = [] }

abbrev pub standing_of : Line → Standing
standing_of line = record { stage = line.stage; waiting = line.queue.items }

abbrev pub standing_in : Option Line → Standing
standing_in None = empty
standing_in (Some line) = standing_of line

-- the line of each client
abbrev pub lines_of : Lines → ℕ → Standing
lines_of lines client = standing_in (tree.get nat_cmp lines.lines client)

-- these lines, except that of this client, which is so
abbrev pub changed : ℕ → Standing → (ℕ → Standing) → ℕ → Standing
changed client standing lines = λ other. if eqb other client then standing else lines other

-- these calls, except a CB_NULL that is the first
abbrev pub without_null : List Errand → List Errand
without_null [] = []
without_null (errands.Recall recall ∷ rest) = errands.Recall recall ∷ rest
without_null (errands.Null callback ∷ rest) = rest

-- A call comes, and waits after all others; it takes the place of a CB_NULL that waits.
abbrev pub joined : Errand → Standing → Standing
joined errand s = record s { waiting = without_null s.waiting ++ errand ∷ [] }

-- The first of the calls that wait is under way, or over.
abbrev pub first_in_stage : (Errand → Stage) → List Errand → Standing
first_in_stage stage [] = empty
first_in_stage stage (errand ∷ rest) = record { stage = stage errand; waiting = rest }

-- a line is refused a socket only if a call waits
abbrev pub refused_at : List Errand → Stage
refused_at [] = stages.Idle
refused_at (errand ∷ rest) = stages.Refused

-- What a line is after a turn.
abbrev pub turned : Turn → Standing → Standing
turned (turns.Begins exchange) s = first_in_stage (λ errand. stages.Calling errand exchange) s.waiting
turned (turns.Fails fault) s = first_in_stage (λ errand. stages.Owing errand (Err fault)) s.waiting
turned turns.Drops s = first_in_stage (λ errand. stages.Idle) s.waiting
turned turns.Refuses s = record s { stage = refused_at s.waiting }
turned turns.Clears s = record s { stage = stages.Idle }

-- what such a line waits for
abbrev pub state_at : Stage → List Errand → LineState
state_at stages.Idle [] = states.Empty
state_at stages.Idle (errand ∷ rest) = states.Ready
state_at stages.Refused waiting = states.Refused
state_at (stages.Calling errand exchange) waiting =
    if exchange.is_stalled then states.Stalled else states.UnderWay
state_at (stages.Owing errand reached) waiting = states.Owing

abbrev pub state_of : Standing → LineState
state_of s = state_at s.stage s.waiting

abbrev pub first_in : List Errand → Option Errand
first_in [] = None
first_in (errand ∷ rest) = Some errand

abbrev pub current_in : Stage → Option Errand
current_in (stages.Calling errand exchange) = Some errand
current_in stages.Idle = None
current_in stages.Refused = None
current_in (stages.Owing errand reached) = None

abbrev pub owed_in : Stage → Option (Errand × Result (Unit {0}) Fault)
owed_in (stages.Owing errand reached) = Some (errand, reached)
owed_in stages.Idle = None
owed_in stages.Refused = None
owed_in (stages.Calling errand exchange) = None

-- the call that is under way is over
abbrev pub ended_in : Result (Unit {0}) Fault → Stage → Stage
ended_in reached (stages.Calling errand exchange) = stages.Owing errand reached
ended_in reached stages.Idle = stages.Idle
ended_in reached stages.Refused = stages.Refused
ended_in reached (stages.Owing errand before) = stages.Owing errand before

abbrev pub ended : Result (Unit {0}) Fault → Standing → Standing
ended reached s = record s { stage = ended_in reached s.stage }

-- what the line does whose call has come so far
abbrev pub stage_by : Errand → Conversation → Progress → Stage
stage_by errand exchange UnderWay = stages.Calling errand exchange
stage_by errand exchange Stalled = stages.Calling errand exchange
stage_by errand exchange (Ended reached) = stages.Owing errand reached

-- The line of this client is the first in this state after the client `after`, by the numbers: none is between them.
-- If it isn't after, no such line is, and it is the first of all.
pub record IsNextIn (wanted : LineState) (after : ℕ) (lines : Lines) (client : ℕ) : Type 0 where
  pub state : state_of (lines_of lines client) ≡ wanted
  pub behind : (other : ℕ) → state_of (lines_of lines other) ≡ wanted → after < other
      → (after < client) × (client ≤ other)
  pub again : (other : ℕ) → state_of (lines_of lines other) ≡ wanted → client ≤ after → client ≤ other

-- no line is in this state
abbrev pub IsNowhere : LineState → Lines → Type 0
IsNowhere wanted lines = (client : ℕ) → state_of (lines_of lines client) ≡ wanted → ⊥
