-- No recall is lost: step by step.
use Rattle.std.proofs.Common.{◌≡◌, ◌≢◌, ℕ, List, [], ◌∷◌, ◌++◌, Option, Some, None, Result, Ok, Err, inl, inr, refl, sym, subst, ap, ◌∙◌, append_assoc}
use Rattle.std.proofs.lemmas.Bool.{cases_eq, eq-eqb, ne_eqb}
use Rattle.std.proofs.lemmas.List.{append-nil}
use Rattle.std.specs.List.{flat_map}
use Rattle.nfs_callbacks.specs.Accounts.{NothingIsLost, if_of, in_hand, in_stage, left_by, recalls_for, recalls_in, recalls_of, taken_by}
use Rattle.nfs_callbacks.specs.Exchanges.{Conversation}
use Rattle.nfs_callbacks.specs.Lines.{Standing, changed, joined, stage_by, without_null}
use Rattle.nfs_callbacks.specs.Steps.{Advances, Asks, Begins, Drops, Files, IsStep, Looks, Notices, Probes, Retries, Rules, Scene, Settles, Step, Stops, Takes, begun, client_of}
use Rattle.nfs_callbacks.specs.declared.errand.Errand.{Errand}
use Rattle.nfs_callbacks.specs.declared.errand.Errand.TheVariants as errands
use Rattle.nfs_callbacks.specs.declared.exchange.Progress.{Progress}
use Rattle.nfs_callbacks.specs.declared.exchange.Progress.TheVariants.{UnderWay, Stalled, Ended}
use Rattle.nfs_callbacks.specs.declared.flow.ConnectError.{ConnectError}
use Rattle.nfs_callbacks.specs.declared.flow.ConnectError.TheVariants as errors
use Rattle.nfs_callbacks.specs.declared.line.Stage.{Stage}
use Rattle.nfs_callbacks.specs.declared.line.Stage.TheVariants as stages
use Rattle.nfs_callbacks.specs.declared.probe.MarkError.TheVariants as marks
use Rattle.nfs_rpc.specs.declared.recall.Recall.{Recall}

recalls_in-append : (calls more : List Errand) → recalls_in (calls ++ more) ≡ recalls_in calls ++ recalls_in more
recalls_in-append [] more = refl
recalls_in-append (errands.Recall recall ∷ rest) more = ap (λ l. recall ∷ l) (recalls_in-append rest more)
recalls_in-append (errands.Null callback ∷ rest) more = recalls_in-append rest more

recalls_in-without_null : (calls : List Errand) → recalls_in (without_null calls) ≡ recalls_in calls
recalls_in-without_null [] = refl
recalls_in-without_null (errands.Recall recall ∷ rest) = refl
recalls_in-without_null (errands.Null callback ∷ rest) = refl

-- the recalls of a line that a call joins
joined_has : (errand : Errand) (s : Standing) → recalls_of (joined errand s) ≡ recalls_of s ++ recalls_in (errand ∷ [])
joined_has errand s =
    ap (λ l. recalls_in (in_stage s.stage) ++ l)
    (recalls_in-append (without_null s.waiting) (errand ∷ [])
    ∙ ap (λ l. l ++ recalls_in (errand ∷ [])) (recalls_in-without_null s.waiting))
    ∙ sym (append_assoc (recalls_in (in_stage s.stage)) (recalls_in s.waiting) (recalls_in (errand ∷ [])))

-- the first of some calls
first_has : (errand : Errand) (rest : List Errand) → recalls_in (errand ∷ rest) ≡ recalls_in (errand ∷ []) ++ recalls_in rest
first_has (errands.Recall recall) rest = refl
first_has (errands.Null callback) rest = refl

-- what holds of a client, or of all others
for_each : (P : ℕ → Type 0) (client other : ℕ) → P other → (client ≢ other → P client) → P client
for_each P client other own others =
    elim (cases_eq client other) [ inl same ↦ subst P (sym same) own | inr apart ↦ others apart ]

-- a line is changed by which these recalls leave
line_loses : (client other : ℕ) (s : Standing) (lines : ℕ → Standing) (hand : Option Recall) (left : List Recall)
    → recalls_of (lines other) ≡ left ++ recalls_of s
    → (recalls_of (lines client) ++ in_hand client hand) ++ []
    ≡ if_of client other left ++ (recalls_of (changed other s lines client) ++ in_hand client hand)
line_loses client other s lines hand left has =
    for_each (λ (n : ℕ). (recalls_of (lines n) ++ in_hand n hand) ++ []
    ≡ if_of n other left ++ (recalls_of (changed other s lines n) ++ in_hand n hand)) client other
    (rw (eq-eqb other other refl)
    (append-nil (recalls_of (lines other) ++ in_hand other hand) ∙ ap (λ l. l ++ in_hand other hand) has
    ∙ append_assoc left (recalls_of s) (in_hand other hand)))
    (λ apart. rw (ne_eqb client other apart) (append-nil (recalls_of (lines client) ++ in_hand client hand)))

-- a line is changed by which none leaves
line_keeps : (client other : ℕ) (s : Standing) (lines : ℕ → Standing) (hand : Option Recall)
    → recalls_of (lines other) ≡ recalls_of s
    → (recalls_of (lines client) ++ in_hand client hand) ++ []
    ≡ recalls_of (changed other s lines client) ++ in_hand client hand
line_keeps client other s lines hand has =
    for_each (λ (n : ℕ). (recalls_of (lines n) ++ in_hand n hand) ++ []
    ≡ recalls_of (changed other s lines n) ++ in_hand n hand) client other
    (rw (eq-eqb other other refl)
    (append-nil (recalls_of (lines other) ++ in_hand other hand) ∙ ap (λ l. l ++ in_hand other hand) has))
    (λ apart. rw (ne_eqb client other apart) (append-nil (recalls_of (lines client) ++ in_hand client hand)))

-- the recall in `hand` joins its client's line
hand_joins : (client : ℕ) (recall : Recall) (lines : ℕ → Standing)
    → (recalls_of (lines client) ++ in_hand client (Some recall)) ++ []
    ≡ recalls_of (changed (client_of recall) (joined (errands.Recall recall) (lines (client_of recall))) lines client) ++ []
hand_joins client recall lines =
    let own = client_of recall in
    for_each (λ (n : ℕ). (recalls_of (lines n) ++ in_hand n (Some recall)) ++ []
    ≡ recalls_of (changed own (joined (errands.Recall recall) (lines own)) lines n) ++ []) client own
    (rw (eq-eqb own own refl) (ap (λ l. l ++ []) (sym (joined_has (errands.Recall recall) (lines own)))))
    (λ apart. rw (ne_eqb client own apart) (ap (λ l. l ++ []) (append-nil (recalls_of (lines client)))))

begun_has : (errand : Errand) (rest : List Errand) (result : Result Conversation ConnectError)
    → recalls_in (errand ∷ rest) ≡ recalls_of (begun errand rest result)
begun_has errand rest (Ok exchange) = first_has errand rest
begun_has errand rest (Err (errors.Fault fault)) = first_has errand rest
begun_has errand rest (Err errors.Refused) = refl

stage_has : (errand : Errand) (exchange : Conversation) (progress : Progress)
    → recalls_in (in_stage (stage_by errand exchange progress)) ≡ recalls_in (errand ∷ [])
stage_has errand exchange UnderWay = refl
stage_has errand exchange Stalled = refl
stage_has errand exchange (Ended reached) = refl

-- the recalls of a line that does this
doing_has : (s : Standing) (stage : Stage) → s.stage ≡ stage
    → recalls_of s ≡ recalls_in (in_stage stage) ++ recalls_in s.waiting
doing_has s stage is = ap (λ (t : Stage). recalls_in (in_stage t) ++ recalls_in s.waiting) is

-- what each step keeps
step_keeps : {S D : Type 0} (r : Rules S D) (client : ℕ) (old new : Scene S D) (step : Step) → IsStep r old step new
    → recalls_for client old ++ taken_by client step ≡ left_by client step ++ recalls_for client new
step_keeps r client old new (Takes recall) is =
    ap (λ h. (recalls_of (old.lines client) ++ in_hand client h) ++ if_of client (client_of recall) (recall ∷ [])) is.0
    ∙ ap (λ l. l ++ if_of client (client_of recall) (recall ∷ [])) (append-nil (recalls_of (old.lines client)))
    ∙ sym (ap (λ s. recalls_for client s) is.2)
step_keeps r client old new (Files recall) is =
    ap (λ h. (recalls_of (old.lines client) ++ in_hand client h) ++ []) is.0
    ∙ hand_joins client recall old.lines
    ∙ sym (ap (λ s. recalls_for client s) is.1)
step_keeps r client old new (Probes other callback) is =
    let errand = errands.Null callback in
    let has = sym (joined_has errand (old.lines other) ∙ append-nil (recalls_of (old.lines other))) in
    line_keeps client other (joined errand (old.lines other)) old.lines old.hand has
    ∙ sym (ap (λ s. recalls_for client s) is.3)
step_keeps r client old new (Begins other errand xid result) is =
    line_keeps client other (begun errand is.0 result) old.lines old.hand (ap recalls_of is.1 ∙ begun_has errand is.0 result)
    ∙ sym (ap (λ s. recalls_for client s) is.5)
step_keeps r client old new (Retries other) is =
    line_keeps client other (record (old.lines other) { stage = stages.Idle }) old.lines old.hand
    (doing_has (old.lines other) stages.Refused is.0)
    ∙ sym (ap (λ s. recalls_for client s) is.1)
step_keeps r client old new (Advances other errand talks progress) is =
    let has = doing_has (old.lines other) (stages.Calling errand is.0.before) is.0.was
    ∙ ap (λ l. l ++ recalls_in (old.lines other).waiting) (sym (stage_has errand is.0.after progress))
    ∙ sym (ap recalls_of is.0.is) in
    line_keeps client other (new.lines other) old.lines old.hand has
    ∙ sym (ap (λ s. recalls_for client s) is.1)
step_keeps r client old new (Drops other errand) is =
    line_loses client other (record { stage = stages.Idle; waiting = is.0 }) old.lines old.hand (recalls_in (errand ∷ []))
    (ap recalls_of is.1 ∙ first_has errand is.0)
    ∙ sym (ap (λ s. left_by client (Drops other errand) ++ recalls_for client s) is.3)
step_keeps r client old new (Stops other errand why) is =
    line_loses client other (record (old.lines other) { stage = stages.Idle }) old.lines old.hand (recalls_in (errand ∷ []))
    (doing_has (old.lines other) (stages.Calling errand is.0) is.1)
    ∙ sym (ap (λ s. left_by client (Stops other errand why) ++ recalls_for client s) is.5)
step_keeps r client old new (Settles other errand reached None) is =
    line_loses client other (record (old.lines other) { stage = stages.Idle }) old.lines old.hand (recalls_in (errand ∷ []))
    (doing_has (old.lines other) (stages.Owing errand reached) is.0)
    ∙ sym (ap (λ s. left_by client (Settles other errand reached None) ++ recalls_for client s) is.2)
step_keeps r client old new (Settles other errand reached (Some (Ok done))) is =
    line_loses client other (record (old.lines other) { stage = stages.Idle }) old.lines old.hand (recalls_in (errand ∷ []))
    (doing_has (old.lines other) (stages.Owing errand reached) is.0)
    ∙ sym (ap (λ s. left_by client (Settles other errand reached (Some (Ok done))) ++ recalls_for client s) is.2)
step_keeps r client old new (Settles other errand reached (Some (Err marks.Never))) is =
    line_loses client other (record (old.lines other) { stage = stages.Idle }) old.lines old.hand (recalls_in (errand ∷ []))
    (doing_has (old.lines other) (stages.Owing errand reached) is.0)
    ∙ sym (ap (λ s. left_by client (Settles other errand reached (Some (Err marks.Never))) ++ recalls_for client s) is.2)
step_keeps r client old new (Settles other errand reached (Some (Err marks.Later))) is =
    line_keeps client other (record (old.lines other) { stage = stages.Owing errand reached }) old.lines old.hand
    (doing_has (old.lines other) (stages.Owing errand reached) is.0)
    ∙ sym (ap (λ s. recalls_for client s) is.2)
step_keeps r client old new (Asks question) is =
    append-nil (recalls_for client old) ∙ sym (ap (λ s. recalls_for client s) is.2)
step_keeps r client old new (Notices other errand) is =
    append-nil (recalls_for client old) ∙ sym (ap (λ s. recalls_for client s) is.3)
step_keeps r client old new Looks is =
    append-nil (recalls_for client old) ∙ sym (ap (λ s. recalls_for client s) is.1)

pub Nothing-is-lost : {S D : Type 0} (r : Rules S D) → NothingIsLost r
Nothing-is-lost r client old new [] is =
    append-nil (recalls_for client old) ∙ sym (ap (λ s. recalls_for client s) is)
Nothing-is-lost r client old new (step ∷ steps) is =
    let came = taken_by client step in
    let come = flat_map (taken_by client) steps in
    let left = left_by client step in
    let leave = flat_map (left_by client) steps in
    sym (append_assoc (recalls_for client old) came come)
    ∙ ap (λ l. l ++ come) (step_keeps r client old is.0 step is.1)
    ∙ append_assoc left (recalls_for client is.0) come
    ∙ ap (λ l. left ++ l) (Nothing-is-lost r client is.0 new steps is.2)
    ∙ sym (append_assoc left leave (recalls_for client new))
