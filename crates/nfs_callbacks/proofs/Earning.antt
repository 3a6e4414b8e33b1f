-- A path is marked only by a call that is over.
use Rattle.std.proofs.Common.{◌≡◌, ℕ, List, [], ◌∷◌, ◌++◌, Option, Some, None, Result, Ok, Err, inl, inr, refl, sym, subst, ap, ◌∙◌, append_assoc}
use Rattle.std.proofs.lemmas.Bool.{cases_eq, eq-eqb, ne_eqb}
use Rattle.std.proofs.lemmas.List.{append-nil}
use Rattle.nfs_callbacks.specs.Accounts.{HasEnded, IsAmong, MarksAreEarned}
use Rattle.nfs_callbacks.specs.Callers.{idle}
use Rattle.nfs_callbacks.specs.Exchanges.{Conversation}
use Rattle.nfs_callbacks.specs.Lines.{Standing, changed, joined, stage_by}
use Rattle.nfs_callbacks.specs.Network.{Talk}
use Rattle.nfs_callbacks.specs.Steps.{Advances, Asks, Begins, Drops, Files, Goes, IsStep, Looks, Notices, Probes, Retries, Rules, Scene, Settles, Step, Stops, Takes, begun, client_of, settled}
use Rattle.nfs_callbacks.specs.declared.errand.Errand.{Errand}
use Rattle.nfs_callbacks.specs.declared.errand.Errand.TheVariants as errands
use Rattle.nfs_callbacks.specs.declared.exchange.Progress.{Progress}
use Rattle.nfs_callbacks.specs.declared.exchange.Progress.TheVariants.{UnderWay, Stalled, Ended}
use Rattle.nfs_callbacks.specs.declared.fault.Fault.{Fault}
use Rattle.nfs_callbacks.specs.declared.flow.ConnectError.{ConnectError}
use Rattle.nfs_callbacks.specs.declared.flow.ConnectError.TheVariants as errors
use Rattle.nfs_callbacks.specs.declared.line.Stage.{Stage}
use Rattle.nfs_callbacks.specs.declared.line.Stage.TheVariants as stages
use Rattle.nfs_callbacks.specs.declared.probe.MarkError.{MarkError}
use Rattle.nfs_callbacks.specs.declared.probe.MarkError.TheVariants as marks

-- each mark that a line owes is earned
abbrev Earned : {S D : Type 0} → List Step → Scene S D → Type 0
Earned past scene =
    (client : ℕ) (errand : Errand) (reached : Result (Unit {0}) Fault) → (scene.lines client).stage ≡ stages.Owing errand reached
    → HasEnded client errand reached past

among_before : (one : Step) (past : List Step) (step : Step) → IsAmong one past → IsAmong one (past ++ step ∷ [])
among_before one past step h =
    (h.0, h.1 ++ step ∷ [], ap (λ l. l ++ step ∷ []) h.2 ∙ append_assoc h.0 (one ∷ h.1) (step ∷ []))

ended_before : (client : ℕ) (errand : Errand) (reached : Result (Unit {0}) Fault) (past : List Step) (step : Step)
    → HasEnded client errand reached past → HasEnded client errand reached (past ++ step ∷ [])
ended_before client errand reached past step (inl h) =
    inl (h.0, among_before (Advances client errand h.0 (Ended reached)) past step h.1)
ended_before client errand reached past step (inr h) =
    inr (h.0, h.1, h.2, among_before (Begins client errand h.1 (Err (errors.Fault h.0))) past step h.3)

-- if a line is changed, what it does then is earned
line_earned : (client other : ℕ) (errand : Errand) (reached : Result (Unit {0}) Fault) (s : Standing) (lines : ℕ → Standing) (Q : Type 0)
    → (changed other s lines client).stage ≡ stages.Owing errand reached
    → (client ≡ other → s.stage ≡ stages.Owing errand reached → Q)
    → ((lines client).stage ≡ stages.Owing errand reached → Q) → Q
line_earned client other errand reached s lines Q is own others =
    elim (cases_eq client other) [
      | inl same ↦ let e = eq-eqb client other same in own same (rw e at is)
      | inr apart ↦ let e = ne_eqb client other apart in others (rw e at is)
    ]

-- a call that can't be begun has failed
by_fault : (client : ℕ) (errand other : Errand) (reached : Result (Unit {0}) Fault) (rest : List Errand) (xid : ℕ)
    (result : Result Conversation ConnectError) (past : List Step)
    → (begun other rest result).stage ≡ stages.Owing errand reached
    → HasEnded client errand reached (past ++ Begins client other xid result ∷ [])
by_fault client errand other reached rest xid (Ok exchange) past e = absurd (cc)
by_fault client errand other reached rest xid (Err (errors.Fault fault)) past e =
    let same : other ≡ errand = cc in
    let down : reached ≡ Err fault = cc in
    subst (λ (c : Errand). HasEnded client c reached (past ++ Begins client other xid (Err (errors.Fault fault)) ∷ [])) same
    (inr (fault, xid, down, (past, [], refl)))
by_fault client errand other reached rest xid (Err errors.Refused) past e = absurd (cc)

-- a call after which a path is to be marked was over so
by_end : (client : ℕ) (errand other : Errand) (reached : Result (Unit {0}) Fault) (exchange : Conversation) (talks : List Talk)
    (progress : Progress) (past : List Step) → stage_by other exchange progress ≡ stages.Owing errand reached
    → HasEnded client errand reached (past ++ Advances client other talks progress ∷ [])
by_end client errand other reached exchange talks UnderWay past e = absurd (cc)
by_end client errand other reached exchange talks Stalled past e = absurd (cc)
by_end client errand other reached exchange talks (Ended now) past e =
    let same : other ≡ errand = cc in
    let so : now ≡ reached = cc in
    subst (λ (b : Result (Unit {0}) Fault). HasEnded client errand b (past ++ Advances client other talks (Ended now) ∷ [])) so
    (subst (λ (c : Errand). HasEnded client c now (past ++ Advances client other talks (Ended now) ∷ [])) same
    (inl (talks, (past, [], refl))))

-- what a line owes still that owes after it told
still_owing : (errand other : Errand) (reached before : Result (Unit {0}) Fault)
    (told : Option (Result (Unit {0}) MarkError)) (stage : Stage) → stage ≡ stages.Owing other before
    → settled other before told ≡ stages.Owing errand reached → stage ≡ stages.Owing errand reached
still_owing errand other reached before None stage was e = absurd (cc)
still_owing errand other reached before (Some (Ok done)) stage was e = absurd (cc)
still_owing errand other reached before (Some (Err marks.Later)) stage was e = was ∙ e
still_owing errand other reached before (Some (Err marks.Never)) stage was e = absurd (cc)

step_earned : {S D : Type 0} (r : Rules S D) (past : List Step) (old new : Scene S D) (step : Step) → Earned past old
    → IsStep r old step new → Earned (past ++ step ∷ []) new
step_earned r past old new (Takes recall) h is client errand reached e =
    ended_before client errand reached past (Takes recall)
    (h client errand reached (ap (λ s. (s.lines client).stage) (sym is.2) ∙ e))
step_earned r past old new (Files recall) h is client errand reached e =
    ended_before client errand reached past (Files recall)
    (line_earned client (client_of recall) errand reached (joined (errands.Recall recall) (old.lines (client_of recall))) old.lines
    (HasEnded client errand reached past) (ap (λ s. (s.lines client).stage) (sym is.1) ∙ e)
    (λ same owes. h client errand reached (ap (λ n. (old.lines n).stage) same ∙ owes)) (h client errand reached))
step_earned r past old new (Probes other callback) h is client errand reached e =
    ended_before client errand reached past (Probes other callback)
    (line_earned client other errand reached (joined (errands.Null callback) (old.lines other)) old.lines
    (HasEnded client errand reached past) (ap (λ s. (s.lines client).stage) (sym is.3) ∙ e)
    (λ same owes. h client errand reached (ap (λ n. (old.lines n).stage) same ∙ owes)) (h client errand reached))
step_earned r past old new (Begins other call xid result) h is client errand reached e =
    line_earned client other errand reached (begun call is.0 result) old.lines
    (HasEnded client errand reached (past ++ Begins other call xid result ∷ []))
    (ap (λ s. (s.lines client).stage) (sym is.5) ∙ e)
    (λ same owes. subst (λ (n : ℕ). HasEnded client errand reached (past ++ Begins n call xid result ∷ [])) same
    (by_fault client errand call reached is.0 xid result past owes))
    (λ owes. ended_before client errand reached past (Begins other call xid result) (h client errand reached owes))
step_earned r past old new (Retries other) h is client errand reached e =
    ended_before client errand reached past (Retries other)
    (line_earned client other errand reached (record (old.lines other) { stage = stages.Idle }) old.lines
    (HasEnded client errand reached past) (ap (λ s. (s.lines client).stage) (sym is.1) ∙ e)
    (λ same owes. absurd (cc)) (h client errand reached))
step_earned r past old new (Advances other call talks progress) h is client errand reached e =
    line_earned client other errand reached (new.lines other) old.lines
    (HasEnded client errand reached (past ++ Advances other call talks progress ∷ []))
    (ap (λ s. (s.lines client).stage) (sym is.1) ∙ e)
    (λ same owes. subst (λ (n : ℕ). HasEnded client errand reached (past ++ Advances n call talks progress ∷ [])) same
    (by_end client errand call reached is.0.after talks progress past (ap (λ (s : Standing). s.stage) (sym is.0.is) ∙ owes)))
    (λ owes. ended_before client errand reached past (Advances other call talks progress) (h client errand reached owes))
step_earned r past old new (Drops other call) h is client errand reached e =
    ended_before client errand reached past (Drops other call)
    (line_earned client other errand reached (record { stage = stages.Idle; waiting = is.0 }) old.lines
    (HasEnded client errand reached past) (ap (λ s. (s.lines client).stage) (sym is.3) ∙ e)
    (λ same owes. absurd (cc)) (h client errand reached))
step_earned r past old new (Stops other call why) h is client errand reached e =
    ended_before client errand reached past (Stops other call why)
    (line_earned client other errand reached (record (old.lines other) { stage = stages.Idle }) old.lines
    (HasEnded client errand reached past) (ap (λ s. (s.lines client).stage) (sym is.5) ∙ e)
    (λ same owes. absurd (cc)) (h client errand reached))
step_earned r past old new (Settles other call before told) h is client errand reached e =
    ended_before client errand reached past (Settles other call before told)
    (line_earned client other errand reached (record (old.lines other) { stage = settled call before told }) old.lines
    (HasEnded client errand reached past) (ap (λ s. (s.lines client).stage) (sym is.2) ∙ e)
    (λ same owes. h client errand reached (ap (λ n. (old.lines n).stage) same
    ∙ still_owing errand call reached before told (old.lines other).stage is.0 owes))
    (h client errand reached))
step_earned r past old new (Asks question) h is client errand reached e =
    ended_before client errand reached past (Asks question)
    (h client errand reached (ap (λ s. (s.lines client).stage) (sym is.2) ∙ e))
step_earned r past old new (Notices other call) h is client errand reached e =
    ended_before client errand reached past (Notices other call)
    (h client errand reached (ap (λ s. (s.lines client).stage) (sym is.3) ∙ e))
step_earned r past old new Looks h is client errand reached e =
    ended_before client errand reached past Looks (h client errand reached (ap (λ s. (s.lines client).stage) (sym is.1) ∙ e))

earned_behind : {S D : Type 0} (r : Rules S D) (past before after : List Step) (old new : Scene S D) (client : ℕ)
    (errand : Errand) (reached : Result (Unit {0}) Fault) (told : Result (Unit {0}) MarkError) → Earned past old
    → Goes r old (before ++ Settles client errand reached (Some told) ∷ after) new → HasEnded client errand reached (past ++ before)
earned_behind r past [] after old new client errand reached told h goes =
    subst (λ l. HasEnded client errand reached l) (sym (append-nil past)) (h client errand reached goes.1.0)
earned_behind r past (step ∷ before) after old new client errand reached told h goes =
    subst (λ l. HasEnded client errand reached l) (append_assoc past (step ∷ []) before)
    (earned_behind r (past ++ step ∷ []) before after goes.0 new client errand reached told (step_earned r past old goes.0 step h goes.1) goes.2)

pub Marks-are-earned : {S D : Type 0} (r : Rules S D) → MarksAreEarned r
Marks-are-earned r source network new before after client errand reached told goes =
    earned_behind r [] before after (idle source network) new client errand reached told (λ other call before owes. absurd (cc)) goes
