-- A record and how it is answered: what the service is asked, at which moment, and what is written.
use Rattle.std.specs.Prelude.{◌≡◌, ℕ, List, [], ◌∷◌, map, Option, Some, None}
use Rattle.std.specs.List.{flat_map}
use Rattle.nfs_forms.specs.declared.principal.Principal.{Principal}
use Rattle.nfs_forms.specs.declared.principal.Principal.TheVariants.{AuthNone}
use Rattle.nfs_rpc.specs.declared.rpc_call.RpcCall.{RpcCall}
use Rattle.nfs_rpc.specs.declared.rpc_call.RpcCall.TheVariants as calls
use Rattle.nfs_rpc.specs.RpcCall.{IsCall}
use Rattle.nfs_rpc.specs.Reply.{written_record}
use Rattle.nfs_server.specs.Answering.{asked, reply}
use Rattle.nfs_server.specs.Asking.{Asks, Question, question_of}
use Rattle.nfs_tree.specs.Exports.{Exported}
use Rattle.nfs_xdr.specs.declared.op_result.OpResult.{OpResult}

-- A record, the call in it, the moment that was read from the clock for it, and the service's answers.
pub record Exchange : Type 0 where
  pub message : List ℕ
  pub call : RpcCall
  pub moment : ℕ
  pub answers : List OpResult

-- What the answers to records depend on: the tree, its profile and the number of the run, how the service may answer,
-- which of its states are alike, and what the clock may show.
pub record Rules (S C : Type 0) : Type 1 where
  pub export : Exported
  pub gives : S → Question → OpResult → S → Type 0
  pub alike : S → S → Type 0
  pub tells : C → ℕ → C → Type 0

abbrev pub rules : {S C : Type 0} → Exported → (S → Question → OpResult → S → Type 0)
    → (S → S → Type 0) → (C → ℕ → C → Type 0) → Rules S C
rules export gives alike tells = record { export = export; gives = gives; alike = alike; tells = tells }

abbrev pub principal_of : RpcCall → Principal
principal_of (calls.Compound xid principal compound) = principal
principal_of call = AuthNone

-- the questions that the service is asked for the record
abbrev pub questions_of : Exported → Exchange → List Question
questions_of export e = map (question_of e.moment (principal_of e.call)) (asked export e.call e.answers)

-- what is written for the record: the reply as one record of one fragment, or nothing
abbrev pub written_or_nothing : Option (List ℕ) → List ℕ
written_or_nothing None = []
written_or_nothing (Some message) = written_record message

abbrev pub written_for : Exported → Exchange → List ℕ
written_for export e = written_or_nothing (reply export e.call e.answers)

-- The clock is read once for a COMPOUND, and not at all for other calls.
abbrev pub ReadsClock : {C : Type 0} → (C → ℕ → C → Type 0) → C → RpcCall → ℕ → C → Type 0
ReadsClock tells old (calls.Compound xid principal compound) moment new = tells old moment new
ReadsClock tells old call moment new = new ≡ old

-- For a COMPOUND room is made in the service, which stays alike. For other calls the service isn't called.
abbrev pub MakesRoom : {S : Type 0} → (S → S → Type 0) → S → RpcCall → S → Type 0
MakesRoom alike old (calls.Compound xid principal compound) new = alike old new
MakesRoom alike old call new = new ≡ old

-- A record was read as its call; room was made in the service, and then it was asked the questions of the call at that
-- moment, and gave the answers.
abbrev pub IsExchanged : {S C : Type 0} → Rules S C → S → C → Exchange → S → C → Type 0
IsExchanged {S = S} rules service clock e service' clock' =
    (ready : S) × IsCall e.message e.call
    × MakesRoom rules.alike service e.call ready
    × Asks rules.gives ready (questions_of rules.export e) e.answers service'
    × ReadsClock rules.tells clock e.call e.moment clock'

-- the exchanges follow one another
abbrev pub AreExchanged : {S C : Type 0} → Rules S C → S → C → List Exchange → S → C → Type 0
AreExchanged rules service clock [] service' clock' = (service' ≡ service) × (clock' ≡ clock)
AreExchanged {S = S} {C = C} rules service clock (e ∷ es) service' clock' =
    (s : S) × (c : C) × IsExchanged rules service clock e s c
    × AreExchanged rules s c es service' clock'

-- Messages are left without an answer. For the first of them room may have been made in the service, but nothing was
-- asked.
abbrev pub AreLeft : {S : Type 0} → (S → S → Type 0) → S → List (List ℕ) → S → Type 0
AreLeft alike old [] new = new ≡ old
AreLeft alike old (message ∷ messages) new = alike old new

abbrev pub messages_of : List Exchange → List (List ℕ)
messages_of es = map (λ e. e.message) es

abbrev pub written_for_all : Exported → List Exchange → List ℕ
written_for_all export es = flat_map (written_for export) es
