-- The questions that a service is asked, and its answers.
use Rattle.std.specs.Prelude.{◌≡◌, ℕ, List, [], ◌∷◌}
use Rattle.nfs_forms.specs.declared.client_id.ClientId.{ClientId}
use Rattle.nfs_forms.specs.declared.principal.Principal.{Principal}
use Rattle.nfs_server.specs.Answering as asked
use Rattle.nfs_server.specs.Answering.{Asked}
use Rattle.nfs_state.specs.declared.request.Request.{Request}
use Rattle.nfs_state.specs.Entries.{request_of}
use Rattle.nfs_xdr.specs.declared.op_result.OpResult.{OpResult}

-- A question to a service: the request for an operation; or RENEW, that the lease of a client be renewed at this
-- moment.
pub data Question : Type 0 where
  Operation : Request → Question
  Renewal : ℕ → ClientId → Question

-- what a COMPOUND asks, as a question at this moment and of this principal
abbrev pub question_of : ℕ → Principal → Asked → Question
question_of moment principal (asked.Operation op filehandle) =
    Operation (request_of moment principal op filehandle)
question_of moment principal (asked.Renewal client) = Renewal moment client

-- Starting in the state old, the service may answer these questions in this way, one after the other, and be in the
-- state new after them. `gives` says this for one question.
abbrev pub Asks : {S : Type 0} → (S → Question → OpResult → S → Type 0)
    → S → List Question → List OpResult → S → Type 0
Asks gives old [] [] new = new ≡ old
Asks {S = S} gives old (question ∷ questions) (answer ∷ answers) new =
    (mid : S) × gives old question answer mid × Asks gives mid questions answers new
Asks gives old [] (answer ∷ answers) new = ⊥
Asks gives old (question ∷ questions) [] new = ⊥
