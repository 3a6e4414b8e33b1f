-- A record that was answered, as an exchange.
use Rattle.std.proofs.Common.{◌≡◌, ℕ, List, [], ◌∷◌, ◌++◌, length, map, refl, ap, ◌∙◌}
use Rattle.nfs_rpc.specs.declared.rpc_call.RpcCall.TheVariants as calls
use Rattle.nfs_rpc.specs.declared.reply.CompoundReply.{CompoundReply}
use Rattle.nfs_rpc.specs.declared.reply.Reply.{Reply}
use Rattle.nfs_rpc.specs.declared.reply.Reply.TheVariants as replies
use Rattle.nfs_rpc.specs.RpcCall.{IsCall}
use Rattle.nfs_rpc.specs.Reply.{written_record, written_reply}
use Rattle.nfs_server.specs.Answering.{compound_outcome, compound_reply}
use Rattle.nfs_server.specs.Asking.{Asks, question_of}
use Rattle.nfs_server.specs.Exchange.{Exchange, Rules, IsExchanged, written_for}
use Rattle.nfs_xdr.specs.declared.compound.Compound.{Compound}
use Rattle.nfs_xdr.specs.declared.op_result.OpResult.{OpResult}
use Rattle.nfs_forms.specs.declared.principal.Principal.{Principal}

-- the message was answered, and these bytes are to be written for it
abbrev pub IsAnswered : {S C : Type 0} → Rules S C → S → C → List ℕ → List ℕ → S → C → Type 0
IsAnswered rules service clock message bytes service' clock' =
    (e : Exchange) × (e.message ≡ message) × IsExchanged rules service clock e service' clock'
    × (bytes ≡ written_for rules.export e)

-- what is to be written for the message is put behind that of others
pub answered_behind : {S C : Type 0} (rules : Rules S C) (service service' : S) (clock clock' : C) (message bytes : List ℕ) (old new : List (List ℕ)) (len : ℕ)
    → IsAnswered rules service clock message bytes service' clock' → new ≡ old ++ bytes ∷ [] → len ≡ length bytes
    → (e : Exchange) × (e.message ≡ message) × IsExchanged rules service clock e service' clock' × (new ≡ old ++ written_for rules.export e ∷ []) × (len ≡ length (written_for rules.export e))
answered_behind rules service service' clock clock' message bytes old new len one more counted =
    (one.0, one.1, one.2, more ∙ ap (λ (b : List ℕ). old ++ b ∷ []) one.3, counted ∙ ap (λ (b : List ℕ). length b) one.3)

pub answers_silence : {S C : Type 0} (rules : Rules S C) (service : S) (clock : C) (message bytes : List ℕ) → IsCall message calls.Silent → bytes ≡ [] → IsAnswered rules service clock message bytes service clock
answers_silence rules service clock message bytes call same =
    (record { message = message; call = calls.Silent; moment = 0; answers = [] }, refl, (service, call, refl, refl, refl), same)

pub answers_null : {S C : Type 0} (rules : Rules S C) (service : S) (clock : C) (message bytes : List ℕ) (xid : ℕ) → IsCall message (calls.Null xid) → bytes ≡ written_record (written_reply xid replies.Null) → IsAnswered rules service clock message bytes service clock
answers_null rules service clock message bytes xid call written =
    (record { message = message; call = calls.Null xid; moment = 0; answers = [] }, refl, (service, call, refl, refl, refl), written)

pub answers_alone : {S C : Type 0} (rules : Rules S C) (service : S) (clock : C) (message bytes : List ℕ) (xid : ℕ) (reply : Reply) → IsCall message (calls.Answer xid reply) → bytes ≡ written_record (written_reply xid reply) → IsAnswered rules service clock message bytes service clock
answers_alone rules service clock message bytes xid reply call written =
    (record { message = message; call = calls.Answer xid reply; moment = 0; answers = [] }, refl, (service, call, refl, refl, refl), written)

pub answers_compound : {S C : Type 0} (rules : Rules S C) (service ready service' : S) (clock clock' : C) (message bytes : List ℕ) (xid moment : ℕ) (principal : Principal) (compound : Compound) (reply : CompoundReply)
    → IsCall message (calls.Compound xid principal compound) → rules.alike service ready → rules.tells clock moment clock'
    → (answers : List OpResult) × Asks rules.gives ready (map (question_of moment principal) (compound_outcome rules.export compound answers).asked) answers service' × (reply ≡ compound_reply rules.export compound answers)
    → bytes ≡ written_record (written_reply xid (replies.Compound reply)) → IsAnswered rules service clock message bytes service' clock'
answers_compound rules service ready service' clock clock' message bytes xid moment principal compound reply call alike told asked written = (
  record { message = message; call = calls.Compound xid principal compound; moment = moment; answers = asked.0 },
  refl,
  (ready, call, alike, asked.1, told),
  written ∙ ap (λ (r : CompoundReply). written_record (written_reply xid (replies.Compound r))) asked.2,
)
