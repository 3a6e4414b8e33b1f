-- Answering calls that were read, in batches; used only in the contracts of this crate's own functions.
use Rattle.std.specs.Prelude.{◌≡◌, ◌+◌, ℕ, Bool, false, ◌&&◌, nat_le, List, [], ◌∷◌, ◌++◌, length, map}
use Rattle.std.specs.List.{flat_map}
use Rattle.nfs_rpc.specs.declared.rpc_call.RpcCall.{RpcCall}
use Rattle.nfs_rpc.specs.declared.rpc_call.RpcCall.TheVariants as calls
use Rattle.nfs_server.specs.Answering.{operations_of}
use Rattle.nfs_server.specs.Exchange.{Exchange, Rules, AreExchanged, AreLeft, messages_of, written_for_all}
use Rattle.nfs_server.specs.PendingCall.{PendingView}
use Rattle.nfs_server.specs.declared.replies.TheConstants.{BATCH_QUESTIONS, GATHER_LIMIT}

-- the records of the calls
abbrev pub messages_in : List PendingView → List (List ℕ)
messages_in pending = map (λ p. p.message) pending

-- the replies that wait: those that were gathered, and then those to the calls that were answered
abbrev pub waiting_bytes : List ℕ → List (List ℕ) → List ℕ
waiting_bytes gathered answered = gathered ++ flat_map (λ reply. reply) answered

-- how many questions a call may ask
abbrev pub questions_in : RpcCall → ℕ
questions_in (calls.Compound xid principal c) = length (operations_of c.request)
questions_in call = 0

-- Whether a batch in which so many questions were asked goes on with the first of these calls, where so many bytes of
-- replies wait.
abbrev pub goes_on : List PendingView → ℕ → ℕ → Bool
goes_on [] asked waiting = false
goes_on (p ∷ pending) asked waiting =
    nat_le waiting GATHER_LIMIT && nat_le (asked + questions_in p.call) BATCH_QUESTIONS

-- A moment of answering: the service, the clock, the replies that wait to be written, and the records that are left.
pub record Gathering (S C : Type 0) : Type 0 where
  pub service : S
  pub clock : C
  pub gathered : List ℕ
  pub left : List (List ℕ)

abbrev pub gathering : {S C : Type 0} → S → C → List ℕ → List (List ℕ) → Gathering S C
gathering service clock gathered left =
    record { service = service; clock = clock; gathered = gathered; left = left }

-- The first of the records were answered, in their order, and their replies were added after those that waited. Then
-- there was no room for answering these, if there are any, and the others are left.
pub record AreAnswered {S C : Type 0} (rules : Rules S C) (before : Gathering S C)
    (refused : List (List ℕ)) (after : Gathering S C) : Type 0 where
  pub exchanges : List Exchange
  pub service : S
  pub served : before.left ≡ messages_of exchanges ++ (refused ++ after.left)
  pub exchanged : AreExchanged rules before.service before.clock exchanges service after.clock
  pub stays : AreLeft rules.alike service refused after.service
  pub written : after.gathered ≡ before.gathered ++ written_for_all rules.export exchanges
