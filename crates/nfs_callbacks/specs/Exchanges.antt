-- The connection of a callback: what goes out of the call, and what the bytes that come in say.
use Rattle.std.specs.Prelude.{◌≡◌, ℕ, ◌^◌, ◌-◌, ◌<◌, ◌≤◌, ◌⊎◌, Bool, false, List, [], ◌∷◌, ◌++◌, length, take, bit_and, Result, Ok, Err}
use Rattle.std.specs.declared.net.socket_addr.SocketAddrV4.{SocketAddrV4}
use Rattle.std.specs.Int.{from_be_bytes, w32}
use Rattle.nfs_callbacks.specs.Errands.{call_of, callback_of, is_compound}
use Rattle.nfs_callbacks.specs.Faults.{IsAnswer}
use Rattle.nfs_callbacks.specs.Network.{Dials, HasBroken, Talk, TalksTo, Traffic, heard_in, sent_in}
use Rattle.nfs_callbacks.specs.declared.errand.Errand.{Errand}
use Rattle.nfs_callbacks.specs.declared.exchange.Flow.{Flow}
use Rattle.nfs_callbacks.specs.declared.exchange.Flow.TheVariants as flows
use Rattle.nfs_callbacks.specs.declared.exchange.Progress.{Progress}
use Rattle.nfs_callbacks.specs.declared.exchange.Progress.TheVariants.{UnderWay, Stalled, Ended}
use Rattle.nfs_callbacks.specs.declared.exchange.TheConstants.{PLACE_LEN}
use Rattle.nfs_callbacks.specs.declared.exchange.Verdict.{Verdict}
use Rattle.nfs_callbacks.specs.declared.exchange.Verdict.TheVariants as verdicts
use Rattle.nfs_callbacks.specs.declared.fault.Fault.{Fault}
use Rattle.nfs_callbacks.specs.declared.fault.Fault.TheVariants as faults
use Rattle.nfs_callbacks.specs.declared.flow.ConnectError.{ConnectError}
use Rattle.nfs_callbacks.specs.declared.flow.ConnectError.TheVariants as errors
use Rattle.nfs_rpc.specs.Records.{Splits}
use Rattle.nfs_rpc.specs.UniversalAddress.{Names}

-- An exchange: the call's xid, and whether it is a CB_COMPOUND; what is still to go out of its record; the bytes that
-- came in; and whether the exchange has to go on in the next look, whatever the connection tells.
pub record Conversation : Type 0 where
  pub xid : ℕ
  pub is_compound : Bool
  pub unsent : List ℕ
  pub reply : List ℕ
  pub is_stalled : Bool

-- the exchange that begins with this call
abbrev pub beginning : ℕ → Errand → Conversation
beginning xid errand = record {
  xid = xid;
  is_compound = is_compound errand;
  unsent = call_of xid errand;
  reply = [];
  is_stalled = false;
}

-- The address is that of the call's callback, and connecting to it came to this.
abbrev pub IsDialed : {D : Type 0} → (D → Traffic → D → Type 0) → ℕ → Errand → Result (Unit {0}) ConnectError → D → D
    → Type 0
IsDialed carries client errand result old new =
    (address : SocketAddrV4) × Names (callback_of errand).address address
    × carries old (Dials client address result) new

-- How the exchange of this call begins. It is a fault of the client if its address names no socket, or if the socket
-- can't be connected to; it is refused if memory is, or a socket.
abbrev pub IsBegun : {D : Type 0} → (D → Traffic → D → Type 0) → ℕ → Errand → ℕ → Result Conversation ConnectError → D
    → D → Type 0
IsBegun carries client errand xid (Ok exchange) old new =
    (exchange ≡ beginning xid errand) × IsDialed carries client errand (Ok tt) old new
IsBegun carries client errand xid (Err (errors.Fault fault)) old new =
    ((fault ≡ faults.NoAddress) × ((address : SocketAddrV4) → Names (callback_of errand).address address → ⊥)
    × (new ≡ old))
    ⊎ IsDialed carries client errand (Err (errors.Fault fault)) old new
IsBegun carries client errand xid (Err errors.Refused) old new =
    (new ≡ old) ⊎ IsDialed carries client errand (Err errors.Refused) old new

-- This went out and came in: what went out is the front of what was to go out, and what came in follows what had come
-- in before.
pub record GoesOn (old : Conversation) (talks : List Talk) (new : Conversation) : Type 0 where
  pub xid : new.xid ≡ old.xid
  pub compound : new.is_compound ≡ old.is_compound
  pub sent : old.unsent ≡ sent_in talks ++ new.unsent
  pub heard : new.reply ≡ old.reply ++ heard_in talks

-- the exchange goes on by what happens on the connection to its client
pub record GoesOnBy {D : Type 0} (carries : D → Traffic → D → Type 0) (client : ℕ) (network : D) (old : Conversation)
    (talks : List Talk) (network' : D) (new : Conversation) : Type 0 where
  pub talk : TalksTo carries client network talks network'
  pub goes : GoesOn old talks new

-- the first record of these bytes is this message
abbrev pub HasReply : List ℕ → List ℕ → Type 0
HasReply bytes message = (others : List (List ℕ)) × (rest : List ℕ) × Splits bytes (message ∷ others) rest

-- no record is whole
abbrev pub HasNoReply : List ℕ → Type 0
HasNoReply bytes = (message : List ℕ) → HasReply bytes message → ⊥

-- What the bytes that came in say of a call: the reply is their first record. If memory was refused, nothing is
-- known.
abbrev pub IsVerdict : Bool → ℕ → List ℕ → Verdict → Type 0
IsVerdict compound xid bytes (verdicts.Reply answer) =
    (message : List ℕ) × HasReply bytes message × IsAnswer compound xid message answer
    × ((other : List ℕ) → HasReply bytes other → other ≡ message)
IsVerdict compound xid bytes verdicts.Unfinished = HasNoReply bytes
IsVerdict compound xid bytes verdicts.Memory = Unit {0}

-- the header of the first fragment is whole, and tells of more bytes than there is a place for
abbrev pub HasLongFragment : List ℕ → Type 0
HasLongFragment bytes =
    (4 ≤ length bytes) × (PLACE_LEN < bit_and (from_be_bytes w32 (take 4 bytes)) (2 ^ 31 - 1))

-- as many bytes came as there is a place for, or the first fragment is longer than that
abbrev pub IsTooLong : List ℕ → Type 0
IsTooLong bytes = (PLACE_LEN ≤ length bytes) ⊎ HasLongFragment bytes

-- What a flow says of what went out and came in: if it is broken, the connection was found so, for this reason; if
-- that of the bytes that come in is over, they are too many.
abbrev pub SaysOut : List Talk → Flow → Type 0
SaysOut talks (flows.Broken fault) = HasBroken fault talks
SaysOut talks flows.Open = Unit {0}
SaysOut talks flows.Blocked = Unit {0}
SaysOut talks flows.Over = Unit {0}

abbrev pub SaysIn : List Talk → List ℕ → Flow → Type 0
SaysIn talks reply (flows.Broken fault) = HasBroken fault talks
SaysIn talks reply flows.Over = IsTooLong reply
SaysIn talks reply flows.Open = Unit {0}
SaysIn talks reply flows.Blocked = Unit {0}

-- For this reason no reply is waited for: a flow is broken, or too much came in.
abbrev pub IsGivenUp : Flow → Flow → Fault → Type 0
IsGivenUp sent heard fault =
    (sent ≡ flows.Broken fault) ⊎ ((heard ≡ flows.Broken fault) ⊎ ((heard ≡ flows.Over) × (fault ≡ faults.TooLong)))

-- What becomes of an exchange by what the bytes say: a reply ends it. Without a reply it fails only if none is waited
-- for any more.
abbrev pub ComesTo : Verdict → Flow → Flow → Progress → Type 0
ComesTo (verdicts.Reply answer) sent heard progress = progress ≡ Ended answer
ComesTo verdicts.Unfinished sent heard UnderWay = Unit {0}
ComesTo verdicts.Unfinished sent heard Stalled = Unit {0}
ComesTo verdicts.Unfinished sent heard (Ended (Ok done)) = ⊥
ComesTo verdicts.Unfinished sent heard (Ended (Err fault)) = IsGivenUp sent heard fault
ComesTo verdicts.Memory sent heard progress = progress ≡ Stalled

-- Why a call has failed: there is a reply, which doesn't accept the call, and says this; or there is none, and the
-- connection was found broken for this reason, or too much came.
abbrev pub HasFailed : Bool → ℕ → List ℕ → List Talk → Fault → Type 0
HasFailed compound xid bytes talks fault =
    ((message : List ℕ) × HasReply bytes message × IsAnswer compound xid message (Err fault))
    ⊎ (HasNoReply bytes × (HasBroken fault talks ⊎ (IsTooLong bytes × (fault ≡ faults.TooLong))))

-- How far the exchange of this call is by these bytes. It ends well only by a reply that accepts the call, and badly
-- only for its reason. While it is under way there is no reply.
abbrev pub IsOutcome : Bool → ℕ → List ℕ → List Talk → Progress → Type 0
IsOutcome compound xid bytes talks UnderWay = HasNoReply bytes
IsOutcome compound xid bytes talks Stalled = Unit {0}
IsOutcome compound xid bytes talks (Ended (Ok done)) =
    (message : List ℕ) × HasReply bytes message × IsAnswer compound xid message (Ok done)
IsOutcome compound xid bytes talks (Ended (Err fault)) = HasFailed compound xid bytes talks fault

-- how far an exchange is, after what went out and came in last
abbrev pub HasCome : Conversation → List Talk → Progress → Type 0
HasCome c talks progress = IsOutcome c.is_compound c.xid c.reply talks progress
