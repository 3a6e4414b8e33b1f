-- What happens on the connections that carry callbacks.
use Rattle.std.specs.Prelude.{◌≡◌, ℕ, ◌≤◌, ◌⊎◌, List, [], ◌∷◌, ◌++◌, take, Result}
use Rattle.std.specs.declared.net.socket_addr.SocketAddrV4.{SocketAddrV4}
use Rattle.nfs_callbacks.specs.declared.fault.Fault.{Fault}
use Rattle.nfs_callbacks.specs.declared.flow.ConnectError.{ConnectError}
use Rattle.nfs_callbacks.specs.declared.flow.Moved.{Moved}
use Rattle.nfs_callbacks.specs.declared.flow.Moved.TheVariants.{Bytes, Blocked, Broken}

-- What happens on a connection: bytes go out, or come in, or it is found broken, for a reason.
pub data Talk : Type 0 where
  Sends : List ℕ → Talk
  Hears : List ℕ → Talk
  Breaks : Fault → Talk

-- What happens on a network, by the numbers of the clients.
pub data Traffic : Type 0 where
  Dials : ℕ → SocketAddrV4 → Result (Unit {0}) ConnectError → Traffic
  Talks : ℕ → Talk → Traffic
  Closes : ℕ → Traffic
  Waits : Traffic

-- no more than these went through
abbrev pub MovesWithin : ℕ → Moved → Type 0
MovesWithin len (Bytes n) = n ≤ len
MovesWithin len Blocked = Unit {0}
MovesWithin len (Broken fault) = Unit {0}

-- a write of these bytes that comes to this
abbrev pub sending : ℕ → List ℕ → Moved → Traffic
sending client bytes (Bytes n) = Talks client (Sends (take n bytes))
sending client bytes Blocked = Talks client (Sends [])
sending client bytes (Broken fault) = Talks client (Breaks fault)

-- a read that comes to this, with these bytes in its place then
abbrev pub hearing : ℕ → List ℕ → Moved → Traffic
hearing client place (Bytes n) = Talks client (Hears (take n place))
hearing client place Blocked = Talks client (Hears [])
hearing client place (Broken fault) = Talks client (Breaks fault)

-- all this happens on the connection to this client, one after the other
abbrev pub TalksTo : {D : Type 0} → (D → Traffic → D → Type 0) → ℕ → D → List Talk → D → Type 0
TalksTo carries client old [] new = new ≡ old
TalksTo {D = D} carries client old (talk ∷ talks) new =
    (mid : D) × carries old (Talks client talk) mid × TalksTo carries client mid talks new

-- the bytes that went out
abbrev pub sent_in : List Talk → List ℕ
sent_in [] = []
sent_in (Sends bytes ∷ talks) = bytes ++ sent_in talks
sent_in (Hears bytes ∷ talks) = sent_in talks
sent_in (Breaks fault ∷ talks) = sent_in talks

-- the bytes that came in
abbrev pub heard_in : List Talk → List ℕ
heard_in [] = []
heard_in (Sends bytes ∷ talks) = heard_in talks
heard_in (Hears bytes ∷ talks) = bytes ++ heard_in talks
heard_in (Breaks fault ∷ talks) = heard_in talks

-- the connection was found broken for this reason
abbrev pub HasBroken : Fault → List Talk → Type 0
HasBroken fault [] = ⊥
HasBroken fault (Sends bytes ∷ talks) = HasBroken fault talks
HasBroken fault (Hears bytes ∷ talks) = HasBroken fault talks
HasBroken fault (Breaks other ∷ talks) = (other ≡ fault) ⊎ HasBroken fault talks
