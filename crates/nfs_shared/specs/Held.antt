-- What the lock of the shared state guards, and what holds whenever the lock is free (`IsHeld`).
use Rattle.std.specs.Prelude.{◌≡◌, ℕ, ◌+◌, ◌≤◌, List, [], ◌∷◌, ◌++◌, Option, length, option_to_list}
use mathlib.Core.List.{IsPrefix}
use mathlib.Core.Logic.{◌⊎◌}
use Rattle.atomic_table.specs.Seated.{TableId}
use Rattle.atomic_table.specs.declared.shared.Seat as tokens
use Rattle.nfs_core.specs.Recalls.{AreLeftOf, AreRecallsOf, RecallsLeft}
use Rattle.nfs_core.specs.Safe.{IsSafe}
use Rattle.nfs_core.specs.Server.{IsLawful, Server}
use Rattle.nfs_leases.specs.BookOf.{IsBookOf}
use Rattle.nfs_rpc.specs.declared.recall.Recall.{Recall}
use Rattle.nfs_shared.specs.Deeds.{AreDeedsOf, RenewNone, keeper_deeds}
use Rattle.nfs_shared.specs.Naming.{start_of}
use Rattle.nfs_shared.specs.Receipts.{calls_in, others_in, receipts_of}
use Rattle.nfs_shared.specs.Roll.{IsOf, IsWriter, list_of}
use Rattle.nfs_shared.specs.Sender.{SenderView, with_known, with_mark}
use Rattle.nfs_shared.specs.Sweeper.{SweeperView}
use Rattle.nfs_shared.specs.declared.recall_queue.TheConstants.{CAPACITY}
use Rattle.nfs_shared.specs.declared.receipt.Receipt.{Receipt}
use Rattle.nfs_shared.specs.declared.roll.View.{View}
use Rattle.nfs_state.specs.State.{History}
use Rattle.nfs_state.specs.Stored.{meaning}
use Rattle.nfs_words.specs.Desk.{is_open_at, was_opened_at}
use Rattle.nfs_words.specs.Sitting.{Sitting}

pub record HeldView : Type 0 where
  -- the journal, and the state that is stored
  pub server : Server
  -- the keeper's seat at the lease words
  pub leases : Sitting
  -- for each call of the journal, in order, the place of the seat that it was made with
  pub places : List ℕ
  -- all receipts that were given, in order
  pub receipts : List Receipt
  -- the recalls that were put into the queue, in order, those that are known to be taken from it, and one that found no
  -- room there
  pub put : List Recall
  pub known_taken : List Recall
  pub hand : Option Recall

-- the recalls that wait for room in the queue: the one in hand, and then those that are left in the core
abbrev pub waiting : Option Recall → RecallsLeft → List Recall
waiting hand left = option_to_list hand ++ left.pending

-- Whenever the lock of the shared state is free, the state is what the rules give for its own stored journal from an
-- empty server; no two opens break each other's deny modes; no byte is held by two lock owners unless both read; no
-- write delegation stands beside another client's open or delegation; every stateid names a live owner.
pub record IsHeld (held : HeldView) : Type 0 where
  -- "the state is what the rules give for its own stored journal from an empty server": the journal that is stored
  -- leads to the state, entry by entry
  pub lawful : IsLawful held.server
  -- The rest of the sentence, and more: no open may do what another owner's open denies (`compatible`); no byte is held
  -- by two lock owners, unless both hold it for reading (`locks_compatible`); no write delegation stands beside another
  -- client's open or delegation, and no read delegation beside another client's open that may write or denies reading
  -- (`apart`), where a client has at most one delegation of a file (`one_delegation`); each open and each lock state is
  -- of a known owner of a live client (`known`, `live`, `lockers_known`, `lockers_live`), and each delegation is of a
  -- live client (`holders_live`): these three are what stateids name.
  pub safe : IsSafe (meaning held.server.stored)
  -- by what the keeper did, the leases that are open are those of the live clients; what others do to the words changes
  -- no part of this
  pub agrees :
      IsBookOf (is_open_at held.leases) (was_opened_at held.leases) held.leases.view.lease
      held.server
  -- The keeper's closings that were done are the ends of clients in the journal, its openings are those of the clients
  -- that became live by an entry, and its retirings those of the clients that were replaced, in one order.
  pub deeds :
      AreDeedsOf held.server.journal (meaning held.server.stored)
      (keeper_deeds held.leases.view.own)
  -- the keeper renews no lease: whoever does has a worker's seat
  pub renews_none : RenewNone held.leases.view.own
  -- the recalls that are left in the core are those of the journal without those that left it, which come first
  pub recalls : AreLeftOf held.server.journal held.server.recalls
  -- what was put into the queue, followed by what waits for room in it, are the recalls of the journal
  pub queued : AreRecallsOf held.server.journal (held.put ++ waiting held.hand held.server.recalls)
  -- what is known to be taken from the queue begins what was put there
  pub known : IsPrefix held.known_taken held.put
  -- the receipts are for the calls of the journal, each with its number and the place of its seat
  pub places : length held.places ≡ calls_in held.server.journal.entries
  pub receipts : held.receipts ≡ receipts_of 0 held.server.journal.entries held.places

-- the lock may guard this value, in a run with this start: it is one as the lock guards
pub record CanBeHeld (origin : History) (value : HeldView) : Type 0 where
  pub held : IsHeld value
  pub start : start_of value.server.journal ≡ origin

-- As far as the sender can tell, the lock may guard this value, in a run with this start: it is one as the lock guards,
-- what the sender took, and what it knows to be put, begins what was put into the queue, and no more entries came by
-- the sender than are no calls. All that the sender took is known to be taken.
pub record SenderMayFind (origin : History) (sender : SenderView) (value : HeldView) : Type 0 where
  pub held : IsHeld value
  pub start : start_of value.server.journal ≡ origin
  pub begins : IsPrefix sender.taken value.put
  pub known : IsPrefix sender.known_put value.put
  pub told : value.known_taken ≡ sender.taken
  pub count : sender.count ≤ others_in value.server.journal.entries

-- the sender found a value that the lock may guard, and knows since then all that this has put
abbrev pub HasLooked : History → SenderView → SenderView → Type 0
HasLooked origin old new =
    (value : HeldView) × SenderMayFind origin old value × (new ≡ with_known value.put old)

-- As far as the sweeper can tell, the lock may guard this value, in a run with this start: it is one as the lock
-- guards, and no more entries came by the sweeper than are no calls.
pub record SweeperMayFind (origin : History) (sweeper : SweeperView) (value : HeldView)
    : Type 0 where
  pub held : IsHeld value
  pub start : start_of value.server.journal ≡ origin
  pub count : sweeper.count ≤ others_in value.server.journal.entries

-- the sender finds the shared state, makes one entry, and counts it
abbrev pub HasMarked : History → SenderView → SenderView → Type 0
HasMarked origin old new =
    (looked : SenderView) × HasLooked origin old looked × (new ≡ with_mark looked)

-- what was put into the queue, what is known to be taken from it, and what is in hand stay
abbrev pub HasQueued : HeldView → HeldView → Type 0
HasQueued old new =
    (new.put ≡ old.put) × (new.known_taken ≡ old.known_taken) × (new.hand ≡ old.hand)

-- Recalls go from those that wait into the queue, in order, and all else stays.
pub record Moves (old new : HeldView) : Type 0 where
  pub others : new ≡ record old {
    server = record old.server { recalls = new.server.recalls };
    put = new.put;
    hand = new.hand;
  }
  pub recalls : new.put ++ waiting new.hand new.server.recalls
      ≡ old.put ++ waiting old.hand old.server.recalls
  pub put : IsPrefix old.put new.put

-- one recall more was put
abbrev pub HasOneMore : List Recall → List Recall → Type 0
HasOneMore old new = (recall : Recall) × (new ≡ old ++ recall ∷ [])

-- no recall waits, or at least as many recalls were put as the queue has room for, beside those that are known to be
-- taken
abbrev pub IsMoved : HeldView → Type 0
IsMoved held =
    (waiting held.hand held.server.recalls ≡ [])
    ⊎ (CAPACITY + length held.known_taken ≤ length held.put)

-- The token is the writer's of this run's roll, which is the roll that is kept, and the run's ledger has counted the
-- receipts.
pub record IsTied (table kept : TableId) (token : tokens.Seat Receipt View) (count : ℕ) : Type 0
  where
    pub roll : kept ≡ table
    pub writer : IsOf table token × IsWriter token
    pub total : count ≡ length (list_of token)
