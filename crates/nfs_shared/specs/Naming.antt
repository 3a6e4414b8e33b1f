-- What names a run of threads.
use Rattle.std.specs.Prelude.{◌≡◌, ℕ, [], IsFalse}
use Rattle.atomic_table.specs.Seated.{TableId}
use Rattle.nfs_core.specs.Server.{Server}
use Rattle.nfs_owners.specs.Registry.{is_live}
use Rattle.nfs_state.specs.State.{History}
use Rattle.nfs_tree.specs.declared.policy.Callbacks.TheVariants.{Probe}
use Rattle.nfs_tree.specs.declared.policy.CloseLocks.TheVariants.{Free}
use Rattle.nfs_tree.specs.declared.policy.Delegations.TheVariants.{All}
use Rattle.nfs_tree.specs.declared.profile.Profile.TheVariants.{Plain}
use Rattle.nfs_words.specs.Sitting.{Words}

-- what a run of threads is known by
pub record OpenedView : Type 0 where
  -- the roll of receipts
  pub roll : TableId
  -- the name of the ledger of receipts, and how many workers there are, each of which has a part of it
  pub receipt_ledger : ℕ
  pub workers : ℕ
  -- the name of the ledger of the entries that are no calls
  pub other_ledger : ℕ
  -- the queue of recalls
  pub queue : TableId
  -- the lease words, and how long a lease lasts
  pub words : Words

-- what the server was started with: the journal without its entries
abbrev pub start_of : History → History
start_of journal = record journal { entries = [] }

-- A run of this name, with this start, can begin with what was opened and with this core: these are what the name
-- stands for, the leases last as long as the journal says, the journal is empty, and no client is live.
pub record CanBegin (name : OpenedView) (origin : History) (opened : OpenedView) (core : Server)
    : Type 0 where
  pub run : opened ≡ name
  pub start : start_of core.journal ≡ origin
  pub lease : opened.words.lease ≡ core.journal.lease
  pub empty : core.journal.entries ≡ []
  pub nobody : (number : ℕ) → IsFalse (is_live number core.stored.clients)

-- the table that stands where none is named
abbrev pub no_table : TableId
no_table = record {
  words = 0;
  slots = 0;
  views_name = 0;
  atom = 0;
  block = 0;
  offset = 0;
  slot_names = [];
}

-- the run and the start that stand where none is named
abbrev pub no_run : OpenedView
no_run = record {
  roll = no_table;
  receipt_ledger = 0;
  workers = 0;
  other_ledger = 0;
  queue = no_table;
  words = record { table = no_table; lease = 0 };
}

abbrev pub no_start : History
no_start = record {
  nodes = [];
  epoch = 0;
  lease = 0;
  policy = record {
    delegations = All;
    callbacks = Probe;
    close_locks = Free;
    profile = Plain;
  };
  entries = [];
}
