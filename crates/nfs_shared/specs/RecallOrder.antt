-- The rule of the queue of recalls: what was put is what was taken and then what the queue holds. One pass at most may
-- put, and it knows all that was put. The same for taking. What any pass knows of either begins the whole.
use Rattle.std.specs.Prelude.{◌≡◌, ℕ, Bool, true, false, List, [], ◌++◌}
use mathlib.Core.List.{IsPrefix}
use mathlib.Core.Option.{some}
use lib.ListN.{get_elem?}
use Rattle.nfs_rpc.specs.declared.recall.Recall.{Recall}
use Rattle.nfs_shared.specs.declared.recall_queue.Log.{Log}

abbrev pub log : Bool → Bool → List Recall → List Recall → Log
log puts takes put taken = record {
  puts = puts;
  takes = takes;
  put = put;
  taken = taken;
  told_put = [];
  told_taken = [];
}

-- the view of the pass by which recalls are put, and of that by which they are taken
abbrev pub putter : List Recall → List Recall → Log
putter put taken = log true false put taken

abbrev pub taker : List Recall → List Recall → Log
taker put taken = log false true put taken

-- the view of a pass that may do neither
abbrev pub idle : Log
idle = log false false [] []

-- Two passes become one, which knows what each did, and beside that what each was told of the other.
abbrev pub united : Log → Log → Log
united putting taking = record {
  puts = true;
  takes = true;
  put = putting.put;
  taken = taking.taken;
  told_put = taking.put;
  told_taken = putting.taken;
}

-- all that the pass knows to be put, or taken, begins what was
pub record KnowsBeginnings (put taken : List Recall) (v : Log) : Type 0 where
  pub of_put : IsPrefix v.put put
  pub of_taken : IsPrefix v.taken taken
  pub of_told_put : IsPrefix v.told_put put
  pub of_told_taken : IsPrefix v.told_taken taken

abbrev pub Fits : ℕ → ℕ → List Recall → List Recall → ℕ → Log → Type 0
Fits writer reader put taken port v =
    (v.puts ≡ true → (port ≡ writer) × (v.put ≡ put))
    × (v.takes ≡ true → (port ≡ reader) × (v.taken ≡ taken))
    × KnowsBeginnings put taken v

abbrev pub Relayed : List Recall → List Log → Type 0
Relayed items views =
    (writer : ℕ) × (reader : ℕ) × (put : List Recall) × (taken : List Recall) × (put ≡ taken ++ items)
    × ((port : ℕ) (v : Log) → get_elem? views port ≡ some v → Fits writer reader put taken port v)
