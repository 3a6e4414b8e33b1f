use Rattle.std.proofs.Common.{◌≡◌, ◌<◌, ◌≤◌, ◌++◌, ℕ, get_or, length, take}
use Rattle.std.specs.Prelude.{vec_capacity}
use Rattle.std.specs.List.{flat_map}
use Rattle.nfs_journal.proofs.file.write_each.Given as goal
use Rattle.nfs_state.specs.EntryForm.{entry}
use Rattle.nfs_state.specs.declared.entry.Entry.{Entry}

-- the entries so far are written at the end of the output, and they fit their form
abbrev pub invariant-loop-number : goal.invariant-loop-number
invariant-loop-number l = record {
  count : l.number-end ≡ length l.fn.journal.history.entries;
  items : l.out.items ≡ l.fn.out.items ++ flat_map entry.encoding (take l.number l.fn.journal.history.entries);
  room : vec_capacity l.fn.out ≤ vec_capacity l.out;
  fit : (k : ℕ) (d : Entry) → k < l.number → entry.Fits (get_or l.fn.journal.history.entries k d);
}
