use Rattle.std.proofs.Common.{◌≡◌, ◌⊎◌, ◌+◌, ◌≤◌, ◌++◌, length, take}
use Rattle.std.specs.Prelude.{vec_capacity}
use Rattle.std.specs.List.{flat_map}
use Rattle.nfs_state.specs.EntryForm.{entry}
use Rattle.nfs_program.specs.declared.backlog.TheConstants.{PIECE_LEN}
use Rattle.nfs_program.proofs.backlog.Backlog.take.Given as goal

-- the entries so far were put, and are no more bytes than they may be
abbrev pub invariant-loop-entry : goal.invariant-loop-entry
invariant-loop-entry l = record {
  count : l.self.count ≡ l.fn.self.count + l.entry-index;
  bytes : l.self.bytes.items ≡ l.fn.self.bytes.items ++ flat_map entry.encoding (take l.entry-index l.piece);
  short : (l.entry-index ≤ 1) ⊎ (length l.self.bytes.items ≤ length l.fn.self.bytes.items + PIECE_LEN);
  room : vec_capacity l.fn.self.bytes ≤ vec_capacity l.self.bytes;
}
