use Rattle.std.proofs.Common.{◌≡◌, ◌++◌, length}
use Rattle.std.specs.Vec.Iter.{into_iter_items, into_iter_len}
use Rattle.nfs_core.specs.Server.{IsLawful}
use Rattle.nfs_journal.proofs.auditing.audit.Given as goal

abbrev pub invariant-loop-entry : goal.invariant-loop-entry
invariant-loop-entry l = record {
  parts : l.yielded ++ into_iter_items l.entry-iterator ≡ into_iter_items l.initial.entry-iterator;
  few : into_iter_len l.entry-iterator ≡ length (into_iter_items l.entry-iterator);
  journal : l.core.journal ≡ record l.fn.journal { entries = l.yielded };
  lawful : IsLawful l.core;
  place : l.number ≡ length l.yielded;
  taken : l.core.recalls.taken ≡ 0;
}
