use Rattle.std.proofs.Common.{Bool}
use Rattle.nfs_rows.specs.Rows.{AnswersAs}
use Rattle.nfs_owners.specs.declared.client_record.ClientRecord.{ClientRecord}
use Rattle.nfs_owners.proofs.LiveNumbers.{Walked}
use Rattle.nfs_owners.proofs.clients.records.Records.next_client.Given as goal

-- the least number so far is that of the records that were looked at
abbrev pub invariant-loop-record : goal.invariant-loop-record
invariant-loop-record g l = record {
  can : (goal.iterator-loop-record g).can_next l.record-iterator;
  finite : (goal.iterator-loop-record g).is_finite l.record-iterator;
  walked : (p : ClientRecord → Bool) → AnswersAs g.F.Fn l.test p → Walked p l.after l.self.records l.record-iterator l.next;
}
