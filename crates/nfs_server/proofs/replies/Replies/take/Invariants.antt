use Rattle.std.proofs.Common.{◌≡◌, ◌≤◌, ◌++◌, length}
use Rattle.std.specs.List.{AllByRecursion}
use Rattle.nfs_rpc.specs.declared.records.TheConstants.{RECORD_LIMIT}
use Rattle.nfs_server.specs.Batch.{messages_in}
use Rattle.nfs_server.proofs.replies.Replies.take.Given as goal

-- no record is lost: those that were ready are pending now, or still ready
abbrev pub invariant-loop-records : goal.invariant-loop-records
invariant-loop-records l = record {
  left : messages_in l.fn.self.pending.items ++ l.fn.records.ready ≡ messages_in l.self.pending.items ++ l.records.ready;
  gathered : l.self.gathered.items ≡ l.fn.self.gathered.items;
  answered : l.self.answered.items ≡ l.fn.self.answered.items;
  limits : AllByRecursion (λ message. length message ≤ RECORD_LIMIT) l.records.ready;
  same : l.records ≡ record l.fn.records { ready = l.records.ready };
}

abbrev pub decreases-loop-records : goal.decreases-loop-records
decreases-loop-records l = length l.records.ready
