use Rattle.std.proofs.Common.{◌≡◌, ◌≤◌, ◌++◌, [], length}
use Rattle.std.specs.List.{AllByRecursion}
use Rattle.nfs_rpc.specs.declared.records.TheConstants.{RECORD_LIMIT}
use Rattle.nfs_server.specs.Batch.{messages_in}
use Rattle.nfs_server.specs.Connection.{scene}
use Rattle.nfs_server.specs.Exchange.{rules}
use Rattle.nfs_server.specs.declared.replies.TheConstants.{GATHER_LIMIT}
use Rattle.nfs_server.proofs.Serving.{HasServed}
use Rattle.nfs_server.proofs.connection.serve_ready.Given as goal
use Rattle.nfs_tree.specs.Exports.{export_seen}

-- the records so far were answered, and the remaining ones are pending or still ready
abbrev pub invariant-loop-device : goal.invariant-loop-device
invariant-loop-device g l = record {
  served : HasServed g.D.Duplex.device (rules (export_seen l.fn.export) g.S.Service.gives g.S.Service.alike g.C.Clock.tells) (scene l.fn.device l.fn.service l.fn.clock) l.fn.records.ready (messages_in l.replies.pending.items ++ l.records.ready) l.replies.gathered.items (scene l.device l.service l.clock);
  limits : AllByRecursion (λ message. length message ≤ RECORD_LIMIT) l.records.ready;
  same : l.records ≡ record l.fn.records { ready = l.records.ready };
  within : length l.replies.gathered.items ≤ GATHER_LIMIT;
  written : l.replies.answered.items ≡ [];
  serves : g.S.Service.serves l.service ≡ export_seen l.fn.export;
  reads : g.D.Duplex.read_failures l.device ≡ g.D.Duplex.read_failures l.fn.device;
  writes : g.D.Duplex.write_failures l.device ≡ g.D.Duplex.write_failures l.fn.device;
}

abbrev pub decreases-loop-device : goal.decreases-loop-device
decreases-loop-device g l = length (messages_in l.replies.pending.items ++ l.records.ready)
