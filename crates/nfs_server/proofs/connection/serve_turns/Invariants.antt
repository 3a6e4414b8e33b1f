use Rattle.std.proofs.Common.{◌≡◌, ◌-◌, ◌^◌, [], length, false}
use Rattle.nfs_rpc.specs.Records.{IsStream}
use Rattle.nfs_server.specs.declared.connection.TheConstants.{PIECE_LEN}
use Rattle.nfs_server.specs.Connection.{scene}
use Rattle.nfs_server.specs.Exchange.{rules}
use Rattle.nfs_server.proofs.Courses.{IsUnderWay}
use Rattle.nfs_server.proofs.connection.serve_turns.Given as goal
use Rattle.nfs_tree.specs.Exports.{export_seen}

-- all turns so far are complete
abbrev pub invariant-loop-records : goal.invariant-loop-records
invariant-loop-records g l = record {
  under_way : IsUnderWay g.D.Duplex.device (rules (export_seen l.fn.export) g.S.Service.gives g.S.Service.alike g.C.Clock.tells) (scene l.fn.device l.fn.service l.fn.clock) l.records (scene l.device l.service l.clock);
  sound : IsStream l.records;
  goes : l.records.is_too_long ≡ false;
  room : length l.buffer ≡ PIECE_LEN;
  idle : l.replies.gathered.items ≡ [];
  none : l.replies.pending.items ≡ [];
  written : l.replies.answered.items ≡ [];
  serves : g.S.Service.serves l.service ≡ export_seen l.fn.export;
  reads : g.D.Duplex.read_failures l.device ≡ g.D.Duplex.read_failures l.fn.device;
  writes : g.D.Duplex.write_failures l.device ≡ g.D.Duplex.write_failures l.fn.device;
}

abbrev pub decreases-loop-records : goal.decreases-loop-records
decreases-loop-records g l = 2 ^ 40 - l.records.fed
