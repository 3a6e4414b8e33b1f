use Rattle.std.proofs.Common.{◌∙◌}
use Rattle.nfs_server.specs.laws.Writing.{goes_out}
use Rattle.nfs_server.proofs.connection.write_all.Goals as goal

pub loop-rest-preserved : goal.loop-rest-preserved
loop-rest-preserved g c = record {
  out = rw c.split_at.ensures.back
      (goes_out g.D.Duplex.device c.args.device.now c.loop-rest.device c.write.new.self c.args.bytes.now c.loop-rest.rest.now c.in_ok-taken.taken c.loop-rest.invariant.out c.in_ok-taken.ensures.takes);
  reads = c.in_ok-taken.ensures.reads ∙ c.loop-rest.invariant.reads;
  writes = c.in_ok-taken.ensures.ok ∙ c.loop-rest.invariant.writes;
}
