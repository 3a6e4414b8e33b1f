use Rattle.std.proofs.Common.{refl, rules}
use Rattle.nfs_threads.specs.Worker.{linking, stand}
use Rattle.nfs_threads.proofs.Each.{all_served, none_served, one_more_served}
use Rattle.nfs_threads.proofs.worker.serve_each.Goals as goal
use Rattle.nfs_server.specs.Serves.{served_by}

pub loop-preserved : goal.loop-preserved
loop-preserved g c = rw c.push_reserved.ensures.items (rw c.make_room.ensures.list (one_more_served (linking g.L.Links g.L.Device.Duplex g.L.Clock.Clock (served_by g.N.Naming.start))
    c.args.common.now.tree.now (stand c.args.links.now c.args.desk.now) c.loop.connections.items (stand c.loop.links c.loop.desk)
    (record { result = c.serve-result.result; first = c.count-first.result }) (stand c.next-in-loop.new.self c.serve-result.new.service) c.loop.invariant
    (record {
      device = c.in-Some-next.device;
      clock = c.in-Some-next.clock;
      opened = search (rules, c.in-Some-next.ensures.opens, c.in_ok-make_room.ensures.same);
      first = c.count-first.ensures;
      device' = c.serve-result.new.device;
      clock' = c.serve-result.new.clock;
      course = c.serve-result.ensures.course;
      read_failed = c.serve-result.ensures.read_failed;
      write_failed = c.serve-result.ensures.write_failed;
    })))

pub returns-in_err-make_room-clause-connections : goal.returns-in_err-make_room-clause-connections
returns-in_err-make_room-clause-connections g c = (
  stand c.loop.links c.loop.desk,
  rw c.make_room.ensures.list (all_served (linking g.L.Links g.L.Device.Duplex g.L.Clock.Clock (served_by g.N.Naming.start)) c.args.common.now.tree.now (stand c.args.links.now c.args.desk.now) c.loop.connections.items (stand c.loop.links c.loop.desk) c.loop.invariant),
  search rules,
  search rules,
)

pub returns-then-not-branch-clause-connections : goal.returns-then-not-branch-clause-connections
returns-then-not-branch-clause-connections g c = (
  stand c.loop.links c.loop.desk,
  rw c.make_room.ensures.list (all_served (linking g.L.Links g.L.Device.Duplex g.L.Clock.Clock (served_by g.N.Naming.start)) c.args.common.now.tree.now (stand c.args.links.now c.args.desk.now) c.loop.connections.items (stand c.loop.links c.loop.desk) c.loop.invariant),
  search rules,
  search rules,
)

pub returns-in_default-next-clause-connections : goal.returns-in_default-next-clause-connections
returns-in_default-next-clause-connections g c = (
  stand c.loop.links c.loop.desk,
  rw c.make_room.ensures.list (all_served (linking g.L.Links g.L.Device.Duplex g.L.Clock.Clock (served_by g.N.Naming.start)) c.args.common.now.tree.now (stand c.args.links.now c.args.desk.now) c.loop.connections.items (stand c.loop.links c.loop.desk) c.loop.invariant),
  search rules,
  search rules,
)

pub returns-then-refused-clause-connections : goal.returns-then-refused-clause-connections
returns-then-refused-clause-connections g c = (
  stand c.args.links.now c.args.desk.now,
  none_served (linking g.L.Links g.L.Device.Duplex g.L.Clock.Clock (served_by g.N.Naming.start)) c.args.common.now.tree.now (stand c.args.links.now c.args.desk.now) c.args.connections.now.items c.requires.empty,
  refl,
  refl,
)
