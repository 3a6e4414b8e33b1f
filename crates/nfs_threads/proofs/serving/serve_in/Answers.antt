use Rattle.std.proofs.Common.{List, length, rules, ap, arith}
use Rattle.std.specs.Vec.Iter.{into_iter_items}
use Rattle.nfs_threads.specs.Worker.{linking}
use Rattle.nfs_threads.proofs.Rest.{unused_rest}
use Rattle.nfs_threads.proofs.Workers.{all_begun, one_more_begun}
use Rattle.nfs_threads.proofs.serving.serve_in.Goals as goal
use Rattle.nfs_server.specs.Serves.{served_by}

pub begin-requires-clause-unused : goal.begin-requires-clause-unused
begin-requires-clause-unused g c κs lives =
    (unused_rest (into_iter_items c.loop-link.link-iterator) (into_iter_items c.next.new.self) (c.in-Some.link, c.in-Some.seat) c.in-Some.ensures.steps.0 c.loop-link.invariant.unused).0

pub loop-link-preserved : goal.loop-link-preserved
loop-link-preserved g c =
    let steps = c.in-Some.ensures.steps in record {
      can = tt;
      finite = tt;
      flags = search rules;
      tree = c.requires.tree;
      unused = (unused_rest (into_iter_items c.loop-link.link-iterator) (into_iter_items c.next.new.self) (c.in-Some.link, c.in-Some.seat) steps.0 c.loop-link.invariant.unused).1;
      count = omega (arith, c.loop-link.invariant.count, ap (λ (l : List _). length l) steps.0, steps.1);
      all = search rules;
      room = search rules;
      completes = rw c.push_reserved.ensures.items (one_more_begun (linking g.L.Links g.L.Device.Duplex g.L.Clock.Clock (served_by g.N.Naming.start)) c.args.common.now.tree.now
          c.args.links.items (into_iter_items c.loop-link.link-iterator) (into_iter_items c.next.new.self) (c.in-Some.link, c.in-Some.seat) c.loop-link.workers.items c.begin.result
          steps.0 c.loop-link.invariant.completes c.begin.ensures);
    }

pub returns-clause-ends : goal.returns-clause-ends
returns-clause-ends g c =
    c.finish_all.ensures c.args.common.now.tree.now c.args.links.items
    (all_begun (linking g.L.Links g.L.Device.Duplex g.L.Clock.Clock (served_by g.N.Naming.start)) c.args.common.now.tree.now
    c.args.links.items (into_iter_items c.loop-link.link-iterator) c.loop-link.workers.items c.loop-link.invariant.completes (omega (arith, c.loop-link.invariant.count, c.in-None.ensures.steps.0)))
