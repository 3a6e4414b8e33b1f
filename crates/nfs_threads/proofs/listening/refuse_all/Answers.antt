use Rattle.std.proofs.Common.{rules}
use Rattle.std.specs.Vec.Iter.{into_iter_items}
use Rattle.nfs_threads.proofs.Shifts.{is_refused, one_more_end}
use Rattle.nfs_threads.proofs.Rest.{unused_rest}
use Rattle.nfs_server.specs.Serves.{served_by}
use Rattle.nfs_threads.specs.Links.{tcp}
use Rattle.nfs_threads.proofs.listening.refuse_all.Goals as goal

pub loop-seat-preserved : goal.loop-seat-preserved
loop-seat-preserved g c =
    let link = c.in-Some.field-0-0 in
    let seat = c.in-Some.seat in
    let rest = unused_rest (into_iter_items c.loop-seat.seat-iterator) (into_iter_items c.next.new.self) (link, seat) c.in-Some.ensures.steps.0 c.loop-seat.invariant.unused in record {
      can = tt;
      finite = tt;
      room = search rules;
      unused = rest.1;
      ends = rw c.push_reserved.ensures.items (one_more_end (tcp (served_by g.N.Naming.start)) c.args.tree.now c.loop-seat.yielded c.loop-seat.all.items (link, seat) _ c.loop-seat.invariant.ends
          (is_refused (tcp (served_by g.N.Naming.start)) c.args.tree.now link seat c.without_connections.result rest.0 c.without_connections.ensures.connections c.without_connections.ensures.end c.without_connections.ensures.seat c.without_connections.ensures.receipts));
    }
