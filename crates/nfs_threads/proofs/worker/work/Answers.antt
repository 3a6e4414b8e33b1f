use Rattle.nfs_threads.proofs.worker.work.Goals as goal

pub returns : goal.returns
returns g c = (
  record {
    desk = c.new-desk.result;
    begun = (c.new-desk.ensures.seat, c.new-desk.ensures.receipts);
    links' = c.serve_each-end.new.links;
    desk' = c.serve_each-end.new.desk;
    served = c.serve_each-end.ensures.connections;
    ended = (c.into_parts-seat.ensures.seat, c.into_parts-seat.ensures.receipts);
  },
  c.into_parts-seat.ensures.kept,
)
