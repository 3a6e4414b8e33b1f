use Rattle.std.proofs.Common.{◌≡◌, ◌+◌, ◌≤◌, map, vec_capacity, vec_len}
use Rattle.std.specs.Vec.Iter.{into_iter_len}
use Rattle.nfs_threads.specs.Worker.{receipts_back, seats_back}
use Rattle.nfs_threads.proofs.worker_end.WorkerEnd.split.Given as goal

abbrev pub invariant-loop-end : goal.invariant-loop-end
invariant-loop-end g l = record {
  can : (goal.iterator-loop-end g).can_next l.end-iterator;
  finite : (goal.iterator-loop-end g).is_finite l.end-iterator;
  for_shifts : vec_len l.shifts + into_iter_len l.end-iterator ≤ vec_capacity l.shifts;
  for_seats : vec_len l.seats + into_iter_len l.end-iterator ≤ vec_capacity l.seats;
  for_receipts : vec_len l.receipts + into_iter_len l.end-iterator ≤ vec_capacity l.receipts;
  shifts : l.shifts.items ≡ map (λ e. e.shift) l.yielded;
  seats : l.seats.items ≡ seats_back l.yielded;
  receipts : map (λ v. v.items) l.receipts.items ≡ receipts_back l.yielded;
}
