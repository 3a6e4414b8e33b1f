use Rattle.std.proofs.Common.{◌≡◌, ◌++◌, ◌-◌, ◌+◌, ◌≤◌, take, drop, reverse, vec_len, vec_capacity}
use Rattle.nfs_ranges.proofs.shifts.shift.Given as goal

-- so many were taken so far
abbrev pub invariant-loop : goal.invariant-loop
invariant-loop l = record {
  count : l.counter ≤ l.count;
  from : l.from.items ≡ take (vec_len l.fn.from - l.counter) l.fn.from.items;
  to : l.to.items ≡ l.fn.to.items ++ reverse (drop (vec_len l.fn.from - l.counter) l.fn.from.items);
  capacity : (vec_capacity l.from ≡ vec_capacity l.fn.from) × (vec_capacity l.to ≡ vec_capacity l.fn.to);
  lengths : (vec_len l.from + l.counter ≡ vec_len l.fn.from) × (vec_len l.to ≡ vec_len l.fn.to + l.counter);
}
