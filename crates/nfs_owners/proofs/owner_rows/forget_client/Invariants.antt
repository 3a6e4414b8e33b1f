use Rattle.nfs_owners.specs.Closers.{AreClosers, closed_at}
use Rattle.nfs_owners.specs.Owner.{has_client}
use Rattle.nfs_owners.proofs.Leaving.{ArePairs, left}
use Rattle.nfs_owners.proofs.owner_rows.forget_client.Given as goal

-- what the rows that were passed closed is forgotten, where they are the client's
abbrev pub invariant-loop-owner : goal.invariant-loop-owner
invariant-loop-owner l = record {
  can : (goal.iterator-loop-owner).can_next l.owner-iterator;
  finite : (goal.iterator-loop-owner).is_finite l.owner-iterator;
  pairs : ArePairs l.rows.rows l.owner-iterator;
  closers : AreClosers l.fn.closers (closed_at l.rows.rows) → AreClosers l.closers (left (has_client l.client) l.rows.rows l.owner-iterator);
}
