use Rattle.std.proofs.Common.{◌≡◌, find, map}
use Rattle.nfs_owners.proofs.Choosing.{goes}
use Rattle.nfs_owners.proofs.clients.Clients.oldest_to_give_way.Given as goal

-- the first that goes of those that are left is the first of all
abbrev pub invariant-loop-record : goal.invariant-loop-record
invariant-loop-record l = record {
  can : (goal.iterator-loop-record).can_next l.record-iterator;
  finite : (goal.iterator-loop-record).is_finite l.record-iterator;
  rest : find (goes l.id l.self.registry) (map (λ item. item.1) l.record-iterator) ≡ find (goes l.id l.self.registry) l.self.registry.unconfirmed;
}
