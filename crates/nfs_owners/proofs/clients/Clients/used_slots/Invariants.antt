use Rattle.std.proofs.Common.{map}
use Rattle.nfs_owners.specs.Choice.{is_in_use, without_replaced}
use Rattle.nfs_owners.specs.Registry.{without_id}
use Rattle.nfs_owners.proofs.SlotMarks.{MarksWith, slots_of}
use Rattle.nfs_owners.proofs.clients.Clients.used_slots.Given as goal

-- with the slots of the records that are left, each slot is marked that is in use
abbrev pub invariant-loop-record : goal.invariant-loop-record
invariant-loop-record l = record {
  can : (goal.iterator-loop-record).can_next l.record-iterator;
  finite : (goal.iterator-loop-record).is_finite l.record-iterator;
  marks : MarksWith (slots_of (without_id l.id (map (λ item. item.1) l.record-iterator))) (is_in_use (without_replaced l.id l.self.registry)) l.used;
}
