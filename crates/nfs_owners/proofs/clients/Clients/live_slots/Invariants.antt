use Rattle.std.proofs.Common.{map}
use Rattle.nfs_owners.specs.Choice.{is_live_slot}
use Rattle.nfs_owners.proofs.SlotMarks.{MarksWith, slots_of}
use Rattle.nfs_owners.proofs.clients.Clients.live_slots.Given as goal

-- with the slots of the records that are left, each slot is marked in which a client is live
abbrev pub invariant-loop-record : goal.invariant-loop-record
invariant-loop-record l = record {
  can : (goal.iterator-loop-record).can_next l.record-iterator;
  finite : (goal.iterator-loop-record).is_finite l.record-iterator;
  marks : MarksWith (slots_of (map (λ item. item.1) l.record-iterator)) (is_live_slot l.self.registry) l.live;
}
