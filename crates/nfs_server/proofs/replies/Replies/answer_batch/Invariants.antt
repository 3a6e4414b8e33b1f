use Rattle.std.proofs.Common.{◌≡◌, ◌+◌, ◌≤◌, [], length}
use Rattle.std.specs.VecDeque.{deque_capacity, deque_len}
use Rattle.nfs_server.specs.Batch.{AreAnswered, gathering, messages_in, waiting_bytes}
use Rattle.nfs_server.specs.Exchange.{rules}
use Rattle.nfs_server.specs.declared.replies.TheConstants.{BATCH_QUESTIONS, GATHER_LIMIT, GATHER_ROOM}
use Rattle.nfs_server.proofs.replies.Replies.answer_batch.Given as goal
use Rattle.nfs_tree.specs.Exports.{export_seen}

-- the calls so far were answered, and as long as there is none of these the batch can go on
abbrev pub invariant-loop-self : goal.invariant-loop-self
invariant-loop-self g l = record {
  answered : AreAnswered (rules (export_seen l.fn.export) g.S.Service.gives g.S.Service.alike g.C.Clock.tells) (gathering l.fn.service l.fn.clock l.fn.self.gathered.items (messages_in l.fn.self.pending.items)) [] (gathering l.service l.clock (waiting_bytes l.self.gathered.items l.self.answered.items) (messages_in l.self.pending.items));
  counted : l.waiting ≡ length (waiting_bytes l.self.gathered.items l.self.answered.items);
  within : l.waiting ≤ GATHER_ROOM;
  room : deque_len l.self.answered + deque_len l.self.pending ≤ deque_capacity l.self.answered;
  same : l.self.gathered ≡ l.fn.self.gathered;
  few : l.asked ≤ BATCH_QUESTIONS;
  fewer : length l.self.pending.items ≤ length l.fn.self.pending.items;
  first : length l.self.pending.items ≡ length l.fn.self.pending.items → (l.asked ≡ 0) × (l.waiting ≤ GATHER_LIMIT);
  serves : g.S.Service.serves l.service ≡ export_seen l.fn.export;
}

abbrev pub decreases-loop-self : goal.decreases-loop-self
decreases-loop-self g l = length l.self.pending.items
