use Rattle.std.specs.List.{AllByRecursion}
use Rattle.std.proofs.Common.{◌≡◌, List, map, ap, subst, sym, ◌∙◌, arith}
use Rattle.std.proofs.lemmas.Bool.{false≢true}
use Rattle.nfs_locks.specs.AllLocks.{HasLockRoom, HasLockRoomAt, locks_in}
use Rattle.nfs_locks.specs.LockNodes.{number_of, within_room}
use Rattle.nfs_locks.specs.StoredLocks.{StoredLock, StoredLocks, byte_locks, stored_locks}
use Rattle.nfs_locks.proofs.Files.{all_seen, holds_at, holds_of, holds_of_none, same_at, seen_in}
use Rattle.nfs_locks.proofs.Indexed.{at_within, from_within, room_there, room_within, room_without, stored_in_view, stored_within}
use Rattle.nfs_nodes.specs.Numbers.{AreFound, StandFrom}
use Rattle.nfs_locks.proofs.Named.{names_at}
use Rattle.nfs_locks.proofs.locks.Locks.reserve.Goals as goal

pub returns-in_err-reserve_number-clause-stored : goal.returns-in_err-reserve_number-clause-stored
returns-in_err-reserve_number-clause-stored c =
    stored_within _ _
    ∙ stored_in_view c.self.inside.nodes.room c.self.inside.files.items c.args.self.now c.self.view_is

pub returns-in_err-reserve_number-clause-ready : goal.returns-in_err-reserve_number-clause-ready
returns-in_err-reserve_number-clause-ready c = λ room.
    absurd (false≢true (c.in_err-reserve_number.ensures.ready
    (room_there c.self.inside.nodes.room c.self.inside.files.items c.args.node (omega (arith, c.if-node-len.true, c.len.ensures)) (subst (HasLockRoomAt c.args.node) (sym c.self.view_is) room))))

pub returns-in_err-reserve-clause-stored : goal.returns-in_err-reserve-clause-stored
returns-in_err-reserve-clause-stored c =
    stored_within _ _
    ∙ same_at c.self.inside.files.items c.args.node c.index_mut.result.now c.reserve.new.self (omega (arith, c.if-node-len.true, c.len.ensures)) c.index_mut.ensures.value (ap stored_locks c.reserve.ensures.states)
    ∙ stored_in_view c.self.inside.nodes.room c.self.inside.files.items c.args.self.now c.self.view_is

pub returns-in_err-reserve-clause-ready : goal.returns-in_err-reserve-clause-ready
returns-in_err-reserve-clause-ready c = λ room.
    let files = c.self.inside.files.items in
    let limit = c.self.inside.nodes.room in
    absurd (false≢true (c.in_err-reserve.ensures.ready
    (room_without limit c.index_mut.result.now
    (holds_of (λ f. HasLockRoom (within_room limit f)) files c.args.node c.index_mut.result.now (omega (arith, c.if-node-len.true, c.len.ensures)) c.index_mut.ensures.value
    (from_within HasLockRoom limit files c.args.node (subst (HasLockRoomAt c.args.node) (sym c.self.view_is) room)))).1))

pub returns-in_ok-reserve-clause-stored : goal.returns-in_ok-reserve-clause-stored
returns-in_ok-reserve-clause-stored c =
    stored_within _ _
    ∙ same_at c.self.inside.files.items c.args.node c.index_mut.result.now c.reserve.new.self (omega (arith, c.if-node-len.true, c.len.ensures)) c.index_mut.ensures.value (ap stored_locks c.reserve.ensures.states)
    ∙ stored_in_view c.self.inside.nodes.room c.self.inside.files.items c.args.self.now c.self.view_is

pub returns-in_ok-reserve-clause-room : goal.returns-in_ok-reserve-clause-room
returns-in_ok-reserve-clause-room c =
    let limit = c.reserve_number.new.nodes.room in
    at_within HasLockRoom limit _ c.args.node
    (holds_at (λ f. HasLockRoom (within_room limit f)) c.self.inside.files.items c.args.node c.reserve.new.self (omega (arith, c.if-node-len.true, c.len.ensures))
    (room_within limit c.reserve.new.self c.in_ok-reserve_number.ensures.room c.in_ok-reserve.ensures.room))

pub returns-else-node-len-clause-room : goal.returns-else-node-len-clause-room
returns-else-node-len-clause-room c =
    let limit = c.self.inside.nodes.room in
    subst (HasLockRoomAt c.args.node) c.self.view_is
    (at_within HasLockRoom limit c.self.inside.files.items c.args.node
    (holds_of_none (λ f. HasLockRoom (within_room limit f)) c.self.inside.files.items c.args.node (omega (arith, c.if-node-len.false, c.len.ensures))))

pub invariant_of-self-in-Continue-branch-2 : goal.invariant_of-self-in-Continue-branch-2
invariant_of-self-in-Continue-branch-2 c = (
  subst (λ (s : List (List StoredLock)). AreFound number_of c.reserve_number.new.nodes c.self.inside.count (map (map byte_locks) s)) (sym (same_at c.self.inside.files.items c.args.node c.index_mut.result.now c.reserve.new.self (omega (arith, c.if-node-len.true, c.len.ensures)) c.index_mut.ensures.value (ap stored_locks c.reserve.ensures.states)))
      (record {
        stand = subst (λ (files : List StoredLocks). StandFrom number_of c.reserve_number.new.nodes 0 (locks_in files)) c.deref.ensures.value (subst (StandFrom number_of c.reserve_number.new.nodes 0) (sym (all_seen _)) c.reserve_number.ensures.stand);
        counted = c.self.invariant.0.counted;
        few = c.self.invariant.0.few;
      }),
  subst (AllByRecursion (λ n. n ≡ c.self.inside.names)) (sym (names_at c.self.inside.files.items c.args.node c.index_mut.result.now c.reserve.new.self (omega (arith, c.if-node-len.true, c.len.ensures)) c.index_mut.ensures.value c.reserve.ensures.names)) c.self.invariant.1,
)

pub invariant_of-self-in_err-reserve : goal.invariant_of-self-in_err-reserve
invariant_of-self-in_err-reserve c = (
  subst (λ (s : List (List StoredLock)). AreFound number_of c.reserve_number.new.nodes c.self.inside.count (map (map byte_locks) s)) (sym (same_at c.self.inside.files.items c.args.node c.index_mut.result.now c.reserve.new.self (omega (arith, c.if-node-len.true, c.len.ensures)) c.index_mut.ensures.value (ap stored_locks c.reserve.ensures.states)))
      (record {
        stand = subst (λ (files : List StoredLocks). StandFrom number_of c.reserve_number.new.nodes 0 (locks_in files)) c.deref.ensures.value (subst (StandFrom number_of c.reserve_number.new.nodes 0) (sym (all_seen _)) c.reserve_number.ensures.stand);
        counted = c.self.invariant.0.counted;
        few = c.self.invariant.0.few;
      }),
  subst (AllByRecursion (λ n. n ≡ c.self.inside.names)) (sym (names_at c.self.inside.files.items c.args.node c.index_mut.result.now c.reserve.new.self (omega (arith, c.if-node-len.true, c.len.ensures)) c.index_mut.ensures.value c.reserve.ensures.names)) c.self.invariant.1,
)

pub reserve_number-requires : goal.reserve_number-requires
reserve_number-requires c = record {
  stand = subst (λ (files : List StoredLocks). StandFrom number_of c.self.inside.nodes 0 (seen_in files)) (sym c.deref.ensures.value)
      (subst (StandFrom number_of c.self.inside.nodes 0) (all_seen c.self.inside.files.items) c.self.invariant.0.stand);
}

pub invariant_of-self : goal.invariant_of-self
invariant_of-self c = (
  record {
    stand = subst (StandFrom number_of c.reserve_number.new.nodes 0) (sym (all_seen c.self.inside.files.items))
        (subst (λ (files : List StoredLocks). StandFrom number_of c.reserve_number.new.nodes 0 (seen_in files)) c.deref.ensures.value c.reserve_number.ensures.stand);
    counted = c.self.invariant.0.counted;
    few = c.self.invariant.0.few;
  },
  c.self.invariant.1,
)
