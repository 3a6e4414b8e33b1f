use Rattle.std.proofs.Common.{◌≡◌, List, map, subst, sym, ◌∙◌, arith}
use Rattle.std.specs.List.{AllByRecursion}
use Rattle.std.proofs.lemmas.Bool.{false≢true}
use Rattle.nfs_locks.specs.AllLocks.{HasRangeRoom, HasRoomFor}
use Rattle.nfs_locks.specs.LockNodes.{number_of}
use Rattle.nfs_locks.specs.StoredLocks.{StoredLock, byte_locks}
use Rattle.nfs_locks.proofs.Files.{holds_at, holds_of, holds_of_none, same_at}
use Rattle.nfs_locks.proofs.Indexed.{at_within, from_within, stored_in_view, stored_within}
use Rattle.nfs_nodes.specs.Numbers.{AreFound}
use Rattle.nfs_locks.proofs.Named.{names_at}
use Rattle.nfs_locks.proofs.locks.Locks.reserve_change.Goals as goal

pub returns-in_err-reserve_change-clause-stored : goal.returns-in_err-reserve_change-clause-stored
returns-in_err-reserve_change-clause-stored c =
    stored_within _ _
    ∙ same_at c.self.inside.files.items c.args.node c.index_mut.result.now c.reserve_change.new.self (omega (arith, c.if-node-len.true, c.len.ensures)) c.index_mut.ensures.value c.reserve_change.ensures.states
    ∙ stored_in_view c.self.inside.nodes.room c.self.inside.files.items c.args.self.now c.self.view_is

pub returns-in_err-reserve_change-clause-ready : goal.returns-in_err-reserve_change-clause-ready
returns-in_err-reserve_change-clause-ready c = λ room.
    absurd (false≢true (c.in_err-reserve_change.ensures.ready
    (holds_of (λ f. AllByRecursion (HasRangeRoom c.args.number) f.states) c.self.inside.files.items c.args.node c.index_mut.result.now (omega (arith, c.if-node-len.true, c.len.ensures)) c.index_mut.ensures.value
    (from_within (λ f. AllByRecursion (HasRangeRoom c.args.number) f.states) c.self.inside.nodes.room c.self.inside.files.items c.args.node (subst (HasRoomFor c.args.node c.args.number) (sym c.self.view_is) room)))))

pub returns-in_ok-reserve_change-clause-stored : goal.returns-in_ok-reserve_change-clause-stored
returns-in_ok-reserve_change-clause-stored c =
    stored_within _ _
    ∙ same_at c.self.inside.files.items c.args.node c.index_mut.result.now c.reserve_change.new.self (omega (arith, c.if-node-len.true, c.len.ensures)) c.index_mut.ensures.value c.reserve_change.ensures.states
    ∙ stored_in_view c.self.inside.nodes.room c.self.inside.files.items c.args.self.now c.self.view_is

pub returns-in_ok-reserve_change-clause-room : goal.returns-in_ok-reserve_change-clause-room
returns-in_ok-reserve_change-clause-room c =
    at_within (λ f. AllByRecursion (HasRangeRoom c.args.number) f.states) c.self.inside.nodes.room _ c.args.node
    (holds_at (λ f. AllByRecursion (HasRangeRoom c.args.number) f.states) c.self.inside.files.items c.args.node c.reserve_change.new.self (omega (arith, c.if-node-len.true, c.len.ensures)) c.in_ok-reserve_change.ensures.room)

pub returns-else-node-len-clause-room : goal.returns-else-node-len-clause-room
returns-else-node-len-clause-room c =
    subst (HasRoomFor c.args.node c.args.number) c.self.view_is
    (at_within (λ f. AllByRecursion (HasRangeRoom c.args.number) f.states) c.self.inside.nodes.room c.self.inside.files.items c.args.node (holds_of_none (λ f. AllByRecursion (HasRangeRoom c.args.number) f.states) c.self.inside.files.items c.args.node (omega (arith, c.if-node-len.false, c.len.ensures))))

pub invariant_of-self : goal.invariant_of-self
invariant_of-self c = (
  subst (λ (s : List (List StoredLock)). AreFound number_of c.self.inside.nodes c.self.inside.count (map (map byte_locks) s))
      (sym (same_at c.self.inside.files.items c.args.node c.index_mut.result.now c.reserve_change.new.self (omega (arith, c.if-node-len.true, c.len.ensures)) c.index_mut.ensures.value c.reserve_change.ensures.states)) c.self.invariant.0,
  subst (AllByRecursion (λ n. n ≡ c.self.inside.names)) (sym (names_at c.self.inside.files.items c.args.node c.index_mut.result.now c.reserve_change.new.self (omega (arith, c.if-node-len.true, c.len.ensures)) c.index_mut.ensures.value c.reserve_change.ensures.names)) c.self.invariant.1,
)

pub invariant_of-self-in_err-reserve_change : goal.invariant_of-self-in_err-reserve_change
invariant_of-self-in_err-reserve_change c = (
  subst (λ (s : List (List StoredLock)). AreFound number_of c.self.inside.nodes c.self.inside.count (map (map byte_locks) s))
      (sym (same_at c.self.inside.files.items c.args.node c.index_mut.result.now c.reserve_change.new.self (omega (arith, c.if-node-len.true, c.len.ensures)) c.index_mut.ensures.value c.reserve_change.ensures.states)) c.self.invariant.0,
  subst (AllByRecursion (λ n. n ≡ c.self.inside.names)) (sym (names_at c.self.inside.files.items c.args.node c.index_mut.result.now c.reserve_change.new.self (omega (arith, c.if-node-len.true, c.len.ensures)) c.index_mut.ensures.value c.reserve_change.ensures.names)) c.self.invariant.1,
)
