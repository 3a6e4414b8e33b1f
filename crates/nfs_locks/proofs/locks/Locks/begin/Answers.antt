use Rattle.std.proofs.Common.{◌≡◌, ◌+◌, refl, ap, ◌∙◌, subst, sym, arith}
use Rattle.std.specs.List.{AllByRecursion}
use Rattle.nfs_locks.specs.AllLocks.{HasLockRoom, HasLockRoomAt, IsAboveAll, locks_in, locks_or_none, with_locks}
use Rattle.nfs_locks.specs.LockNodes.{number_of, within_room}
use Rattle.nfs_locks.specs.Locks.{IsAbove, first_state, with_first_lock}
use Rattle.nfs_locks.proofs.Files.{above_of, changed_at, holds_of, locks_at}
use Rattle.nfs_locks.proofs.Indexed.{as_many_locks, from_within, in_view, room_without, seen_within}
use Rattle.nfs_nodes.specs.Numbers.{AreFound}
use Rattle.nfs_nodes.proofs.Callers.{counts_more, found_more}
use Rattle.nfs_locks.proofs.Named.{names_at}
use Rattle.nfs_locks.proofs.locks.Locks.begin.Goals as goal

pub begin-requires-clause-newest : goal.begin-requires-clause-newest
begin-requires-clause-newest c =
    let files = c.self.inside.files.items in
    let above = subst (IsAboveAll c.args.number) (sym (in_view c.self.inside.nodes.room c.self.inside.files.items c.args.self.now c.self.view_is)) c.requires.newest in
    subst (IsAbove c.args.number) (locks_at files c.args.node c.index_mut.result.now (omega (arith, c.if-at-len.true, c.len.ensures)) c.index_mut.ensures.value)
    (above_of c.args.number (locks_in files) c.args.node above)

pub begin-requires-clause-room : goal.begin-requires-clause-room
begin-requires-clause-room c =
    let room = c.self.inside.nodes.room in
    let files = c.self.inside.files.items in
    (room_without room c.index_mut.result.now
    (holds_of (λ f. HasLockRoom (within_room room f)) files c.args.node c.index_mut.result.now (omega (arith, c.if-at-len.true, c.len.ensures)) c.index_mut.ensures.value
    (from_within HasLockRoom room files c.args.node (subst (HasLockRoomAt c.args.node) (sym c.self.view_is) c.requires.room)))).1

pub add-requires : goal.add-requires
add-requires c =
    let room = c.self.inside.nodes.room in
    let files = c.self.inside.files.items in
    (room_without room c.index_mut.result.now
    (holds_of (λ f. HasLockRoom (within_room room f)) files c.args.node c.index_mut.result.now (omega (arith, c.if-at-len.true, c.len.ensures)) c.index_mut.ensures.value
    (from_within HasLockRoom room files c.args.node (subst (HasLockRoomAt c.args.node) (sym c.self.view_is) c.requires.room)))).0

pub overflow_add-self : goal.overflow_add-self
overflow_add-self c = omega (arith, counts_more number_of c.self.inside.nodes c.self.inside.count (locks_in c.self.inside.files.items) c.self.invariant.0)

pub invariant_of-self : goal.invariant_of-self
invariant_of-self c =
    let files = c.self.inside.files.items in
    let count = c.self.inside.count in
    let first = first_state c.args.first c.args.number in (
      subst (AreFound number_of c.add.new.self (count + 1))
          (sym (changed_at (with_first_lock c.args.first c.args.number) files c.args.node c.index_mut.result.now c.begin.new.self (omega (arith, c.if-at-len.true, c.len.ensures)) c.index_mut.ensures.value c.begin.ensures.states))
          (found_more number_of locks_or_none (λ xs. refl) c.args.node count (locks_in files) c.self.inside.nodes c.add.new.self first c.add.ensures
          (omega (arith, c.ranges.number.fits)) (omega (arith, as_many_locks files, c.if-at-len.true, c.len.ensures))
          (subst (IsAboveAll c.args.number) (sym (in_view c.self.inside.nodes.room c.self.inside.files.items c.args.self.now c.self.view_is)) c.requires.newest) c.self.invariant.0),
      subst (AllByRecursion (λ n. n ≡ c.self.inside.names)) (sym (names_at c.self.inside.files.items c.args.node c.index_mut.result.now c.begin.new.self (omega (arith, c.if-at-len.true, c.len.ensures)) c.index_mut.ensures.value c.begin.ensures.names)) c.self.invariant.1,
    )

pub returns-then-at-len : goal.returns-then-at-len
returns-then-at-len c =
    let change = with_first_lock c.args.first c.args.number in
    seen_within _ _
    ∙ changed_at change c.self.inside.files.items c.args.node c.index_mut.result.now c.begin.new.self (omega (arith, c.if-at-len.true, c.len.ensures)) c.index_mut.ensures.value c.begin.ensures.states
    ∙ ap (with_locks c.args.node change) (in_view c.self.inside.nodes.room c.self.inside.files.items c.args.self.now c.self.view_is)
