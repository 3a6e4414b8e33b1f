use Rattle.std.proofs.Common.{◌∙◌, ap, refl, subst, sym}
use Rattle.std.specs.List.{AllByRecursion}
use Rattle.nfs_locks.specs.AllLocks.{HasRangeRoom}
use Rattle.nfs_locks.specs.KeptLocks.{states_of}
use Rattle.nfs_locks.specs.StoredLocks.{StoredLocks, stored_locks}
use Rattle.nfs_locks.proofs.Rowed.{found_in, has_room, if_ok, room_of_none, rows_room, rows_set, rows_stored, same_stored}
use Rattle.nfs_locks.proofs.file_locks.FileLocks.reserve_change.Goals as goal

pub returns-in_default-clause-room : goal.returns-in_default-clause-room
returns-in_default-clause-room c =
    room_of_none c.args.number (states_of c.self.inside.states.rows)
    (sym (c.in_default.ensures.value ∙ found_in c.self.inside.names c.args.number c.from.result c.self.inside.states.rows c.self.invariant.0 c.from.ensures))

pub invariant_of-self-2 : goal.invariant_of-self-2
invariant_of-self-2 c = (
  rows_set c.self.inside.names c.args.number c.from.result c.in-Some.state.now (record c.in-Some.state.now { ranges = c.reserve.new.ranges }) c.self.inside.states.rows c.self.invariant.0 c.from.ensures c.in-Some.ensures.order c.in-Some.ensures.value refl refl,
  c.self.invariant.1,
)

pub returns-clause-states : goal.returns-clause-states
returns-clause-states c =
    rows_stored c.self.inside.names c.args.number c.from.result c.in-Some.state.now (record c.in-Some.state.now { ranges = c.reserve.new.ranges }) c.self.inside.states.rows c.self.invariant.0 c.from.ensures c.in-Some.ensures.order c.in-Some.ensures.value
    (same_stored c.in-Some.state.now c.reserve.new.ranges c.reserve.ensures.pieces)
    ∙ ap (λ (f : StoredLocks). stored_locks f.states) c.self.view_is

pub returns-clause-room : goal.returns-clause-room
returns-clause-room c =
    if_ok c.reserve.result (rows_room c.self.inside.names c.args.number c.from.result c.in-Some.state.now (record c.in-Some.state.now { ranges = c.reserve.new.ranges }) c.self.inside.states.rows c.self.invariant.0 c.from.ensures c.in-Some.ensures.order c.in-Some.ensures.value)
    c.reserve.ensures.room

pub returns-clause-ready : goal.returns-clause-ready
returns-clause-ready c = λ room.
    c.reserve.ensures.ready
    (has_room c.args.number (states_of c.self.inside.states.rows) c.in-Some.state.now
    (subst (λ (f : StoredLocks). AllByRecursion (HasRangeRoom c.args.number) f.states) (sym c.self.view_is) room)
    (c.in-Some.ensures.value ∙ found_in c.self.inside.names c.args.number c.from.result c.self.inside.states.rows c.self.invariant.0 c.from.ensures))
