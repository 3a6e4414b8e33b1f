use Rattle.std.proofs.Common.{◌≡◌, ◌∙◌, ◌<◌, [], ap, subst, sym}
use Rattle.std.specs.Prelude.{IfSome}
use Rattle.std.specs.List.{AllByRecursion}
use Rattle.nfs_locks.specs.AllLocks.{HasRangeRoom, is_full_for}
use Rattle.nfs_locks.specs.KeptLocks.{AreRowsOf, states_of}
use Rattle.nfs_locks.specs.Locks.{ByteLocks, with_lock_change}
use Rattle.nfs_locks.specs.StoredLocks.{StoredLocks, locks_seen}
use Rattle.nfs_locks.specs.declared.file_locks.FileLocks.TheInside.{Inside}
use Rattle.nfs_locks.proofs.Rowed.{found_in, has_place, has_room, rows_changed, rows_set, rows_unchanged}
use Rattle.nfs_locks.proofs.file_locks.FileLocks.change.Goals as goal
use Rattle.nfs_locks.proofs.file_locks.FileLocks.change.Goals.{in-Some, in_default}

pub change-requires-clause-room : goal.change-requires-clause-room
change-requires-clause-room c =
    let rows = c.self.inside.states.rows in
    has_room c.args.number (states_of rows) c.in-Some.state.now
    (subst (λ (f : StoredLocks). AllByRecursion (HasRangeRoom c.args.number) f.states) (sym c.self.view_is) c.requires.room)
    (c.in-Some.ensures.value ∙ found_in c.self.inside.names c.args.number c.from.result rows c.self.invariant.0 c.from.ensures)

pub change-requires-clause-place : goal.change-requires-clause-place
change-requires-clause-place c =
    let rows = c.self.inside.states.rows in
    has_place c.args.number c.args.change (states_of rows) c.in-Some.state.now
    (ap (λ (f : StoredLocks). is_full_for c.args.number c.args.change (locks_seen f.states)) c.self.view_is ∙ c.requires.place)
    (c.in-Some.ensures.value ∙ found_in c.self.inside.names c.args.number c.from.result rows c.self.invariant.0 c.from.ensures)

pub invariant_of-self : goal.invariant_of-self
invariant_of-self c =
    let rows = c.self.inside.states.rows in
    let names = c.self.inside.names in
    elim c.match-find_mut.branch [
      | in-Some w ↦
          subst (λ (s : Inside). AreRowsOf s.names s.states.rows × IfSome s.spare (λ r. (r.pieces ≡ []) × (0 < r.room))) (sym w.self-inside-is) (
            rows_set names c.args.number c.from.result w.in-Some.state.now w.change.new.self rows c.self.invariant.0 c.from.ensures w.in-Some.ensures.order w.in-Some.ensures.value
                (ap (λ (l : ByteLocks). l.number) w.change.ensures) (ap (λ (l : ByteLocks). l.owner) w.change.ensures),
            c.self.invariant.1,
          )
      | in_default w ↦
          subst (λ (s : Inside). AreRowsOf s.names s.states.rows × IfSome s.spare (λ r. (r.pieces ≡ []) × (0 < r.room))) (sym w.self-inside-is) c.self.invariant
    ]

pub returns-clause-states : goal.returns-clause-states
returns-clause-states c =
    let rows = c.self.inside.states.rows in
    let names = c.self.inside.names in
    let number = c.args.number in
    let change = c.args.change in
    elim c.match-find_mut.branch [
      | in-Some w ↦
          ap (λ (s : Inside). locks_seen (states_of s.states.rows)) w.self-inside-is
          ∙ rows_changed names number c.from.result w.in-Some.state.now w.change.new.self rows c.self.invariant.0 c.from.ensures w.in-Some.ensures.order w.in-Some.ensures.value change w.change.ensures
          ∙ ap (λ (f : StoredLocks). with_lock_change number change (locks_seen f.states)) c.self.view_is
      | in_default w ↦
          ap (λ (s : Inside). locks_seen (states_of s.states.rows)) w.self-inside-is
          ∙ rows_unchanged names number c.from.result change rows c.self.invariant.0 c.from.ensures w.in_default.ensures.value
          ∙ ap (λ (f : StoredLocks). with_lock_change number change (locks_seen f.states)) c.self.view_is
    ]

pub returns-clause-names : goal.returns-clause-names
returns-clause-names c =
    elim c.match-find_mut.branch [
      | in-Some w ↦ ap (λ (s : Inside). s.names) w.self-inside-is ∙ ap (λ (f : StoredLocks). f.names) c.self.view_is
      | in_default w ↦ ap (λ (s : Inside). s.names) w.self-inside-is ∙ ap (λ (f : StoredLocks). f.names) c.self.view_is
    ]
