use Rattle.std.proofs.Common.{◌∙◌, ℕ, Bor, [], ◌∷◌, ◌++◌, map, option_map, subst, sym}
use Rattle.std.proofs.lemmas.Iterator.Consumers.{YieldsList-end, YieldsList-from_first}
use Rattle.nfs_locks.specs.Report.{IsMeeting}
use Rattle.nfs_locks.specs.ReportSeen.{meeting_seen}
use Rattle.nfs_locks.specs.StoredLocks.{lock_seen}
use Rattle.nfs_locks.specs.declared.lock_state.LockState.{LockState}
use Rattle.nfs_locks.proofs.Meetings.{map_push, none_more, one_more}
use Rattle.nfs_locks.proofs.Rowed.{all_yielded}
use Rattle.nfs_locks.proofs.report.meeting_among.Goals as goal
use Rattle.nfs_rows.specs.Rows.{pair_of}

pub loop-state-preserved-in-Some-first_conflict : goal.loop-state-preserved-in-Some-first_conflict
loop-state-preserved-in-Some-first_conflict c =
    let seen = map (λ (p : ℕ × Bor LockState). lock_seen p.1.now) c.loop-state.yielded in
    let item = lock_seen c.in-Some.state.now in
    let owner = c.args.owner.now in
    let a = option_map meeting_seen c.loop-state.first in
    let b = option_map meeting_seen c.meeting_at.result in
    subst (λ locks. IsMeeting locks owner c.args.range c.args.mode (option_map meeting_seen c.first_of-first.result))
    (sym (map_push (λ (p : ℕ × Bor LockState). lock_seen p.1.now) c.loop-state.yielded (c.in-Some.field-0-0, c.in-Some.state)))
    (subst (IsMeeting (seen ++ item ∷ []) owner c.args.range c.args.mode) (sym c.first_of-first.ensures)
    (one_more seen item owner c.args.range c.args.mode a b c.loop-state.invariant c.meeting_at.ensures))

pub loop-state-preserved : goal.loop-state-preserved
loop-state-preserved c =
    let seen = map (λ (p : ℕ × Bor LockState). lock_seen p.1.now) c.loop-state.yielded in
    let item = lock_seen c.in-Some.state.now in
    let owner = c.args.owner.now in
    let a = option_map meeting_seen c.loop-state.first in
    subst (λ locks. IsMeeting locks owner c.args.range c.args.mode a)
    (sym (map_push (λ (p : ℕ × Bor LockState). lock_seen p.1.now) c.loop-state.yielded (c.in-Some.field-0-0, c.in-Some.state)))
    (none_more seen item owner c.args.range c.args.mode a c.loop-state.invariant c.in_default.ensures)

pub returns : goal.returns
returns c =
    let rows = c.args.states.now.rows in
    let all = YieldsList-end (YieldsList-from_first (λ (p : ℕ × Bor LockState). (p.0, p.1.now)) (λ rest. rest) (map pair_of rows) (c.into_iter-state-iterator.ensures.into_iter_gives ∙ c.iter-state-items.ensures)) c.loop-state.yielded _ c.loop-state.yielded_by _ _ c.in-None.is c.next.ensures.steps in
    subst (λ locks. IsMeeting locks c.args.owner.now c.args.range c.args.mode (option_map meeting_seen c.loop-state.first))
    (all_yielded c.loop-state.yielded rows all.0) c.loop-state.invariant
