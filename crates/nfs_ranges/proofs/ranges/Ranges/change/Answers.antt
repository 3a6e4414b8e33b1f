use Rattle.std.proofs.Common.{◌≡◌, ◌-◌, ◌*◌, ◌∙◌, sym, ap, subst, arith}
use Rattle.nfs_ranges.specs.Merged.{IsMerged, in_order}
use Rattle.nfs_ranges.specs.Modes.{modes_of}
use Rattle.nfs_ranges.specs.RoomyRanges.{RoomyRanges, modes_after}
use Rattle.nfs_ranges.specs.Runs.{runs}
use Rattle.nfs_ranges.proofs.Merged.{runs_are}
use Rattle.nfs_ranges.proofs.ranges.Ranges.change.Goals as goal

-- the runs mean the modes after the change, and are merged
changed : (c : goal.After-self-1) → modes_of (in_order c.splice.new.self) ≡ modes_after c.args.change c.args.self.now
changed c =
    ap modes_of c.splice.ensures.runs ∙ c.splice_of-splice.ensures.2 ∙ ap (modes_after c.args.change) c.self.view_is

merged : (c : goal.After-self-1) → IsMerged (in_order c.splice.new.self)
merged c = subst IsMerged (sym c.splice.ensures.runs) c.splice_of-splice.ensures.3

pub invariant_of-self : goal.invariant_of-self
invariant_of-self c =
    let count = sym (ap runs (changed c)) ∙ runs_are (in_order c.splice.new.self) (merged c) in
    let some = ap (λ (held : RoomyRanges). held.room) c.self.view_is in (
      merged c,
      omega (arith, count, c.requires.place),
      c.splice.ensures.room (3 * (c.self.inside.room - 1))
          (omega (arith, c.self.invariant.2.0, some, c.requires.room), omega (arith, c.self.invariant.2.1, some, c.requires.room)),
    )

pub returns : goal.returns
returns c = changed c
