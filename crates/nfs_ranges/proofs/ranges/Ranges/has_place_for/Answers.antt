use Rattle.std.proofs.Common.{◌∙◌, sym, ap, nat_le}
use Rattle.nfs_ranges.specs.Merged.{in_order}
use Rattle.nfs_ranges.specs.RoomyRanges.{RoomyRanges, modes_after}
use Rattle.nfs_ranges.specs.Runs.{runs}
use Rattle.nfs_ranges.specs.Splices.{spliced}
use Rattle.nfs_ranges.specs.declared.limits.TheConstants.{RUN_LIMIT}
use Rattle.nfs_ranges.proofs.Merged.{runs_are}
use Rattle.nfs_ranges.proofs.ranges.Ranges.has_place_for.Goals as goal

-- as many runs as after the splice
pub returns : goal.returns
returns c =
    let ps = in_order c.self.inside.runs in
    let splice = c.splice_of.result in
    ap (λ n. nat_le n RUN_LIMIT)
    (c.count_of.ensures ps (sym c.len.ensures)
    ∙ sym (runs_are (spliced splice ps) c.splice_of.ensures.3)
    ∙ ap runs c.splice_of.ensures.2
    ∙ ap (λ (held : RoomyRanges). runs (modes_after c.args.change held)) c.self.view_is)
