-- What a report says, as the definitions speak of it.
use Rattle.std.specs.Prelude.{ℕ, Bool, ◌==◌, ◌&&◌, ◌||◌, nat_lt, Option, Some, None, if◌then◌else◌}
use Rattle.std.specs.Ordering.{is_lt}
use Rattle.nfs_locks.specs.Report as specs
use Rattle.nfs_locks.specs.declared.report.Meeting.{Meeting}
use Rattle.nfs_locks.specs.declared.report.Report.{Report}

abbrev pub report_seen : Report → specs.Report
report_seen report = record {
  range = report.range;
  mode = report.mode;
  owner = report.owner.now;
}

abbrev pub meeting_seen : Meeting → ℕ × specs.Report
meeting_seen meeting = (meeting.byte, report_seen meeting.report)

-- the first meeting is at an earlier byte, or at the same byte with an owner that comes first
abbrev pub comes_before : ℕ × specs.Report → ℕ × specs.Report → Bool
comes_before a b =
    nat_lt a.0 b.0 || (a.0 == b.0 && is_lt (specs.owner_order a.1.owner b.1.owner))

-- the one of two meetings that comes before, and the second where neither does
abbrev pub first_of : Option (ℕ × specs.Report) → Option (ℕ × specs.Report)
    → Option (ℕ × specs.Report)
first_of None b = b
first_of (Some a) None = Some a
first_of (Some a) (Some b) = Some (if comes_before b a then b else a)
