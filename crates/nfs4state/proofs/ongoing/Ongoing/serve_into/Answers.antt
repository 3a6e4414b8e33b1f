use Rattle.std.proofs.Common.{ℕ, ◌≡◌, ◌<◌, arith}
use Rattle.std.specs.Prelude.{IfSome, Option, Some, None}
use Rattle.nfs4state.proofs.ongoing.Ongoing.serve_into.Goals as goal

-- a sink that never failed may fail once more
never_failed : {Sink : Type 0} (failures : Sink → ℕ) (sink : Option Sink)
    → IfSome sink (λ s. failures s ≡ 0)
    → IfSome sink (λ s. failures s < 18446744073709551615)
never_failed failures None h = h
never_failed failures (Some s) h = omega (arith, h)

pub end_ongoing_run-status-requires : goal.end_ongoing_run-status-requires
end_ongoing_run-status-requires g c =
    record { files = never_failed (λ s. s.failures) c.journal_of-journal.result c.journal_of-journal.ensures }
