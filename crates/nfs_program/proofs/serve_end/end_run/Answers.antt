use Rattle.std.proofs.Common.{◌≡◌, ◌∙◌, Some, ap, subst}
use Rattle.std.specs.Prelude.{vec_capacity}
use Rattle.nfs_server.specs.Device.{device_of_sink}
use Rattle.nfs_program.specs.Faults.{fault_of_run}
use Rattle.nfs_program.specs.Once.{IsFiled, status_of}
use Rattle.nfs_program.specs.Pieces.{HasRoomForFileOf}
use Rattle.nfs_program.specs.declared.fault.Fault.TheVariants.{NoMemory}
use Rattle.nfs_program.proofs.serve_end.end_run.Goals as goal

pub returns : goal.returns
returns g c =
    let filed = c.file_journal-filed.result in record {
      ended = (
        filed,
        subst (λ h. IsFiled (device_of_sink g.J.Sink.takes g.J.Sink.fails) g.J.Sink.failures c.args.journal.now c.file_journal-filed.new.file h filed) c.journal.ensures.journal c.file_journal-filed.ensures.filed,
        subst (λ h. filed ≡ Some NoMemory → ¬ (HasRoomForFileOf (vec_capacity c.args.buffer.now) h)) c.journal.ensures.journal c.file_journal-filed.ensures.memory,
        c.exit_status.ensures ∙ ap status_of (c.run_fault-fault.ensures ∙ ap (λ connections. fault_of_run c.args.run.now.has_helpers connections filed) c.as_slice.ensures.value),
      );
    }
