use Rattle.std.proofs.Common.{Err, refl}
use Rattle.nfs_journal.specs.declared.audit_error.AuditError.TheVariants as errors
use Rattle.nfs_program.proofs.audit.run_audit.Goals as goal

-- memory ran out for the line
pub returns-in_default : goal.returns-in_default
returns-in_default g c = (Err errors.Memory, tt, (c.report-in_default.ensures, refl))
