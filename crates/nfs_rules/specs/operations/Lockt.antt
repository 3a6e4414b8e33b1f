-- LOCKT (RFC 7530, section 16.11): asks whether a LOCK would be refused, and for which lock. It needs no open.
use Rattle.std.specs.Prelude.{◌≡◌, ℕ, not, Option, Some, None, is_some, Result, Ok, Err}
use Rattle.nfs_forms.specs.declared.answer.Answer.{Answer}
use Rattle.nfs_forms.specs.declared.answer.Answer.TheVariants.{Done, Denied, Refused}
use Rattle.nfs_forms.specs.declared.lock_denied.LockDenied.{LockDenied}
use Rattle.nfs_forms.specs.declared.status.Refusal.{Refusal}
use Rattle.nfs_forms.specs.declared.status.Refusal.TheVariants as refusals
use Rattle.nfs_locks.specs.AllLocks.{locks_of}
use Rattle.nfs_locks.specs.Report.{IsReport, Report}
use Rattle.nfs_operations.specs.declared.lockt.Lockt.{Lockt}
use Rattle.nfs_owners.specs.Registry.{record_of}
use Rattle.nfs_ranges.specs.Bytes.{IsRangeOf}
use Rattle.nfs_ranges.specs.declared.range.Range.{Range}
use Rattle.nfs_rules.specs.Locking.{denied_by, mode_of}
use Rattle.nfs_rules.specs.Refusing.{◌>>=◌, refused_if}
use Rattle.nfs_rules.specs.declared.decision.Decision.{Decision}
use Rattle.nfs_state.specs.Changes.{change_alone}
use Rattle.nfs_state.specs.State.{State, History}
use Rattle.nfs_state.specs.declared.change.Change.TheVariants as changes
use Rattle.nfs_tree.specs.Tree.{is_directory}
use Rattle.nfs_xdr.specs.declared.op_result.OpResult.TheVariants as results

-- an answer, which changes nothing
abbrev pub only : Answer (Unit {0}) LockDenied (Unit {0}) → Decision
only answer = record { answer = results.Lockt answer; effect = change_alone changes.Nothing }

abbrev pub place_of : Option ℕ → Result ℕ Refusal
place_of None = Err refusals.NoFileHandle
place_of (Some node) = Ok node

-- The file that is asked about, or the first refusal: NFS4ERR_NOFILEHANDLE, NFS4ERR_STALE_CLIENTID for an owner whose
-- client isn't known, NFS4ERR_ISDIR for a directory.
abbrev pub lockt_file : History → State → Option ℕ → Lockt → Result ℕ Refusal
lockt_file journal state filehandle args =
    place_of filehandle >>= λ node.
    refused_if (not (is_some (record_of args.owner.client state.clients)))
    refusals.StaleClientId node >>= λ node.
    refused_if (is_directory journal.nodes node) refusals.IsDir node

-- NFS4_OK, or NFS4ERR_DENIED with a report of the lock that is in the way
abbrev pub answer_of : Option Report → Answer (Unit {0}) LockDenied (Unit {0})
answer_of None = Done tt
answer_of (Some report) = Denied (denied_by report)

-- NFS4ERR_INVAL for an offset and a length that name no bytes
abbrev pub IsOfRange : State → Lockt → ℕ → Option Range → Option Decision → Type 0
IsOfRange state args node None decision = decision ≡ Some (only (Refused refusals.Inval))
IsOfRange state args node (Some range) decision =
    (report : Option Report)
    × IsReport (locks_of node state.locks) args.owner range (mode_of args.locktype) report
    × (decision ≡ Some (only (answer_of report)))

abbrev pub IsTest : State → Lockt → Result ℕ Refusal → Option Decision → Type 0
IsTest state args (Err refusal) decision = decision ≡ Some (only (Refused refusal))
IsTest state args (Ok node) decision =
    (range : Option Range) × IsRangeOf args.offset args.length range
    × IsOfRange state args node range decision

-- the rule of LOCKT
abbrev pub IsRuled : History → State → Option ℕ → Lockt → Option Decision → Type 0
IsRuled journal state filehandle args decision =
    IsTest state args (lockt_file journal state filehandle args) decision
