-- The bytes of a file are those of at most one journal.
use Rattle.std.proofs.Common.{◌≡◌, ℕ, Bool, true, false, List, Result, Ok, Err, sym, ap, ◌∙◌}
use Rattle.nfs_journal.specs.declared.audit_error.AuditError.{AuditError}
use Rattle.nfs_journal.specs.declared.audit_error.AuditError.TheVariants as errors
use Rattle.nfs_journal.specs.declared.file.File.{File}
use Rattle.nfs_journal.specs.Exact.{IsEncoded}
use Rattle.nfs_journal.specs.File.{file}
use Rattle.nfs_journal.specs.Journals.{is_file, IsFileOf, Reads, Accepts}
use Rattle.nfs_journal.proofs.ExactForms.{one_encoded}
use Rattle.nfs_state.specs.State.{History}

not_both : (b : Bool) → b ≡ false → b ≡ true → ⊥
not_both true f t = cc
not_both false f t = cc

-- bytes that encode what is no journal are the file of no journal
no_journal : (f : File) (bytes : List ℕ) → IsEncoded file f bytes → is_file f ≡ false
    → (h : History) → IsFileOf h bytes → ⊥
no_journal f bytes encoded none h is =
    let same : f ≡ is.0 = one_encoded file bytes f is.0 encoded is.3 in
    not_both (is_file is.0) (sym (ap (λ (x : File). is_file x) same) ∙ none) is.2

-- what is accepted of the bytes is what they are read as
pub accepted : (r : Result History AuditError) (f : File) (bytes : List ℕ) → IsEncoded file f bytes
    → Accepts r f → Reads r bytes
accepted (Ok journal) f bytes encoded h = (f, h.1, h.0, encoded)
accepted (Err errors.Format) f bytes encoded h = no_journal f bytes encoded h
accepted (Err (errors.WrongAnswer number)) f bytes encoded h = absurd h
accepted (Err errors.Memory) f bytes encoded h = absurd h
