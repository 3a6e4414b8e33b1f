use Rattle.nfs_journal.proofs.JournalLaws.{are_in_none}
use Rattle.nfs_journal.proofs.journal_laws.calls_in_no_journal.Goals as goal

pub returns : goal.returns
returns c = are_in_none
