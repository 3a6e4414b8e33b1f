use Rattle.nfs_journal.proofs.JournalLaws.{have_their_journals}
use Rattle.nfs_journal.proofs.journal_laws.files_have_their_journals.Goals as goal

pub returns : goal.returns
returns c = have_their_journals
