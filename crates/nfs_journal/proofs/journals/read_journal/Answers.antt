use Rattle.nfs_journal.proofs.JournalFiles.{accepted}
use Rattle.nfs_journal.proofs.journals.read_journal.Goals as goal

pub returns-in-Ok : goal.returns-in-Ok
returns-in-Ok c = accepted c.journal_of.result c.in-Ok.file c.args.bytes.now c.in-Ok.ensures c.journal_of.ensures
