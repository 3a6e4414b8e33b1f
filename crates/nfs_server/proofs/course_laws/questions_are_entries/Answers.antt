use Rattle.nfs_server.proofs.JournalGains.{questions_are_entries}
use Rattle.nfs_server.proofs.course_laws.questions_are_entries.Goals as goal

pub returns : goal.returns
returns c = questions_are_entries
