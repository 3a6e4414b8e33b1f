use Rattle.nfs_server.proofs.JournalGains.{gains_entries}
use Rattle.nfs_server.proofs.course_laws.journal_of_a_connection.Goals as goal

pub returns-clause-together : goal.returns-clause-together
returns-clause-together g c = λ export. gains_entries g.D.Duplex.device export g.C.Clock.tells

pub returns-clause-apart : goal.returns-clause-apart
returns-clause-apart g c = λ export. gains_entries _ export g.C.Clock.tells
