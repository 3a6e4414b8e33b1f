use Rattle.nfs_threads.proofs.Renewals.{renewals_are_events}
use Rattle.nfs_threads.proofs.renewal_laws.renewals_are_events.Goals as goal

pub returns-clause-together : goal.returns-clause-together
returns-clause-together g c = λ export epoch. renewals_are_events g.D.Duplex.device export epoch g.C.Clock.tells

pub returns-clause-apart : goal.returns-clause-apart
returns-clause-apart g c = λ export epoch. renewals_are_events _ export epoch g.C.Clock.tells
