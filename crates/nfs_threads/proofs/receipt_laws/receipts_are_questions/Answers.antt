use Rattle.nfs_threads.proofs.Receipts.{receipts_are_questions}
use Rattle.nfs_threads.proofs.receipt_laws.receipts_are_questions.Goals as goal

pub returns-clause-together : goal.returns-clause-together
returns-clause-together g c = λ export epoch. receipts_are_questions g.D.Duplex.device export epoch g.C.Clock.tells

pub returns-clause-apart : goal.returns-clause-apart
returns-clause-apart g c = λ export epoch. receipts_are_questions _ export epoch g.C.Clock.tells
