use Rattle.nfs_server.specs.Exchange.{rules}
use Rattle.nfs_server.proofs.CourseLaws.{is_one_text}
use Rattle.nfs_server.proofs.course_laws.turns_are_of_one_text.Goals as goal

pub returns-clause-together : goal.returns-clause-together
returns-clause-together g c = λ export. is_one_text c.split_goes_on.ensures g.D.Duplex.device (rules export g.S.Service.gives g.S.Service.alike g.C.Clock.tells)

pub returns-clause-apart : goal.returns-clause-apart
returns-clause-apart g c = λ export. is_one_text c.split_goes_on.ensures _ (rules export g.S.Service.gives g.S.Service.alike g.C.Clock.tells)
