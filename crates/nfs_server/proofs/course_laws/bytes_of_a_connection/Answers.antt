use Rattle.nfs_server.specs.Exchange.{rules}
use Rattle.nfs_server.proofs.CourseLaws.{counted_tell, has_bytes}
use Rattle.nfs_server.proofs.course_laws.bytes_of_a_connection.Goals as goal

pub returns-clause-together : goal.returns-clause-together
returns-clause-together g c = λ export remaining contents tells.
    has_bytes g.D.Duplex.device (rules export g.S.Service.gives g.S.Service.alike g.C.Clock.tells) remaining contents tells

pub returns-clause-sides : goal.returns-clause-sides
returns-clause-sides g c = counted_tell g.R.Read.remaining g.W.Write.contents

pub returns-clause-apart : goal.returns-clause-apart
returns-clause-apart g c = λ export.
    has_bytes _ (rules export g.S.Service.gives g.S.Service.alike g.C.Clock.tells) _ _ (counted_tell g.R.Read.remaining g.W.Write.contents)
