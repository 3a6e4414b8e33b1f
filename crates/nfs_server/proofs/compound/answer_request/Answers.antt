use Rattle.nfs_server.specs.Folding.{asker_of, start}
use Rattle.nfs_server.proofs.Folding.{determined_none}
use Rattle.nfs_server.proofs.compound.answer_request.Goals as goal

-- nothing is asked where the whole COMPOUND is refused
pub returns-in-MinorVersion-clause-answers : goal.returns-in-MinorVersion-clause-answers
returns-in-MinorVersion-clause-answers g c =
    rw (c.in-MinorVersion.is, c.requires.empty) (determined_none (asker_of g.S.Service.gives c.args.context.now) (start c.args.service.now c.args.head))

pub returns-in-TooMany-clause-answers : goal.returns-in-TooMany-clause-answers
returns-in-TooMany-clause-answers g c =
    rw (c.in-TooMany.is, c.requires.empty) (determined_none (asker_of g.S.Service.gives c.args.context.now) (start c.args.service.now c.args.head))
