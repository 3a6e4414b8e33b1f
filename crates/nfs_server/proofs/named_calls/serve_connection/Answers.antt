use Rattle.std.proofs.Common.{rules}
use Rattle.nfs_server.specs.Sides.{device_of}
use Rattle.nfs_server.specs.Exchange.{rules as answered_by}
use Rattle.nfs_server.proofs.Views.{course_of_sides, course_to}
use Rattle.nfs_server.proofs.named_calls.serve_connection.Goals as goal
use Rattle.nfs_server.specs.Serves.{exported}

pub returns-clause-course : goal.returns-clause-course
returns-clause-course g c =
    let ended = course_of_sides g.R.Source.gives g.R.Source.fails g.W.Sink.takes g.W.Sink.fails (answered_by (exported c.args.tree.now (g.S.Service.serves c.args.service.now)) g.S.Service.gives g.S.Service.alike g.C.Clock.tells) _ c.serve_duplex.result _ c.serve_duplex.ensures.course in
    course_to (device_of g.R.Source.gives g.R.Source.fails g.W.Sink.takes g.W.Sink.fails) _ _ c.serve_duplex.result _ _ _ _ c.serve_duplex.new.service c.serve_duplex.new.clock (search (rules, ended.1.0, ended.1.1)) (search (rules, ended.1.0, ended.1.1)) ended.0

pub returns-clause-read_failed : goal.returns-clause-read_failed
returns-clause-read_failed g c =
    let ended = course_of_sides g.R.Source.gives g.R.Source.fails g.W.Sink.takes g.W.Sink.fails (answered_by (exported c.args.tree.now (g.S.Service.serves c.args.service.now)) g.S.Service.gives g.S.Service.alike g.C.Clock.tells) _ c.serve_duplex.result _ c.serve_duplex.ensures.course in
    search (rules, ended.1.0, ended.1.1)

pub returns-clause-write_failed : goal.returns-clause-write_failed
returns-clause-write_failed g c =
    let ended = course_of_sides g.R.Source.gives g.R.Source.fails g.W.Sink.takes g.W.Sink.fails (answered_by (exported c.args.tree.now (g.S.Service.serves c.args.service.now)) g.S.Service.gives g.S.Service.alike g.C.Clock.tells) _ c.serve_duplex.result _ c.serve_duplex.ensures.course in
    search (rules, ended.1.0, ended.1.1)
