-- What is exported is the tree, as the service serves it.
use Rattle.std.proofs.Common.{◌≡◌, subst}
use Rattle.nfs_server.specs.Connection.{HasCourse, scene}
use Rattle.nfs_server.specs.Exchange.{rules}
use Rattle.nfs_server.specs.Serves.{exported}
use Rattle.nfs_tree.specs.Exports.{Exported}
use Rattle.nfs_server.proofs.buffers.Buffers.serve.Goals as goal

pub returns-clause-course : goal.returns-clause-course
returns-clause-course g c =
    let made = c.serve_turns-result in
    let served = g.S.Service.serves c.args.service.now in
    let export : Exported = record {
      nodes = c.args.tree.now.nodes;
      profile = c.profile.result;
      epoch = c.epoch.result;
    } in
    let same : export ≡ exported c.args.tree.now served =
    λ i. record {
      nodes = c.args.tree.now.nodes;
      profile = c.profile.ensures i;
      epoch = c.epoch.ensures i;
    } in
    subst (λ (e : Exported). HasCourse g.D.Duplex.device (rules e g.S.Service.gives g.S.Service.alike g.C.Clock.tells) (scene c.args.device.now c.args.service.now c.args.clock.now) made.result (scene made.new.device made.new.service made.new.clock)) same made.ensures.course
