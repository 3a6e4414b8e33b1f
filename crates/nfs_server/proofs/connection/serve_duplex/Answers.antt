use Rattle.std.proofs.Common.{◌≡◌, Err, refl, ap, ◌∙◌}
use Rattle.std.proofs.lemmas.Result.{err_from_is_err_and}
use Rattle.nfs_server.specs.declared.serve_error.ServeError.{ServeError}
use Rattle.nfs_server.specs.declared.serve_error.ServeError.TheVariants as errors
use Rattle.nfs_server.specs.Connection.{scene}
use Rattle.nfs_server.specs.Exchange.{rules}
use Rattle.nfs_server.proofs.Courses.{ends_unread, same_error}
use Rattle.nfs_server.proofs.connection.serve_duplex.Goals as goal
use Rattle.nfs_server.specs.Serves.{exported}

pub returns-in_err-buffers-clause-course : goal.returns-in_err-buffers-clause-course
returns-in_err-buffers-clause-course g c =
    let p = err_from_is_err_and c.from_residual.result c.from_residual.ensures.1 in
    let memory : c.from_residual.result ≡ Err errors.Memory = p.1 ∙ ap (λ (e : ServeError). Err e) (p.2 ∙ same_error _ c.in_err-buffers.field-0.0 errors.Memory refl c.in_err-buffers.ensures.memory) in
    rw memory (ends_unread g.D.Duplex.device (rules (exported c.args.tree.now (g.S.Service.serves c.args.service.now)) g.S.Service.gives g.S.Service.alike g.C.Clock.tells) (scene c.args.device.now c.args.service.now c.args.clock.now))
