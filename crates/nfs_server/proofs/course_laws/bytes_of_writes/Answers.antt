use Rattle.nfs_server.proofs.CourseLaws.{adds_written, counted_sink_tells}
use Rattle.nfs_server.proofs.course_laws.bytes_of_writes.Goals as goal

pub returns : goal.returns
returns g c = adds_written _ _ _ (counted_sink_tells g.W.Write.contents)
