use Rattle.std.proofs.Common.{arith}
use Rattle.nfs_server.proofs.Replying.{few_bytes}
use Rattle.nfs_server.proofs.answered_call.put.Goals as goal

pub returns-clause-few : goal.returns-clause-few
returns-clause-few c = omega (arith, c.call.invariant.1, few_bytes c.call.inside.reply c.call.invariant.0)
