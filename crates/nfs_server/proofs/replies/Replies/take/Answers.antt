use Rattle.std.proofs.Common.{◌++◌, ap}
use Rattle.nfs_rpc.specs.Records.{Stream}
use Rattle.nfs_server.specs.Batch.{messages_in}
use Rattle.nfs_server.proofs.Batching.{on_err, some_records}
use Rattle.nfs_server.proofs.replies.Replies.take.Goals as goal

pub returns-in_err-call-clause-err : goal.returns-in_err-call-clause-err
returns-in_err-call-clause-err c =
    on_err c.from_residual.result _
    (some_records (messages_in c.args.self.now.pending.items ++ c.args.records.now.ready) c.loop-records.self.pending.items c.loop-records.records.ready c.in-Some.message.items c.next.new.self.ready
    c.loop-records.invariant.left (ap (λ (s : Stream). s.ready) c.in-Some.ensures.some))

pub returns-in_err-map_err-clause-err : goal.returns-in_err-map_err-clause-err
returns-in_err-map_err-clause-err c =
    on_err c.from_residual-in_err-map_err.result _
    (some_records (messages_in c.args.self.now.pending.items ++ c.args.records.now.ready) c.loop-records.self.pending.items c.loop-records.records.ready c.in-Some.message.items c.next.new.self.ready
    c.loop-records.invariant.left (ap (λ (s : Stream). s.ready) c.in-Some.ensures.some))
