use Rattle.std.proofs.Common.{arith, subst, sym, ◌∙◌}
use Rattle.nfs_rpc.specs.declared.reply.TheConstants.{ACCEPTED_SUCCESS}
use Rattle.nfs_rpc.specs.declared.rpc_call.RpcCall.{RpcCall}
use Rattle.nfs_rpc.specs.RpcCall.{IsCall}
use Rattle.nfs_server.specs.Exchange.{rules}
use Rattle.nfs_server.proofs.Exchanges.{answered_behind, answers_silence, answers_null, answers_alone, answers_compound}
use Rattle.nfs_server.proofs.Replying.{length_accepted, reply_length}
use Rattle.nfs_server.proofs.answered_call.answer_call.Goals as goal
use Rattle.nfs_tree.specs.Exports.{export_seen}

pub with_short_reply-call-requires-clause-short : goal.with_short_reply-call-requires-clause-short
with_short_reply-call-requires-clause-short g c = omega (arith, length_accepted c.in-Null.xid ACCEPTED_SUCCESS)

pub with_results-requires-clause-len : goal.with_results-requires-clause-len
with_results-requires-clause-len g c =
    c.run_compound-compound.ensures.len ∙ sym (reply_length c.in-Compound.xid c.run_compound-compound.result.reply)

pub returns-in-Silent-clause-ok : goal.returns-in-Silent-clause-ok
returns-in-Silent-clause-ok g c =
    let by = rules (export_seen c.args.export.now) g.S.Service.gives g.S.Service.alike g.C.Clock.tells in
    let called = subst (λ (k : RpcCall). IsCall c.args.pending.message k) c.in-Silent.is c.into_parts-message.ensures.call in
    let one = answers_silence by c.args.service.now c.args.clock.now c.args.pending.message c.without_reply.result called c.without_reply.ensures in
    answered_behind by c.args.service.now c.args.service.now c.args.clock.now c.args.clock.now c.args.pending.message c.without_reply.result c.args.answered.now.items c.put.new.answered.items c.put.result one c.put.ensures.items c.put.ensures.len

pub returns-in-Null-clause-ok : goal.returns-in-Null-clause-ok
returns-in-Null-clause-ok g c =
    let by = rules (export_seen c.args.export.now) g.S.Service.gives g.S.Service.alike g.C.Clock.tells in
    let called = subst (λ (k : RpcCall). IsCall c.args.pending.message k) c.in-Null.is c.into_parts-message.ensures.call in
    let one = answers_null by c.args.service.now c.args.clock.now c.args.pending.message c.with_short_reply-call.result c.in-Null.xid called c.with_short_reply-call.ensures in
    answered_behind by c.args.service.now c.args.service.now c.args.clock.now c.args.clock.now c.args.pending.message c.with_short_reply-call.result c.args.answered.now.items c.put-in-Null.new.answered.items c.put-in-Null.result one c.put-in-Null.ensures.items c.put-in-Null.ensures.len

pub returns-in-Answer-clause-ok : goal.returns-in-Answer-clause-ok
returns-in-Answer-clause-ok g c =
    let by = rules (export_seen c.args.export.now) g.S.Service.gives g.S.Service.alike g.C.Clock.tells in
    let called = subst (λ (k : RpcCall). IsCall c.args.pending.message k) c.in-Answer.is c.into_parts-message.ensures.call in
    let one = answers_alone by c.args.service.now c.args.clock.now c.args.pending.message c.with_short_reply-call-in-Answer.result c.in-Answer.xid c.in-Answer.reply called c.with_short_reply-call-in-Answer.ensures in
    answered_behind by c.args.service.now c.args.service.now c.args.clock.now c.args.clock.now c.args.pending.message c.with_short_reply-call-in-Answer.result c.args.answered.now.items c.put-in-Answer.new.answered.items c.put-in-Answer.result one c.put-in-Answer.ensures.items c.put-in-Answer.ensures.len

pub returns-in_ok-results-in-Compound-clause-ok : goal.returns-in_ok-results-in-Compound-clause-ok
returns-in_ok-results-in-Compound-clause-ok g c =
    let by = rules (export_seen c.args.export.now) g.S.Service.gives g.S.Service.alike g.C.Clock.tells in
    let called = subst (λ (k : RpcCall). IsCall c.args.pending.message k) c.in-Compound.is c.into_parts-message.ensures.call in
    let one = answers_compound by c.args.service.now c.with_service_room.new.service c.run_compound-compound.new.service c.args.clock.now c.now-moment.new.self c.args.pending.message c.with_results.result c.in-Compound.xid c.now-moment.result c.in-Compound.principal c.in-Compound.compound c.run_compound-compound.result.reply called c.with_service_room.ensures.alike c.now-moment.ensures c.run_compound-compound.ensures.answers c.with_results.ensures in
    answered_behind by c.args.service.now c.run_compound-compound.new.service c.args.clock.now c.now-moment.new.self c.args.pending.message c.with_results.result c.args.answered.now.items c.put-in-Compound.new.answered.items c.put-in-Compound.result one c.put-in-Compound.ensures.items c.put-in-Compound.ensures.len
