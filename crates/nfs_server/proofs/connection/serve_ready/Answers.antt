use Rattle.std.proofs.Common.{ℕ, List, [], ◌++◌, Err, length, refl, ap, sym, subst, ◌∙◌, arith}
use Rattle.std.proofs.lemmas.Result.{err_from_is_err_and}
use Rattle.nfs_server.specs.declared.serve_error.ServeError.{ServeError}
use Rattle.nfs_server.specs.declared.serve_error.ServeError.TheVariants as errors
use Rattle.nfs_server.specs.Batch.{gathering, messages_in}
use Rattle.nfs_server.specs.Connection.{scene}
use Rattle.nfs_server.specs.Exchange.{rules}
use Rattle.nfs_server.specs.PendingCall.{PendingView}
use Rattle.nfs_server.proofs.Batching.{same_then, serves_more, serves_part}
use Rattle.nfs_server.proofs.Serving.{HasServed, ends_all, ends_cut, ends_refused, ends_so, error_is, left_so, serves_none, serves_sent}
use Rattle.nfs_server.proofs.connection.serve_ready.Goals as goal
use Rattle.nfs_tree.specs.Exports.{export_seen}

pub loop-device-init : goal.loop-device-init
loop-device-init g c =
    let by = rules (export_seen c.args.export.now) g.S.Service.gives g.S.Service.alike g.C.Clock.tells in
    let start = scene c.args.device.now c.args.service.now c.args.clock.now in
    let ready = c.args.records.now.ready in
    let waiting = c.args.replies.now.gathered.items in
    record {
      served = subst (λ (ps : List PendingView). HasServed g.D.Duplex.device by start ready (messages_in ps ++ ready) waiting start) (sym c.requires.none) (serves_none g.D.Duplex.device by start ready waiting c.requires.idle);
      limits = c.requires.limits;
      same = refl;
      within = omega (arith, ap (λ (w : List ℕ). length w) c.requires.idle);
      written = c.requires.written;
      serves = c.requires.serves;
      reads = refl;
      writes = refl;
    }

pub returns-in-Ok-false-clause-served : goal.returns-in-Ok-false-clause-served
returns-in-Ok-false-clause-served g c =
    let by = rules (export_seen c.args.export.now) g.S.Service.gives g.S.Service.alike g.C.Clock.tells in
    let start = scene c.args.device.now c.args.service.now c.args.clock.now in
    let now = c.loop-device in
    let new = c.answer_some.new in
    let after = gathering new.service new.clock new.self.gathered.items (messages_in new.self.pending.items ++ new.records.ready) in
    let more = serves_more g.D.Duplex.device by start (scene now.device now.service now.clock) c.args.records.now.ready (messages_in now.replies.pending.items ++ now.records.ready) now.replies.gathered.items after now.invariant.served c.in-Ok-false.ensures.ok in
    ends_all g.D.Duplex.device by start (scene now.device new.service new.clock) c.args.records.now.ready after.left new.self.gathered.items c.send.new.device c.send.result more
    (c.in-Ok-false.ensures.none c.in-Ok-false.field-0-test) c.send.ensures.ok c.send.ensures.err c.send.ensures.write

-- the records for which memory ran out remain unanswered, and no reply before them is lost
pub returns-in_err-send-in-Err-clause-served : goal.returns-in_err-send-in-Err-clause-served
returns-in_err-send-in-Err-clause-served g c =
    let p = err_from_is_err_and c.from_residual.result c.from_residual.ensures.1 in
    let by = rules (export_seen c.args.export.now) g.S.Service.gives g.S.Service.alike g.C.Clock.tells in
    let start = scene c.args.device.now c.args.service.now c.args.clock.now in
    let now = c.loop-device in
    let new = c.answer_some.new in
    let refused = c.in-Err.ensures.err in
    let after = gathering new.service new.clock new.self.gathered.items [] in
    let part = serves_part g.D.Duplex.device by start (scene now.device now.service now.clock) c.args.records.now.ready (messages_in now.replies.pending.items ++ now.records.ready) now.replies.gathered.items refused.0 after now.invariant.served refl refused.2 in
    ends_so g.D.Duplex.device by start (scene c.send-in-Err.new.device new.service new.clock) c.args.records.now.ready c.from_residual.result c.in_err-send-in-Err.field-0.0
    (p.1 ∙ ap (λ (e : ServeError). Err e) p.2) (error_is c.in_err-send-in-Err.field-0.0 errors.Write c.in_err-send-in-Err.ensures.write)
    (ends_cut {T = Unit {0}} g.D.Duplex.device by start (scene now.device refused.2.service new.clock) c.args.records.now.ready refused.0 new.self.gathered.items c.send-in-Err.new.device new.service part refused.2.stays c.in_err-send-in-Err.ensures.err)

pub returns-in-Err-clause-served : goal.returns-in-Err-clause-served
returns-in-Err-clause-served g c =
    let by = rules (export_seen c.args.export.now) g.S.Service.gives g.S.Service.alike g.C.Clock.tells in
    let start = scene c.args.device.now c.args.service.now c.args.clock.now in
    let now = c.loop-device in
    let new = c.answer_some.new in
    let refused = c.in-Err.ensures.err in
    let after = gathering new.service new.clock new.self.gathered.items [] in
    let part = serves_part g.D.Duplex.device by start (scene now.device now.service now.clock) c.args.records.now.ready (messages_in now.replies.pending.items ++ now.records.ready) now.replies.gathered.items refused.0 after now.invariant.served refl refused.2 in
    ends_refused {T = Unit {0}} g.D.Duplex.device by start (scene now.device refused.2.service new.clock) c.args.records.now.ready refused.0 new.self.gathered.items c.send-in-Err.new.device new.service part refused.2.stays refused.1 c.in_ok-send-in-Err.ensures.ok

pub loop-device-preserved-in-Continue-branch-2 : goal.loop-device-preserved-in-Continue-branch-2
loop-device-preserved-in-Continue-branch-2 g c =
    let by = rules (export_seen c.args.export.now) g.S.Service.gives g.S.Service.alike g.C.Clock.tells in
    let start = scene c.args.device.now c.args.service.now c.args.clock.now in
    let messages = c.args.records.now.ready in
    let now = c.loop-device in
    let new = c.answer_some.new in
    let out = c.send-then-as_slice-gt-GATHER_LIMIT.new in
    let after = gathering new.service new.clock new.self.gathered.items (messages_in new.self.pending.items ++ new.records.ready) in
    let more = serves_more g.D.Duplex.device by start (scene now.device now.service now.clock) messages (messages_in now.replies.pending.items ++ now.records.ready) now.replies.gathered.items after now.invariant.served c.in-Ok-true.ensures.ok in
    let sent = serves_sent g.D.Duplex.device by start (scene now.device new.service new.clock) messages after.left new.self.gathered.items out.replies.gathered.items out.device more c.in_ok-send.ensures.ok c.in_ok-send.ensures.idle in
    record {
      served = subst (λ (ps : List PendingView). HasServed g.D.Duplex.device by start messages (messages_in ps ++ new.records.ready) out.replies.gathered.items (scene out.device new.service new.clock)) (sym c.in_ok-send.ensures.pending) sent;
      limits = c.in-Ok-true.ensures.limits;
      same = same_then c.args.records.now now.records new.records now.invariant.same c.in-Ok-true.ensures.records;
      within = omega (arith, ap (λ (w : List ℕ). length w) c.in_ok-send.ensures.idle);
      written = c.in_ok-send.ensures.answered ∙ c.in-Ok-true.ensures.written;
      serves = c.in-Ok-true.ensures.serves;
      reads = c.in_ok-send.ensures.reads ∙ now.invariant.reads;
      writes = c.in_ok-send.ensures.kept ∙ now.invariant.writes;
    }

pub returns-in_err-send-clause-served : goal.returns-in_err-send-clause-served
returns-in_err-send-clause-served g c =
    let p = err_from_is_err_and c.from_residual-in_err-send.result c.from_residual-in_err-send.ensures.1 in
    let by = rules (export_seen c.args.export.now) g.S.Service.gives g.S.Service.alike g.C.Clock.tells in
    let start = scene c.args.device.now c.args.service.now c.args.clock.now in
    let messages = c.args.records.now.ready in
    let now = c.loop-device in
    let new = c.answer_some.new in
    let out = c.send-then-as_slice-gt-GATHER_LIMIT.new in
    let after = gathering new.service new.clock new.self.gathered.items (messages_in new.self.pending.items ++ new.records.ready) in
    let more = serves_more g.D.Duplex.device by start (scene now.device now.service now.clock) messages (messages_in now.replies.pending.items ++ now.records.ready) now.replies.gathered.items after now.invariant.served c.in-Ok-true.ensures.ok in
    ends_so g.D.Duplex.device by start (scene out.device new.service new.clock) messages c.from_residual-in_err-send.result c.in_err-send.field-0.0
    (p.1 ∙ ap (λ (e : ServeError). Err e) p.2) (error_is c.in_err-send.field-0.0 errors.Write c.in_err-send.ensures.write)
    (ends_cut {T = Unit {0}} g.D.Duplex.device by start (scene now.device new.service new.clock) messages after.left new.self.gathered.items out.device new.service more (left_so g.S.Service.alike g.met.S.Service.alike_same new.service after.left) c.in_err-send.ensures.err)

pub loop-device-preserved : goal.loop-device-preserved
loop-device-preserved g c =
    let by = rules (export_seen c.args.export.now) g.S.Service.gives g.S.Service.alike g.C.Clock.tells in
    let start = scene c.args.device.now c.args.service.now c.args.clock.now in
    let now = c.loop-device in
    let new = c.answer_some.new in
    let after = gathering new.service new.clock new.self.gathered.items (messages_in new.self.pending.items ++ new.records.ready) in
    record {
      served = serves_more g.D.Duplex.device by start (scene now.device now.service now.clock) c.args.records.now.ready (messages_in now.replies.pending.items ++ now.records.ready) now.replies.gathered.items after now.invariant.served c.in-Ok-true.ensures.ok;
      limits = c.in-Ok-true.ensures.limits;
      same = same_then c.args.records.now now.records new.records now.invariant.same c.in-Ok-true.ensures.records;
      within = omega (arith, c.if-as_slice-gt-GATHER_LIMIT.false, ap (λ (w : List ℕ). length w) c.as_slice.ensures);
      written = c.in-Ok-true.ensures.written;
      serves = c.in-Ok-true.ensures.serves;
      reads = now.invariant.reads;
      writes = now.invariant.writes;
    }
