use Rattle.std.proofs.Common.{◌≡◌, ◌∙◌, List, ◌++◌, [], ap, sym, subst}
use Rattle.std.specs.Prelude.{◌≢◌}
use Rattle.nfs_server.specs.Batch.{AreAnswered, Gathering, gathering, messages_in, waiting_bytes}
use Rattle.nfs_server.specs.Exchange.{rules}
use Rattle.std.proofs.Common.{rules as steps}
use Rattle.nfs_server.specs.PendingCall.{PendingView}
use Rattle.nfs_server.proofs.Batching.{answered_same, on_err, refused_at_once, refused_with, some_pending}
use Rattle.nfs_server.proofs.replies.Replies.answer_some.Goals as goal
use Rattle.nfs_tree.specs.Exports.{export_seen}

pub returns-in_err-take-clause-err : goal.returns-in_err-take-clause-err
returns-in_err-take-clause-err g c =
    let by = rules (export_seen c.args.export.now) g.S.Service.gives g.S.Service.alike g.C.Clock.tells in
    let left = messages_in c.args.self.now.pending.items ++ c.args.records.now.ready in
    on_err c.from_residual.result _ (
      left,
      c.in_err-take.ensures.err,
      refused_at_once by g.met.S.Service.alike_same c.args.service.now c.args.clock.now c.args.self.now.gathered.items c.take.new.self.gathered.items left c.take.ensures.same,
    )

pub returns-then-is_empty-clause-ok : goal.returns-then-is_empty-clause-ok
returns-then-is_empty-clause-ok g c =
    answered_same (rules (export_seen c.args.export.now) g.S.Service.gives g.S.Service.alike g.C.Clock.tells) c.args.service.now c.args.clock.now c.args.self.now.gathered.items c.take.new.self.gathered.items
    (messages_in c.args.self.now.pending.items ++ c.args.records.now.ready) (messages_in c.take.new.self.pending.items ++ c.take.new.records.ready) c.take.ensures.same c.in_ok-take.ensures.ok

pub returns-in_err-make_room-clause-err : goal.returns-in_err-make_room-clause-err
returns-in_err-make_room-clause-err g c =
    let by = rules (export_seen c.args.export.now) g.S.Service.gives g.S.Service.alike g.C.Clock.tells in
    let left = messages_in c.args.self.now.pending.items ++ c.args.records.now.ready in
    let some : c.take.new.self.pending.items ≢ [] = search steps in
    on_err c.from_residual-in_err-make_room.result _ (
      left,
      some_pending left c.take.new.self.pending.items c.take.new.records.ready c.in_ok-take.ensures.ok some,
      refused_at_once by g.met.S.Service.alike_same c.args.service.now c.args.clock.now c.args.self.now.gathered.items c.make_room.new.self.gathered.items left (c.make_room.ensures.same ∙ c.take.ensures.same),
    )

pub returns-in_err-answered-clause-err : goal.returns-in_err-answered-clause-err
returns-in_err-answered-clause-err g c =
    let by = rules (export_seen c.args.export.now) g.S.Service.gives g.S.Service.alike g.C.Clock.tells in
    let took = c.make_room.new.self in
    let ready = c.take.new.records.ready in
    let batch = c.answer_batch-answered.new in
    let written = c.write_answered.new.self.gathered.items in
    let before = gathering c.begin_batch.new.self c.args.clock.now took.gathered.items (messages_in took.pending.items) in
    let after = gathering batch.service batch.clock (waiting_bytes batch.self.gathered.items batch.self.answered.items) [] in
    let refused = c.in_err-answered.ensures.err in
    let more = refused_with by before after refused.0 ready refused.1 (λ i. []) refused.2 in
    let gathered : took.gathered.items ≡ c.args.self.now.gathered.items = c.make_room.ensures.same ∙ c.take.ensures.same in
    let left : messages_in took.pending.items ++ ready ≡ messages_in c.args.self.now.pending.items ++ c.args.records.now.ready =
    ap (λ (ps : List PendingView). messages_in ps ++ ready) c.make_room.ensures.pending ∙ sym c.in_ok-take.ensures.ok in
    let before_is : record before { left = before.left ++ ready } ≡ gathering c.args.service.now c.args.clock.now c.args.self.now.gathered.items (messages_in c.args.self.now.pending.items ++ c.args.records.now.ready) =
    λ i. gathering (c.begin_batch.ensures i) c.args.clock.now (gathered i) (left i) in
    let after_is : after ≡ gathering c.end_batch.new.self batch.clock written [] = λ i. gathering (sym c.end_batch.ensures i) batch.clock (sym c.write_answered.ensures.gathered i) [] in
    on_err c.from_residual-in_err-answered.result _ (
      refused.0 ++ ready,
      more.0,
      subst (λ (a : Gathering _ _). AreAnswered by a (refused.0 ++ ready) (gathering c.end_batch.new.self batch.clock written [])) before_is
          (subst (λ (z : Gathering _ _). AreAnswered by (record before { left = before.left ++ ready }) (refused.0 ++ ready) z) after_is more.1),
    )
