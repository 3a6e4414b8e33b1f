use Rattle.std.proofs.Common.{◌≡◌, ◌∙◌, List, [], length, rules, sym, ap, arith}
use Rattle.std.proofs.lemmas.List.Elements.{All-push}
use Rattle.nfs_server.specs.Folding.{Place, asker_of, start}
use Rattle.nfs_tree.specs.Effect.{Effect}
use Rattle.nfs_xdr.specs.OpResult.{op_result}
use Rattle.nfs_server.proofs.Folding.{completes_more, completes_last, completes_none, length_with}
use Rattle.nfs_server.proofs.compound.answer_operations.Goals as goal

pub answer_one-answer-requires-clause-ready : goal.answer_one-answer-requires-clause-ready
answer_one-answer-requires-clause-ready g c =
    omega (arith, c.loop-op.invariant.ready, ap (λ (l : List _). length l) c.in-Some.ensures.items)

pub returns-then-not-continues-clause-answers : goal.returns-then-not-continues-clause-answers
returns-then-not-continues-clause-answers g c =
    let asker = asker_of g.S.Service.gives c.args.context.now in
    let first = start c.args.service.now c.args.head in
    let now : Place _ = record { service = c.loop-op.service; handles = c.loop-op.handles; size = c.loop-op.size } in
    let effect : Effect = record { answer = c.answer_one-answer.result; after = c.answer_one-answer.new.handles } in
    let ended = sym c.is_ok-continues.ensures ∙ c.if-not-continues.true in
    rw c.push_reserved.ensures.items
    (completes_last asker first now c.args.ops.now.items c.loop-op.ops.items c.pop_front.new.self.items c.loop-op.results.items c.in-Some.op effect c.answer_one-answer.new.service
    c.in-Some.ensures.items c.answer_one-answer.ensures.answer ended c.loop-op.invariant.completes)

pub loop-op-preserved : goal.loop-op-preserved
loop-op-preserved g c =
    let i = c.loop-op.invariant in
    let popped = c.in-Some.ensures.items in
    let shorter = ap (λ (l : List _). length l) popped in
    let asker = asker_of g.S.Service.gives c.args.context.now in
    let first = start c.args.service.now c.args.head in
    let now : Place _ = record { service = c.loop-op.service; handles = c.loop-op.handles; size = c.loop-op.size } in
    let effect : Effect = record { answer = c.answer_one-answer.result; after = c.answer_one-answer.new.handles } in
    let goes = sym c.is_ok-continues.ensures ∙ c.if-not-continues.false in
    record {
      completes = rw (c.push_reserved.ensures.items, c.written_len-size.ensures)
          (completes_more asker first now c.args.ops.now.items c.loop-op.ops.items c.pop_front.new.self.items c.loop-op.results.items c.in-Some.op effect c.answer_one-answer.new.service
          popped c.answer_one-answer.ensures.answer goes i.completes);
      ready = omega (arith, c.answer_one-answer.ensures.ready, i.ready, shorter);
      space = omega (arith, i.space, shorter, c.push_reserved.ensures.len, c.push_reserved.ensures.capacity);
      size = rw (c.push_reserved.ensures.items, length_with, c.written_len-size.ensures) (omega (arith, i.size));
      within = omega (arith, c.answer_one-answer.ensures.continues goes, c.written_len-size.ensures);
      form = rw c.push_reserved.ensures.items (All-push op_result.Fits c.loop-op.results.items c.answer_one-answer.result i.form c.answer_one-answer.ensures.form);
      serves = c.answer_one-answer.ensures.serves;
      nodes = c.answer_one-answer.ensures.nodes;
    }

pub returns-then-not-continues-clause-form : goal.returns-then-not-continues-clause-form
returns-then-not-continues-clause-form g c =
    rw c.push_reserved.ensures.items (All-push op_result.Fits c.loop-op.results.items c.answer_one-answer.result c.loop-op.invariant.form c.answer_one-answer.ensures.form)

pub returns-clause-answers : goal.returns-clause-answers
returns-clause-answers g c =
    let now : Place _ = record { service = c.loop-op.service; handles = c.loop-op.handles; size = c.loop-op.size } in
    let none : c.loop-op.ops.items ≡ [] = search rules in
    completes_none (asker_of g.S.Service.gives c.args.context.now) (start c.args.service.now c.args.head) now c.args.ops.now.items c.loop-op.ops.items c.loop-op.results.items none c.loop-op.invariant.completes
