use Rattle.std.proofs.Common.{◌≡◌, ◌∙◌, ℕ, List, [], ◌∷◌, ◌++◌, length, ap, refl, sym, subst, true, arith}
use Rattle.std.proofs.lemmas.List.{length-append}
use Rattle.nfs_server.specs.Batch.{AreAnswered, gathering, goes_on, messages_in, waiting_bytes}
use Rattle.nfs_server.specs.Exchange.{rules, written_for}
use Rattle.nfs_server.specs.PendingCall.{PendingView}
use Rattle.nfs_server.proofs.Batching.{answered_more, answered_none, answered_until, asked_then, on_err, some_left, waiting-more, waiting-none, waits_few}
use Rattle.nfs_server.proofs.replies.Replies.answer_batch.Goals as goal
use Rattle.nfs_tree.specs.Exports.{export_seen}

pub loop-self-init : goal.loop-self-init
loop-self-init g c =
    let by = rules (export_seen c.args.export.now) g.S.Service.gives g.S.Service.alike g.C.Clock.tells in
    let gathered = c.args.self.now.gathered.items in
    let none = waiting-none gathered c.args.self.now.answered.items c.requires.written in
    let first = gathering c.args.service.now c.args.clock.now gathered (messages_in c.args.self.now.pending.items) in
    record {
      answered = subst (λ (w : List ℕ). AreAnswered by first [] (gathering c.args.service.now c.args.clock.now w (messages_in c.args.self.now.pending.items))) (sym none) (answered_none by first);
      counted = omega (arith, c.len-waiting.ensures, c.args.self.now.gathered.ok.0, ap (λ (w : List ℕ). length w) none);
      within = omega (arith, c.requires.within, c.len-waiting.ensures, c.args.self.now.gathered.ok.0);
      room = c.requires.room;
      same = refl;
      few = omega arith;
      fewer = omega arith;
      first = λ same. (refl, omega (arith, c.requires.within, c.len-waiting.ensures, c.args.self.now.gathered.ok.0));
      serves = c.requires.serves;
    }

pub answer_call-requires-clause-room : goal.answer_call-requires-clause-room
answer_call-requires-clause-room g c = omega (arith, c.loop-self.invariant.room, c.in-Some.ensures.len)

pub loop-self-preserved : goal.loop-self-preserved
loop-self-preserved g c =
    let i = c.loop-self.invariant in
    let now = c.loop-self.self in
    let left = c.pop_front.new.self.items in
    let answered = c.answer_call.new.answered.items in
    let by = rules (export_seen c.args.export.now) g.S.Service.gives g.S.Service.alike g.C.Clock.tells in
    let first = gathering c.args.service.now c.args.clock.now c.args.self.now.gathered.items (messages_in c.args.self.now.pending.items) in
    let mid = gathering c.loop-self.service c.loop-self.clock (waiting_bytes now.gathered.items now.answered.items) (messages_in now.pending.items) in
    let after = gathering c.answer_call.new.service c.answer_call.new.clock (waiting_bytes now.gathered.items answered) (messages_in left) in
    let one = c.in_ok-len.ensures.ok in
    let bytes = written_for (export_seen c.args.export.now) one.0 in
    let popped : now.pending.items ≡ c.in-Some.pending ∷ left = c.in-Some.ensures.items in
    let shorter = ap (λ (ps : List PendingView). length ps) popped in
    let more : waiting_bytes now.gathered.items answered ≡ waiting_bytes now.gathered.items now.answered.items ++ bytes =
    ap (λ (a : List (List ℕ)). waiting_bytes now.gathered.items a) one.3 ∙ waiting-more now.gathered.items now.answered.items bytes in
    let longer = ap (λ (w : List ℕ). length w) more ∙ length-append (waiting_bytes now.gathered.items now.answered.items) bytes in
    let goes = subst (λ (ps : List PendingView). goes_on ps c.loop-self.asked c.loop-self.waiting ≡ true) popped (sym c.goes_on.ensures.goes ∙ c.loop-self-test.true) in
    record {
      answered = answered_more by first mid after c.in-Some.pending.message bytes i.answered (ap messages_in popped) more (one.0, one.1, one.2, refl);
      counted = omega (arith, i.counted, longer, one.4);
      within = omega (arith, waits_few c.in-Some.pending left c.loop-self.asked c.loop-self.waiting goes, c.in_ok-len.ensures.few);
      room = omega (arith, i.room, c.in-Some.ensures.len, c.in_ok-len.ensures.count, c.answer_call.ensures.room);
      same = i.same;
      few = omega (arith, c.question_count-asked.ensures.count, asked_then c.in-Some.pending left c.loop-self.asked c.loop-self.waiting goes);
      fewer = omega (arith, i.fewer, shorter);
      first = λ same. absurd (omega (arith, i.fewer, shorter, same));
      serves = c.answer_call.ensures.serves;
    }

pub returns-in_err-len-clause-err : goal.returns-in_err-len-clause-err
returns-in_err-len-clause-err g c =
    let now = c.loop-self.self in
    let by = rules (export_seen c.args.export.now) g.S.Service.gives g.S.Service.alike g.C.Clock.tells in
    let first = gathering c.args.service.now c.args.clock.now c.args.self.now.gathered.items (messages_in c.args.self.now.pending.items) in
    let mid = gathering c.loop-self.service c.loop-self.clock (waiting_bytes now.gathered.items now.answered.items) (messages_in now.pending.items) in
    let refused = c.in_err-len.ensures.err in
    let rest = messages_in c.pop_front.new.self.items in
    let same = ap (λ (a : List (List ℕ)). waiting_bytes now.gathered.items a) refused.2 in
    on_err c.from_residual.result _ (
      c.in-Some.pending.message ∷ rest,
      some_left c.in-Some.pending.message rest,
      answered_until by first mid c.answer_call.new.service c.answer_call.new.clock (waiting_bytes now.gathered.items c.answer_call.new.answered.items) c.in-Some.pending.message rest c.loop-self.invariant.answered (ap messages_in c.in-Some.ensures.items) refused.0 refused.1 same,
    )

pub returns-in_err-len-clause-few : goal.returns-in_err-len-clause-few
returns-in_err-len-clause-few g c =
    let now = c.loop-self.self in
    let same = ap (λ (a : List (List ℕ)). length (waiting_bytes now.gathered.items a)) c.in_err-len.ensures.err.2 in
    omega (arith, c.loop-self.invariant.counted, c.loop-self.invariant.within, same)

pub returns-clause-few : goal.returns-clause-few
returns-clause-few g c = omega (arith, c.loop-self.invariant.counted, c.loop-self.invariant.within)

pub returns-clause-ok : goal.returns-clause-ok
returns-clause-ok g c = c.loop-self.invariant.answered

pub returns-clause-same : goal.returns-clause-same
returns-clause-same g c = c.loop-self.invariant.same
