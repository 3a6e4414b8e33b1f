use Rattle.std.proofs.Common.{◌∙◌, ap, map, subst, sym}
use Rattle.nfs_owners.proofs.LiveNumbers.{Walked, walked_all, walked_none, walked_on, walked_past}
use Rattle.nfs_owners.proofs.clients.records.Records.next_client.Goals as goal

pub loop-record-init : goal.loop-record-init
loop-record-init g c = record {
  can = tt;
  finite = tt;
  walked = λ p answers. walked_none p c.args.after c.args.self.now.records c.into_iter-record-iterator.result
      (ap (map (λ item. item.1)) c.into_iter-record-iterator.ensures.into_iter_gives ∙ c.iter-record-items.ensures);
}

pub loop-record-preserved : goal.loop-record-preserved
loop-record-preserved g c = record {
  can = tt;
  finite = tt;
  walked = λ p answers.
      walked_past p c.args.after c.args.self.now.records (c.in-Some.field-0-0, c.in-Some.record.now) c.next.new.self c.loop-record.next
      (sym (answers c.in-Some.record c.test.result c.test.ensures) ∙ c.if-test.false)
      (subst (λ items. Walked p c.args.after c.args.self.now.records items c.loop-record.next) c.in-Some.ensures.steps (c.loop-record.invariant.walked p answers));
}

pub loop-record-preserved-then-test : goal.loop-record-preserved-then-test
loop-record-preserved-then-test g c = record {
  can = tt;
  finite = tt;
  walked = λ p answers.
      walked_on p c.args.after c.args.self.now.records (c.in-Some.field-0-0, c.in-Some.record.now) c.next.new.self c.loop-record.next c.nearer-next.result
      (sym (answers c.in-Some.record c.test.result c.test.ensures) ∙ c.if-test.true) c.nearer-next.ensures
      (subst (λ items. Walked p c.args.after c.args.self.now.records items c.loop-record.next) c.in-Some.ensures.steps (c.loop-record.invariant.walked p answers));
}

pub returns : goal.returns
returns g c = λ p answers.
    walked_all p c.args.after c.args.self.now.records c.loop-record.next
    (subst (λ items. Walked p c.args.after c.args.self.now.records items c.loop-record.next) c.in-None.ensures.steps.0 (c.loop-record.invariant.walked p answers))
