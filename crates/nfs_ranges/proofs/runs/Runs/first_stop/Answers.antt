use Rattle.std.proofs.Common.{◌-◌, sym, ◌∙◌, arith}
use Rattle.nfs_ranges.specs.Questions.{stops}
use Rattle.nfs_ranges.proofs.InOrder.{find_first, find_last, find_second}
use Rattle.nfs_ranges.proofs.runs.Runs.first_stop.Goals as goal

pub returns-then-place-count : goal.returns-then-place-count
returns-then-place-count c =
    c.last_stop.ensures
    ∙ find_last (stops c.args.last c.args.asked) c.args.self.now.before.items c.args.self.now.behind.items c.deref.result.now
    c.args.place (c.len.result - (c.args.place - c.len-count.result)) c.deref.ensures.value
    (omega (arith, c.if-place-count.true, c.len-count.ensures, c.args.self.now.before.ok.0)) c.requires
    (omega (arith, c.len.ensures, c.len-count.ensures, c.deref.ensures.len, c.args.self.now.before.ok.0))

pub returns-in-Some : goal.returns-in-Some
returns-in-Some c =
    find_first (stops c.args.last c.args.asked) c.args.self.now.before.items c.args.self.now.behind.items
    c.deref-2.result.now c.args.place c.in-Some.run' c.deref-2.ensures.value
    (omega (arith, c.if-place-count.false, c.len-count.ensures, c.deref-2.ensures.len))
    (sym c.first_stop.ensures ∙ c.in-Some.is)

pub returns-in-None : goal.returns-in-None
returns-in-None c =
    c.last_stop-in-None.ensures
    ∙ find_second (stops c.args.last c.args.asked) c.args.self.now.before.items c.args.self.now.behind.items
    c.deref-2.result.now c.deref-in-None.result.now c.args.place c.len-in-None.result c.deref-2.ensures.value
    c.deref-in-None.ensures.value (omega (arith, c.if-place-count.false, c.len-count.ensures, c.deref-2.ensures.len))
    (omega (arith, c.len-in-None.ensures, c.deref-in-None.ensures.len))
    (sym c.first_stop.ensures ∙ c.in-None.is)
