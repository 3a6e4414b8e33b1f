use Rattle.std.proofs.Common.{◌≡◌, ◌∙◌, Some, ap, rules, sym, append_assoc}
use Rattle.std.specs.Option.{option_copied}
use Rattle.std.specs.Prelude.{slice_get}
use Rattle.nfs_journal.proofs.WritingEntries.{fails_at, fit_more, one_more}
use Rattle.nfs_journal.proofs.file.write_each.Goals as goal
use Rattle.nfs_state.specs.EntryForm.{entry}

pub returns-in-Err : goal.returns-in-Err
returns-in-Err c =
    let entries = c.args.journal.now.history.entries in
    let at : slice_get entries c.loop-number.number ≡ Some c.in-Some.entry.now = sym c.entry.ensures ∙ ap option_copied c.in-Some.is in
    fails_at entry.encoding entry.Fits c.args.out.now c.loop-number.out c.write.new.out c.truncate.new.self entries c.loop-number.number c.in-Some.entry.now c.in-Err.error
    at c.loop-number.invariant.items c.loop-number.invariant.room (rw c.len-start.ensures at c.truncate.ensures.items) c.truncate.ensures.capacity c.in-Err.ensures

pub loop-number-preserved : goal.loop-number-preserved
loop-number-preserved c =
    let entries = c.args.journal.now.history.entries in
    let at : slice_get entries c.loop-number.number ≡ Some c.in-Some.entry.now = sym c.entry.ensures ∙ ap option_copied c.in-Some.is in
    record {
      count = c.loop-number.invariant.count;
      items = rw (one_more entry.encoding entries c.loop-number.number c.in-Some.entry.now at) (search (rules, append_assoc));
      room = search rules;
      fit = fit_more entry.Fits entries c.loop-number.number c.in-Some.entry.now at c.loop-number.invariant.fit (search rules);
    }
