use Rattle.std.proofs.Common.{◌≡◌, ◌∷◌, ◌++◌, Err, ap}
use Rattle.std.specs.Vec.Iter.{into_iter_items}
use Rattle.nfs_state.specs.State.{History}
use Rattle.nfs_journal.proofs.WrongEntries.{first_wrong}
use Rattle.nfs_journal.proofs.auditing.audit.Goals as goal

pub returns-in-Err-NotNext : goal.returns-in-Err-NotNext
returns-in-Err-NotNext c =
    let at = c.loop-entry in
    let entry = c.in-Some.entry in
    let rest = into_iter_items c.next.new.self in
    let steps : into_iter_items at.entry-iterator ≡ entry ∷ rest = c.in-Some.ensures.steps.0 in
    let begun = c.into_iter-entry-iterator.ensures.into_iter_gives.0 in
    let parts : c.args.journal.entries ≡ at.yielded ++ entry ∷ rest =
    cc (at.invariant.parts, steps, begun, ap (λ (h : History). h.entries) c.journal.view_is) in
    let wrong = c.in-Err-NotNext.ensures.not_next (ap Err c.in-Err-NotNext.field-0-is) in
    first_wrong c.at_most_one_state.ensures c.args.journal at.core at.number at.yielded rest entry
    at.invariant.journal at.invariant.lawful at.invariant.place parts wrong
