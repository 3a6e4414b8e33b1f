use Rattle.std.proofs.Common.{◌≡◌, ◌+◌, ◌≤◌, ◌∙◌, List, [], ℕ, ap, arith, length, subst, sym}
use Rattle.nfs_state.specs.Pages.{AreFilledUp, replaced}
use Rattle.nfs_state.proofs.FileChanges.{filled_replaced, first_written}
use Rattle.nfs_state.proofs.stored_file.pages_of.Goals as goal

pub returns : goal.returns
returns c =
    let text = c.in_ok-text.text in
    let all = c.grow.new.self in
    let zeros : AreFilledUp [] all = subst (λ (xs : List ℕ). AreFilledUp xs all) c.new-pages.ensures c.grow.ensures.zeros in
    let within : 0 + length text ≤ length all = omega (arith, c.in_ok-grow.ensures.room, ap length c.as_slice.ensures) in
    let comes : c.replace.new.self ≡ replaced 0 text all = c.replace.ensures ∙ c.in_ok-first.ensures in
    let filled_up : AreFilledUp text (replaced 0 text all) = subst (λ (xs : List ℕ). AreFilledUp xs (replaced 0 text all)) (first_written text) (filled_replaced 0 text [] all zeros (omega arith) within) in
    subst (λ (xs : List ℕ). AreFilledUp xs c.replace.new.self) c.in_ok-text.ensures
    (subst (λ (xs : List ℕ). AreFilledUp text xs) (sym comes) filled_up)
