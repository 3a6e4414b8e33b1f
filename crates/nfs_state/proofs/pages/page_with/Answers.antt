use Rattle.std.proofs.Common.{◌≡◌, ◌+◌, ◌≤◌, ◌++◌, ◌∙◌, List, ℕ, ap, arith, drop, length, subst, sym, take}
use Rattle.std.specs.Prelude.{IfOk}
use Rattle.nfs_state.specs.Pages.{replaced}
use Rattle.nfs_state.proofs.FileChanges.{overwritten}
use Rattle.nfs_state.proofs.PageLists.{length-replaced}
use Rattle.nfs_state.proofs.pages.page_with.Goals as goal

pub returns : goal.returns
returns c =
    let vec = c.in_ok-made.made in
    let new = c.put_at.new.bytes in
    let is = c.in_ok-made.ensures.items in
    let fits : c.args.at + length c.args.part.now ≤ length vec.items = omega (arith, ap length is, c.requires) in
    let new_is : new ≡ replaced c.args.at c.args.part.now vec.items = c.put_at.ensures ∙ ap (λ (xs : List ℕ). replaced c.args.at c.args.part.now xs) c.deref_mut.ensures.value in
    let new_many : length new ≡ vec.len = ap length new_is ∙ length-replaced c.args.at c.args.part.now vec.items fits ∙ sym vec.ok.0 in
    let all : take vec.len (new ++ drop (length new) vec.items) ≡ replaced c.args.at c.args.part.now c.args.page.now =
    overwritten vec.len vec.items new (sym vec.ok.0) new_many ∙ new_is ∙ ap (λ (xs : List ℕ). replaced c.args.at c.args.part.now xs) is in
    subst (λ (xs : List ℕ). IfOk c.new.result (λ (b : List ℕ). b ≡ xs)) all c.new.ensures
