use Rattle.std.proofs.Common.{◌≡◌, List, ℕ, subst}
use Rattle.std.specs.Prelude.{IfOk}
use Rattle.nfs_state.specs.Pages.{zero_page}
use Rattle.nfs_state.proofs.pages.zero_page.Goals as goal

pub returns : goal.returns
unfolding zero_page
returns c =
    subst (λ (xs : List ℕ). IfOk c.new.result (λ (page : List ℕ). page ≡ xs)) (c.in_ok-from_elem.ensures.items_if_clones_equal (λ y is. is)) c.new.ensures
