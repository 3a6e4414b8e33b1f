use Rattle.std.proofs.Common.{◌≡◌, ◌∷◌, ◌++◌, ◌∙◌, List, [], ℕ, ap, length, rules, subst, sym}
use Rattle.std.specs.List.{concat}
use Rattle.nfs_state.specs.Pages.{AreFilledUp, AreWhole, zero_page}
use Rattle.nfs_state.proofs.PageLists.{concat_push, length-zero_page, whole_push, zeros_more}
use Rattle.nfs_state.proofs.pages.add_zeros.Goals as goal

pub loop-pages-preserved : goal.loop-pages-preserved
loop-pages-preserved c =
    let old = concat c.args.pages.now.items in
    let now = c.loop-pages.pages.items in
    let page = c.in_ok-clone.field-0 in
    let is : page ≡ zero_page = search rules in
    let items : c.push.new.self.items ≡ now ++ page ∷ [] = search rules in
    let joined : concat c.push.new.self.items ≡ concat now ++ zero_page =
    ap concat items ∙ concat_push now page ∙ ap (λ xs. concat now ++ xs) is in
    record {
      zeros = subst (λ (xs : List ℕ). AreFilledUp old xs) (sym joined) (zeros_more old (concat now) c.loop-pages.invariant.zeros);
      whole = λ were. subst (λ (xs : List (List ℕ)). AreWhole xs) (sym items) (whole_push now page (c.loop-pages.invariant.whole were) (ap length is ∙ length-zero_page));
    }
