use Rattle.std.proofs.Common.{◌≡◌, ◌∙◌, ap, filter, subst, sym, rules}
use Rattle.std.specs.List.{IsDistinct}
use Rattle.arrayvec.proofs.ArrayVecLemmas.{filter-from_retain}
use Rattle.nfs_share.specs.Share.{contains, is_same}
use Rattle.nfs_share.proofs.SharesLaws.{IsDistinct-filter}
use Rattle.nfs_share.proofs.shares.Shares.keep_within.Goals as goal

kept : (c : goal.After-retain) → c.retain.new.self.items ≡ filter (contains c.args.share) c.self.inside.pairs.items
kept c = filter-from_retain _ (contains c.args.share) _ (λ x b f' y k. search rules) _ _ c.retain.ensures.filtered

pub returns : goal.returns
returns c = kept c ∙ ap (filter (contains c.args.share)) c.self.view_is

pub invariant_of-self : goal.invariant_of-self
invariant_of-self c =
    subst (IsDistinct is_same) (sym (kept c)) (IsDistinct-filter is_same (contains c.args.share) _ c.self.invariant)
