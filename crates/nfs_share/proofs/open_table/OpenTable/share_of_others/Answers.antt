use Rattle.std.proofs.Common.{◌∷◌, ◌∙◌, ap, map, subst, sym}
use Rattle.std.specs.Option.{option_copied}
use Rattle.nfs_rows.proofs.Each.{drop_none}
use Rattle.nfs_share.specs.KeptOpens.{RoomyOpens}
use Rattle.nfs_share.specs.Opens.{is_of, share_of, without}
use Rattle.nfs_share.specs.ShareCounts.{counts_of}
use Rattle.nfs_share.proofs.AtMostOne.{AtMostOne, none_passes}
use Rattle.nfs_share.proofs.Counting.{same_apart, same_map}
use Rattle.nfs_share.proofs.KeptOpens.{one_of}
use Rattle.nfs_share.proofs.ShareSums.{same_counts_of}
use Rattle.nfs_share.proofs.open_table.OpenTable.share_of_others.Goals as goal

pub returns-in-Some : goal.returns-in-Some
returns-in-Some c =
    let owner = c.args.owner.now in
    let opens = c.args.self.now.opens in
    let left = without (is_of owner) opens in
    let o = c.in-Some.open.now in
    let few : AtMostOne (is_of owner) opens = subst (λ (t : RoomyOpens). AtMostOne (is_of owner) t.opens) c.self.view_is (one_of c.self.inside.names c.self.inside.rows.rows c.self.invariant.kept owner) in
    let counts = c.self.invariant.counts_are ∙ ap (λ (t : RoomyOpens). counts_of (map share_of t.opens)) c.self.view_is in
    let apart = same_counts_of (map share_of opens) (share_of o ∷ map share_of left) (same_map share_of opens (o ∷ left) (same_apart (is_of owner) opens o few (sym (ap option_copied c.in-Some.is) ∙ c.open_of.ensures))) in
    c.union.ensures (map share_of left) (c.less.ensures (map share_of left) (counts ∙ apart ∙ ap (λ s. counts_of (s ∷ map share_of left)) (sym c.share.ensures)))

pub returns-in-None : goal.returns-in-None
returns-in-None c =
    let owner = c.args.owner.now in
    let opens = c.args.self.now.opens in
    let counts = c.self.invariant.counts_are ∙ ap (λ (t : RoomyOpens). counts_of (map share_of t.opens)) c.self.view_is in
    c.union-in-None.ensures (map share_of (without (is_of owner) opens))
    (counts ∙ ap (λ os. counts_of (map share_of os)) (sym (drop_none (is_of owner) opens (none_passes (is_of owner) opens (sym (ap option_copied c.in-None.is) ∙ c.open_of.ensures)))))
