use Rattle.std.proofs.Common.{◌≡◌, ◌∙◌, ap, subst, sym}
use Rattle.std.specs.Option.{option_copied}
use Rattle.std.specs.List.{AllByRecursion}
use Rattle.nfs_rows.proofs.Each.{drop_none}
use Rattle.nfs_share.specs.KeptOpens.{RoomyOpens}
use Rattle.nfs_share.specs.Opens.{is_numbered, is_of, open_of}
use Rattle.nfs_share.proofs.AtMostOne.{left_alike, none_passes}
use Rattle.nfs_share.proofs.KeptOpens.{the_owners}
use Rattle.nfs_share.proofs.open_table.OpenTable.remove_owner.Goals as goal

pub returns-in_default-clause-opens : goal.returns-in_default-clause-opens
returns-in_default-clause-opens c =
    let owner = c.args.owner.now in
    let opens = c.args.self.now.opens in
    sym (drop_none (is_of owner) opens (none_passes (is_of owner) opens (sym (ap option_copied c.in_default.is) ∙ c.open_of.ensures)))

pub returns-clause-opens : goal.returns-clause-opens
returns-clause-opens c =
    let owner = c.args.owner.now in
    let opens = c.args.self.now.opens in
    let o = c.in-Some.open.now in
    let s = c.self.inside in
    let own = sym (ap option_copied c.in-Some.is) ∙ c.open_of.ensures ∙ ap (λ (t : RoomyOpens). open_of owner t.opens) (sym c.self.view_is) in
    let alike : AllByRecursion (λ p. is_numbered o.number p ≡ is_of owner p) opens =
    subst (λ (t : RoomyOpens). AllByRecursion (λ p. is_numbered o.number p ≡ is_of owner p) t.opens) c.self.view_is (the_owners s.names s.rows.rows c.self.invariant.kept owner o own) in
    c.close.ensures.opens ∙ left_alike (is_of owner) (is_numbered o.number) opens alike
