use Rattle.std.proofs.Common.{◌∙◌, ap, arith, length, subst, sym}
use Rattle.std.specs.Option.{option_copied}
use Rattle.nfs_rows.proofs.Each.{drop_none}
use Rattle.nfs_share.specs.KeptOpens.{RoomyOpens}
use Rattle.nfs_share.specs.Opens.{is_of}
use Rattle.nfs_share.proofs.AtMostOne.{AtMostOne, none_passes, one_less}
use Rattle.nfs_share.proofs.KeptOpens.{kept_length, one_of}
use Rattle.nfs_share.proofs.open_table.OpenTable.count_without.Goals as goal

pub returns-in-Some : goal.returns-in-Some
returns-in-Some c =
    let owner = c.args.owner.now in
    let opens = c.args.self.now.opens in
    let few : AtMostOne (is_of owner) opens = subst (λ (t : RoomyOpens). AtMostOne (is_of owner) t.opens) c.self.view_is (one_of c.self.inside.names c.self.inside.rows.rows c.self.invariant.kept owner) in
    let all = c.len.ensures.len ∙ kept_length c.self.inside.rows.rows ∙ ap (λ (t : RoomyOpens). length t.opens) c.self.view_is in
    omega (arith, all, one_less (is_of owner) opens c.in-Some.field-0.now few (sym (ap option_copied c.in-Some.is) ∙ c.open_of.ensures))

pub returns-in-None : goal.returns-in-None
returns-in-None c =
    let owner = c.args.owner.now in
    let opens = c.args.self.now.opens in
    c.len-in-None.ensures.len ∙ kept_length c.self.inside.rows.rows ∙ ap (λ (t : RoomyOpens). length t.opens) c.self.view_is
    ∙ ap length (sym (drop_none (is_of owner) opens (none_passes (is_of owner) opens (sym (ap option_copied c.in-None.is) ∙ c.open_of.ensures))))
