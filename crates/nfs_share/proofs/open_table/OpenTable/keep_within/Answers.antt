use Rattle.std.proofs.Common.{◌≡◌, ◌∷◌, ◌∙◌, Some, ap, map, refl, subst, sym}
use Rattle.std.specs.Option.{option_copied}
use Rattle.nfs_rows.specs.Rows.{RoomyRows}
use Rattle.nfs_rows.proofs.Callers.{changed_seen}
use Rattle.nfs_rows.proofs.Each.{change_none}
use Rattle.nfs_share.specs.KeptOpens.{RoomyOpens, bars_reading, mark_in, opens_kept}
use Rattle.nfs_share.specs.Opens.{after_downgrade, is_numbered, open_with_number, share_of, with_each, without}
use Rattle.nfs_share.specs.ShareCounts.{counts_of}
use Rattle.nfs_share.specs.Tally.{IsTally, mark_of}
use Rattle.nfs_share.specs.declared.open_state.OpenState.{OpenState}
use Rattle.nfs_share.proofs.AtMostOne.{none_passes}
use Rattle.nfs_share.proofs.KeptOpens.{numbers}
use Rattle.nfs_share.proofs.Tables.{by_number, counts_apart, few_left, if_none, if_some, some_or_none, table_changed, tally_apart}
use Rattle.nfs_share.proofs.open_table.OpenTable.keep_within.Goals as goal

pub returns-in_default : goal.returns-in_default
returns-in_default c =
    let opens = c.args.self.now.opens in
    ap (λ opens. record { opens = opens; room = c.args.self.now.room })
    (sym (change_none (is_numbered c.args.number) (after_downgrade c.args.share) opens (none_passes (is_numbered c.args.number) opens (sym (ap option_copied c.in_default.is) ∙ c.find.ensures))))

pub invariant_of-self : goal.invariant_of-self
invariant_of-self c =
    let s = c.self.inside in
    let t = c.self.invariant in
    let number = c.args.number in
    let o = c.in-Some.open.now in
    let opens = opens_kept s.rows.rows in
    let found : Some o ≡ open_with_number number opens = sym (ap option_copied c.in-Some.is) ∙ c.find.ensures ∙ ap (λ (t : RoomyOpens). open_with_number number t.opens) (sym c.self.view_is) in
    absurd (some_or_none (open_with_number number opens) o found (if_none c.downgrade_in.result _ c.in_default-downgrade_in.is c.downgrade_in.ensures.none ∙ by_number s.names s.rows s.counts s.of_client s.room t number))

pub returns-in_default-downgrade_in : goal.returns-in_default-downgrade_in
returns-in_default-downgrade_in c =
    let s = c.self.inside in
    let t = c.self.invariant in
    let number = c.args.number in
    let o = c.in-Some.open.now in
    let opens = opens_kept s.rows.rows in
    let found : Some o ≡ open_with_number number opens = sym (ap option_copied c.in-Some.is) ∙ c.find.ensures ∙ ap (λ (t : RoomyOpens). open_with_number number t.opens) (sym c.self.view_is) in
    absurd (some_or_none (open_with_number number opens) o found (if_none c.downgrade_in.result _ c.in_default-downgrade_in.is c.downgrade_in.ensures.none ∙ by_number s.names s.rows s.counts s.of_client s.room t number))

pub invariant_of-self-2 : goal.invariant_of-self-2
invariant_of-self-2 c =
    let s = c.self.inside in
    let t = c.self.invariant in
    let number = c.args.number in
    let o = c.in-Some.open.now in
    let opens = opens_kept s.rows.rows in
    let found : Some o ≡ open_with_number number opens = sym (ap option_copied c.in-Some.is) ∙ c.find.ensures ∙ ap (λ (t : RoomyOpens). open_with_number number t.opens) (sym c.self.view_is) in
    let after = c.in-Some-downgrade_in.after in
    let left = without (is_numbered number) opens in
    let before_is = c.share-before.ensures in
    let after_is : after ≡ share_of (after_downgrade c.args.share o) = if_some c.downgrade_in.result after _ c.in-Some-downgrade_in.is c.downgrade_in.ensures.some o (found ∙ sym (by_number s.names s.rows s.counts s.of_client s.room t number)) in
    let counts = c.recount.ensures.counts (map share_of left)
    (counts_apart s.names s.rows s.counts s.of_client s.room t number o found ∙ ap (λ share. counts_of (share ∷ map share_of left)) (sym before_is))
    (few_left s.names s.rows s.counts s.of_client s.room t number o found share_of c.len-count.result c.len-count.ensures.len c.len-count.type_inv) in
    let tally = c.recount.ensures.tally (map mark_in left)
    (subst (λ share. IsTally s.of_client (mark_of o.owner.client (bars_reading share) ∷ map mark_in left)) (sym before_is) (tally_apart s.names s.rows s.counts s.of_client s.room t number o found))
    (few_left s.names s.rows s.counts s.of_client s.room t number o found mark_in c.len-count.result c.len-count.ensures.len c.len-count.type_inv) in
    table_changed s.names s.rows s.counts s.of_client s.room t number o found (after_downgrade c.args.share) (λ p. refl) (λ p. refl) c.downgrade_in.new.opens c.downgrade_in.ensures.rows c.recount.new.counts c.recount.new.of_client
    (counts ∙ ap (λ share. counts_of (share ∷ map share_of left)) after_is)
    (subst (λ share. IsTally c.recount.new.of_client (mark_of o.owner.client (bars_reading share) ∷ map mark_in left)) after_is tally)
    c.recount.ensures.room

pub returns : goal.returns
returns c =
    let s = c.self.inside in
    let number = c.args.number in
    ap (λ (r : RoomyRows OpenState). record { opens = opens_kept r.rows; room = s.room }) c.downgrade_in.ensures.rows
    ∙ ap (λ opens. record { opens = opens; room = s.room }) (changed_seen number (after_downgrade c.args.share) (is_numbered number) s.rows.rows (numbers s.names s.rows.rows c.self.invariant.kept number))
    ∙ ap (λ (t : RoomyOpens). record { opens = with_each (is_numbered number) (after_downgrade c.args.share) t.opens; room = t.room }) c.self.view_is
