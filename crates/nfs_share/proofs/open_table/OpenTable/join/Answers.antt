use Rattle.std.proofs.Common.{◌≡◌, ◌∷◌, ◌∙◌, Some, ap, map, refl, subst, sym}
use Rattle.std.specs.Option.{option_copied}
use Rattle.nfs_rows.specs.Rows.{RoomyRows}
use Rattle.nfs_rows.proofs.Callers.{changed_seen}
use Rattle.nfs_share.specs.KeptOpens.{RoomyOpens, bars_reading, mark_in, opens_kept}
use Rattle.nfs_share.specs.Opens.{after_open, is_numbered, is_of, open_of, open_with_number, share_of, with_each, without}
use Rattle.nfs_share.specs.ShareCounts.{counts_of}
use Rattle.nfs_share.specs.Tally.{IsTally, Mark, mark_of}
use Rattle.nfs_share.specs.declared.open_state.OpenState.{OpenState}
use Rattle.nfs_share.proofs.KeptOpens.{numbered_owner, owner_is, owners_row}
use Rattle.nfs_share.proofs.Tables.{by_number, counts_apart, few_left, if_none, if_some, some_or_none, table_changed, tally_apart}
use Rattle.nfs_share.proofs.open_table.OpenTable.join.Goals as goal

pub invariant_of-self : goal.invariant_of-self
invariant_of-self c =
    let s = c.self.inside in
    let t = c.self.invariant in
    let owner = c.args.owner.now in
    let o = c.in_ok-open.open.now in
    let opens = opens_kept s.rows.rows in
    let own : Some o ≡ open_of owner opens = sym (ap option_copied c.in_ok-open.was) ∙ c.open_of.ensures ∙ ap (λ (t : RoomyOpens). open_of owner t.opens) (sym c.self.view_is) in
    let found : Some o ≡ open_with_number o.number opens = numbered_owner s.names s.rows.rows t.kept owner o own in
    absurd (some_or_none (open_with_number o.number opens) o found (if_none c.join_in.result _ c.in_err-after.was c.join_in.ensures.none ∙ by_number s.names s.rows s.counts s.of_client s.room t o.number))

pub returns-in_err-after-clause-stateid : goal.returns-in_err-after-clause-stateid
returns-in_err-after-clause-stateid c =
    let s = c.self.inside in
    let t = c.self.invariant in
    let owner = c.args.owner.now in
    let o = c.in_ok-open.open.now in
    let opens = opens_kept s.rows.rows in
    let own : Some o ≡ open_of owner opens = sym (ap option_copied c.in_ok-open.was) ∙ c.open_of.ensures ∙ ap (λ (t : RoomyOpens). open_of owner t.opens) (sym c.self.view_is) in
    let found : Some o ≡ open_with_number o.number opens = numbered_owner s.names s.rows.rows t.kept owner o own in
    absurd (some_or_none (open_with_number o.number opens) o found (if_none c.join_in.result _ c.in_err-after.was c.join_in.ensures.none ∙ by_number s.names s.rows s.counts s.of_client s.room t o.number))

pub returns-in_err-after-clause-none : goal.returns-in_err-after-clause-none
returns-in_err-after-clause-none c =
    let s = c.self.inside in
    let t = c.self.invariant in
    let owner = c.args.owner.now in
    let o = c.in_ok-open.open.now in
    let opens = opens_kept s.rows.rows in
    let own : Some o ≡ open_of owner opens = sym (ap option_copied c.in_ok-open.was) ∙ c.open_of.ensures ∙ ap (λ (t : RoomyOpens). open_of owner t.opens) (sym c.self.view_is) in
    let found : Some o ≡ open_with_number o.number opens = numbered_owner s.names s.rows.rows t.kept owner o own in
    absurd (some_or_none (open_with_number o.number opens) o found (if_none c.join_in.result _ c.in_err-after.was c.join_in.ensures.none ∙ by_number s.names s.rows s.counts s.of_client s.room t o.number))

pub invariant_of-self-2 : goal.invariant_of-self-2
invariant_of-self-2 c =
    let s = c.self.inside in
    let t = c.self.invariant in
    let owner = c.args.owner.now in
    let o = c.in_ok-open.open.now in
    let opens = opens_kept s.rows.rows in
    let own : Some o ≡ open_of owner opens = sym (ap option_copied c.in_ok-open.was) ∙ c.open_of.ensures ∙ ap (λ (t : RoomyOpens). open_of owner t.opens) (sym c.self.view_is) in
    let found : Some o ≡ open_with_number o.number opens = numbered_owner s.names s.rows.rows t.kept owner o own in
    let after = c.in_ok-after.after in
    let left = without (is_numbered o.number) opens in
    let before_is = c.share-before.ensures in
    let after_is : after ≡ share_of (after_open c.args.share o) = if_some c.join_in.result after _ c.in_ok-after.was c.join_in.ensures.some o (found ∙ sym (by_number s.names s.rows s.counts s.of_client s.room t o.number)) in
    let owner_same = owner_is s.names s.rows.rows t.kept owner o own in
    let counts = c.recount.ensures.counts (map share_of left)
    (counts_apart s.names s.rows s.counts s.of_client s.room t o.number o found ∙ ap (λ share. counts_of (share ∷ map share_of left)) (sym before_is))
    (few_left s.names s.rows s.counts s.of_client s.room t o.number o found share_of c.len-count.result c.len-count.ensures.len c.len-count.type_inv) in
    let was : mark_in o ≡ mark_of owner.client (bars_reading c.share-before.result) = (λ i. mark_of (owner_same i).client (bars_reading (sym before_is i))) in
    let now : mark_of owner.client (bars_reading after) ≡ mark_in (after_open c.args.share o) = (λ i. mark_of (sym owner_same i).client (bars_reading (after_is i))) in
    let tally = c.recount.ensures.tally (map mark_in left)
    (subst (λ (m : Mark). IsTally s.of_client (m ∷ map mark_in left)) was (tally_apart s.names s.rows s.counts s.of_client s.room t o.number o found))
    (few_left s.names s.rows s.counts s.of_client s.room t o.number o found mark_in c.len-count.result c.len-count.ensures.len c.len-count.type_inv) in
    table_changed s.names s.rows s.counts s.of_client s.room t o.number o found (after_open c.args.share) (λ p. refl) (λ p. refl) c.join_in.new.opens c.join_in.ensures.rows c.recount.new.counts c.recount.new.of_client
    (counts ∙ ap (λ share. counts_of (share ∷ map share_of left)) after_is)
    (subst (λ (m : Mark). IsTally c.recount.new.of_client (m ∷ map mark_in left)) now tally)
    c.recount.ensures.room

pub returns-clause-some : goal.returns-clause-some
returns-clause-some c =
    let s = c.self.inside in
    let t = c.self.invariant in
    let owner = c.args.owner.now in
    let o = c.in_ok-open.open.now in
    let opens = opens_kept s.rows.rows in
    let own : Some o ≡ open_of owner opens = sym (ap option_copied c.in_ok-open.was) ∙ c.open_of.ensures ∙ ap (λ (t : RoomyOpens). open_of owner t.opens) (sym c.self.view_is) in
    let found : Some o ≡ open_with_number o.number opens = numbered_owner s.names s.rows.rows t.kept owner o own in
    ap (λ (r : RoomyRows OpenState). record { opens = opens_kept r.rows; room = s.room }) c.join_in.ensures.rows
    ∙ ap (λ opens. record { opens = opens; room = s.room }) (changed_seen o.number (after_open c.args.share) (is_of owner) s.rows.rows (owners_row s.names s.rows.rows t.kept owner o own))
    ∙ ap (λ (t : RoomyOpens). record { opens = with_each (is_of owner) (after_open c.args.share) t.opens; room = t.room }) c.self.view_is
