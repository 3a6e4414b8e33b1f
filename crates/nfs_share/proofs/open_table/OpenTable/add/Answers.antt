use Rattle.std.proofs.Common.{◌∷◌, ◌∙◌, ap, map, refl, subst, sym}
use Rattle.nfs_rows.specs.Rows.{Row}
use Rattle.nfs_share.specs.KeptOpens.{IsOpen, RoomyOpens, bars_reading, mark_in, opens_kept}
use Rattle.nfs_share.specs.Opens.{IsAbove, open_of, share_of}
use Rattle.nfs_share.specs.ShareCounts.{counts_of}
use Rattle.nfs_share.specs.Tally.{IsTally, mark_of}
use Rattle.nfs_share.specs.declared.open_state.OpenState.{OpenState}
use Rattle.nfs_share.proofs.KeptOpens.{above_rows, few_marks}
use Rattle.nfs_share.proofs.Tables.{table_added}
use Rattle.nfs_share.proofs.open_table.OpenTable.add.Goals as goal

pub add-requires-clause-newest : goal.add-requires-clause-newest
add-requires-clause-newest c =
    let s = c.self.inside in
    above_rows s.names c.from.result s.rows.rows c.self.invariant.kept.each
    (subst (λ n. IsAbove n (opens_kept s.rows.rows)) (sym c.from.ensures) (subst (λ (t : RoomyOpens). IsAbove c.args.newcomer.number t.opens) (sym c.self.view_is) c.requires.newest))

pub invariant_of-self : goal.invariant_of-self
invariant_of-self c =
    let s = c.self.inside in
    let o = c.args.newcomer in
    let opens = opens_kept s.rows.rows in
    let above = subst (λ (t : RoomyOpens). IsAbove o.number t.opens) (sym c.self.view_is) c.requires.newest in
    let none = c.requires.none ∙ ap (λ (t : RoomyOpens). open_of o.owner t.opens) (sym c.self.view_is) in
    let row : Row OpenState = record { number = c.from.result; hash = c.hash_of_owner-hash.result; client = o.owner.client.number; value = o } in
    let is_open : IsOpen s.names row = record { numbered = c.from.ensures; hashed = c.hash_of_owner-hash.ensures; of_client = refl } in
    let counts = c.plus-self-inside.ensures (map share_of opens) c.self.invariant.counts_are (few_marks share_of s.rows.rows c.add.new.self.rows row c.len-count.result c.add.ensures.rows c.len-count.ensures.len c.len-count.type_inv) in
    let tally = c.add-2.ensures.tally (map mark_in opens) c.self.invariant.tally (few_marks mark_in s.rows.rows c.add.new.self.rows row c.len-count.result c.add.ensures.rows c.len-count.ensures.len c.len-count.type_inv) in
    table_added s.names s.rows s.counts s.of_client s.room c.self.invariant row is_open above none c.add.new.self c.add.ensures.rows c.add.ensures.room c.plus-self-inside.result c.add-2.new.self
    (counts ∙ ap (λ share. counts_of (share ∷ map share_of opens)) c.share-share.ensures)
    (subst (λ b. IsTally c.add-2.new.self (mark_of o.owner.client b ∷ map mark_in opens)) (c.bars_reading.ensures ∙ ap bars_reading c.share-share.ensures) tally)
    c.add-2.ensures.room
