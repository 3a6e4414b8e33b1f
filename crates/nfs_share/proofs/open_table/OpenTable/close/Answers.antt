use Rattle.std.proofs.Common.{◌≡◌, ◌∷◌, ◌∙◌, Some, ap, find, map, subst, sym}
use Rattle.nfs_rows.specs.Rows.{is_numbered as is_row, value_in, without as rows_without}
use Rattle.nfs_share.specs.KeptOpens.{RoomyOpens, bars_reading, mark_in, opens_kept}
use Rattle.nfs_share.specs.Opens.{is_numbered, open_with_number, share_of, without}
use Rattle.nfs_share.specs.ShareCounts.{counts_of}
use Rattle.nfs_share.specs.Tally.{IsTally, mark_of}
use Rattle.nfs_share.proofs.Tables.{by_number, counts_apart, opens_without, table_same, table_without, tally_apart}
use Rattle.nfs_share.proofs.open_table.OpenTable.close.Goals as goal

pub invariant_of-self : goal.invariant_of-self
invariant_of-self c =
    let s = c.self.inside in
    let t = c.self.invariant in
    let number = c.args.number in
    let o = c.in-Some.open in
    let left = without (is_numbered number) (opens_kept s.rows.rows) in
    let found : Some o ≡ open_with_number number (opens_kept s.rows.rows) =
    sym c.in-Some.is ∙ c.remove.ensures.value ∙ ap (λ n. value_in (find (is_row n) s.rows.rows)) c.from.ensures ∙ by_number s.names s.rows s.counts s.of_client s.room t number in
    let gone = c.remove.ensures.rows ∙ ap (λ n. rows_without (is_row n) s.rows.rows) c.from.ensures in
    let counts = c.less-self-inside.ensures (map share_of left)
    (counts_apart s.names s.rows s.counts s.of_client s.room t number o found ∙ ap (λ share. counts_of (share ∷ map share_of left)) (sym c.share-share.ensures)) in
    let tally = c.remove-in-Some.ensures.tally (map mark_in left)
    (subst (λ b. IsTally s.of_client (mark_of o.owner.client b ∷ map mark_in left)) (ap bars_reading (sym c.share-share.ensures) ∙ sym c.bars_reading.ensures) (tally_apart s.names s.rows s.counts s.of_client s.room t number o found)) in
    table_without s.names s.rows s.counts s.of_client s.room t number o found c.remove.new.self gone c.remove.ensures.room c.less-self-inside.result c.remove-in-Some.new.self
    counts tally c.remove-in-Some.ensures.room

pub invariant_of-self-in_default : goal.invariant_of-self-in_default
invariant_of-self-in_default c =
    let s = c.self.inside in
    table_same s.names s.rows s.counts s.of_client s.room c.self.invariant c.args.number
    (sym c.in_default.is ∙ c.remove.ensures.value ∙ ap (λ n. value_in (find (is_row n) s.rows.rows)) c.from.ensures)
    c.remove.new.self (c.remove.ensures.rows ∙ ap (λ n. rows_without (is_row n) s.rows.rows) c.from.ensures) c.remove.ensures.room

pub returns-in-Some-clause-opens : goal.returns-in-Some-clause-opens
returns-in-Some-clause-opens c =
    let s = c.self.inside in
    opens_without s.names s.rows s.counts s.of_client s.room c.self.invariant c.args.number c.remove.new.self.rows (c.remove.ensures.rows ∙ ap (λ n. rows_without (is_row n) s.rows.rows) c.from.ensures)
    ∙ ap (λ (t : RoomyOpens). without (is_numbered c.args.number) t.opens) c.self.view_is

pub returns-in_default-clause-opens : goal.returns-in_default-clause-opens
returns-in_default-clause-opens c =
    let s = c.self.inside in
    opens_without s.names s.rows s.counts s.of_client s.room c.self.invariant c.args.number c.remove.new.self.rows (c.remove.ensures.rows ∙ ap (λ n. rows_without (is_row n) s.rows.rows) c.from.ensures)
    ∙ ap (λ (t : RoomyOpens). without (is_numbered c.args.number) t.opens) c.self.view_is
