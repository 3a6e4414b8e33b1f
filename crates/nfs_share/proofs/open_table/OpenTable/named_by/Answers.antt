use Rattle.std.proofs.Common.{◌≡◌, ◌∙◌, None, Some, ap, cond, find, sym}
use Rattle.std.specs.Option.{option_copied}
use Rattle.std.proofs.lemmas.Map.Entries.{option_filter}
use Rattle.nfs_rows.specs.Rows.{is_numbered as is_row, value_in}
use Rattle.nfs_share.specs.KeptOpens.{RoomyOpens, opens_kept}
use Rattle.nfs_share.specs.Opens.{is_numbered, is_of_client, open_named_by, open_with_number}
use Rattle.nfs_share.proofs.AtMostOne.{both_found}
use Rattle.nfs_share.proofs.KeptOpens.{one_numbered}
use Rattle.nfs_share.proofs.Tables.{by_number}
use Rattle.nfs_share.proofs.open_table.OpenTable.named_by.Goals as goal

pub returns-in_err-open : goal.returns-in_err-open
returns-in_err-open c =
    let id = c.args.stateid in
    let s = c.self.inside in
    let opens = opens_kept s.rows.rows in
    let found : option_copied c.find.result ≡ open_with_number id.number opens =
    c.find.ensures ∙ ap (λ n. value_in (find (is_row n) s.rows.rows)) c.from.ensures ∙ by_number s.names s.rows s.counts s.of_client s.room c.self.invariant id.number in
    ap option_copied c.from_residual.ensures
    ∙ sym (both_found (is_of_client id.client) (is_numbered id.number) opens (one_numbered s.names s.rows.rows c.self.invariant.kept id.number)
    ∙ ap (option_filter (is_of_client id.client)) (sym found ∙ ap option_copied c.in_err-open.was))
    ∙ ap (λ (t : RoomyOpens). open_named_by id t.opens) c.self.view_is

pub returns-then-is_of_client : goal.returns-then-is_of_client
returns-then-is_of_client c =
    let id = c.args.stateid in
    let s = c.self.inside in
    let opens = opens_kept s.rows.rows in
    let found : option_copied c.find.result ≡ open_with_number id.number opens =
    c.find.ensures ∙ ap (λ n. value_in (find (is_row n) s.rows.rows)) c.from.ensures ∙ by_number s.names s.rows s.counts s.of_client s.room c.self.invariant id.number in
    sym (both_found (is_of_client id.client) (is_numbered id.number) opens (one_numbered s.names s.rows.rows c.self.invariant.kept id.number)
    ∙ ap (option_filter (is_of_client id.client)) (sym found ∙ ap option_copied c.in_ok-open.was)
    ∙ ap (λ b. cond b (Some c.in_ok-open.open.now) None) (sym c.is_of_client.ensures ∙ c.if-is_of_client.true))
    ∙ ap (λ (t : RoomyOpens). open_named_by id t.opens) c.self.view_is

pub returns-else-is_of_client : goal.returns-else-is_of_client
returns-else-is_of_client c =
    let id = c.args.stateid in
    let s = c.self.inside in
    let opens = opens_kept s.rows.rows in
    let found : option_copied c.find.result ≡ open_with_number id.number opens =
    c.find.ensures ∙ ap (λ n. value_in (find (is_row n) s.rows.rows)) c.from.ensures ∙ by_number s.names s.rows s.counts s.of_client s.room c.self.invariant id.number in
    sym (both_found (is_of_client id.client) (is_numbered id.number) opens (one_numbered s.names s.rows.rows c.self.invariant.kept id.number)
    ∙ ap (option_filter (is_of_client id.client)) (sym found ∙ ap option_copied c.in_ok-open.was)
    ∙ ap (λ b. cond b (Some c.in_ok-open.open.now) None) (sym c.is_of_client.ensures ∙ c.if-is_of_client.false))
    ∙ ap (λ (t : RoomyOpens). open_named_by id t.opens) c.self.view_is
