use Rattle.std.proofs.Common.{◌≡◌, ◌∙◌, ap, false, map, rules, sym}
use Rattle.nfs_rows.proofs.Each.{drop_none}
use Rattle.nfs_share.specs.KeptOpens.{RoomyOpens, mark_in, opens_kept}
use Rattle.nfs_share.specs.Opens.{is_of_client, without}
use Rattle.nfs_share.proofs.EachElement.{all_fail}
use Rattle.nfs_share.proofs.Tables.{client_gone, table_without_client}
use Rattle.nfs_share.proofs.open_table.OpenTable.remove_client.Goals as goal

pub returns-then-not-has_client-clause-opens : goal.returns-then-not-has_client-clause-opens
returns-then-not-has_client-clause-opens c =
    let client = c.args.client in
    let opens = c.args.self.now.opens in
    let none : c.has_client.result ≡ false = search rules in
    sym (drop_none (is_of_client client) opens (all_fail (is_of_client client) opens (sym c.has_client.ensures ∙ none)))

pub invariant_of-self : goal.invariant_of-self
invariant_of-self c =
    let s = c.self.inside in
    let client = c.args.client in
    table_without_client s.names s.rows s.counts s.of_client s.room c.self.invariant client c.remove_of_client.new.self
    (c.remove_of_client.ensures.rows (is_of_client client) (λ shown answer k. search rules)) c.remove_of_client.ensures.room
    c.counts_in-self-inside.result c.remove_client.new.self c.counts_in-self-inside.ensures
    (c.remove_client.ensures.tally (map mark_in (opens_kept s.rows.rows)) c.self.invariant.tally) c.remove_client.ensures.room

pub returns-clause-opens : goal.returns-clause-opens
returns-clause-opens c =
    let s = c.self.inside in
    let client = c.args.client in
    client_gone s.names s.rows s.counts s.of_client s.room c.self.invariant client c.remove_of_client.new.self.rows
    (c.remove_of_client.ensures.rows (is_of_client client) (λ shown answer k. search rules))
    ∙ ap (λ (t : RoomyOpens). without (is_of_client client) t.opens) c.self.view_is
