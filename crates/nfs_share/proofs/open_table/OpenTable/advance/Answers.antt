use Rattle.std.proofs.Common.{◌∙◌, ap, refl}
use Rattle.nfs_rows.specs.Rows.{RoomyRows}
use Rattle.nfs_rows.proofs.Callers.{changed_seen}
use Rattle.nfs_share.specs.KeptOpens.{RoomyOpens, opens_kept}
use Rattle.nfs_share.specs.Opens.{is_numbered, with_each, with_next_seqid}
use Rattle.nfs_share.specs.declared.open_state.OpenState.{OpenState}
use Rattle.nfs_share.proofs.KeptOpens.{numbers}
use Rattle.nfs_share.proofs.Tables.{table_moved}
use Rattle.nfs_share.proofs.open_table.OpenTable.advance.Goals as goal

pub invariant_of-self : goal.invariant_of-self
invariant_of-self c =
    let s = c.self.inside in
    table_moved s.names s.rows s.counts s.of_client s.room c.self.invariant c.args.number with_next_seqid (λ o. refl) (λ o. refl) (λ o. refl) (λ o. refl) c.advance_in.new.opens c.advance_in.ensures

pub returns : goal.returns
returns c =
    let s = c.self.inside in
    ap (λ (r : RoomyRows OpenState). record { opens = opens_kept r.rows; room = s.room }) c.advance_in.ensures
    ∙ ap (λ opens. record { opens = opens; room = s.room }) (changed_seen c.args.number with_next_seqid (is_numbered c.args.number) s.rows.rows (numbers s.names s.rows.rows c.self.invariant.kept c.args.number))
    ∙ ap (λ (t : RoomyOpens). record { opens = with_each (is_numbered c.args.number) with_next_seqid t.opens; room = t.room }) c.self.view_is
