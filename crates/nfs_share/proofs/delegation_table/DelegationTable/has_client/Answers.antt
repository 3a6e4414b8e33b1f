use Rattle.std.proofs.Common.{◌∙◌, ap, map, nat_lt, sym}
use Rattle.nfs_share.specs.Delegations.{has_delegation}
use Rattle.nfs_share.specs.KeptDelegations.{RoomyDelegations, mark_lent}
use Rattle.nfs_share.specs.Tally.{is_own}
use Rattle.nfs_share.specs.declared.count.Count.{Count}
use Rattle.nfs_share.proofs.Counting.{some_or_more}
use Rattle.nfs_share.proofs.ShareSums.{any_map}
use Rattle.nfs_share.proofs.delegation_table.DelegationTable.has_client.Goals as goal

pub returns : goal.returns
returns c =
    let client = c.args.client in
    let ds = c.self.inside.lent.items in
    ap (λ (n : Count). nat_lt 0 n.all) (c.own.ensures (map mark_lent ds) c.self.invariant.tally)
    ∙ some_or_more (is_own client) (map mark_lent ds)
    ∙ sym (any_map mark_lent (is_own client) ds)
    ∙ ap (λ (t : RoomyDelegations). has_delegation client t.delegations) c.self.view_is
