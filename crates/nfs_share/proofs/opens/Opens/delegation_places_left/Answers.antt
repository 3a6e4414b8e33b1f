use Rattle.std.proofs.Common.{ap, arith}
use Rattle.nfs_share.specs.AllOpens.{delegation_count, delegations_in}
use Rattle.nfs_share.proofs.Indexed.{counted, lent_view}
use Rattle.nfs_share.proofs.opens.Opens.delegation_places_left.Goals as goal

pub returns : goal.returns
returns c =
    omega (arith, c.saturating_sub.ensures, c.self.invariant.1.counted, counted (delegations_in c.self.inside.files.items), ap delegation_count (lent_view c.self.inside.nodes.room c.self.inside.lent.room c.self.inside.files.items c.args.self.now c.self.view_is))
