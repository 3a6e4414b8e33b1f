use Rattle.std.proofs.Common.{sym, subst}
use Rattle.std.specs.Prelude.{not}
use Rattle.nfs_state.specs.Kept.{Agrees}
use Rattle.nfs_state.specs.Room.{stored_of}
use Rattle.nfs_owners.specs.Owner.{has_client}
use Rattle.nfs_state.proofs.StoredOwners.{agrees_filter, left_seen}
use Rattle.nfs_state.proofs.tables.Tables.leave.Goals as goal

pub returns-clause-state : goal.returns-clause-state
returns-clause-state c =
    left_seen (stored_of c.args.self.now) c.args.client c.remove_client.new.self.owners _ _ _ c.remove_client.ensures.owners c.remove_client-2.ensures.opens c.remove_client-3.ensures c.remove_client-2.ensures.delegations

pub returns-clause-kept : goal.returns-clause-kept
returns-clause-kept c journal agrees =
    subst (Agrees journal) (sym c.remove_client.ensures.owners) (agrees_filter journal (λ o. not (has_client c.args.client o)) _ agrees)
