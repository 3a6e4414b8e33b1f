use Rattle.std.proofs.Common.{Ok, Err}
use Rattle.nfs_rules.specs.Finding.{found_seen, target_seen}
use Rattle.nfs_rules.proofs.OpeningLaws.{claimed_by}
use Rattle.nfs_rules.proofs.operations.open.claimed.Goals as goal
use Rattle.nfs_state.specs.Room.{state_of}

pub returns-in-Err : goal.returns-in-Err
returns-in-Err c =
    claimed_by c.args.store.now.journal.history (state_of c.args.store.now.tables) c.args.client c.args.claim.now c.in-DelegateCur.stateid _ c.args.node c.epoch.result c.delegation_of-demand.result
    (target_seen c.target_of-target.result) (Err c.in-Err.refusal) c.in-DelegateCur.is c.epoch.ensures c.delegation_of-demand.ensures c.target_of-target.ensures c.in-Err.ensures

pub returns-in-Ok : goal.returns-in-Ok
returns-in-Ok c =
    claimed_by c.args.store.now.journal.history (state_of c.args.store.now.tables) c.args.client c.args.claim.now c.in-DelegateCur.stateid _ c.args.node c.epoch.result c.delegation_of-demand.result
    (target_seen c.target_of-target.result) (Ok (found_seen c.in-Ok.field-0)) c.in-DelegateCur.is c.epoch.ensures c.delegation_of-demand.ensures c.target_of-target.ensures c.in-Ok.ensures
