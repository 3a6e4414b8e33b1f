use Rattle.nfs_state.specs.Room.{state_of}
use Rattle.nfs_rules.proofs.OpeningLaws.{none_left}
use Rattle.nfs_rules.proofs.operations.open.open_of.Goals as goal

pub returns-in-Restarts : goal.returns-in-Restarts
returns-in-Restarts c = none_left c.args.passage c.args.owner.now c.args.node (state_of c.args.tables.now) c.in-Restarts.is
