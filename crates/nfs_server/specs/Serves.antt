-- What a service serves.
use Rattle.nfs_state.specs.State.{History}
use Rattle.nfs_tree.specs.Exports.{Exported}
use Rattle.nfs_tree.specs.Tree.{Files}

-- what the server of this journal serves
abbrev pub served_by : History → Exported
served_by journal = record {
  nodes = journal.nodes;
  profile = journal.policy.profile;
  epoch = journal.epoch;
}

-- this tree, with the profile and the number of the run by which it is served
abbrev pub exported : Files → Exported → Exported
exported tree served = record served { nodes = tree.nodes }
