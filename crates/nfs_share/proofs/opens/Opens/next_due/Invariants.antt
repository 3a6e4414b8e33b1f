use Rattle.std.proofs.Common.{option_map, take}
use Rattle.nfs_share.specs.AllOpens.{delegations_in}
use Rattle.nfs_share.specs.OpenFound.{delegation_seen}
use Rattle.nfs_share.proofs.NextDue.{IsLeast}
use Rattle.nfs_share.proofs.opens.Opens.next_due.Given as goal

-- this is the next one that is due of the files visited so far
abbrev pub invariant-loop-node : goal.invariant-loop-node
invariant-loop-node l = record {
  least : IsLeast l.lease l.now (delegations_in l.self) (take l.node (delegations_in l.self)) (option_map delegation_seen l.next);
}
