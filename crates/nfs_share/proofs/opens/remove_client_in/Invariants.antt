use Rattle.std.proofs.Common.{◌≡◌, ◌++◌, drop, map, take}
use Rattle.nfs_share.specs.AllOpens.{delegations_in, opens_in}
use Rattle.nfs_share.specs.Delegations.{is_lent_to, without_lent}
use Rattle.nfs_share.specs.Opens.{is_of_client, without}
use Rattle.nfs_share.proofs.opens.remove_client_in.Given as goal

-- the files visited so far are changed
abbrev pub invariant-loop-file : goal.invariant-loop-file
invariant-loop-file l = record {
  opens : opens_in l.files
      ≡ map (without (is_of_client l.client)) (take l.file-index (opens_in l.initial.files)) ++ drop l.file-index (opens_in l.initial.files);
  delegations : delegations_in l.files
      ≡ map (without_lent (is_lent_to l.client)) (take l.file-index (delegations_in l.initial.files)) ++ drop l.file-index (delegations_in l.initial.files);
}
