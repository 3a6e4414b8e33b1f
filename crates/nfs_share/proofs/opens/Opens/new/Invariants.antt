use Rattle.std.proofs.Common.{◌≡◌, ◌≤◌, [], length, replicate}
use Rattle.std.specs.Prelude.{vec_capacity}
use Rattle.nfs_share.specs.AllOpens.{delegations_in, opens_in}
use Rattle.nfs_share.proofs.opens.Opens.new.Given as goal

-- the files so far have no opens and no delegations, and there is room for all
abbrev pub invariant-loop : goal.invariant-loop
invariant-loop l = record {
  opens : opens_in l.files.items ≡ replicate l.counter [];
  delegations : delegations_in l.files.items ≡ replicate l.counter [];
  counted : length l.files.items ≡ l.counter;
  room : l.nodes ≤ vec_capacity l.files;
}
