use Rattle.std.proofs.Common.{◌≡◌, ℕ, ◌++◌, drop, map, take}
use Rattle.nfs_share.specs.AllOpens.{HasLendingRoomAt, HasRoomAt, delegations_in, opens_in}
use Rattle.nfs_share.specs.Opens.{is_of, without}
use Rattle.nfs_share.proofs.opens.remove_owner_in.Given as goal

-- the files visited so far are changed
abbrev pub invariant-loop-file : goal.invariant-loop-file
invariant-loop-file l = record {
  opens : opens_in l.files
      ≡ map (without (is_of l.owner)) (take l.file-index (opens_in l.initial.files)) ++ drop l.file-index (opens_in l.initial.files);
  room : (node : ℕ) → HasRoomAt node l.initial.files → HasRoomAt node l.files;
  delegations : delegations_in l.files ≡ delegations_in l.initial.files;
  lending : (node : ℕ) → HasLendingRoomAt node l.initial.files → HasLendingRoomAt node l.files;
}
