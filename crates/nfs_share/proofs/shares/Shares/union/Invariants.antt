use Rattle.std.proofs.Common.{◌≡◌, fold, take}
use Rattle.nfs_share.specs.Share.{no_share, union}
use Rattle.nfs_share.proofs.shares.Shares.union.Given as goal

-- this is the union of the shares visited so far
abbrev pub invariant-loop-pair : goal.invariant-loop-pair
invariant-loop-pair l = record {
  union : l.union ≡ fold union no_share (take l.pair-index l.pair-items);
}
