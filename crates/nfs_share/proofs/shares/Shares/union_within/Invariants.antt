use Rattle.std.proofs.Common.{◌≡◌, filter, fold, take}
use Rattle.nfs_share.specs.Share.{contains, no_share, union}
use Rattle.nfs_share.proofs.shares.Shares.union_within.Given as goal

-- this is the union of the shares visited so far that the share contains
abbrev pub invariant-loop-pair : goal.invariant-loop-pair
invariant-loop-pair l = record {
  union : l.union ≡ fold union no_share (filter (contains l.share) (take l.pair-index l.pair-items));
}
