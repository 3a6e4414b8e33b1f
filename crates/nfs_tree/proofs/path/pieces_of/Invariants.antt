use Rattle.std.proofs.Common.{◌≡◌, ◌++◌, drop}
use Rattle.nfs_tree.specs.Building.{pieces}
use Rattle.nfs_tree.proofs.Paths.{extended}
use Rattle.nfs_tree.proofs.path.pieces_of.Given as goal

abbrev pub invariant-loop-byte : goal.invariant-loop-byte
invariant-loop-byte l = l.pieces.items ++ extended l.piece.items (pieces (drop l.byte-index l.path)) ≡ pieces l.path
