-- What the operations on the tree alone work on.
use Rattle.std.specs.Prelude.{ℕ, List, [], ◌∷◌, ◌++◌}
use Rattle.nfs_forms.specs.declared.verifier.Verifier.{Verifier}
use Rattle.nfs_tree.specs.declared.export.Export.{Export}
use Rattle.nfs_tree.specs.declared.node.Node.{Node}
use Rattle.nfs_tree.specs.declared.profile.Profile.{Profile}
use Rattle.xdr.specs.Writing.{written_u32}

-- the nodes of the tree, for whom they are, and the number of the server's run
pub record Exported : Type 0 where
  pub nodes : List Node
  pub profile : Profile
  pub epoch : ℕ

abbrev pub export_seen : Export → Exported
export_seen export = record {
  nodes = export.tree.now.nodes;
  profile = export.profile;
  epoch = export.epoch;
}

-- What tells a client that the server was started anew, so that what wasn't on stable storage yet may be lost: the
-- number of the server's run, and four zeros.
abbrev pub verifier_of : ℕ → Verifier
verifier_of epoch = record { 0 = written_u32 epoch ++ 0 ∷ 0 ∷ 0 ∷ 0 ∷ [] }
