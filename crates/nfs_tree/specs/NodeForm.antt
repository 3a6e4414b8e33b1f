-- A node of the tree in a journal's file.
use Rattle.std.specs.Prelude.{ℕ, Bool, true, false, not, List}
use Rattle.std.proofs.Common.{refl}
use Rattle.nfs_tree.specs.declared.node.Node.{Node}
use Rattle.nfs_tree.specs.declared.node.NodeKind.{NodeKind}
use Rattle.nfs_tree.specs.declared.node.NodeKind.TheVariants.{Directory, File}
use Rattle.nfs_tree.specs.declared.path.TheConstants.{NAME_LIMIT}
use Rattle.nfs_tree.specs.declared.tree.TheConstants.{TEXT_LIMIT}
use Rattle.nfs_tree.specs.Tree.{is_directory_kind}
use Rattle.xdr.specs.Form.{Form, ◌and◌, of, u32, flag, opaque}
use Rattle.xdr.specs.Switch.{Case, case, Arm, arm, Agrees, IsRead}
use Rattle.xdr.specs.Union.{switch}

-- a name, and the kind of the node that has it
abbrev pub Named : Type 0
Named = List ℕ × NodeKind

-- opaque name<255>
abbrev pub name : Form (List ℕ)
name = opaque NAME_LIMIT

-- opaque name<255>; opaque text<65536>
abbrev pub named_text : Form (List ℕ × List ℕ)
named_text = name and opaque TEXT_LIMIT

abbrev pub is_file : Named → Bool
is_file n = not (is_directory_kind n.1)

-- union switch (bool is_file) { case FALSE: name; case TRUE: name, text; }
abbrev pub kind_case : Bool → Case Named
kind_case true = case named_text (λ p. (p.0, File p.1))
kind_case false = case name (λ p. (p, Directory))

abbrev pub arm_of_kind : List ℕ → NodeKind → Arm Named
arm_of_kind n Directory = arm name (λ p. (p, Directory)) n
arm_of_kind n (File text) = arm named_text (λ p. (p.0, File p.1)) (n, text)

abbrev pub kind_arm : Named → Arm Named
kind_arm n = arm_of_kind n.0 n.1

pub kind_agrees : (b : Bool) → Agrees is_file kind_arm b (kind_case b)
kind_agrees true = λ p. (refl, refl)
kind_agrees false = λ p. (refl, refl)

named_is_read : (n : List ℕ) (kind : NodeKind) → IsRead kind_case is_file kind_arm (n, kind)
named_is_read n Directory = record { is = refl; reads = λ bytes. refl }
named_is_read n (File text) = record { is = refl; reads = λ bytes. refl }

pub kind_is_read : (n : Named) → IsRead kind_case is_file kind_arm n
kind_is_read n = named_is_read n.0 n.1

unfoldable pub named : Form Named
named = switch flag kind_case is_file kind_arm kind_agrees kind_is_read

-- struct { u32 parent; named; }
unfoldable pub node : Form Node
node = of (λ p. record { parent = p.0; name = p.1.0; kind = p.1.1 }) (λ n. (n.parent, (n.name, n.kind)))
    (λ p. refl) (λ n. refl) (u32 and named)
