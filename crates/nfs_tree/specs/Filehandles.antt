-- The current and the saved filehandle.
use Rattle.std.specs.Prelude.{ℕ, ◌<◌, List, Option, Some, None, IfSome, option_and_then}
use Rattle.std.specs.Result.{result_ok}
use Rattle.nfs_forms.specs.declared.claim.Claim.{Claim}
use Rattle.nfs_forms.specs.declared.claim.Claim.TheVariants as claims
use Rattle.nfs_tree.specs.declared.filehandles.Filehandles.{Filehandles}
use Rattle.nfs_tree.specs.declared.node.Node.{Node}
use Rattle.nfs_tree.specs.Tree.{Files, node_count, resolution}
use Rattle.nfs_xdr.specs.declared.op.Op.{Op}
use Rattle.nfs_xdr.specs.declared.op.Op.TheVariants as ops

-- both filehandles are absent when a COMPOUND begins
abbrev pub no_filehandles : Filehandles
no_filehandles = record { current = None; saved = None }

-- a filehandle, if it is set, is that of a node
abbrev pub IsNode : Files → Option ℕ → Type 0
IsNode tree handle = IfSome handle (λ node. node < node_count tree.nodes)

-- both filehandles, if they are set, are those of nodes
abbrev pub AreNodes : Files → Filehandles → Type 0
AreNodes tree handles = IsNode tree handles.current × IsNode tree handles.saved

-- The name in a claim. CLAIM_PREVIOUS has none: it claims the current file.
abbrev pub claimed_name : Claim → Option (List ℕ)
claimed_name (claims.Null name) = Some name
claimed_name (claims.Previous delegation) = None
claimed_name (claims.DelegateCur stateid name) = Some name
claimed_name (claims.DelegatePrev name) = Some name

-- the object that the name, if there is one, names in the node of this filehandle, if it is set
abbrev pub object_named : List Node → Option ℕ → Option (List ℕ) → Option ℕ
object_named nodes handle name =
    option_and_then (λ node. option_and_then (λ n. result_ok (resolution nodes node n)) name)
    handle

-- this node, if there is one, becomes the current one
abbrev pub with_current : Option ℕ → Filehandles → Filehandles
with_current None old = old
with_current (Some node) old = record old { current = Some node }

-- The filehandles after an operation on the state that was answered NFS4_OK. After an OPEN the object that its name
-- names in the current directory is the current one (RFC 7530, section 16.16). Nothing else changes them, and an OPEN
-- neither if it has no name or if its name names nothing there.
abbrev pub handles_after : List Node → Filehandles → Op → Filehandles
handles_after nodes old (ops.Open args) =
    with_current (object_named nodes old.current (claimed_name args.claim)) old
handles_after nodes old op = old
