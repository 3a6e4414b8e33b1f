use Rattle.std.proofs.Common.{◌≡◌, ◌+◌, ◌-◌, ◌≤◌, max, length, vec_len}
use Rattle.std.specs.Prelude.{vec_capacity}
use Rattle.std.specs.List.{All, flat_map}
use Rattle.nfs_rpc.specs.declared.records.TheConstants.{RECORD_LIMIT}
use Rattle.nfs_xdr.specs.OpResult.{op_result}
use Rattle.nfs_tree.specs.Filehandles.{AreNodes}
use Rattle.nfs_server.specs.Folding.{asker_of, start}
use Rattle.nfs_tree.specs.Exports.{export_seen}
use Rattle.nfs_server.proofs.Folding.{Completes}
use Rattle.nfs_server.proofs.compound.answer_operations.Given as goal

abbrev pub invariant-loop-op : goal.invariant-loop-op
invariant-loop-op g l = record {
  completes : Completes (asker_of g.S.Service.gives l.context) (start l.fn.service l.head) l.fn.ops.items (record { service = l.service; handles = l.handles; size = l.size }) l.ops.items l.results.items;
  ready : length l.ops.items ≤ g.S.Service.room l.service;
  space : vec_len l.results + length l.ops.items ≤ vec_capacity l.results;
  size : l.size ≡ l.head + length (flat_map op_result.encoding l.results.items);
  within : l.size ≤ max l.head (RECORD_LIMIT - 12);
  form : All op_result.Fits l.results.items;
  serves : g.S.Service.serves l.service ≡ export_seen l.context.export.now;
  nodes : AreNodes l.context.export.now.tree.now l.handles;
}

abbrev pub decreases-loop-op : goal.decreases-loop-op
decreases-loop-op g l = length l.ops.items
