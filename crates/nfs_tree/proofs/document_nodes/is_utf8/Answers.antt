use Rattle.std.proofs.Common.{sym}
use Rattle.nfs_tree.proofs.DocumentNodes.{utf8_yes, utf8_no}
use Rattle.nfs_tree.proofs.document_nodes.is_utf8.Goals as goal

pub returns-in-Ok : goal.returns-in-Ok
returns-in-Ok c = sym (utf8_yes c.args.bytes.now c.in-Ok.ensures.cases.1)

pub returns-in-Err : goal.returns-in-Err
returns-in-Err c = sym (utf8_no c.args.bytes.now c.in-Err.ensures.cases.0)
