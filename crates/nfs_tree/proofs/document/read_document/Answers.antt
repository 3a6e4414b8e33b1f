use Rattle.toml.specs.View.{table_view}
use Rattle.nfs_tree.proofs.Documents.{document_read, document_none, not_both}
use Rattle.nfs_tree.proofs.document.read_document.Goals as goal

pub returns-in-Ok : goal.returns-in-Ok
returns-in-Ok c = document_read c.args.text.now (table_view c.in-Ok.table) c.document_of.result c.in-Ok.ensures.ok c.document_of.ensures

pub returns-in-Err-2 : goal.returns-in-Err-2
returns-in-Err-2 c =
    document_none c.args.text.now (c.in-Err.ensures.refused (λ memory. not_both c.is_memory.result c.if-is_memory.false (c.is_memory.ensures.1 memory)))
