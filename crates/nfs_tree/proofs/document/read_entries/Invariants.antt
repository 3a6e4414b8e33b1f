use Rattle.std.proofs.Common.{◌≡◌, drop}
use Rattle.nfs_tree.specs.Document.{entries_of}
use Rattle.nfs_tree.proofs.Documents.{with_front}
use Rattle.toml.specs.View.{items_view}
use Rattle.nfs_tree.proofs.document.read_entries.Given as goal

abbrev pub invariant-loop-value : goal.invariant-loop-value
invariant-loop-value l =
    with_front l.entries.items (entries_of l.listing (items_view (drop l.value-index l.array))) ≡ entries_of l.listing (items_view l.array)
