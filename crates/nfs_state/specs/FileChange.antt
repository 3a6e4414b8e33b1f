-- Changes of a file's bytes: a WRITE, and a size that is set (RFC 7530, sections 16.32 and 16.36).
use Rattle.std.specs.Prelude.{ℕ, ◌≡◌, ◌≤◌, ◌+◌, List, ◌++◌, length, take}
use Rattle.nfs_state.specs.Pages.{AreFilledUp, page_start, replaced}
use Rattle.nfs_state.specs.declared.file_change.FileChange.{FileChange}
use Rattle.nfs_state.specs.declared.file_change.FileChange.TheVariants.{Writes, Cuts}
use Rattle.nfs_state.specs.declared.file_change.FileChangeRef.{FileChangeRef}
use Rattle.nfs_state.specs.declared.file_change.FileChangeRef.TheVariants as lent

-- the change whose block is lent
abbrev pub change_seen : FileChangeRef → FileChange
change_seen (lent.Writes offset block) = Writes offset block.now
change_seen (lent.Cuts size) = Cuts size

-- where the bytes end that the change speaks of
abbrev pub end_of : FileChange → ℕ
end_of (Writes offset block) = offset + length block
end_of (Cuts size) = size

-- The change can be made by these pages, in a file whose pages have these bytes: a block is in the pages that come in
-- the place of others, and with a size that is set the file ends in a page in which zeros stand behind it.
abbrev pub ComesWith : List ℕ → FileChange → List ℕ → Type 0
ComesWith all (Writes offset block) pages =
    (offset + length block ≤ length all)
    × (replaced (page_start offset) pages all ≡ replaced offset block all)
ComesWith all (Cuts size) pages =
    (size ≤ length all)
    × (page_start size + length pages ≤ length all)
    × AreFilledUp (take size all) (take (page_start size) all ++ pages)
