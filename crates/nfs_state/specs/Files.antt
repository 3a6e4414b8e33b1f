-- The files' contents: what a READ gives of them, and what changes by a WRITE or by a size that is set (RFC 7530,
-- sections 5.8.1, 16.23, 16.32 and 16.36).
use Rattle.std.specs.Prelude.{ℕ, ◌≡◌, ◌<◌, ◌+◌, ◌-◌, ◌^◌, ◌==◌, Bool, min, nat_le, List, [], ◌++◌, drop, find, length, map, replicate, take, Option, Some, None, if◌then◌else◌}
use Rattle.std.specs.List.{AllByRecursion}
use Rattle.nfs_state.specs.declared.file_change.FileChange.{FileChange}
use Rattle.nfs_state.specs.declared.file_change.FileChange.TheVariants.{Writes, Cuts}
use Rattle.nfs_tree.specs.declared.tree.TheConstants.{TEXT_LIMIT}

-- a file as it is now
pub record FileState : Type 0 where
  -- the number of its node in the tree
  pub node : ℕ
  pub bytes : List ℕ
  -- how often it was changed (the attribute change)
  pub change : ℕ

-- the file of a node with this text, before any client changes it
abbrev pub first_file : ℕ → List ℕ → FileState
first_file node text = record { node = node; bytes = text; change = 0 }

-- the file of a node, if it has one
abbrev pub file_of : List FileState → ℕ → Option FileState
file_of files node = find (λ f. f.node == node) files

-- how often a file was changed, how many bytes it has, and which; 0 and none for a directory
abbrev pub change_of : Option FileState → ℕ
change_of None = 0
change_of (Some f) = f.change

abbrev pub size_of : Option FileState → ℕ
size_of None = 0
size_of (Some f) = length f.bytes

abbrev pub bytes_of : Option FileState → List ℕ
bytes_of None = []
bytes_of (Some f) = f.bytes

-- What a READ gives of these bytes: whether nothing comes after it, and at most TEXT_LIMIT bytes from the offset on.
abbrev pub read_of : List ℕ → ℕ → ℕ → Bool × List ℕ
read_of bytes offset count =
    let part = take (min count TEXT_LIMIT) (drop offset bytes) in
    (nat_le (length bytes) (offset + length part), part)

-- The bytes after a WRITE of the block at the offset. Where that is behind the end, zeros fill the gap.
abbrev pub written : ℕ → List ℕ → List ℕ → List ℕ
written offset block bytes =
    take offset (bytes ++ replicate (offset - length bytes) 0) ++ block
    ++ drop (offset + length block) bytes

-- the file after a WRITE of a block
abbrev pub after_write : ℕ → List ℕ → FileState → FileState
after_write offset block f =
    record f { bytes = written offset block f.bytes; change = f.change + 1 }

-- The files after a WRITE to that of the node. A WRITE of no bytes changes nothing, wherever its offset is.
abbrev pub with_bytes : ℕ → ℕ → List ℕ → List FileState → List FileState
with_bytes node offset [] files = files
with_bytes node offset block files =
    map (λ f. if f.node == node then after_write offset block f else f) files

-- The bytes after a size is set: as many of them, and zeros behind them where there are fewer.
abbrev pub cut_to : ℕ → List ℕ → List ℕ
cut_to size bytes = take size (bytes ++ replicate size 0)

-- the file after its size is set: its change value grows also where it had that size
abbrev pub after_cut : ℕ → FileState → FileState
after_cut size f = record f { bytes = cut_to size f.bytes; change = f.change + 1 }

-- the files after the size of that of the node is set
abbrev pub with_size : ℕ → ℕ → List FileState → List FileState
with_size node size files = map (λ f. if f.node == node then after_cut size f else f) files

-- the file after a WRITE of a block, or after its size is set
abbrev pub after_change : FileChange → FileState → FileState
after_change (Writes offset block) f = after_write offset block f
after_change (Cuts size) f = after_cut size f

-- each file can be changed once more, and its change value still fits
abbrev pub CanChange : List FileState → Type 0
CanChange files = AllByRecursion (λ f. f.change < 2 ^ 64 - 1) files

-- a file, and the change of it that takes no memory, if there is one
pub record RoomyFile : Type 0 where
  pub file : FileState
  pub ready : Option FileChange

-- the files, no matter how much room they have
abbrev pub files_in : List RoomyFile → List FileState
files_in files = map (λ f. f.file) files

-- this change takes no memory, if it is one of the node's file
abbrev pub HasRoomIn : ℕ → FileChange → RoomyFile → Type 0
HasRoomIn node change f = f.file.node ≡ node → f.ready ≡ Some change

-- this change of the node's file takes no memory
abbrev pub HasFileRoom : ℕ → FileChange → List RoomyFile → Type 0
HasFileRoom node change files = AllByRecursion (HasRoomIn node change) files
