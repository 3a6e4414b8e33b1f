use Rattle.std.proofs.Common.{◌≡◌, drop, take}
use Rattle.std.specs.List.{AllByRecursion}
use Rattle.nfs_state.specs.FileChange.{change_seen}
use Rattle.nfs_state.specs.Files.{HasFileRoom, HasRoomIn, files_in}
use Rattle.nfs_state.proofs.stored_files.reserve_in.Given as goal

-- those visited so far have room, and those that are left have it if all had it
abbrev pub invariant-loop-file : goal.invariant-loop-file
invariant-loop-file l = record {
  same : files_in l.files ≡ files_in l.initial.files;
  room : AllByRecursion (HasRoomIn l.node (change_seen l.change)) (take l.file-index l.files);
  ready : HasFileRoom l.node (change_seen l.change) l.initial.files → AllByRecursion (HasRoomIn l.node (change_seen l.change)) (drop l.file-index l.files);
}
