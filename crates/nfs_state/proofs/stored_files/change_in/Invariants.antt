use Rattle.std.proofs.Common.{◌≡◌, ◌++◌, ◌<◌, drop, map, take}
use Rattle.std.specs.Prelude.{◌==◌, ◌-◌, ◌^◌, if◌then◌else◌}
use Rattle.std.specs.List.{AllByRecursion}
use Rattle.nfs_state.specs.FileChange.{change_seen}
use Rattle.nfs_state.specs.Files.{HasRoomIn, after_change, files_in}
use Rattle.nfs_state.proofs.stored_files.change_in.Given as goal

-- those visited so far are changed, and those that are left can be
abbrev pub invariant-loop-file : goal.invariant-loop-file
invariant-loop-file l = record {
  files : files_in l.files
      ≡ map (λ f. if f.node == l.node then after_change (change_seen l.change) f else f) (take l.file-index (files_in l.initial.files))
      ++ drop l.file-index (files_in l.initial.files);
  room : AllByRecursion (HasRoomIn l.node (change_seen l.change)) (drop l.file-index l.files);
  changes : AllByRecursion (λ f. f.file.change < 2 ^ 64 - 1) (drop l.file-index l.files);
}
