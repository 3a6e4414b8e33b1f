use Rattle.std.proofs.Common.{◌<◌, ◌∙◌, refl, arith}
use Rattle.std.specs.Prelude.{◌==◌, ◌-◌, ◌^◌, if◌then◌else◌}
use Rattle.std.proofs.lemmas.List.{length-map}
use Rattle.nfs_state.specs.FileChange.{change_seen}
use Rattle.nfs_state.specs.Files.{FileState, HasRoomIn, RoomyFile, after_change, files_in}
use Rattle.nfs_state.proofs.FileChanges.{all_changed, all_here, all_left, one_more, roomy_change}
use Rattle.nfs_state.proofs.stored_files.change_in.Goals as goal

pub loop-file-init : goal.loop-file-init
loop-file-init c = record {
  files = refl;
  room = c.requires.room;
  changes = roomy_change c.args.files.now c.requires.changes;
}

pub change_one-requires-clause-room : goal.change_one-requires-clause-room
change_one-requires-clause-room c =
    all_here (HasRoomIn c.args.node (change_seen c.args.change)) c.loop-file.files c.loop-file.file-index c.file-item.result (omega arith) c.loop-file.invariant.room

pub change_one-requires-clause-changes : goal.change_one-requires-clause-changes
change_one-requires-clause-changes c =
    all_here (λ (f : RoomyFile). f.file.change < 2 ^ 64 - 1) c.loop-file.files c.loop-file.file-index c.file-item.result (omega arith) c.loop-file.invariant.changes

pub loop-file-preserved : goal.loop-file-preserved
loop-file-preserved c =
    let i = c.loop-file.file-index in
    let next = c.change_one.new.file in
    let change : FileState → FileState = λ f. if f.node == c.args.node then after_change (change_seen c.args.change) f else f in
    record {
      files = one_more change c.args.files.now c.loop-file.files i c.file-item.result next (omega arith) (omega arith) c.loop-file.invariant.files c.change_one.ensures;
      room = all_left (HasRoomIn c.args.node (change_seen c.args.change)) c.loop-file.files i next (omega arith) c.loop-file.invariant.room;
      changes = all_left (λ (f : RoomyFile). f.file.change < 2 ^ 64 - 1) c.loop-file.files i next (omega arith) c.loop-file.invariant.changes;
    }

pub returns : goal.returns
returns c =
    let change : FileState → FileState = λ f. if f.node == c.args.node then after_change (change_seen c.args.change) f else f in
    c.loop-file.invariant.files
    ∙ all_changed change (files_in c.args.files.now) c.loop-file.file-index (omega (arith, length-map c.args.files.now (λ (f : RoomyFile). f.file)))
