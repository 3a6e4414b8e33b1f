use Rattle.std.proofs.Common.{◌∙◌, arith}
use Rattle.std.proofs.Math.Seq.{map-set_same}
use Rattle.nfs_state.specs.FileChange.{change_seen}
use Rattle.nfs_state.specs.Files.{HasRoomIn, RoomyFile}
use Rattle.nfs_state.proofs.FileChanges.{all_left, all_set}
use Rattle.nfs_state.proofs.stored_files.reserve_in.Goals as goal

pub loop-file-preserved : goal.loop-file-preserved
loop-file-preserved c =
    let i = c.loop-file.file-index in
    let next = c.reserve_one.new.file in
    let has = HasRoomIn c.args.node (change_seen c.args.change) in
    record {
      same = map-set_same (λ (f : RoomyFile). f.file) c.loop-file.files i next c.file-item.result c.reserve_one.ensures.same ∙ c.loop-file.invariant.same;
      room = all_set has c.loop-file.files i next (omega arith) c.loop-file.invariant.room c.in_ok-reserve_one.ensures.room;
      ready = λ all. all_left has c.loop-file.files i next (omega arith) (c.loop-file.invariant.ready all);
    }

pub returns-in_err-reserve_one-clause-same : goal.returns-in_err-reserve_one-clause-same
returns-in_err-reserve_one-clause-same c =
    map-set_same (λ (f : RoomyFile). f.file) c.loop-file.files c.loop-file.file-index c.reserve_one.new.file c.file-item.result c.reserve_one.ensures.same
    ∙ c.loop-file.invariant.same
