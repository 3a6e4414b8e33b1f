use Rattle.std.proofs.Common.{◌+◌, ◌∙◌, ap, sym}
use Rattle.nfs_state.specs.Files.{FileState, RoomyFile, after_cut}
use Rattle.nfs_state.specs.declared.file_change.FileChange.TheVariants.{Cuts}
use Rattle.nfs_state.proofs.ReadyChanges.{cut_file, room_known}
use Rattle.nfs_state.proofs.stored_file.StoredFile.cut.Goals as goal

pub returns : goal.returns
returns c =
    let w = c.unwrap-ready.result in
    let f = c.self.inside in
    let size = c.args.size in
    let known = room_known f.pages f.ready w (Cuts size) c.self.invariant.2 (sym c.take.ensures.value ∙ c.unwrap-ready.ensures) (ap (λ (r : RoomyFile). r.ready) c.self.view_is ∙ c.requires.room) in
    let new = c.end_with.new.self in
    let file = cut_file f.size size w.pages f.pages new c.self.invariant.1 c.self.invariant.0 known.0 known.2 c.end_with.ensures in
    let made : FileState → FileState = λ old. after_cut size old in
    (λ i. record { node = f.node; bytes = file.0 i; change = f.change + 1 })
    ∙ ap (λ (r : RoomyFile). made r.file) c.self.view_is
