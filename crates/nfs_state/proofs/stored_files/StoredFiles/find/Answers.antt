use Rattle.std.proofs.Common.{◌∙◌, ap}
use Rattle.std.specs.Prelude.{◌==◌, option_map}
use Rattle.nfs_state.specs.Files.{RoomyFile}
use Rattle.nfs_state.proofs.FileChanges.{file_seen}
use Rattle.nfs_state.proofs.stored_files.StoredFiles.find.Goals as goal

pub returns : goal.returns
returns c =
    ap (option_map (λ (f : RoomyFile). f.file)) c.roomy_file.ensures ∙ file_seen (λ f. f.node == c.args.node) c.args.self.now
