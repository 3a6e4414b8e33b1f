use Rattle.std.proofs.Common.{◌∙◌}
use Rattle.nfs_state.specs.Files.{files_in}
use Rattle.nfs_state.proofs.FileChanges.{some_written}
use Rattle.nfs_state.proofs.stored_files.write_in.Goals as goal

pub returns : goal.returns
returns c =
    c.change_in.ensures ∙ some_written c.args.node c.args.offset c.args.block.now (files_in c.args.files.now) c.requires.some
