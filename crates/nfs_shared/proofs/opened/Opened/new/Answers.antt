use Rattle.std.proofs.Common.{[], ◌∷◌, refl}
use Rattle.nfs_shared.specs.Roll.{writer_of}
use Rattle.nfs_shared.proofs.Moves.{begins}
use Rattle.nfs_shared.proofs.opened.Opened.new.Goals as goal

pub of_words-requires : goal.of_words-requires
of_words-requires c = begins (record { words = 0 ∷ []; homes = []; views = writer_of [] ∷ [] }) refl refl
