use Rattle.nfs_words.proofs.Alone.{answers}
use Rattle.nfs_words.proofs.laws.answers_alone.Goals as goal

pub returns : goal.returns
returns c = answers
