use Rattle.std.proofs.Common.{◌∙◌}
use Rattle.nfs_words.proofs.Seats.{begins}
use Rattle.nfs_words.proofs.word_leases.WordLeases.with_words.Goals as goal

pub of_words-requires : goal.of_words-requires
of_words-requires c = begins _ c.args.count c.as_slice.result.now c.requires (c.as_slice.ensures.value ∙ c.in_ok-words.ensures.items_if_clones_equal (λ y e. e))
