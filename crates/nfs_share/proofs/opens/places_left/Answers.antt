use Rattle.std.proofs.Common.{◌∙◌, ◌-◌, [], length, ap, arith}
use Rattle.nfs_share.specs.AllOpens.{open_count, opens_in}
use Rattle.nfs_share.proofs.AllOpens.{as_many, one_there, place_taken}
use Rattle.nfs_share.proofs.opens.places_left.Goals as goal

pub loop-file-preserved : goal.loop-file-preserved
loop-file-preserved c =
    let files = c.args.files.now in
    place_taken (opens_in files) c.loop-file.file-index [] c.loop-file.left c.len.result c.saturating_sub-left.result
    (c.args.limit - open_count (opens_in files)) (omega (arith, as_many (λ f. f.opens) files))
    (c.len.ensures ∙ ap length (ap (λ f. f.opens) c.file-item.is ∙ one_there (λ f. f.opens) files c.loop-file.file-index c.file-item.result [] c.loop-file-test.true))
    (omega (arith, c.saturating_sub-left.ensures)) c.loop-file.invariant
