use Rattle.std.proofs.Common.{◌∙◌, ◌-◌, [], length, ap, arith}
use Rattle.nfs_share.specs.AllOpens.{delegation_count, delegations_in}
use Rattle.nfs_share.proofs.AllOpens.{as_many, one_there, place_taken}
use Rattle.nfs_share.proofs.opens.lending_places_left.Goals as goal

pub loop-file-preserved : goal.loop-file-preserved
loop-file-preserved c =
    let files = c.args.files.now in
    place_taken (delegations_in files) c.loop-file.file-index [] c.loop-file.left (length c.delegations.result.now) c.saturating_sub-left.result
    (c.args.limit - delegation_count (delegations_in files)) (omega (arith, as_many (λ f. f.delegations) files))
    (ap length (c.delegations.ensures ∙ ap (λ f. f.delegations) c.file-item.is ∙ one_there (λ f. f.delegations) files c.loop-file.file-index c.file-item.result [] c.loop-file-test.true))
    (omega (arith, c.saturating_sub-left.ensures)) c.loop-file.invariant
