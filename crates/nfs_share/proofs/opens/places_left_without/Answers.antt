use Rattle.std.proofs.Common.{◌∙◌, ◌-◌, [], length, map, ap, arith}
use Rattle.nfs_share.specs.AllOpens.{open_count, opens_in}
use Rattle.nfs_share.specs.Opens.{is_of, without}
use Rattle.nfs_share.proofs.AllOpens.{as_many_changed, one_seen, place_taken}
use Rattle.nfs_share.proofs.opens.places_left_without.Goals as goal

pub loop-file-preserved : goal.loop-file-preserved
loop-file-preserved c =
    let f = without (is_of c.args.owner.now) in
    let files = c.args.files.now in
    place_taken (map f (opens_in files)) c.loop-file.file-index [] c.loop-file.left c.count_without.result c.saturating_sub-left.result
    (c.args.limit - open_count (map f (opens_in files))) (omega (arith, as_many_changed (λ o. o.opens) f files))
    (c.count_without.ensures
    ∙ ap (λ o. length (f o.opens)) c.file-item.is
    ∙ ap length (one_seen (λ o. o.opens) f files c.loop-file.file-index c.file-item.result [] c.loop-file-test.true))
    (omega (arith, c.saturating_sub-left.ensures)) c.loop-file.invariant
