use Rattle.std.proofs.Common.{◌≡◌, [], replicate, ap, ◌∙◌, arith}
use Rattle.nfs_share.specs.AllOpens.{delegations_in, opens_in}
use Rattle.nfs_share.specs.OpenNodes.{lent_number, open_number}
use Rattle.nfs_share.proofs.AllOpens.{as_many}
use Rattle.nfs_share.proofs.Indexed.{lent_within, none_yet, opens_within}
use Rattle.nfs_share.proofs.opens.Opens.new.Goals as goal

pub invariant_of-result : goal.invariant_of-result
invariant_of-result c = (
  none_yet open_number c.loop.counter (opens_in c.loop.files.items) c.new-2.result c.loop.invariant.opens (omega (arith, as_many (λ f. f.opens) c.loop.files.items, c.loop.invariant.counted, c.loop.auto.counter-end, c.ranges.nodes.fits)),
  none_yet lent_number c.loop.counter (delegations_in c.loop.files.items) c.new-3.result c.loop.invariant.delegations (omega (arith, as_many (λ f. f.delegations) c.loop.files.items, c.loop.invariant.counted, c.loop.auto.counter-end, c.ranges.nodes.fits)),
)

pub returns-clause-opens : goal.returns-clause-opens
returns-clause-opens c =
    let all : c.loop.counter ≡ c.args.nodes = omega (arith, c.loop.auto.counter-end, c.loop-test.false) in
    opens_within _ _ c.loop.files.items ∙ c.loop.invariant.opens ∙ ap (λ n. replicate n []) all

pub returns-clause-delegations : goal.returns-clause-delegations
returns-clause-delegations c =
    let all : c.loop.counter ≡ c.args.nodes = omega (arith, c.loop.auto.counter-end, c.loop-test.false) in
    lent_within _ _ c.loop.files.items ∙ c.loop.invariant.delegations ∙ ap (λ n. replicate n []) all
