use Rattle.std.proofs.Common.{◌≡◌, [], replicate, ap, ◌∙◌, arith, subst, sym}
use Rattle.std.specs.List.{AllByRecursion}
use Rattle.nfs_locks.proofs.Indexed.{none_yet, stored_within}
use Rattle.nfs_locks.proofs.Named.{all_same}
use Rattle.nfs_locks.proofs.locks.Locks.new.Goals as goal

pub invariant_of-result : goal.invariant_of-result
invariant_of-result c = (
  none_yet c.loop.counter c.loop.files.items c.new-2.result c.loop.invariant.locks
      (omega (arith, c.loop.invariant.counted, c.loop.auto.counter-end, c.ranges.nodes.fits)),
  subst (AllByRecursion (λ n. n ≡ c.args.names)) (sym c.loop.invariant.names) (all_same c.loop.counter c.args.names),
)

pub returns : goal.returns
returns c =
    let all : c.loop.counter ≡ c.args.nodes = omega (arith, c.loop.auto.counter-end, c.loop-test.false) in
    stored_within _ c.loop.files.items ∙ c.loop.invariant.locks ∙ ap (λ n. replicate n []) all
