use Rattle.std.proofs.Common.{◌≡◌, ◌+◌, ◌-◌, ◌++◌, [], ◌∷◌, reverse, take, drop, ap, sym, ◌∙◌, append_assoc, vec_len, arith}
use Rattle.nfs_ranges.proofs.Elements.{shifted}
use Rattle.nfs_ranges.proofs.shifts.shift.Goals as goal

pub loop-preserved : goal.loop-preserved
loop-preserved c =
    let xs = c.args.from.now.items in
    let n = vec_len c.args.from.now - (c.loop.counter + 1) in
    let up : n + 1 ≡ vec_len c.args.from.now - c.loop.counter =
    omega (arith, c.loop-test.true, c.requires.count) in
    let moved =
    shifted xs c.pop.new.self.items n c.in-Some.run' (omega (arith, c.loop-test.true, c.requires.count))
    (ap (λ k. take k xs) up ∙ sym c.loop.invariant.from ∙ c.in-Some.ensures.items) in
    record {
      count = omega (arith, c.loop-test.true);
      from = moved.0;
      to =
          c.push_reserved.ensures.items
          ∙ ap (λ zs. zs ++ c.in-Some.run' ∷ []) c.loop.invariant.to
          ∙ append_assoc c.args.to.now.items (reverse (drop (vec_len c.args.from.now - c.loop.counter) xs)) (c.in-Some.run' ∷ [])
          ∙ ap (λ k. c.args.to.now.items ++ (reverse (drop k xs) ++ c.in-Some.run' ∷ [])) (sym up)
          ∙ ap (λ zs. c.args.to.now.items ++ zs) (sym moved.1);
      capacity = (
        c.pop.ensures.capacity ∙ c.loop.invariant.capacity.0,
        c.push_reserved.ensures.capacity ∙ c.loop.invariant.capacity.1,
      );
      lengths = (
        omega (arith, c.in-Some.ensures.len, c.loop.invariant.lengths.0),
        omega (arith, c.push_reserved.ensures.len, c.loop.invariant.lengths.1),
      );
    }
