use Rattle.std.proofs.Common.{◌≡◌, ◌∙◌, ◌++◌, ◌∷◌, [], ap, rules}
use Rattle.std.proofs.lemmas.List.{map-append}
use Rattle.nfs_threads.proofs.Rest.{all_and_one}
use Rattle.nfs_threads.proofs.listening.link_all.Goals as goal

pub loop-seat-preserved : goal.loop-seat-preserved
loop-seat-preserved g c = record {
  can = tt;
  finite = tt;
  room = search rules;
  same = rw c.push_reserved.ensures.items (all_and_one (λ x. x.0 ≡ c.args.links.now) c.loop-seat.all.items (c.again.result, c.in-Some.seat) c.loop-seat.invariant.same c.again.ensures);
  seats = rw c.push_reserved.ensures.items (map-append (λ x. x.1) c.loop-seat.all.items ((c.again.result, c.in-Some.seat) ∷ []) ∙ ap (λ s. s ++ c.in-Some.seat ∷ []) c.loop-seat.invariant.seats);
}
