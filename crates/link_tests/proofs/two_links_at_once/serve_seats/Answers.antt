use Rattle.std.proofs.Common.{List, map, length, ap, subst, sym, ◌∙◌}
use Rattle.nfs_threads.specs.Worker.{seats_back}
use Rattle.nfs_shared.specs.Ends.{AreFresh, AreKept}
use Rattle.nfs_shared.specs.Seats.{SeatView}
use Rattle.link_tests.proofs.two_links_at_once.serve_seats.Goals as goal

pub serve_all-requires-clause-unused : goal.serve_all-requires-clause-unused
serve_all-requires-clause-unused g c κs within k seat at =
    let fresh = subst (λ (s : List SeatView). AreFresh g.N.Naming.run.words g.N.Naming.run.workers s) (sym c.in_ok-links.ensures) c.requires.fresh in
    ap (λ (s : SeatView). s.receipts.given) (fresh.1 k seat at)

pub returns-clause-all : goal.returns-clause-all
returns-clause-all g c =
    let fresh = subst (λ (s : List SeatView). AreFresh g.N.Naming.run.words g.N.Naming.run.workers s) (sym c.in_ok-links.ensures) c.requires.fresh in
    let law = c.workers_keep_receipts.ensures c.args.tree.now g.N.Naming.run.words g.N.Naming.run.workers c.in_ok-links.links.items c.in-Ok.all.items fresh c.in-Ok.ensures.ends in
    ap (λ (s : List SeatView). length s) c.split.ensures.seats ∙ law.0

pub returns-clause-kept : goal.returns-clause-kept
returns-clause-kept g c =
    let fresh = subst (λ (s : List SeatView). AreFresh g.N.Naming.run.words g.N.Naming.run.workers s) (sym c.in_ok-links.ensures) c.requires.fresh in
    let law = c.workers_keep_receipts.ensures c.args.tree.now g.N.Naming.run.words g.N.Naming.run.workers c.in_ok-links.links.items c.in-Ok.all.items fresh c.in-Ok.ensures.ends in
    subst (λ s. AreKept s (map (λ v. v.items) c.split.new.receipts.items)) (sym c.split.ensures.seats) (subst (λ r. AreKept (seats_back c.in-Ok.all.items) r) (sym c.split.ensures.receipts) law.1)
