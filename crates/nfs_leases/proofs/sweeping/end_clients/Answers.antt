-- The loop goes one visit further.
use Rattle.std.proofs.Common.{ℕ, [], ◌∷◌, ◌++◌, ◌∙◌, Option, refl, sym, subst, arith}
use Rattle.nfs_leases.specs.Sweeps.{IsVisit}
use Rattle.nfs_leases.specs.Visit.{Visit, with_case}
use Rattle.nfs_leases.specs.declared.swept.Swept.{Swept}
use Rattle.nfs_leases.proofs.Comes.{AreLaws, Comes, Stays, book_further, comes_first, comes_further, comes_last, is_gone, stays, total_before}
use Rattle.nfs_leases.proofs.sweeping.end_clients.Goals as goal

pub loop-next-init : goal.loop-next-init
loop-next-init g c =
    let next = c.next_live-next.ensures in
    let first =
    comes_first g.B.LeaseBook.happens c.args.now c.args.core.now c.args.book.now c.next_live-next.result next.numbered
    next.next in
    (0, [], first, c.requires.agrees, next.run, next.lawful, refl)

pub and-swept-requires : goal.and-swept-requires
and-swept-requires g c =
    let i = c.loop-next.invariant in
    let at =
    subst
    (λ (next : Option ℕ).
    Comes g.B.LeaseBook.happens c.args.now i.0 c.args.core.now c.args.book.now c.loop-next.swept i.1
    c.loop-next.core c.loop-next.book next)
    c.in-Some.is i.2 in
    omega (arith, total_before _ _ _ _ _ _ _ _ _ _ at (omega arith))

pub loop-next-preserved : goal.loop-next-preserved
loop-next-preserved g c =
    let i = c.loop-next.invariant in
    let told = c.visit_of.ensures.visit in
    let happens = g.B.LeaseBook.happens in
    let t : Visit = record { client = c.in-Some.client; seen = told.0; case = c.visit_of.result } in
    let at =
    subst
    (λ (next : Option ℕ).
    Comes happens c.args.now i.0 c.args.core.now c.args.book.now c.loop-next.swept i.1 c.loop-next.core
    c.loop-next.book next)
    c.in-Some.is i.2 in
    let visit : IsVisit c.args.now t c.loop-next.core c.visit_of.new.core = record { right = told.1; gains = told.3 } in
    let stay : Stays (is_gone t.case) t.client c.loop-next.core.stored.clients c.visit_of.new.core.stored.clients =
    stays c.live_clients_follow.ensures.ends t.case t.client t.seen c.args.now c.loop-next.core
    c.visit_of.new.core i.5 told.3 in
    let laws : AreLaws happens g.B.LeaseBook.lease g.B.LeaseBook.is_open g.B.LeaseBook.was_opened = record {
      keeps_lease = g.met.B.LeaseBook.keeps_lease;
      open_follows = g.met.B.LeaseBook.open_follows;
      opened_follows = g.met.B.LeaseBook.opened_follows;
    } in
    let agrees =
    book_further happens g.B.LeaseBook.lease g.B.LeaseBook.is_open g.B.LeaseBook.was_opened laws t.case t.client
    t.seen c.args.now c.loop-next.core c.visit_of.new.core c.loop-next.book c.visit_of.new.book told.2 told.3 stay i.3 in
    let next = c.next_live-next-in-Some.ensures in
    let further =
    comes_further happens c.args.now i.0 c.args.core.now c.args.book.now c.loop-next.swept i.1 c.loop-next.core
    c.loop-next.book t c.visit_of.new.core c.visit_of.new.book c.next_live-next-in-Some.result at stay visit told.2
    next.next in
    let counted =
    subst
    (λ (s : Swept).
    Comes happens c.args.now t.client c.args.core.now c.args.book.now s (i.1 ++ t ∷ []) c.visit_of.new.core
    c.visit_of.new.book c.next_live-next-in-Some.result)
    {x = with_case c.loop-next.swept t.case} (sym c.and-swept.ensures) further in
    (t.client, i.1 ++ t ∷ [], counted, agrees, next.run, next.lawful, c.visit_of.ensures.recalls ∙ i.6)

pub returns-clause-ends : goal.returns-clause-ends
returns-clause-ends g c =
    let i = c.loop-next.invariant in
    let at =
    subst
    (λ (next : Option ℕ).
    Comes g.B.LeaseBook.happens c.args.now i.0 c.args.core.now c.args.book.now c.loop-next.swept i.1
    c.loop-next.core c.loop-next.book next)
    c.in_default.is i.2 in
    (i.1, at.counts, comes_last _ _ _ _ _ _ _ _ _ at)
