use Rattle.std.proofs.Common.{◌≤◌, List, ap, length, map, subst, sym, vec_capacity, ◌∙◌}
use Rattle.std.proofs.lemmas.List.{length-map}
use Rattle.nfs_shared.specs.Ends.{AllApart, AllHeeded, AllInTime, AllStand, AreFresh, AreKept, JournalBearsOut, receipts_in}
use Rattle.nfs_shared.specs.Naming.{OpenedView}
use Rattle.nfs_shared.specs.Seats.{SeatView}
use Rattle.nfs_shared.specs.declared.receipt.Receipt.{Receipt}
use Rattle.nfs_threads.proofs.Shifts.{are_shifts, as_many}
use Rattle.nfs_state.specs.State.{History}
use Rattle.nfs_server.specs.Serves.{served_by}
use Rattle.nfs_threads.specs.Calling.{HasCalled}
use Rattle.nfs_threads.specs.Links.{tcp}
use Rattle.nfs_threads.specs.Run.{AreShifts}
use Rattle.nfs_threads.specs.Worker.{seats_back}
use Rattle.nfs_threads.specs.declared.shift.Shift.{Shift}
use Rattle.nfs_threads.proofs.listening.run.Goals as goal

pub serve_helped-ends-requires-clause-unused : goal.serve_helped-ends-requires-clause-unused
serve_helped-ends-requires-clause-unused g c κs within k seat at =
    let fresh = subst (λ (s : List SeatView). AreFresh g.N.Naming.run.words g.N.Naming.run.workers s) (sym c.link_all.ensures.seats) c.in-Ok-new.ensures.seats in
    ap (λ (s : SeatView). s.receipts.given) (fresh.1 k seat at)

pub split-requires-clause-shifts : goal.split-requires-clause-shifts
split-requires-clause-shifts g c =
    let fresh = subst (λ (s : List SeatView). AreFresh g.N.Naming.run.words g.N.Naming.run.workers s) (sym c.link_all.ensures.seats) c.in-Ok-new.ensures.seats in
    let law = c.workers_keep_receipts.ensures c.args.setting.now.tree.now g.N.Naming.run.words g.N.Naming.run.workers c.link_all.new.all.items c.serve_helped-ends.result.0.items fresh c.serve_helped-ends.ensures.ends in
    let many = as_many c.serve_helped-ends.result.0.items law.0 ∙ sym (ap (λ (o : OpenedView). o.workers) c.requires.beginning.run) ∙ c.requires.count in
    (c.in-Ok.ensures.shifts.0, subst (λ n. n ≤ vec_capacity c.in-Ok.lists.shifts) (sym many) c.in-Ok.ensures.shifts.1)

pub split-requires-clause-seats : goal.split-requires-clause-seats
split-requires-clause-seats g c =
    let fresh = subst (λ (s : List SeatView). AreFresh g.N.Naming.run.words g.N.Naming.run.workers s) (sym c.link_all.ensures.seats) c.in-Ok-new.ensures.seats in
    let law = c.workers_keep_receipts.ensures c.args.setting.now.tree.now g.N.Naming.run.words g.N.Naming.run.workers c.link_all.new.all.items c.serve_helped-ends.result.0.items fresh c.serve_helped-ends.ensures.ends in
    let many = as_many c.serve_helped-ends.result.0.items law.0 ∙ sym (ap (λ (o : OpenedView). o.workers) c.requires.beginning.run) ∙ c.requires.count in
    (c.in-Ok.ensures.seats.0, subst (λ n. n ≤ vec_capacity c.in-Ok.lists.seats) (sym many) c.in-Ok.ensures.seats.1)

pub split-requires-clause-receipts : goal.split-requires-clause-receipts
split-requires-clause-receipts g c =
    let fresh = subst (λ (s : List SeatView). AreFresh g.N.Naming.run.words g.N.Naming.run.workers s) (sym c.link_all.ensures.seats) c.in-Ok-new.ensures.seats in
    let law = c.workers_keep_receipts.ensures c.args.setting.now.tree.now g.N.Naming.run.words g.N.Naming.run.workers c.link_all.new.all.items c.serve_helped-ends.result.0.items fresh c.serve_helped-ends.ensures.ends in
    let many = as_many c.serve_helped-ends.result.0.items law.0 ∙ sym (ap (λ (o : OpenedView). o.workers) c.requires.beginning.run) ∙ c.requires.count in
    (c.in-Ok.ensures.receipts.0, subst (λ n. n ≤ vec_capacity c.in-Ok.lists.receipts) (sym many) c.in-Ok.ensures.receipts.1)

pub end-core-requires-clause-all : goal.end-core-requires-clause-all
end-core-requires-clause-all g c =
    let fresh = subst (λ (s : List SeatView). AreFresh g.N.Naming.run.words g.N.Naming.run.workers s) (sym c.link_all.ensures.seats) c.in-Ok-new.ensures.seats in
    let law = c.workers_keep_receipts.ensures c.args.setting.now.tree.now g.N.Naming.run.words g.N.Naming.run.workers c.link_all.new.all.items c.serve_helped-ends.result.0.items fresh c.serve_helped-ends.ensures.ends in
    ap (λ (s : List SeatView). length s) c.split.ensures.seats ∙ law.0

pub end-core-requires-clause-kept : goal.end-core-requires-clause-kept
end-core-requires-clause-kept g c =
    let fresh = subst (λ (s : List SeatView). AreFresh g.N.Naming.run.words g.N.Naming.run.workers s) (sym c.link_all.ensures.seats) c.in-Ok-new.ensures.seats in
    let law = c.workers_keep_receipts.ensures c.args.setting.now.tree.now g.N.Naming.run.words g.N.Naming.run.workers c.link_all.new.all.items c.serve_helped-ends.result.0.items fresh c.serve_helped-ends.ensures.ends in
    let receipts = ap (map (λ v. v.items)) c.as_slice.ensures.value ∙ c.split.ensures.receipts in
    subst (λ (s : List SeatView). AreKept s (map (λ v. v.items) c.as_slice.result.now)) (sym c.split.ensures.seats)
    (subst (λ (r : List (List Receipt)). AreKept (seats_back c.serve_helped-ends.result.0.items) r) (sym receipts) law.1)

pub returns-clause-served : goal.returns-clause-served
returns-clause-served g c =
    let ends = c.serve_helped-ends.result.0.items in
    let links = c.link_all.new.all.items in
    let core = c.end-core.result in
    let fresh = subst (λ (s : List SeatView). AreFresh g.N.Naming.run.words g.N.Naming.run.workers s) (sym c.link_all.ensures.seats) c.in-Ok-new.ensures.seats in
    let law = c.workers_keep_receipts.ensures c.args.setting.now.tree.now g.N.Naming.run.words g.N.Naming.run.workers c.link_all.new.all.items c.serve_helped-ends.result.0.items fresh c.serve_helped-ends.ensures.ends in
    let many = as_many c.serve_helped-ends.result.0.items law.0 ∙ sym (ap (λ (o : OpenedView). o.workers) c.requires.beginning.run) ∙ c.requires.count in
    let receipts = ap (map (λ v. v.items)) c.as_slice.ensures.value in
    record {
      seats = seats_back ends;
      words = g.N.Naming.run.words;
      lasts = sym (ap (λ (o : OpenedView). o.words.lease) c.requires.beginning.run) ∙ c.requires.beginning.lease;
      all = (
        ap (λ s. length s) c.split.ensures.shifts ∙ length-map ends (λ e. e.shift) ∙ many,
        sym (length-map c.split.new.receipts.items (λ v. v.items)) ∙ ap (λ s. length s) c.split.ensures.receipts ∙ length-map ends (λ e. e.receipts.items) ∙ many,
        length-map ends (λ e. e.seat) ∙ many,
      );
      each = subst (λ (h : History). AreShifts (tcp (served_by h)) c.args.setting.now.tree.now c.args.links.now g.N.Naming.run.words c.split.new.shifts.items (map (λ v. v.items) c.split.new.receipts.items) (seats_back ends)) (sym c.requires.beginning.start)
          (subst (λ (s : List Shift). AreShifts (tcp (served_by g.N.Naming.start)) c.args.setting.now.tree.now c.args.links.now g.N.Naming.run.words s (map (λ v. v.items) c.split.new.receipts.items) (seats_back ends)) (sym c.split.ensures.shifts)
          (subst (λ (r : List (List Receipt)). AreShifts (tcp (served_by g.N.Naming.start)) c.args.setting.now.tree.now c.args.links.now g.N.Naming.run.words (map (λ e. e.shift) ends) r (seats_back ends)) (sym c.split.ensures.receipts)
          (are_shifts (tcp (served_by g.N.Naming.start)) c.args.setting.now.tree.now c.args.links.now g.N.Naming.run.words g.N.Naming.run.workers links ends fresh c.link_all.ensures.same c.serve_helped-ends.ensures.ends)));
      start = c.end-core.ensures.start ∙ sym c.requires.beginning.start;
      lawful = c.end-core.ensures.lawful;
      safe = c.end-core.ensures.safe;
      stand = subst (λ (r : List (List Receipt)). AllStand core.journal.entries r) receipts c.end-core.ensures.stand;
      apart = subst (λ (r : List (List Receipt)). AllApart r) receipts c.end-core.ensures.apart;
      counted = c.end-core.ensures.counted ∙ ap receipts_in receipts;
      in_time = subst (λ (s : List SeatView). AllInTime core.journal.lease core.journal.entries s) c.split.ensures.seats c.end-core.ensures.in_time;
      heeded = subst AllHeeded c.split.ensures.seats c.end-core.ensures.heeded;
      borne_out = subst (JournalBearsOut core) c.split.ensures.seats c.end-core.ensures.borne_out;
      sender = c.serve_helped-ends.result.1.sender;
      called = subst (λ (h : History). HasCalled h c.serve_helped-ends.result.1.sender) (sym c.requires.beginning.start) c.serve_helped-ends.ensures.called;
      taken = c.end-core.ensures.taken;
      others = (c.serve_helped-ends.result.1.sweeper.count, c.end-core.ensures.others);
    }
