use Rattle.std.proofs.lemmas.Iterator.Consumers.{YieldsList-end}
use Rattle.std.proofs.lemmas.Iterator.Adapters.{YieldsList-from_vec}
use Rattle.std.proofs.Common.{length, map-id, rules, vec_len, ◌≡◌, ◌∙◌, ℕ, [], ◌∷◌, List, Contains, ap, subst, sym, arith, append-nil, length-append}
use mathlib.Core.List.{IsPrefix}
use Rattle.nfs_leases.specs.BookEvent.{BookEvent}
use Rattle.nfs_shared.specs.Deeds.{keeper_deeds}
use Rattle.nfs_shared.specs.Ends.{AllHeeded, IsBorneOutBy, IsHeeded}
use Rattle.nfs_shared.specs.Roll.{list_of}
use Rattle.nfs_shared.specs.Seats.{SeatView}
use Rattle.nfs_words.specs.Deeds.{event}
use Rattle.nfs_words.specs.SeatLaws.{NoneLate}
use Rattle.nfs_words.specs.Sitting.{Sitting, Words}
use Rattle.nfs_words.specs.declared.event.Deed.TheVariants.{Look}
use Rattle.nfs_words.specs.declared.event.Event.{Event}
use Rattle.nfs_shared.proofs.Finding.{borne_out_more, borne_out_by, borne_out_older, heeded_more}
use Rattle.nfs_shared.proofs.Meeting.{contains_more, met_more}
use Rattle.nfs_shared.proofs.Ends.{begin_more, given_more}
use Rattle.nfs_shared.proofs.shared.meet_each.Goals as goal

pub loop-seat-preserved : goal.loop-seat-preserved
loop-seat-preserved g c =
    let i = c.loop-seat.invariant in
    let seats = c.loop-seat.yielded in
    let seat : SeatView = c.in-Some.seat in
    let whole = list_of c.args.writer.now in
    let met = c.meet.ensures in
    let here : list_of c.seat.inside.token ≡ seat.receipts.list = ap (λ s. s.receipts.list) c.seat.view_is in
    let all : list_of c.loop-seat.writer ≡ whole = ap (λ m. m.0.list) i.writer in
    let begins : IsPrefix seat.receipts.list whole = (met.begins.0, cc (here, all, met.begins.1)) in
    let merged = c.merge.ensures in
    let conferred = c.confer.ensures.adds in
    let looked = event 0 (Look conferred.1) in
    let keeper = c.confer.new.first in
    let its : c.seat.inside.leases ≡ seat.leases = ap (λ (s : SeatView). s.leases) c.seat.view_is in
    let own : c.confer.new.second.view.own ≡ looked ∷ seat.leases.view.own = ap (λ (s : Sitting). s.view.own) conferred.2 ∙ ap (λ (s : Sitting). looked ∷ s.view.own) its in
    let grown : keeper.view.own ≡ event 0 (Look conferred.0) ∷ c.loop-seat.keeper.view.own = ap (λ (s : Sitting). s.view.own) conferred.3 in
    let more : (e : Event) → Contains c.args.keeper.now.view.own e → Contains keeper.view.own e = λ e h. subst (λ (l : List Event). Contains l e) (sym grown) (contains_more e (event 0 (Look conferred.0)) c.loop-seat.keeper.view.own (i.more e h)) in
    let words = g.N.Naming.run.words in
    let deeds : keeper_deeds keeper.view.own ≡ keeper_deeds c.args.keeper.now.view.own =
    ap keeper_deeds grown ∙ append-nil (keeper_deeds c.loop-seat.keeper.view.own) ∙ i.deeds in
    let by_deeds : IsBorneOutBy (keeper_deeds c.args.keeper.now.view.own) seat.leases.view.own =
    borne_out_older (keeper_deeds c.args.keeper.now.view.own) looked seat.leases.view.own
    (subst (λ (l : List Event). IsBorneOutBy (keeper_deeds c.args.keeper.now.view.own) l) own
    (subst (λ (d : List BookEvent). IsBorneOutBy d c.confer.new.second.view.own) deeds
    (borne_out_by c.confer.new.second.view.own keeper.view.own (c.confer.ensures.borne_out i.keeper.1)))) in
    let late = subst (λ (l : List Event). NoneLate words.lease l keeper.view.own) own (subst (λ (n : ℕ). NoneLate n c.confer.new.second.view.own keeper.view.own) (ap (λ (w : Words). w.lease) c.requires.words) c.confer.ensures.second_first) in
    record {
      can = tt;
      ends = tt;
      table = (met.writer.0.0 ∙ c.requires.roll, i.table.1);
      writer = met.writer.1 ∙ i.writer;
      keeper = (
        (ap (λ (s : Sitting). s.table) conferred.3 ∙ i.keeper.0.0, ap (λ (s : Sitting). s.view.lease) conferred.3 ∙ i.keeper.0.1),
        ap (λ (s : Sitting). s.view.keeps) conferred.3 ∙ i.keeper.1,
        ap (λ (s : Sitting). s.view.place) conferred.3 ∙ i.keeper.2,
      );
      deeds = deeds;
      heeded = heeded_more seats seat i.heeded (subst (λ (s : Sitting). IsHeeded s.view.own) its record { none_after_end = c.heed.ensures.none_after_end; looks_first = c.heed.ensures.looks_first; never_vacant_again = c.heed.ensures.never_vacant_again });
      borne_out = borne_out_more (keeper_deeds c.args.keeper.now.view.own) seats seat i.borne_out by_deeds;
      more = more;
      met = met_more words.lease c.args.keeper.now.view.own seats seat looked keeper.view.own i.met late more;
      begin = begin_more seats seat whole i.begin begins;
      parts = omega (arith, merged.parts, i.parts, c.seat.invariant.2, length-append seats (seat ∷ []));
      amount = omega (arith, merged.amount, i.amount, ap (λ s. s.receipts.given) c.seat.view_is, given_more seats seat);
    }

pub returns-clause-heeded : goal.returns-clause-heeded
returns-clause-heeded g c =
    let starts = c.into_iter-seat-iterator.ensures.into_iter_gives in
    let many : vec_len c.args.seats ≡ length c.args.seats.items = search rules in
    let all = YieldsList-end (YieldsList-from_vec c.args.seats.items starts.0 (starts.1 ∙ many)) c.loop-seat.yielded c.loop-seat.seat-iterator c.loop-seat.yielded_by c.next.result c.next.new.self c.in-None.is c.next.ensures.steps in
    let whole : c.loop-seat.yielded ≡ c.args.seats.items = sym (map-id c.loop-seat.yielded) ∙ all.0 in
    subst AllHeeded whole c.loop-seat.invariant.heeded
