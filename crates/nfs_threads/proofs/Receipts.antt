-- The receipts that a desk is given in a connection.
use Rattle.std.proofs.Common.{ℕ, List, [], ◌∷◌, ◌++◌, Option, Some, None, refl, sym, ap, subst, ◌∙◌, inl, inr, append_assoc}
use Rattle.std.proofs.lemmas.List.{append-nil, map-append}
use Rattle.nfs_shared.specs.Seats.{SeatReceipts}
use Rattle.nfs_shared.specs.declared.receipt.Receipt.{Receipt}
use Rattle.nfs_state.specs.declared.entry.Call.{Call}
use Rattle.nfs_state.specs.declared.entry.Entry.{Entry}
use Rattle.nfs_state.specs.declared.entry.Entry.TheVariants as entries
use Rattle.nfs_state.specs.declared.request.Request.{Request}
use Rattle.nfs_server.specs.Asking.{Operation, Question, Renewal}
use Rattle.nfs_server.specs.Device.{Device}
use Rattle.nfs_server.specs.Entries.{AreEntries}
use Rattle.nfs_server.specs.Exchange.{rules}
use Rattle.nfs_threads.specs.Holding.{AreAlikeButRoom, GivenBySeat, Holding, HoldsTheSame, IsReceived}
use Rattle.nfs_threads.specs.Receipts.{AreOfSeat, GainsReceipts, ReceiptsAreQuestions, entries_of}
use Rattle.nfs_server.specs.laws.Gaining.{IsGain, course_gains, entries_then}
use Rattle.nfs_xdr.specs.declared.op_result.OpResult.{OpResult}
use Rattle.nfs_tree.specs.Exports.{Exported}

-- where seat and receipts are as they were, questions without entries gained nothing
gains_none : (old new : Holding) (questions : List Question) (answers : List OpResult) → HoldsTheSame old new → AreEntries questions answers [] → GainsReceipts old questions answers new
gains_none old new questions answers same none = record {
  receipts = [];
  more = same.1 ∙ sym (append-nil old.receipts);
  entries = none;
  place = same.0.0;
  of_seat = ap (λ (r : SeatReceipts). r.last) same.0.1;
}

gains_alike : (old new : Holding) → AreAlikeButRoom old new → GainsReceipts old [] [] new
gains_alike old new alike =
    gains_none old new [] [] ((ap (λ (h : Holding). h.seat.place) alike, ap (λ (h : Holding). h.seat.receipts) alike), ap (λ (h : Holding). h.receipts) alike) refl

-- one operation
gains_operation : (old new : Holding) (request : Request) (answer : OpResult) (receipt : Option Receipt) → IsReceived old request answer receipt new
    → GainsReceipts old (Operation request ∷ []) (answer ∷ []) new
gains_operation old new request answer None is =
    gains_none old new (Operation request ∷ []) (answer ∷ []) is.1 (inl (is.0, refl))
gains_operation old new request answer (Some receipt) is = record {
  receipts = receipt ∷ [];
  more = is.3;
  entries = inr (is.0, [], ap (λ (call : Call). entries.Call call ∷ []) is.1, refl);
  place = is.2.same;
  of_seat = (is.2.place, is.2.above, is.2.last);
}

gains_one : (epoch : ℕ) (old new : Holding) (question : Question) (answer : OpResult) → GivenBySeat epoch old question answer new → GainsReceipts old (question ∷ []) (answer ∷ []) new
gains_one epoch old new (Operation request) answer given = gains_operation old new request answer given.1 given.2
gains_one epoch old new (Renewal moment client) answer given =
    gains_none old new (Renewal moment client ∷ []) (answer ∷ []) given.3 refl

-- receipts of a seat, and more receipts of it after them
of_seat_then : (place : ℕ) (before mid last : Option ℕ) (receipts more : List Receipt) → AreOfSeat place before receipts mid → AreOfSeat place mid more last → AreOfSeat place before (receipts ++ more) last
of_seat_then place before mid last [] more are rest =
    subst (λ (o : Option ℕ). AreOfSeat place o more last) are rest
of_seat_then place before mid last (receipt ∷ receipts) more are rest =
    (are.0, are.1, of_seat_then place (Some receipt.number) mid last receipts more are.2 rest)

gains_more : (old mid new : Holding) (questions others : List Question) (answers replies : List OpResult)
    → GainsReceipts old questions answers mid → GainsReceipts mid others replies new → GainsReceipts old (questions ++ others) (answers ++ replies) new
gains_more old mid new questions others answers replies first second = record {
  receipts = first.receipts ++ second.receipts;
  more = second.more
      ∙ ap (λ (rs : List Receipt). rs ++ second.receipts) first.more
      ∙ append_assoc old.receipts first.receipts second.receipts;
  entries = subst (λ (es : List Entry). AreEntries (questions ++ others) (answers ++ replies) es) (sym (map-append (λ (r : Receipt). entries.Call r.call) first.receipts second.receipts))
      (entries_then questions others answers replies (entries_of first.receipts) (entries_of second.receipts) first.entries second.entries);
  place = second.place ∙ first.place;
  of_seat = of_seat_then old.seat.place old.seat.receipts.last mid.seat.receipts.last new.seat.receipts.last first.receipts second.receipts first.of_seat
      (subst (λ (place : ℕ). AreOfSeat place mid.seat.receipts.last second.receipts new.seat.receipts.last) first.place second.of_seat);
}

desk_gains : (epoch : ℕ) → IsGain (GivenBySeat epoch) AreAlikeButRoom GainsReceipts
desk_gains epoch = record { same = λ (h : Holding). refl; stays = gains_alike; one = gains_one epoch; more = gains_more }

pub receipts_are_questions : {D C : Type 0} (device : Device D) (export : Exported) (epoch : ℕ) (tells : C → ℕ → C → Type 0) → ReceiptsAreQuestions device (rules export (GivenBySeat epoch) AreAlikeButRoom tells)
receipts_are_questions device export epoch tells before after course result is =
    course_gains device (rules export (GivenBySeat epoch) AreAlikeButRoom tells) GainsReceipts (desk_gains epoch) before course result after is
