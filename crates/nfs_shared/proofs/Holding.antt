-- What the lock guards, after a call and after entries that are no calls.
use Rattle.std.proofs.Common.{◌≡◌, ℕ, suc, refl, List, [], ◌∷◌, ◌++◌, length, sym, ap, ◌∙◌, subst, arith, append_assoc, length-append}
use mathlib.Core.List.{IsPrefix}
use Rattle.nfs_core.specs.Recalls.{AreLeftOf, AreRecallsOf}
use Rattle.nfs_core.specs.Safe.{IsSafe}
use Rattle.nfs_core.specs.Server.{Enters, IsLawful, Server}
use Rattle.nfs_leases.specs.BookOf.{IsBookOf}
use Rattle.nfs_rpc.specs.declared.recall.Recall.{Recall}
use Rattle.nfs_shared.specs.Deeds.{AreDeedsOf, RenewNone, keeper_deeds}
use Rattle.nfs_shared.specs.Held.{HeldView, IsHeld, Moves, waiting}
use Rattle.nfs_shared.specs.Receipts.{calls_in, receipts_of}
use Rattle.nfs_leases.specs.Visit.{Gains}
use Rattle.nfs_shared.specs.declared.receipt.Receipt.{Receipt}
use Rattle.nfs_shared.proofs.Prefixes.{prefix_self}
use Rattle.nfs_shared.proofs.Receipts.{calls_in_call, calls_in_more, receipts_call, receipts_more}
use Rattle.nfs_state.specs.State.{History}
use Rattle.nfs_state.specs.Stored.{meaning}
use Rattle.nfs_state.specs.declared.entry.Call.{Call}
use Rattle.nfs_state.specs.declared.entry.Entry.{Entry}
use Rattle.nfs_state.specs.declared.entry.Entry.TheVariants as entries
use Rattle.nfs_words.specs.Desk.{is_open_at, was_opened_at}
use Rattle.nfs_words.specs.Sitting.{Sitting}

-- what the state, its journal, the leases and the recalls have to keep
pub record KeepsRules (held : HeldView) : Type 0 where
  pub lawful : IsLawful held.server
  pub safe : IsSafe (meaning held.server.stored)
  pub agrees : IsBookOf (is_open_at held.leases) (was_opened_at held.leases) held.leases.view.lease held.server
  pub deeds : AreDeedsOf held.server.journal (meaning held.server.stored) (keeper_deeds held.leases.view.own)
  pub renews_none : RenewNone held.leases.view.own
  pub recalls : AreLeftOf held.server.journal held.server.recalls
  pub queued : AreRecallsOf held.server.journal (held.put ++ waiting held.hand held.server.recalls)
  pub known : IsPrefix held.known_taken held.put

-- a call more
pub held_call : (old new : HeldView) (number : ℕ) (call : Call) (receipt : Receipt)
    → IsHeld old → Enters old.server new.server (entries.Call call) number → KeepsRules new
    → receipt.number ≡ number → receipt.call ≡ call
    → new.places ≡ old.places ++ receipt.place ∷ [] → new.receipts ≡ old.receipts ++ receipt ∷ []
    → IsHeld new
held_call old new number call receipt h enters keeps number_is call_is places_is receipts_is =
    let es : List Entry = old.server.journal.entries in
    let journal : new.server.journal.entries ≡ es ++ entries.Call call ∷ [] = ap (λ (j : History). j.entries) enters.1 in
    let more : calls_in new.server.journal.entries ≡ suc (calls_in es) = ap calls_in journal ∙ calls_in_call es call in
    let here : receipt ≡ record { place = receipt.place; number = receipt.number; call = call } = λ i. record { place = receipt.place; number = receipt.number; call = call_is i } in
    let grown = receipts_call 0 es old.places call receipt.place receipt.number h.places (omega (arith, number_is, enters.0)) in
    record {
      lawful = keeps.lawful;
      safe = keeps.safe;
      agrees = keeps.agrees;
      deeds = keeps.deeds;
      renews_none = keeps.renews_none;
      recalls = keeps.recalls;
      queued = keeps.queued;
      known = keeps.known;
      places = omega (arith, ap length places_is, length-append old.places (receipt.place ∷ []), h.places, more);
      receipts = receipts_is ∙ ap (λ xs. xs ++ receipt ∷ []) h.receipts ∙ ap (λ r. receipts_of 0 es old.places ++ r ∷ []) here ∙ sym grown ∙ (λ i. receipts_of 0 (sym journal i) (sym places_is i));
    }

-- one entry, as the journal gained it
pub gains_one : (old new : Server) (entry : Entry) (number : ℕ) → Enters old new entry number → Gains (entry ∷ []) old new
gains_one old new entry number enters = record {
  journal = enters.1;
  leads = (meaning new.stored, enters.2, refl);
}

-- entries that are no calls, as the journal gained them
pub held_more : (old new : HeldView) (more : List Entry)
    → IsHeld old → Gains more old.server new.server → calls_in more ≡ 0
    → KeepsRules new → new.places ≡ old.places → new.receipts ≡ old.receipts
    → IsHeld new
held_more old new more h gains none keeps places_is receipts_is =
    let es : List Entry = old.server.journal.entries in
    let journal : new.server.journal.entries ≡ es ++ more = ap (λ (j : History). j.entries) gains.journal in
    record {
      lawful = keeps.lawful;
      safe = keeps.safe;
      agrees = keeps.agrees;
      deeds = keeps.deeds;
      renews_none = keeps.renews_none;
      recalls = keeps.recalls;
      queued = keeps.queued;
      known = keeps.known;
      places = ap length places_is ∙ h.places ∙ sym (calls_in_more es more none) ∙ ap calls_in (sym journal);
      receipts = receipts_is ∙ h.receipts ∙ sym (receipts_more 0 es more old.places none) ∙ (λ i. receipts_of 0 (sym journal i) (sym places_is i));
    }

pub prefix_more : (xs ys zs : List Recall) → IsPrefix xs ys → IsPrefix ys zs → IsPrefix xs zs
prefix_more xs ys zs p q = (p.0 ++ q.0, sym (append_assoc xs p.0 q.0) ∙ ap (λ (l : List Recall). l ++ q.0) p.1 ∙ q.1)

-- these are known to be taken from the queue
pub held_met : (held : HeldView) (known : List Recall) → IsHeld held → IsPrefix known held.put
    → IsHeld (record held { known_taken = known })
held_met held known was begins = record {
  lawful = was.lawful;
  safe = was.safe;
  agrees = was.agrees;
  deeds = was.deeds;
  renews_none = was.renews_none;
  recalls = was.recalls;
  queued = was.queued;
  known = begins;
  places = was.places;
  receipts = was.receipts;
}

-- recalls that went from those that wait into the queue
pub held_moved : (old new : HeldView) → IsHeld old
    → new.server ≡ record old.server { recalls = new.server.recalls }
    → new.places ≡ old.places → new.receipts ≡ old.receipts → new.leases ≡ old.leases
    → IsBookOf (is_open_at new.leases) (was_opened_at new.leases) new.leases.view.lease new.server
    → AreLeftOf new.server.journal new.server.recalls
    → new.put ++ waiting new.hand new.server.recalls ≡ old.put ++ waiting old.hand old.server.recalls
    → IsPrefix old.put new.put → new.known_taken ≡ old.known_taken
    → IsHeld new
held_moved old new was server places receipts leases agrees left same put known =
    let journal : new.server.journal ≡ old.server.journal = ap (λ (s : Server). s.journal) server in
    record {
      lawful = subst IsLawful (sym server) was.lawful;
      safe = subst (λ (s : Server). IsSafe (meaning s.stored)) (sym server) was.safe;
      agrees = agrees;
      deeds =
          subst (λ (x : Server × Sitting). AreDeedsOf x.0.journal (meaning x.0.stored) (keeper_deeds x.1.view.own))
          (λ i. (sym server i, sym leases i)) was.deeds;
      renews_none = subst (λ (s : Sitting). RenewNone s.view.own) (sym leases) was.renews_none;
      recalls = left;
      queued = subst (λ (y : History × List Recall). AreRecallsOf y.0 y.1) (λ i. (sym journal i, sym same i)) was.queued;
      known = subst (λ (l : List Recall). IsPrefix l new.put) (sym known) (prefix_more old.known_taken old.put new.put was.known put);
      places = ap length places ∙ was.places ∙ ap (λ (j : History). calls_in j.entries) (sym journal);
      receipts = receipts ∙ was.receipts ∙ (λ i. receipts_of 0 (sym journal i).entries (sym places i));
    }

-- nothing went
pub moves_none : (held : HeldView) → Moves held held
moves_none held = record { others = refl; recalls = refl; put = prefix_self held.put }

-- and more went
pub moves_more : (old mid new : HeldView) → Moves old mid → Moves mid new → Moves old new
moves_more old mid new first then = record {
  others =
      then.others
      ∙ ap (λ (h : HeldView). record h {
        server = record h.server { recalls = new.server.recalls };
        put = new.put;
        hand = new.hand;
      }) first.others;
  recalls = then.recalls ∙ first.recalls;
  put = prefix_more old.put mid.put new.put first.put then.put;
}
