-- The receipt is for the entry that the call made, and the register has it.
use Rattle.std.proofs.Common.{◌≡◌, ◌∙◌, ◌++◌, ◌∷◌, [], length, List, ℕ, Option, Some, ap, refl, sym, subst, arith, length-append}
use Rattle.std.specs.Prelude.{IsTrue}
use Rattle.nfs_core.specs.Entered.{Answers, IsEntered, number_entered}
use Rattle.nfs_core.specs.Recalls.{RecallsLeft}
use Rattle.nfs_core.specs.Server.{Enters, Server}
use Rattle.nfs_core.specs.declared.entered.Entered.{Entered}
use Rattle.nfs_shared.proofs.Deeds.{all_happen_keeper, all_happen_renew_none, change_renew_none, deeds_of_call, deeds_same}
use Rattle.nfs_shared.proofs.Giving.{above_all, counted, last_entry, one_call}
use Rattle.nfs_shared.proofs.Holding.{KeepsRules, held_call}
use Rattle.nfs_shared.proofs.RecallsOut.{queued_kept, queued_same}
use Rattle.nfs_shared.proofs.Receipts.{calls_in_length, others_in_call}
use Rattle.nfs_shared.proofs.Telling.{told_from}
use Rattle.nfs_shared.proofs.held.call_held.Goals as goal
use Rattle.nfs_leases.specs.BookEvent.{AllHappen}
use Rattle.nfs_leases.specs.BookOf.{events_entered, events_of_change}
use Rattle.nfs_shared.specs.Deeds.{RenewNone}
use Rattle.nfs_shared.specs.Held.{HeldView}
use Rattle.nfs_shared.specs.Naming.{start_of}
use Rattle.nfs_shared.specs.Receipts.{calls_in, receipts_of, others_in}
use Rattle.nfs_shared.specs.Roll.{list_of}
use Rattle.nfs_shared.specs.declared.receipt.Receipt.{Receipt}
use Rattle.nfs_state.specs.Entries.{IsFilehandle, entry_of}
use Rattle.nfs_state.specs.State.{History}
use Rattle.nfs_tree.specs.Profiles.{has_entry}
use Rattle.nfs_state.specs.declared.entry.Call.{Call}
use Rattle.nfs_state.specs.declared.entry.Entry.{Entry}
use Rattle.nfs_state.specs.declared.entry.Entry.TheVariants as entries
use Rattle.nfs_words.specs.Calls.{IsKeeperAt}
use Rattle.nfs_words.specs.Desk.{Happens}
use Rattle.nfs_words.specs.Sitting.{Sitting}

pub answer_with_room-answer-requires-clause-entry : goal.answer_with_room-answer-requires-clause-entry
answer_with_room-answer-requires-clause-entry g c =
    subst (λ (j : History). IsTrue (has_entry j.policy.profile c.args.request.op)) (sym c.held.invariant.2) c.requires.entry

pub answer_with_room-answer-requires-clause-node : goal.answer_with_room-answer-requires-clause-node
answer_with_room-answer-requires-clause-node g c =
    subst (λ (j : History). IsFilehandle j c.args.request.filehandle) (sym c.held.invariant.2) c.requires.node

pub call_at-call-requires : goal.call_at-call-requires
call_at-call-requires g c =
    let called = c.answer_with_room-answer in
    let request = c.args.request in
    let call : Call = record { request = request; answer = called.result.0 } in
    let core = c.held.inside.leased.core in
    let entered : IsEntered core called.new.leased.core (entries.Call call) c.in-Some.entered =
    subst (λ (o : Option Entered). Answers core called.new.leased.core request called.result.0 o) c.in-Some.is called.ensures.answers in
    (call, last_entry core called.new.leased.core (entries.Call call) c.in-Some.entered.number entered.0)

pub give-receipt-requires-clause-count : goal.give-receipt-requires-clause-count
give-receipt-requires-clause-count g c =
    let held = c.held.inside in
    let h = c.held.invariant.0 in
    let called = c.answer_with_room-answer in
    let request = c.args.request in
    let es = held.leased.core.journal.entries in
    let places : called.new.places.items ≡ held.register.places.items = called.ensures.places in
    let few = calls_in_length es in
    let entered : IsEntered held.leased.core called.new.leased.core (entry_of request called.result.0) c.in-Some.entered =
    subst (λ (o : Option Entered). Answers held.leased.core called.new.leased.core request called.result.0 o) c.in-Some.is called.ensures.answers in
    let same : length (list_of held.register.writer) ≡ length held.register.places.items =
    counted es held.register.places.items (list_of held.register.writer) h.receipts h.places in
    (subst (λ (xs : List ℕ). length (list_of held.register.writer) ≡ length xs) (sym {A = List ℕ} places) same, omega (arith, ap length places, h.places, few, entered.0.2.below))

pub give-receipt-requires-clause-above : goal.give-receipt-requires-clause-above
give-receipt-requires-clause-above g c =
    let held = c.held.inside in
    let called = c.answer_with_room-answer in
    let request = c.args.request in
    let entered : IsEntered held.leased.core called.new.leased.core (entry_of request called.result.0) c.in-Some.entered =
    subst (λ (o : Option Entered). Answers held.leased.core called.new.leased.core request called.result.0 o) c.in-Some.is called.ensures.answers in
    above_all held.leased.core.journal.entries held.register.places.items (list_of held.register.writer) c.in-Some.entered.number c.held.invariant.0.receipts entered.0.0

pub invariant_of-held-in-Some : goal.invariant_of-held-in-Some
invariant_of-held-in-Some g c =
    let held = c.held.inside in
    let called = c.answer_with_room-answer in
    let given = c.give-receipt.ensures in
    let receipt = c.give-receipt.result in
    let request = c.args.request in
    let call : Call = record { request = request; answer = called.result.0 } in
    let entered : IsEntered held.leased.core called.new.leased.core (entries.Call call) c.in-Some.entered =
    subst (λ (o : Option Entered). Answers held.leased.core called.new.leased.core request called.result.0 o) c.in-Some.is called.ensures.answers in
    let seen : c.call_at-call.result.call ≡ call =
    one_call called.new.leased.core.journal.entries c.in-Some.entered.number _ call c.call_at-call.ensures (last_entry held.leased.core called.new.leased.core (entries.Call call) c.in-Some.entered.number entered.0) in
    let old : HeldView = record {
      server = held.leased.core;
      leases = held.leased.book;
      places = held.register.places.items;
      receipts = list_of held.register.writer;
      put = held.put.recalls;
      known_taken = held.put.known;
      hand = held.hand;
    } in
    let new : HeldView = record {
      server = called.new.leased.core;
      leases = called.new.leased.book;
      places = c.give-receipt.new.register.places.items;
      receipts = list_of c.give-receipt.new.register.writer;
      put = held.put.recalls;
      known_taken = held.put.known;
      hand = held.hand;
    } in
    let happen : AllHappen Happens old.leases (events_of_change c.in-Some.entered.live request.moment) new.leases =
    subst (λ (o : Option Entered). AllHappen Happens old.leases (events_entered o request.moment) new.leases) c.in-Some.is called.ensures.leases in
    let keeps : KeepsRules new = record {
      lawful = called.ensures.lawful;
      safe = c.lawful_is_safe.ensures.safe _ _ called.ensures.lawful;
      agrees = called.new.leased.agrees;
      deeds = deeds_of_call old.server new.server call c.in-Some.entered old.leases new.leases c.held.invariant.0.deeds entered happen;
      renews_none = all_happen_renew_none (events_of_change c.in-Some.entered.live request.moment) (change_renew_none c.in-Some.entered.live request.moment) old.leases new.leases happen c.held.invariant.0.renews_none;
      recalls = c.recalls_are_left.ensures;
      queued =
          queued_kept c.recalls_stay.ensures.one c.recalls_stay.ensures.begin old new (entries.Call call ∷ [])
          c.held.invariant.0.recalls c.held.invariant.0.queued entered.0.1 c.recalls_are_left.ensures
          (ap (λ (left : RecallsLeft). left.taken) entered.0.3) (refl, refl, refl);
      known = c.held.invariant.0.known;
    } in
    let tied = c.held.invariant.1 in (
      held_call old new c.in-Some.entered.number call receipt c.held.invariant.0 entered.0 keeps
          (ap (λ r. r.number) given.receipt)
          (ap (λ r. r.call) given.receipt ∙ seen)
          (given.places ∙ ap (λ xs. xs ++ receipt.place ∷ []) called.ensures.places)
          given.list,
      record {
        roll = given.roll ∙ tied.roll;
        writer = given.writer;
        total = omega (arith, given.total, tied.total, ap length given.list, length-append (list_of held.register.writer) (receipt ∷ []));
      },
      ap start_of entered.0.1 ∙ c.held.invariant.2,
      ap (λ s. s.parts) given.rest ∙ c.held.invariant.3,
      ap (λ s. s.amount) given.rest ∙ c.held.invariant.4,
      c.held.invariant.5
          ∙ sym (others_in_call held.leased.core.journal.entries call)
          ∙ ap (λ (j : History). others_in j.entries) (sym entered.0.1),
      all_happen_keeper g.N.Naming.run.words g.N.Naming.run.workers (events_of_change c.in-Some.entered.live request.moment) old.leases new.leases happen c.held.invariant.6,
      c.held.invariant.7,
    )

-- the answer is the core's, and the receipt has the number of its entry
pub returns-in-Some-clause-applies : goal.returns-in-Some-clause-applies
returns-in-Some-clause-applies g c =
    let called = c.answer_with_room-answer in
    let request = c.args.request in
    let entry : Entry = entry_of request called.result.0 in
    let core = c.held.inside.leased.core in
    let entered : IsEntered core called.new.leased.core entry c.in-Some.entered =
    subst (λ (o : Option Entered). Answers core called.new.leased.core request called.result.0 o) c.in-Some.is called.ensures.answers in
    subst (λ (n : ℕ). Enters c.args.held.now.server called.new.leased.core entry n) (sym (ap (λ (r : Receipt). r.number) c.give-receipt.ensures.receipt))
    (subst (λ (s : Server). Enters s called.new.leased.core entry c.in-Some.entered.number) (ap (λ (h : HeldView). h.server) c.held.view_is) entered.0)

-- what is in the journal isn't answered NFS4ERR_RESOURCE
pub returns-in-Some-clause-refused : goal.returns-in-Some-clause-refused
returns-in-Some-clause-refused g c =
    let called = c.answer_with_room-answer in
    let request = c.args.request in
    let core = c.held.inside.leased.core in
    let entered : IsEntered core called.new.leased.core (entry_of request called.result.0) c.in-Some.entered =
    subst (λ (o : Option Entered). Answers core called.new.leased.core request called.result.0 o) c.in-Some.is called.ensures.answers in
    (λ none. absurd cc, λ is. absurd (entered.0.2.allowed.other is))

pub returns-in-Some-clause-entry : goal.returns-in-Some-clause-entry
returns-in-Some-clause-entry g c =
    let called = c.answer_with_room-answer in
    let request = c.args.request in
    let call : Call = record { request = request; answer = called.result.0 } in
    let core = c.held.inside.leased.core in
    let entered : IsEntered core called.new.leased.core (entries.Call call) c.in-Some.entered =
    subst (λ (o : Option Entered). Answers core called.new.leased.core request called.result.0 o) c.in-Some.is called.ensures.answers in
    ap (λ (r : Receipt). r.call) c.give-receipt.ensures.receipt
    ∙ one_call called.new.leased.core.journal.entries c.in-Some.entered.number _ call c.call_at-call.ensures (last_entry core called.new.leased.core (entries.Call call) c.in-Some.entered.number entered.0)

-- what is told of the entry, and the calls on the book, from the value that the call began with
pub returns-in-Some-clause-leases : goal.returns-in-Some-clause-leases
returns-in-Some-clause-leases g c =
    let held = c.held.inside in
    let called = c.answer_with_room-answer in
    let told = told_from c.args.request called.result.0 held.leased.core c.args.held.now.server called.new.leased.core called.result.1 held.leased.book c.args.held.now.leases called.new.leased.book (ap (λ (h : HeldView). h.server) c.held.view_is) (ap (λ (h : HeldView). h.leases) c.held.view_is) called.ensures.answers called.ensures.leases in
    (called.result.1, told.0, ap number_entered c.in-Some.is ∙ ap (λ (r : Receipt). Some r.number) (sym c.give-receipt.ensures.receipt), told.1)

pub returns-in-None-clause-leases : goal.returns-in-None-clause-leases
returns-in-None-clause-leases g c =
    let held = c.held.inside in
    let called = c.answer_with_room-answer in
    let told = told_from c.args.request called.result.0 held.leased.core c.args.held.now.server called.new.leased.core called.result.1 held.leased.book c.args.held.now.leases called.new.leased.book (ap (λ (h : HeldView). h.server) c.held.view_is) (ap (λ (h : HeldView). h.leases) c.held.view_is) called.ensures.answers called.ensures.leases in
    (called.result.1, told.0, ap number_entered c.in-None.is, told.1)

-- without a receipt the server is as it was, and so are the places
pub invariant_of-held : goal.invariant_of-held
invariant_of-held g c =
    let held = c.held.inside in
    let was = c.held.invariant.0 in
    let called = c.answer_with_room-answer in
    let alike = (subst (λ (o : Option Entered). Answers held.leased.core called.new.leased.core c.args.request called.result.0 o) c.in-None.is called.ensures.answers).1 in
    let entries : called.new.leased.core.journal.entries ≡ held.leased.core.journal.entries = ap (λ (j : History). j.entries) alike.0 in
    let old : HeldView = record {
      server = held.leased.core;
      leases = held.leased.book;
      places = held.register.places.items;
      receipts = list_of held.register.writer;
      put = held.put.recalls;
      known_taken = held.put.known;
      hand = held.hand;
    } in
    let new : HeldView = record {
      server = called.new.leased.core;
      leases = called.new.leased.book;
      places = called.new.places.items;
      receipts = list_of held.register.writer;
      put = held.put.recalls;
      known_taken = held.put.known;
      hand = held.hand;
    } in
    let happen : new.leases ≡ old.leases =
    subst (λ (o : Option Entered). AllHappen Happens old.leases (events_entered o c.args.request.moment) new.leases) c.in-None.is called.ensures.leases in (
      record {
        lawful = called.ensures.lawful;
        safe = c.lawful_is_safe.ensures.safe _ _ called.ensures.lawful;
        agrees = called.new.leased.agrees;
        deeds = deeds_same old.server new.server old.leases new.leases was.deeds alike.0 alike.1 happen;
        renews_none = subst (λ (s : Sitting). RenewNone s.view.own) (sym happen) was.renews_none;
        recalls = c.recalls_are_left.ensures;
        queued = queued_same old new was.queued alike.0 alike.2 (refl, refl, refl);
        known = was.known;
        places = ap length called.ensures.places ∙ was.places ∙ ap calls_in (sym entries);
        receipts = was.receipts ∙ (λ i. receipts_of 0 (sym entries i) (sym {A = List ℕ} called.ensures.places i));
      },
      c.held.invariant.1,
      ap start_of alike.0 ∙ c.held.invariant.2,
      c.held.invariant.3,
      c.held.invariant.4,
      c.held.invariant.5 ∙ ap others_in (sym entries),
      subst (IsKeeperAt g.N.Naming.run.words g.N.Naming.run.workers) (sym happen) c.held.invariant.6,
      c.held.invariant.7,
    )
