use Rattle.std.proofs.Common.{◌≡◌, ◌++◌, ℕ, List, [], None, length, ap, refl, rules, subst, sym, ◌∙◌}
use mathlib.Core.List.{IsPrefix}
use Rattle.nfs_core.specs.Recalls.{AreLeftOf}
use Rattle.nfs_core.specs.Safe.{IsSafe}
use Rattle.nfs_core.specs.Server.{IsLawful, Server}
use Rattle.nfs_leases.specs.laws.Agreeing.{fresh_book_agrees}
use Rattle.nfs_rpc.specs.declared.recall.Recall.{Recall}
use Rattle.nfs_shared.specs.Deeds.{RenewNone, keeper_deeds}
use Rattle.nfs_shared.specs.Ends.{AreFresh}
use Rattle.nfs_shared.specs.Held.{waiting}
use Rattle.nfs_shared.specs.Naming.{OpenedView, start_of}
use Rattle.nfs_shared.specs.Passes.{PassView}
use Rattle.nfs_shared.specs.Receipts.{calls_in, others_in, receipts_of}
use Rattle.nfs_shared.specs.Roll.{list_of, writer_of}
use Rattle.nfs_shared.specs.declared.receipt.Receipt.{Receipt}
use Rattle.nfs_shared.proofs.Beginning.{none_done, none_left, none_made}
use Rattle.nfs_shared.proofs.Deeds.{renew_none}
use Rattle.nfs_shared.proofs.Prefixes.{prefix_nil}
use Rattle.nfs_state.specs.Stored.{meaning}
use Rattle.nfs_state.specs.declared.entry.Entry.{Entry}
use Rattle.nfs_words.specs.Calls.{AreWorkerSeats, IsKeeperAt}
use Rattle.nfs_words.specs.Desk.{is_open_at, was_opened_at}
use Rattle.nfs_words.specs.Sitting.{Sitting, Words}
use Rattle.nfs_shared.proofs.shared.Shared.new.Goals as goal

pub new_seats-requires-clause-leases : goal.new_seats-requires-clause-leases
new_seats-requires-clause-leases g c =
    subst (λ (w : Words). AreWorkerSeats w c.opened.inside.workers c.opened.inside.lease_seats.items)
    (ap (λ (o : OpenedView). o.words) (c.opened.view_is ∙ c.requires.beginning.run)) c.opened.invariant.7

pub new-leased-requires : goal.new-leased-requires
new-leased-requires g c =
    let desk = c.new-desk.result in
    let is = c.new-desk.ensures ∙ c.opened.invariant.8 in
    record {
      agrees =
          fresh_book_agrees (is_open_at desk) (was_opened_at desk) desk.view.lease c.args.core
          (ap (λ (s : Sitting). s.view.lease) is ∙ ap (λ (o : OpenedView). o.words.lease) c.opened.view_is ∙ c.requires.beginning.lease)
          (λ client. ap (λ (s : Sitting). is_open_at s client) is)
          (λ client. ap (λ (s : Sitting). was_opened_at s client) is)
          c.requires.beginning.nobody;
    }

pub invariant_of-held : goal.invariant_of-held
invariant_of-held g c =
    let leased = c.new-leased.result in
    let core = c.new-leased.ensures.core in
    let book = c.new-leased.ensures.book ∙ c.new-desk.ensures ∙ c.opened.invariant.8 in
    let words : Words = g.N.Naming.run.words in
    let empty : leased.core.journal.entries ≡ [] = ap (λ (s : Server). s.journal.entries) core ∙ c.requires.beginning.empty in
    let lawful = subst IsLawful (sym core) c.journal.ensures.lawful in
    let left = subst (λ (s : Server). AreLeftOf s.journal s.recalls) (sym core) c.recalls_are_left.ensures in
    let put : c.opened.inside.put.recalls ≡ [] = ap (λ (p : PassView). p.recalls) c.opened.invariant.4 in
    let known : c.opened.inside.put.known ≡ [] = ap (λ (p : PassView). p.known) c.opened.invariant.4 in
    let pending = none_left leased.core.journal leased.core.recalls empty left in
    let waits : c.opened.inside.put.recalls ++ waiting None leased.core.recalls ≡ [] =
    ap (λ (rs : List Recall). rs ++ waiting None leased.core.recalls) put ∙ pending in
    let writer = c.in-Ok.ensures.writer in
    let list : list_of c.new_seats.new.writer ≡ [] = search (rules, writer.1) in
    let items : c.new.result.items ≡ [] = c.new.ensures.items in
    let named = c.opened.view_is ∙ c.requires.beginning.run in (
      record {
        lawful = lawful;
        safe = subst (λ (s : Server). IsSafe (meaning s.stored)) (sym core) c.journal.ensures.safe;
        agrees = leased.agrees;
        deeds = none_done leased.core.journal (meaning leased.core.stored) (keeper_deeds leased.book.view.own) lawful empty (ap (λ (s : Sitting). keeper_deeds s.view.own) book);
        renews_none = subst (λ (s : Sitting). RenewNone s.view.own) (sym book) renew_none;
        recalls = left;
        queued = none_made leased.core.journal (c.opened.inside.put.recalls ++ waiting None leased.core.recalls) empty waits;
        known = subst (λ (l : List Recall). IsPrefix l c.opened.inside.put.recalls) (sym known) (prefix_nil c.opened.inside.put.recalls);
        places = ap (λ (l : List ℕ). length l) items ∙ sym (ap (λ (es : List Entry). calls_in es) empty);
        receipts = list ∙ sym (ap (λ (l : List ℕ). receipts_of 0 leased.core.journal.entries l) items);
      },
      record {
        roll = ap (λ (o : OpenedView). o.roll) named;
        writer = (writer.0, writer.1 ∙ ap (λ (l : List Receipt). (writer_of l, [])) (sym list));
        total = c.open-count.ensures.total ∙ sym (ap (λ (l : List Receipt). length l) list);
      },
      ap (λ (s : Server). start_of s.journal) core ∙ c.requires.beginning.start,
      c.in-Ok.ensures.rest.0,
      c.in-Ok.ensures.rest.1,
      c.open-other_count.ensures.total ∙ sym (ap (λ (es : List Entry). others_in es) empty),
      subst (IsKeeperAt words g.N.Naming.run.workers) (sym book)
          ((ap (λ (o : OpenedView). o.words.table) named, ap (λ (o : OpenedView). o.words.lease) named), refl, ap (λ (o : OpenedView). o.workers) named),
      ap (λ (p : PassView). p.queue) c.opened.invariant.4 ∙ ap (λ (o : OpenedView). o.queue) named,
    )

pub returns-clause-seats : goal.returns-clause-seats
returns-clause-seats g c =
    subst (λ (n : ℕ). AreFresh g.N.Naming.run.words n c.in-Ok.seats.items) (ap (λ (o : OpenedView). o.workers) (c.opened.view_is ∙ c.requires.beginning.run)) c.in-Ok.ensures.seats
