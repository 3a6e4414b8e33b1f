use Rattle.std.proofs.Common.{◌≡◌, ◌++◌, ◌∙◌, ℕ, List, ap, map, subst, sym, arith, append_assoc}
use Rattle.nfs_shared.proofs.Ends.{all_apart, all_counted, all_stand}
use Rattle.nfs_shared.proofs.Giving.{counted}
use Rattle.nfs_shared.proofs.Meeting.{all_in_time}
use Rattle.nfs_shared.proofs.shared.Shared.end.Goals as goal
use Rattle.nfs_core.specs.Recalls.{AreRecallsOf}
use Rattle.nfs_core.specs.Server.{Server}
use Rattle.nfs_rpc.specs.declared.recall.Recall.{Recall}
use Rattle.nfs_shared.specs.Deeds.{AreDeedsOf, keeper_deeds}
use Rattle.nfs_shared.specs.Ends.{AllBegin, AllBorneOut, AllInTime, AllMet, AllStand}
use Rattle.nfs_shared.specs.Held.{waiting}
use Rattle.nfs_shared.specs.Receipts.{calls_in, others_in}
use Rattle.nfs_shared.specs.Roll.{list_of}
use Rattle.nfs_shared.specs.Sender.{SenderView}
use Rattle.nfs_shared.specs.Sweeper.{SweeperView}
use Rattle.nfs_state.specs.Stored.{meaning}
use Rattle.nfs_words.specs.Calls.{IsKeeperAt}
use Rattle.nfs_words.specs.Sitting.{Sitting}

pub returns-clause-stand : goal.returns-clause-stand
returns-clause-stand g c =
    let held = c.held.inside in
    let begin = subst (AllBegin c.args.seats.items) c.held.invariant.0.receipts c.meet_each.ensures.begin in
    subst (λ (s : Server). AllStand s.journal.entries (map (λ v. v.items) c.args.receipts.now)) (sym c.into_parts-core.ensures.core)
    (all_stand held.leased.core.journal.entries held.register.places.items c.args.seats.items (map (λ v. v.items) c.args.receipts.now) begin c.requires.kept)

pub returns-clause-apart : goal.returns-clause-apart
returns-clause-apart g c =
    let held = c.held.inside in
    let begin = subst (AllBegin c.args.seats.items) c.held.invariant.0.receipts c.meet_each.ensures.begin in
    all_apart held.leased.core.journal.entries held.register.places.items c.args.seats.items (map (λ v. v.items) c.args.receipts.now) begin c.requires.kept

pub returns-clause-counted : goal.returns-clause-counted
returns-clause-counted g c =
    let held = c.held.inside in
    let h = c.held.invariant.0 in
    let es = held.leased.core.journal.entries in
    let begin = subst (AllBegin c.args.seats.items) h.receipts c.meet_each.ensures.begin in
    let all = all_counted es held.register.places.items c.args.seats.items (map (λ v. v.items) c.args.receipts.now) begin c.requires.kept in
    let met = c.meet_each.ensures in
    let whole : c.meet_each.new.rest.amount ≡ held.register.count.total = c.audit.ensures.whole (omega (arith, met.parts, c.held.invariant.3, c.requires.all)) in
    let same = counted es held.register.places.items (list_of held.register.writer) h.receipts h.places in
    omega (arith, ap (λ (s : Server). calls_in s.journal.entries) c.into_parts-core.ensures.core, whole, met.amount, c.held.invariant.4, c.held.invariant.1.total, same, h.places, all)

-- what was taken begins what was put, which begins the journal's recalls
pub returns-clause-taken : goal.returns-clause-taken
returns-clause-taken g c =
    let held = c.held.inside in
    let taken = c.sender.inside.pass.recalls in
    let begins = c.meet.ensures.begins in
    let left : List Recall = waiting held.hand held.leased.core.recalls in
    let same : taken ++ (begins.0 ++ left) ≡ held.put.recalls ++ left = cc (append_assoc taken begins.0 left, begins.1) in
    let all : AreRecallsOf held.leased.core.journal (taken ++ (begins.0 ++ left)) =
    subst (AreRecallsOf held.leased.core.journal) (sym same) c.held.invariant.0.queued in
    let told : AreRecallsOf held.leased.core.journal (c.args.sender.taken ++ (begins.0 ++ left)) =
    subst (λ (s : SenderView). AreRecallsOf held.leased.core.journal (s.taken ++ (begins.0 ++ left))) c.sender.view_is all in
    (begins.0 ++ left, subst (λ (s : Server). AreRecallsOf s.journal (c.args.sender.taken ++ (begins.0 ++ left))) (sym c.into_parts-core.ensures.core) told)

-- the sweeper's share and the sender's are the whole
pub returns-clause-others : goal.returns-clause-others
returns-clause-others g c =
    let whole = c.audit-2.ensures.whole (omega (arith, c.merge.ensures.parts, c.sweeper.invariant, c.sender.invariant.0)) in
    omega (
      arith,
      ap (λ (s : Server). others_in s.journal.entries) c.into_parts-core.ensures.core,
      whole,
      c.merge.ensures.amount,
      c.held.invariant.5,
      ap (λ (s : SweeperView). s.count) c.sweeper.view_is,
      ap (λ (s : SenderView). s.count) c.sender.view_is,
    )

pub meet_each-requires-clause-keeper : goal.meet_each-requires-clause-keeper
meet_each-requires-clause-keeper g c =
    subst (IsKeeperAt g.N.Naming.run.words g.N.Naming.run.workers) (sym (c.into_parts-keeper.ensures.seat ∙ c.into_parts-core.ensures.book)) c.held.invariant.6

-- each seat met the keeper's, whose closings are the journal's ends of clients
pub returns-clause-in_time : goal.returns-clause-in_time
returns-clause-in_time g c =
    let held = c.held.inside in
    let keeper = held.leased.book in
    let lease : g.N.Naming.run.words.lease ≡ held.leased.core.journal.lease = sym c.held.invariant.6.0.1 ∙ c.held.invariant.0.agrees.lasts in
    let same = c.into_parts-keeper.ensures.seat ∙ c.into_parts-core.ensures.book in
    let met = subst (λ (s : Sitting). AllMet g.N.Naming.run.words.lease s.view.own c.args.seats.items) same c.meet_each.ensures.met in
    let of_journal = subst (λ (n : ℕ). AllMet n keeper.view.own c.args.seats.items) lease met in
    subst (λ (s : Server). AllInTime s.journal.lease s.journal.entries c.args.seats.items) (sym c.into_parts-core.ensures.core)
    (all_in_time held.leased.core.journal.lease keeper.view.own held.leased.core.journal (meaning held.leased.core.stored) c.args.seats.items c.held.invariant.0.deeds of_journal)

-- the keeper's deeds bear out what the seats found, and are the journal's
pub returns-clause-borne_out : goal.returns-clause-borne_out
returns-clause-borne_out g c =
    let held = c.held.inside in
    let keeper = held.leased.book in
    let same = c.into_parts-keeper.ensures.seat ∙ c.into_parts-core.ensures.book in (
      keeper_deeds keeper.view.own,
      subst (λ (s : Server). AreDeedsOf s.journal (meaning s.stored) (keeper_deeds keeper.view.own)) (sym c.into_parts-core.ensures.core) c.held.invariant.0.deeds,
      subst (λ (s : Sitting). AllBorneOut (keeper_deeds s.view.own) c.args.seats.items) same c.meet_each.ensures.borne_out,
    )
