use Rattle.std.proofs.Common.{Option, refl, rules, subst, sym}
use Rattle.nfs_state.specs.Room.{state_of}
use Rattle.nfs_state.specs.Store.{OwnersAgree}
use Rattle.nfs_state.specs.Stored.{meaning}
use Rattle.nfs_core.proofs.Journals.{Lawful-entered, Lawful-same}
use Rattle.nfs_core.proofs.RecallsLeft.{Left-entered, Left-same}
use Rattle.nfs_core.proofs.Storing.{store_agrees}
use Rattle.nfs_core.proofs.core_state.Core.answer.Goals as goal
use Rattle.nfs_core.proofs.core_state.Core.answer.Goals.{in-Ok+in-Ok-enter_decided, in-Ok+in-Err-enter_decided, in-Err}
use Rattle.nfs_core.specs.Entered.{Answers, IsEntered}
use Rattle.nfs_core.specs.Lawful.{Lawful}
use Rattle.nfs_core.specs.Recalls.{AreLeftOf, left_of}
use Rattle.nfs_core.specs.Server.{AreAlike, Server, server_of}
use Rattle.nfs_core.specs.declared.core_state.Core.TheInside.{Inside}
use Rattle.nfs_core.specs.declared.entered.Entered.{Entered}
use Rattle.nfs_state.specs.Entries.{entry_of}
use Rattle.nfs_xdr.specs.declared.op_result.OpResult.{OpResult}

pub decide_next-requires-clause-stored : goal.decide_next-requires-clause-stored
decide_next-requires-clause-stored c =
    store_agrees c.lawful_is_safe.ensures.safe c.self.inside.held.store c.self.invariant.0 c.self.invariant.1

pub enter_decided-requires-clause-stored : goal.enter_decided-requires-clause-stored
enter_decided-requires-clause-stored c =
    store_agrees c.lawful_is_safe.ensures.safe c.self.inside.held.store c.self.invariant.0 c.self.invariant.1

-- what always holds of a core
abbrev Holds : Inside → Type 0
Holds inside =
    Lawful inside.held.store.journal.history (state_of inside.held.store.tables)
    × OwnersAgree inside.held.store
    × AreLeftOf inside.held.store.journal.history (left_of inside.held.recalls)

pub invariant_of-self : goal.invariant_of-self
invariant_of-self c =
    let old = server_of c.self.inside.held in
    let lawful = c.self.invariant.0 in
    elim c.match-decide_next.branch [
      | in-Ok+in-Ok-enter_decided w ↦
          let new = server_of w.enter_decided.new.held in
          let entered = w.in-Ok-enter_decided.ensures.entered in
          subst Holds (sym w.self-inside-is) (
            Lawful-entered old.journal new.journal (meaning old.stored) (meaning new.stored) _ lawful entered.0.1 entered.0.2,
            w.in-Ok-enter_decided.ensures.kept,
            Left-entered c.recalls_follow.ensures old new _ w.in-Ok-enter_decided.entered.number lawful c.self.invariant.2 entered.0,
          )
      | in-Ok+in-Err-enter_decided w ↦
          let new = server_of w.enter_decided.new.held in
          let same = w.in-Err-enter_decided.ensures.same in
          subst Holds (sym w.self-inside-is) (
            Lawful-same old.journal new.journal old.stored new.stored same.0 same.1 lawful,
            w.in-Err-enter_decided.ensures.kept,
            Left-same old new c.self.invariant.2 same,
          )
      | in-Err w ↦ subst Holds (sym w.self-inside-is) c.self.invariant
    ]

pub returns-clause-lawful : goal.returns-clause-lawful
returns-clause-lawful c = (invariant_of-self c).0

-- the core answers so, where its fields become these
abbrev Gives : (c : goal.Joined-decide_next) → Inside → OpResult × Option Entered → Type 0
Gives c inside given = Answers c.args.self.now (server_of inside.held) c.args.request given.0 given.1

pub returns-clause-answers : goal.returns-clause-answers
returns-clause-answers c =
    let request = c.args.request in
    elim c.match-decide_next.branch [
      | in-Ok+in-Ok-enter_decided w ↦
          let new = server_of w.enter_decided.new.held in
          let entry = entry_of request w.in-Ok-enter_decided.answer in
          let from : IsEntered c.args.self.now new entry w.in-Ok-enter_decided.entered =
          subst (λ (s : Server). IsEntered s new entry w.in-Ok-enter_decided.entered) c.self.view_is w.in-Ok-enter_decided.ensures.entered in
          subst (λ (i : Inside). Gives c i c.match-decide_next.result) (sym w.self-inside-is)
          (subst (λ (r : OpResult × Option Entered). Answers c.args.self.now new request r.0 r.1) (sym w.result-is) from)
      | in-Ok+in-Err-enter_decided w ↦
          let new = server_of w.enter_decided.new.held in
          let alike : AreAlike c.args.self.now new = subst (λ (s : Server). AreAlike s new) c.self.view_is w.in-Err-enter_decided.ensures.same in
          subst (λ (i : Inside). Gives c i c.match-decide_next.result) (sym w.self-inside-is)
          (subst (λ (r : OpResult × Option Entered). Answers c.args.self.now new request r.0 r.1) (sym w.result-is) (search rules, alike))
      | in-Err w ↦
          let old = server_of c.self.inside.held in
          let alike : AreAlike c.args.self.now old = subst (λ (s : Server). AreAlike s old) c.self.view_is (refl, refl, refl) in
          subst (λ (i : Inside). Gives c i c.match-decide_next.result) (sym w.self-inside-is)
          (subst (λ (r : OpResult × Option Entered). Answers c.args.self.now old request r.0 r.1) (sym w.result-is) (search rules, alike))
    ]
