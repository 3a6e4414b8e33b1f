use Rattle.std.proofs.Common.{◌∙◌, ap, subst, sym}
use Rattle.nfs_core.proofs.answering.enter_decided.Goals as goal
use Rattle.nfs_core.specs.Entered.{IsEntered}
use Rattle.nfs_core.specs.Following.{IsNext}
use Rattle.nfs_core.specs.Server.{server_of}
use Rattle.nfs_core.specs.declared.entered.Entered.{Entered}
use Rattle.nfs_state.specs.Entries.{entry_of}
use Rattle.nfs_state.specs.LiveChange.{live_change_of}
use Rattle.nfs_state.specs.Room.{state_of}
use Rattle.nfs_state.specs.declared.effect.Effect.{Effect}
use Rattle.nfs_xdr.specs.declared.op_result.OpResult.{OpResult}

pub commit-requires-clause-next : goal.commit-requires-clause-next
commit-requires-clause-next c =
    let store = c.args.held.now.store in
    subst (λ (answer : OpResult). IsNext store.journal.history (state_of store.tables) (entry_of c.args.request answer) c.args.decision.effect) (sym c.in-Ok.ensures) c.requires.next

pub returns-in-Ok-commit-clause-entered : goal.returns-in-Ok-commit-clause-entered
returns-in-Ok-commit-clause-entered c =
    let entered = c.in-Ok-commit.ensures.entered in
    let old = server_of c.args.held.now in
    let new = server_of c.commit.new.held in
    let made : Entered = record { number = c.in-Ok-commit.number; live = c.live-live.result } in
    let told : IsEntered old new (entry_of c.args.request c.in-Ok.copy) made =
    (entered.0, c.live-live.ensures ∙ ap (λ (e : Effect). live_change_of e.change) (sym entered.1)) in
    subst (λ (answer : OpResult). IsEntered old new (entry_of c.args.request answer) made) c.in-Ok.ensures told
