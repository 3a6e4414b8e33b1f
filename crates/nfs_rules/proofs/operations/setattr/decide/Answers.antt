use Rattle.std.proofs.Common.{◌≡◌, ◌∙◌, true, false, rules, sym, arith}
use Rattle.nfs_rules.proofs.Setting.{file_refused, nothing_set, size_is_set, size_refused, wish_refused}
use Rattle.nfs_rules.proofs.operations.setattr.decide.Goals as goal
use Rattle.nfs_state.specs.Room.{state_of}

pub returns-in-Err : goal.returns-in-Err
returns-in-Err c =
    wish_refused c.args.store.now.journal.history (state_of c.args.store.now.tables) c.args.request.now c.args.args.now c.in-Err.refusal c.refusal.result
    (sym c.in-Err.is ∙ c.wish_of.ensures) c.refusal.ensures

pub returns-then-not-asks : goal.returns-then-not-asks
returns-then-not-asks c =
    let none : c.asks.result ≡ false = search rules in
    nothing_set c.args.store.now.journal.history (state_of c.args.store.now.tables) c.args.request.now c.args.args.now c.in-Ok.wish c.set.result
    (sym c.in-Ok.is ∙ c.wish_of.ensures) (sym c.asks.ensures ∙ none) c.set.ensures

pub returns-in-Err-file_for : goal.returns-in-Err-file_for
returns-in-Err-file_for c =
    let some : c.asks.result ≡ true = search rules in
    file_refused c.args.store.now.journal.history (state_of c.args.store.now.tables) c.args.request.now c.args.args.now c.in-Ok.wish c.in-Err-file_for.decision
    (sym c.in-Ok.is ∙ c.wish_of.ensures) (sym c.asks.ensures ∙ some) (sym c.in-Err-file_for.is ∙ c.file_for.ensures)

pub returns-then-size : goal.returns-then-size
returns-then-size c =
    let some : c.asks.result ≡ true = search rules in
    size_refused c.args.store.now.journal.history (state_of c.args.store.now.tables) c.args.request.now c.args.args.now c.in-Ok.wish c.in-Ok-file_for.node c.size_for-size.result c.refusal-then-size.result
    (sym c.in-Ok.is ∙ c.wish_of.ensures) (sym c.asks.ensures ∙ some) (sym c.in-Ok-file_for.is ∙ c.file_for.ensures) c.size_for-size.ensures (omega arith) c.refusal-then-size.ensures

pub returns : goal.returns
returns c =
    let some : c.asks.result ≡ true = search rules in
    size_is_set c.args.store.now.journal.history (state_of c.args.store.now.tables) c.args.request.now c.args.args.now c.in-Ok.wish c.in-Ok-file_for.node c.size_for-size.result c.set-2.result
    (sym c.in-Ok.is ∙ c.wish_of.ensures) (sym c.asks.ensures ∙ some) (sym c.in-Ok-file_for.is ∙ c.file_for.ensures) c.size_for-size.ensures (omega arith) c.set-2.ensures
