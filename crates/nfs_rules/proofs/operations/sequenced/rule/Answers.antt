use Rattle.std.proofs.Common.{Ok, ap, refl, subst, sym}
use Rattle.nfs_rules.specs.Deciding.{IsTargetOf}
use Rattle.nfs_rules.specs.Finding.{target_seen}
use Rattle.nfs_rules.proofs.Sequenced.{rules_of}
use Rattle.nfs_state.specs.Room.{state_of}
use Rattle.nfs_rules.proofs.operations.sequenced.rule.Goals as goal
use Rattle.nfs_tree.specs.declared.policy.Policy.{Policy}
use Rattle.nfs_xdr.specs.Names.{names_of}
use Rattle.nfs_xdr.specs.declared.op.Op.{Op}
use Rattle.nfs_xdr.specs.declared.op.Op.TheVariants as ops

pub returns-in-Open : goal.returns-in-Open
returns-in-Open c =
    let journal = c.args.store.now.journal.history in
    let state = state_of c.args.store.now.tables in
    let request = c.args.request.now in
    let turn = c.args.turn in
    rules_of request.op (ops.Open c.in-Open.args) journal state request turn.node turn.passage c.rule.result c.in-Open.is (c.rule.ensures.rules request refl)

pub returns-in-OpenConfirm : goal.returns-in-OpenConfirm
returns-in-OpenConfirm c =
    let journal = c.args.store.now.journal.history in
    let state = state_of c.args.store.now.tables in
    let request = c.args.request.now in
    let turn = c.args.turn in
    let named : Op → Type 0 = λ op. IsTargetOf (names_of op) journal state (target_seen turn.target) in
    rules_of request.op (ops.OpenConfirm c.in-OpenConfirm.args) journal state request turn.node turn.passage c.rule-in-OpenConfirm.result c.in-OpenConfirm.is
    (c.rule-in-OpenConfirm.ensures journal request turn.passage (subst named c.in-OpenConfirm.is c.requires.target))

pub returns-in-OpenDowngrade : goal.returns-in-OpenDowngrade
returns-in-OpenDowngrade c =
    let journal = c.args.store.now.journal.history in
    let state = state_of c.args.store.now.tables in
    let request = c.args.request.now in
    let turn = c.args.turn in
    let named : Op → Type 0 = λ op. IsTargetOf (names_of op) journal state (target_seen turn.target) in
    rules_of request.op (ops.OpenDowngrade c.in-OpenDowngrade.args) journal state request turn.node turn.passage (Ok c.rule-in-OpenDowngrade.result) c.in-OpenDowngrade.is
    (c.rule-in-OpenDowngrade.ensures journal request turn.passage (subst named c.in-OpenDowngrade.is c.requires.target))

pub returns-in-Close : goal.returns-in-Close
returns-in-Close c =
    let journal = c.args.store.now.journal.history in
    let state = state_of c.args.store.now.tables in
    let request = c.args.request.now in
    let turn = c.args.turn in
    let named : Op → Type 0 = λ op. IsTargetOf (names_of op) journal state (target_seen turn.target) in
    rules_of request.op (ops.Close c.in-Close.args) journal state request turn.node turn.passage (Ok c.rule-in-Close.result) c.in-Close.is
    (c.rule-in-Close.ensures journal request turn.passage (ap (λ (p : Policy). p.close_locks) (sym c.policy-policy.ensures)) (subst named c.in-Close.is c.requires.target))

pub returns-in-Lock : goal.returns-in-Lock
returns-in-Lock c =
    let journal = c.args.store.now.journal.history in
    let state = state_of c.args.store.now.tables in
    let request = c.args.request.now in
    let turn = c.args.turn in
    let named : Op → Type 0 = λ op. IsTargetOf (names_of op) journal state (target_seen turn.target) in
    rules_of request.op (ops.Lock c.in-Lock.args) journal state request turn.node turn.passage c.rule-in-Lock.result c.in-Lock.is
    (c.rule-in-Lock.ensures journal request turn.passage c.requires.kept (subst named c.in-Lock.is c.requires.target))

pub returns-in-Locku : goal.returns-in-Locku
returns-in-Locku c =
    let journal = c.args.store.now.journal.history in
    let state = state_of c.args.store.now.tables in
    let request = c.args.request.now in
    let turn = c.args.turn in
    let named : Op → Type 0 = λ op. IsTargetOf (names_of op) journal state (target_seen turn.target) in
    rules_of request.op (ops.Locku c.in-Locku.args) journal state request turn.node turn.passage c.rule-in-Locku.result c.in-Locku.is
    (c.rule-in-Locku.ensures journal request turn.passage (subst named c.in-Locku.is c.requires.target))
