use Rattle.std.proofs.Common.{◌≡◌, ◌∙◌, Bool, Option, Some, Ok, Err, ap, refl, subst, sym, true}
use Rattle.std.specs.Prelude.{Result}
use Rattle.nfs_forms.specs.declared.status.Refusal.{Refusal}
use Rattle.nfs_rules.specs.Finding.{locking_seen}
use Rattle.nfs_rules.specs.declared.ruling.Ruling.{Ruling}
use Rattle.nfs_rules.specs.operations.Lock.{IsAllowed, IsLock, Locking, allows, locking_of, own, refusal_of}
use Rattle.nfs_rules.proofs.Sendable.{locking_refusal, refused_ruled}
use Rattle.nfs_rules.proofs.Sequenced.{rules_onto}
use Rattle.nfs_rules.proofs.operations.lock.rule.Goals as goal
use Rattle.nfs_share.specs.AllOpens.{opens_of}
use Rattle.nfs_share.specs.Opens.{open_with_number}
use Rattle.nfs_state.specs.Room.{state_of}
use Rattle.nfs_xdr.specs.declared.op.Op.TheVariants as ops

pub returns-in-Err : goal.returns-in-Err
returns-in-Err c = λ journal request passage agrees is.
    let args = c.args.args.now in
    let state = state_of c.args.tables.now in
    let found : Err c.in-Err.refusal ≡ locking_of journal state c.args.node args args.locker = c.in-Err.ensures journal agrees is in
    let Q : Result Locking Refusal → Type 0 = λ v. IsLock state args v (Some (refusal_of c.in-Err.refusal)) in
    refused_ruled (own journal state args request c.args.node passage) state (ops.Lock args) c.in-Err.refusal c.refusal.result c.refusal.ensures
    (locking_refusal journal state c.args.node args c.in-Err.refusal found)
    (subst Q found refl)

pub returns : goal.returns
returns c = λ journal request passage agrees is.
    let args = c.args.args.now in
    let state = state_of c.args.tables.now in
    let l = locking_seen c.in-Ok.locking in
    let range = c.in-Some.range in
    let locks : Result Locking Refusal = locking_of journal state c.args.node args args.locker in
    let found : Ok l ≡ locks = c.in-Ok.ensures journal agrees is in
    let may : allows l.mode (open_with_number l.open_number (opens_of l.node state.opens)) ≡ true =
    sym (c.allows.ensures ∙ ap (allows l.mode) c.open_numbered-open.ensures) ∙ c.if-not-allows.false in
    let Q : Option Ruling → Result Locking Refusal → Type 0 = λ r v. IsLock state args v r in
    let A : Option Ruling → Bool → Type 0 = λ r b. IsAllowed b state l range r in
    rules_onto (IsAllowed true state l range) (λ r. IsLock state args locks r) state (ops.Lock args) c.lock.result
    (λ r h. subst (Q r) found (Some range, c.in-Some.ensures, subst (A r) (sym may) h))
    (c.lock.ensures args)
