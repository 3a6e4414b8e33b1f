use Rattle.std.proofs.Common.{◌≡◌, ap, ◌∙◌, subst}
use Rattle.std.specs.Prelude.{Option}
use Rattle.nfs_rules.specs.Deciding.{ByOwnRule}
use Rattle.nfs_state.specs.Room.{state_of}
use Rattle.nfs_rules.specs.Sequences.{before_own}
use Rattle.nfs_rules.specs.declared.ruling.Ruling.{Ruling}
use Rattle.nfs_rules.specs.operations.Open.{opening, opening_or_ruling, ruling_of}
use Rattle.nfs_rules.proofs.OpeningLaws.{opened_same, opening_opens, ruling_given}
use Rattle.nfs_rules.proofs.Sequencing.{on_err}
use Rattle.nfs_xdr.specs.declared.op.Op.TheVariants as ops
use Rattle.nfs_rules.proofs.operations.open.rule.Goals as goal

pub returns-in-Ok-clause-rules : goal.returns-in-Ok-clause-rules
returns-in-Ok-clause-rules c = λ request at.
    let args = c.args.args.now in
    let journal = c.args.store.now.journal.history in
    let state = state_of c.args.store.now.tables in
    let seen = before_own c.args.passage args.owner state in
    let rules : Option Ruling → Type 0 = λ r. ByOwnRule (λ ruling. ruling ≡ r) state (ops.Open args) c.grant.result in
    let same = opened_same c.args.passage journal state c.args.directory args c.args.moment request.moment c.find_opening-opening.result c.find_opening-opening.ensures at in
    subst rules (ap (ruling_of journal seen c.args.passage args) (c.in-Ok.ensures ∙ same)) c.grant.ensures

pub returns-in-Ok-clause-error : goal.returns-in-Ok-clause-error
returns-in-Ok-clause-error c =
    let args = c.args.args.now in
    let state = state_of c.args.store.now.tables in
    let found = opening c.args.store.now.journal.history state c.args.directory args in
    on_err c.grant.result (opening_opens state c.args.moment args.owner.client found c.in-Ok.opening
    (c.in-Ok.ensures ∙ ap (opening_or_ruling state c.args.moment args.owner.client) c.find_opening-opening.ensures))

pub returns-in-Err-clause-rules : goal.returns-in-Err-clause-rules
returns-in-Err-clause-rules c = λ request at.
    let args = c.args.args.now in
    let journal = c.args.store.now.journal.history in
    let state = state_of c.args.store.now.tables in
    let same = opened_same c.args.passage journal state c.args.directory args c.args.moment request.moment c.find_opening-opening.result c.find_opening-opening.ensures at in
    ruling_given c.args.passage journal state c.args.directory args request c.in-Err.ruling (c.in-Err.ensures ∙ same)
