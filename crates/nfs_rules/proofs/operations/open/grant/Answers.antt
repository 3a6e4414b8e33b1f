use Rattle.std.proofs.Common.{◌≡◌, ◌∙◌, Ok, ap, option_map}
use Rattle.nfs_forms.specs.declared.open_delegation.OpenDelegation.{OpenDelegation}
use Rattle.nfs_forms.specs.declared.stateid.Stateid.{Stateid}
use Rattle.nfs_rules.specs.Sequences.{before_own}
use Rattle.nfs_rules.specs.declared.ruling.Ruling.{Ruling}
use Rattle.nfs_rules.specs.operations.Open.{ruling_of}
use Rattle.nfs_rules.specs.operations.OpenGrant.{ok_answer}
use Rattle.nfs_rules.proofs.OpeningLaws.{ruled_by}
use Rattle.nfs_rules.proofs.Sequenced.{rules_fail}
use Rattle.nfs_rules.proofs.operations.open.grant.Goals as goal
use Rattle.nfs_state.specs.Room.{state_of}
use Rattle.nfs_state.specs.declared.change.Change.TheVariants.{Opens}
use Rattle.nfs_state.specs.declared.shortage.Shortage.TheVariants.{Memory}
use Rattle.nfs_xdr.specs.declared.op.Op.TheVariants as ops

pub returns-in_err-owner : goal.returns-in_err-owner
returns-in_err-owner c =
    let args = c.args.args.now in
    let journal = c.args.store.now.journal.history in
    let state = state_of c.args.store.now.tables in
    let passage = c.args.passage in
    let o = c.args.opening in
    let seen = before_own passage args.owner state in
    let kind = c.delegation_for-kind.result in
    let granted : Stateid × OpenDelegation → Ruling = λ both. record { answer = ok_answer passage both.0 both.1; change = Opens o.node args.owner o.share kind } in
    rules_fail (λ ruling. ruling ≡ ruling_of journal seen passage args (Ok o)) state (ops.Open args) Memory c.from_residual.result c.from_residual.ensures.0 c.from_residual.ensures.1
    (granted (c.in-Some.stateid, c.in-Some.delegation), ap (option_map granted) c.in-Some.ensures ∙ ruled_by journal passage seen args o kind c.delegation_for-kind.ensures.kind)
