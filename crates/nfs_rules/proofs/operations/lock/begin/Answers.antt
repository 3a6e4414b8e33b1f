use Rattle.std.proofs.Common.{◌≡◌, ◌∙◌, Some, None, sym}
use Rattle.std.specs.Prelude.{◌&&◌}
use Rattle.std.proofs.lemmas.Bool.{cond-true}
use Rattle.nfs_forms.specs.declared.answer.Answer.TheVariants.{Done}
use Rattle.nfs_owners.specs.StateOwner.{lock_owner}
use Rattle.nfs_rules.specs.Finding.{locking_seen}
use Rattle.nfs_rules.specs.Locking.{lock_of_bytes}
use Rattle.nfs_rules.specs.declared.ruling.Ruling.{Ruling}
use Rattle.nfs_rules.specs.operations.Lock.{beginning, first_stateid}
use Rattle.nfs_rules.proofs.Sequenced.{rules_fail}
use Rattle.nfs_rules.proofs.operations.lock.begin.Goals as goal
use Rattle.nfs_state.specs.Places.{has_owner_place, has_state_place}
use Rattle.nfs_state.specs.Room.{state_of}
use Rattle.nfs_state.specs.declared.change.Change.TheVariants.{Begins}
use Rattle.nfs_state.specs.declared.shortage.Shortage.TheVariants.{Memory}
use Rattle.nfs_xdr.specs.declared.op.Op.TheVariants as ops
use Rattle.nfs_xdr.specs.declared.op_result.OpResult.TheVariants as results

pub returns-in_err-clone : goal.returns-in_err-clone
returns-in_err-clone c = λ args.
    let state = state_of c.args.tables.now in
    let l = locking_seen c.args.locking in
    let given : Ruling = record {
      answer = results.Lock (Done (first_stateid state l.owner));
      change = Begins l.node (record { owner = l.owner; open_number = l.open_number; change = lock_of_bytes l.mode c.args.range });
    } in
    rules_fail (λ ruling. ruling ≡ beginning state l c.args.range) state (ops.Lock args) Memory c.from_residual.result c.from_residual.ensures.0 c.from_residual.ensures.1
    (given, sym (cond-true (has_owner_place (lock_owner l.owner) state && has_state_place state) (Some given) None (sym c.has_places.ensures ∙ c.if-not-has_places.false)))
