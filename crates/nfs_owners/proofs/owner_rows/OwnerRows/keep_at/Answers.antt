use Rattle.std.proofs.Common.{◌∙◌, ap, refl, subst, sym}
use Rattle.std.specs.List.{AllByRecursion}
use Rattle.nfs_rows.proofs.Callers.{with_change_none}
use Rattle.nfs_owners.specs.Closers.{AreClosers, closed_at, closed_by, closed_of}
use Rattle.nfs_owners.specs.Owner.{with_request}
use Rattle.nfs_owners.specs.OwnerRows.{IsFiled, RoomyOwnerRows, with_state_at}
use Rattle.nfs_owners.specs.declared.owner.Owner.{Owner}
use Rattle.nfs_owners.proofs.Closing.{closed_changed}
use Rattle.nfs_owners.proofs.Filing.{filed_change, state_set}
use Rattle.nfs_owners.proofs.owner_rows.OwnerRows.keep_at.Goals as goal

pub invariant_of-self : goal.invariant_of-self
invariant_of-self c =
    let rows = c.self.inside.rows.rows in
    let change = with_request c.args.number c.args.kept in
    let set = state_set change c.args.row rows c.in-Some.owner.now c.change_kept.new.owner c.change_kept.ensures.owner c.in-Some.ensures.order c.in-Some.ensures.value in (
      subst (AllByRecursion (IsFiled c.self.inside.names)) (sym set) (filed_change c.self.inside.names change (λ s. refl) c.args.row rows c.self.invariant.0),
      subst (AreClosers c.change_kept.new.closers) (closed_changed change c.args.row c.in-Some.owner.now (closed_by c.args.kept) rows c.in-Some.ensures.value refl ∙ ap closed_at (sym set))
          (c.change_kept.ensures.closers (closed_at rows) (ap closed_of (sym c.in-Some.ensures.value)) c.self.invariant.1),
    )

pub returns-in-Some-clause-rows : goal.returns-in-Some-clause-rows
returns-in-Some-clause-rows c =
    let change = with_request c.args.number c.args.kept in
    state_set change c.args.row c.self.inside.rows.rows c.in-Some.owner.now c.change_kept.new.owner c.change_kept.ensures.owner c.in-Some.ensures.order c.in-Some.ensures.value
    ∙ ap (λ (o : RoomyOwnerRows). with_state_at change c.args.row o.rows) c.self.view_is

pub returns-in-None-clause-rows : goal.returns-in-None-clause-rows
returns-in-None-clause-rows c =
    let change = with_request c.args.number c.args.kept in
    sym (with_change_none c.args.row (λ (o : Owner). record o { state = change o.state }) c.self.inside.rows.rows c.in-None.ensures.value)
    ∙ ap (λ (o : RoomyOwnerRows). with_state_at change c.args.row o.rows) c.self.view_is
