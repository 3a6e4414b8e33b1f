use Rattle.std.proofs.Common.{◌∙◌, ap, refl, subst, sym}
use Rattle.std.specs.List.{AllByRecursion}
use Rattle.nfs_rows.proofs.Callers.{with_change_none, with_value_is}
use Rattle.nfs_owners.specs.Closers.{AreClosers, closed_at}
use Rattle.nfs_owners.specs.OwnerRows.{IsFiled, RoomyOwnerRows, confirmed, with_state_at}
use Rattle.nfs_owners.specs.declared.owner.Owner.{Owner}
use Rattle.nfs_owners.specs.declared.owner_rows.OwnerRows.TheInside.{Inside}
use Rattle.nfs_owners.proofs.Closing.{closed_same}
use Rattle.nfs_owners.proofs.Filing.{filed_change}
use Rattle.nfs_owners.proofs.owner_rows.OwnerRows.confirm_at.Goals as goal
use Rattle.nfs_owners.proofs.owner_rows.OwnerRows.confirm_at.Goals.{in-Some, in_default}

abbrev AreKept : Inside → Type 0
AreKept s = AllByRecursion (IsFiled s.names) s.rows.rows × AreClosers s.closers (closed_at s.rows.rows)

pub invariant_of-self : goal.invariant_of-self
invariant_of-self c =
    let rows = c.self.inside.rows.rows in
    let names = c.self.inside.names in
    elim c.match-find_mut.branch [
      | in-Some w ↦
          let set = with_value_is c.args.row (λ (o : Owner). record o { state = confirmed o.state }) w.in-Some.owner.now rows w.in-Some.ensures.order w.in-Some.ensures.value in
          subst AreKept (sym w.self-inside-is) (
            subst (AllByRecursion (IsFiled names)) (sym set) (filed_change names confirmed (λ s. refl) c.args.row rows c.self.invariant.0),
            subst (AreClosers c.self.inside.closers) (closed_same confirmed (λ s. refl) c.args.row rows ∙ ap closed_at (sym set)) c.self.invariant.1,
          )
      | in_default w ↦ subst AreKept (sym w.self-inside-is) c.self.invariant
    ]

pub returns-clause-rows : goal.returns-clause-rows
returns-clause-rows c =
    let rows = c.self.inside.rows.rows in
    let after = ap (λ (o : RoomyOwnerRows). with_state_at confirmed c.args.row o.rows) c.self.view_is in
    elim c.match-find_mut.branch [
      | in-Some w ↦
          ap (λ (s : Inside). s.rows.rows) w.self-inside-is
          ∙ with_value_is c.args.row (λ (o : Owner). record o { state = confirmed o.state }) w.in-Some.owner.now rows w.in-Some.ensures.order w.in-Some.ensures.value ∙ after
      | in_default w ↦
          ap (λ (s : Inside). s.rows.rows) w.self-inside-is
          ∙ sym (with_change_none c.args.row (λ (o : Owner). record o { state = confirmed o.state }) rows w.in_default.ensures.value) ∙ after
    ]
