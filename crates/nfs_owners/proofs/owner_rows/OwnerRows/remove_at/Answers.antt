use Rattle.std.proofs.Common.{◌∙◌, ap, not, subst, sym}
use Rattle.std.specs.List.{AllByRecursion}
use Rattle.nfs_rows.specs.Rows.{is_numbered}
use Rattle.nfs_rows.proofs.Each.{all_filter}
use Rattle.nfs_owners.specs.Closers.{AreClosers, closed_at}
use Rattle.nfs_owners.specs.OwnerRows.{IsFiled}
use Rattle.nfs_owners.proofs.Closing.{closed_less, empty_nothing}
use Rattle.nfs_owners.proofs.owner_rows.OwnerRows.remove_at.Goals as goal

pub invariant_of-self : goal.invariant_of-self
invariant_of-self c =
    let rows = c.self.inside.rows.rows in
    let left = c.remove.new.self.rows in (
      subst (AllByRecursion (IsFiled c.self.inside.names)) (sym c.remove.ensures.rows) (all_filter (IsFiled c.self.inside.names) (λ r. not (is_numbered c.args.row r)) rows c.self.invariant.0),
      c.settle.ensures.closers (closed_at left) (λ empty. sym (empty_nothing left (sym c.is_empty.ensures ∙ empty)))
          (subst (AreClosers c.forget.new.self) (closed_less c.args.row rows ∙ ap closed_at (sym c.remove.ensures.rows))
          (c.forget.ensures (closed_at rows) c.args.row (sym c.closed_in_row-closed.ensures) c.self.invariant.1)),
    )
