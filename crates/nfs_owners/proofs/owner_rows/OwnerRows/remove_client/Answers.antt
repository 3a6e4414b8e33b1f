use Rattle.std.proofs.Common.{◌≡◌, ◌∙◌, ap, not, rules, subst, sym}
use Rattle.std.specs.List.{AllByRecursion}
use Rattle.nfs_rows.specs.Rows.{is_of_client, without}
use Rattle.nfs_rows.proofs.Each.{all_filter}
use Rattle.nfs_owners.specs.Closers.{AreClosers, closed_at}
use Rattle.nfs_owners.specs.Owner.{has_client}
use Rattle.nfs_owners.specs.OwnerRows.{IsFiled, RoomyOwnerRows}
use Rattle.nfs_owners.proofs.Closing.{empty_nothing}
use Rattle.nfs_owners.proofs.Filing.{client_rows, same_without}
use Rattle.nfs_owners.proofs.owner_rows.OwnerRows.remove_client.Goals as goal

pub invariant_of-self : goal.invariant_of-self
invariant_of-self c =
    let rows = c.self.inside.rows.rows in
    let names = c.self.inside.names in
    let test = has_client c.args.client in
    let left = c.remove_of_client.new.self.rows in
    let gone : left ≡ without (λ r. test r.value) rows =
    c.remove_of_client.ensures.rows test (λ shown answer says. search rules) ∙ same_without (is_of_client c.args.client.number test) (λ r. test r.value) rows (client_rows names c.args.client rows c.self.invariant.0) in (
      subst (AllByRecursion (IsFiled names)) (sym gone) (all_filter (IsFiled names) (λ r. not (test r.value)) rows c.self.invariant.0),
      c.settle.ensures.closers (closed_at left) (λ empty. sym (empty_nothing left (sym c.is_empty.ensures ∙ empty)))
          (subst (AreClosers c.forget_client.new.closers) (ap closed_at (sym gone)) (c.forget_client.ensures c.self.invariant.1)),
    )

pub returns-clause-rows : goal.returns-clause-rows
returns-clause-rows c =
    let rows = c.self.inside.rows.rows in
    let test = has_client c.args.client in
    c.remove_of_client.ensures.rows test (λ shown answer says. search rules)
    ∙ same_without (is_of_client c.args.client.number test) (λ r. test r.value) rows (client_rows c.self.inside.names c.args.client rows c.self.invariant.0)
    ∙ ap (λ (o : RoomyOwnerRows). without (λ r. test r.value) o.rows) c.self.view_is
