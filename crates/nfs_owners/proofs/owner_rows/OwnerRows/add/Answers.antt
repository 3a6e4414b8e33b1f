use Rattle.std.proofs.Common.{◌∙◌, [], ◌∷◌, ◌++◌, ap, refl, subst, sym}
use Rattle.std.specs.List.{AllByRecursion}
use Rattle.nfs_rows.specs.Rows.{IsAbove, Row}
use Rattle.nfs_owners.specs.Closers.{AreClosers, closed_at, with_at}
use Rattle.nfs_owners.specs.OwnerRows.{IsFiled, RoomyOwnerRows, name_hash, owners_in}
use Rattle.nfs_owners.specs.Owners.{AreBefore}
use Rattle.nfs_owners.specs.declared.owner.Owner.{Owner}
use Rattle.nfs_owners.proofs.Closing.{closed_more, closed_nothing}
use Rattle.nfs_owners.proofs.Filing.{owners_last, rows_before}
use Rattle.nfs_owners.proofs.Lists.{all_push}
use Rattle.nfs_owners.proofs.owner_rows.OwnerRows.add.Goals as goal

abbrev newcomer : (c : goal.After-add) → Row Owner
newcomer c = record { number = c.from-row.result; hash = c.args.hash; client = c.args.owner.name.client.number; value = c.args.owner }

pub add-requires-clause-newest : goal.add-requires-clause-newest
add-requires-clause-newest c =
    rows_before c.self.inside.names c.from-row.result c.self.inside.rows.rows c.self.invariant.0
    (subst (λ n. AreBefore n (owners_in c.self.inside.rows.rows)) (sym c.from-row.ensures)
    (subst (λ (o : RoomyOwnerRows). AreBefore c.args.owner.state.recorded (owners_in o.rows)) (sym c.self.view_is) c.requires.newest))

above : (c : goal.After-add) → IsAbove c.from-row.result c.self.inside.rows.rows
above c =
    rows_before c.self.inside.names c.from-row.result c.self.inside.rows.rows c.self.invariant.0
    (subst (λ n. AreBefore n (owners_in c.self.inside.rows.rows)) (sym c.from-row.ensures)
    (subst (λ (o : RoomyOwnerRows). AreBefore c.args.owner.state.recorded (owners_in o.rows)) (sym c.self.view_is) c.requires.newest))

pub invariant_of-self : goal.invariant_of-self
invariant_of-self c =
    let names = c.self.inside.names in
    let rows = c.self.inside.rows.rows in
    let r = newcomer c in (
      subst (AllByRecursion (IsFiled names)) (sym c.add.ensures.rows)
          (all_push (IsFiled names) rows r c.self.invariant.0
          (record { numbered = c.from-row.ensures; hashed = c.requires.hash ∙ ap (λ (o : RoomyOwnerRows). name_hash o.names c.args.owner.name) (sym c.self.view_is); of_client = refl })),
      subst (AreClosers c.note.new.self)
          (ap (λ n. with_at c.from-row.result n (closed_at rows)) c.closed_number.ensures ∙ closed_more rows r (above c) ∙ ap closed_at (sym c.add.ensures.rows))
          (c.note.ensures.closers (closed_at rows) (closed_nothing c.from-row.result rows (above c)) c.self.invariant.1),
    )

pub returns-clause-owners : goal.returns-clause-owners
returns-clause-owners c =
    let rows = c.self.inside.rows.rows in
    ap owners_in c.add.ensures.rows ∙ owners_last rows (newcomer c)
    ∙ ap (λ (o : RoomyOwnerRows). owners_in o.rows ++ c.args.owner ∷ []) c.self.view_is
