use Rattle.std.proofs.Common.{◌∙◌, None, refl, subst, sym}
use Rattle.nfs_owners.specs.Closers.{AreClosers, closed_by, with_at}
use Rattle.nfs_owners.proofs.Closing.{at_own, with_twice}
use Rattle.nfs_owners.proofs.owner_rows.change_kept.Goals as goal

pub returns-clause-closers : goal.returns-clause-closers
returns-clause-closers c f is are =
    let row = c.args.row in
    subst (AreClosers c.note.new.self) (with_twice row None (closed_by c.args.kept) f)
    (subst (λ n. AreClosers c.note.new.self (with_at row n (with_at row None f))) c.closed_number-2.ensures
    (c.note.ensures.closers (with_at row None f) (at_own row None f row refl) (c.forget.ensures f row (is ∙ sym c.closed_number.ensures) are)))
