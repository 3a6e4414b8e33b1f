use Rattle.std.proofs.Common.{◌∙◌, refl, subst, sym}
use Rattle.std.proofs.lemmas.Bool.{cond-true}
use Rattle.nfs_owners.specs.Owner.{is_known, with_request}
use Rattle.nfs_owners.specs.Owners.{AreBefore}
use Rattle.nfs_state.proofs.StoredOwners.{before_change}
use Rattle.nfs_state.proofs.OwnerRoom.{can_keep_beside}
use Rattle.nfs_state.proofs.tables.Tables.keep.Goals as goal

pub returns-clause-known : goal.returns-clause-known
returns-clause-known c = λ other known can.
    can_keep_beside c.args.keeping.owner other c.args.number c.args.keeping.kept c.args.keeping.confirmed c.args.self.now.owners c.keep.new.self
    c.keep.ensures.owners c.keep.ensures.known known can

pub returns-clause-before : goal.returns-clause-before
returns-clause-before c = λ known.
    let owners = c.args.self.now.owners.owners in
    let keeping = c.args.keeping in
    subst (AreBefore c.args.number) (sym (c.keep.ensures.owners ∙ cond-true (is_known keeping.owner owners) _ _ known))
    (before_change c.args.number (with_request c.args.number keeping.kept) (λ s. refl) keeping.owner owners c.requires.newest)
