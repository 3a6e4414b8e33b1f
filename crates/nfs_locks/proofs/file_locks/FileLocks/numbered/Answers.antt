use Rattle.std.proofs.Common.{◌∙◌, ap, find, subst}
use Rattle.nfs_locks.specs.KeptLocks.{NumbersRise}
use Rattle.nfs_locks.specs.StoredLocks.{StoredLocks}
use Rattle.nfs_locks.proofs.Rowed.{found_in, has_number, rise}
use Rattle.nfs_locks.proofs.file_locks.FileLocks.numbered.Goals as goal

pub returns-clause-found : goal.returns-clause-found
returns-clause-found c =
    c.find.ensures
    ∙ found_in c.self.inside.names c.args.number c.from.result c.self.inside.states.rows c.self.invariant.0 c.from.ensures
    ∙ ap (λ (f : StoredLocks). find (has_number c.args.number) f.states) c.self.view_is

pub returns-clause-order : goal.returns-clause-order
returns-clause-order c =
    subst (λ (f : StoredLocks). NumbersRise f.states) c.self.view_is
    (rise c.self.inside.names c.self.inside.states.rows c.len-count.ensures.order c.self.invariant.0)
