use Rattle.std.proofs.Common.{◌∙◌, Bool, ◌&&◌, ap, sym}
use Rattle.std.specs.List.{list_any}
use Rattle.std.proofs.lemmas.Bool.{ltb-false, ltb-true}
use Rattle.nfs_locks.specs.AllLocks.{locks_in, locks_of}
use Rattle.nfs_locks.specs.Locks.{ByteLocks, holds_bytes, holds_under, is_under}
use Rattle.nfs_locks.specs.StoredLocks.{lock_seen}
use Rattle.nfs_locks.proofs.Elements.{any_seen}
use Rattle.nfs_locks.proofs.Files.{locks_at, no_locks_at}
use Rattle.nfs_locks.proofs.Indexed.{in_view}
use Rattle.nfs_locks.proofs.locks.Locks.holds_under.Goals as goal

pub returns-in-Some : goal.returns-in-Some
returns-in-Some c =
    let test : ByteLocks → Bool = λ l. is_under c.args.open_number l && holds_bytes l in
    let file = c.in-Some.file.now in
    c.holds_under.ensures
    ∙ any_seen lock_seen test file.states
    ∙ ap (list_any test) (sym (locks_at c.deref.result.now c.args.node file (ltb-true _ _ (sym c.in-Some.ensures.lookup.0)) c.in-Some.ensures.lookup.1))
    ∙ ap (λ locks. holds_under c.args.open_number (locks_of c.args.node locks)) (ap locks_in c.deref.ensures.value ∙ in_view c.self.inside.nodes.room c.self.inside.files.items c.args.self.now c.self.view_is)

pub returns-in-None : goal.returns-in-None
returns-in-None c =
    sym (ap (holds_under c.args.open_number)
    (ap (locks_of c.args.node) (sym (ap locks_in c.deref.ensures.value ∙ in_view c.self.inside.nodes.room c.self.inside.files.items c.args.self.now c.self.view_is))
    ∙ no_locks_at c.deref.result.now c.args.node (ltb-false _ _ (sym c.in-None.ensures.lookup.0))))
