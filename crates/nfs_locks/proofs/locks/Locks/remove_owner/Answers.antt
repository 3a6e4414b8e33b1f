use Rattle.std.specs.List.{AllByRecursion}
use Rattle.std.proofs.Common.{◌≡◌, ◌-◌, map, refl, sym, ap, subst, ◌∙◌}
use Rattle.std.specs.Prelude.{not}
use Rattle.nfs_locks.specs.AllLocks.{lock_count, locks_in, locks_or_none}
use Rattle.nfs_locks.specs.LockNodes.{number_of}
use Rattle.nfs_locks.specs.Locks.{is_lock_of, without}
use Rattle.nfs_locks.proofs.Indexed.{all_counted_again, in_view, seen_within}
use Rattle.nfs_nodes.specs.Numbers.{AreFound}
use Rattle.nfs_nodes.proofs.Callers.{found_fewer}
use Rattle.nfs_locks.proofs.Named.{hashed}
use Rattle.nfs_locks.proofs.locks.Locks.remove_owner.Goals as goal

pub invariant_of-self : goal.invariant_of-self
invariant_of-self c =
    let count = c.self.inside.count in
    let locks = locks_in c.self.inside.files.items in
    let left = count - c.places_left.result in (
      subst (AreFound number_of c.self.inside.nodes left) (sym c.remove_owner_each.ensures.locks)
          (found_fewer number_of locks_or_none (λ xs. refl) 0 count locks c.self.inside.nodes (λ l. not (is_lock_of c.args.owner.now l)) left
          (all_counted_again (λ l. not (is_lock_of c.args.owner.now l)) count c.places_left.result left locks c.self.invariant.0.counted
          (c.places_left.ensures ∙ ap (λ files. count - lock_count (locks_in files)) c.deref.ensures.value ∙ ap (λ l. count - lock_count l) c.remove_owner_each.ensures.locks) refl)
          c.self.invariant.0),
      subst (AllByRecursion (λ n. n ≡ c.self.inside.names)) (sym c.remove_owner_each.ensures.names) c.self.invariant.1,
    )

pub returns : goal.returns
returns c =
    seen_within _ _
    ∙ c.remove_owner_each.ensures.locks
    ∙ ap (map (without (is_lock_of c.args.owner.now))) (in_view c.self.inside.nodes.room c.self.inside.files.items c.args.self.now c.self.view_is)

pub remove_owner_each-requires : goal.remove_owner_each-requires
remove_owner_each-requires c = hashed c.self.inside.names c.owner_hash-hash.result c.args.owner.now c.self.inside.files.items c.owner_hash-hash.ensures c.self.invariant.1
