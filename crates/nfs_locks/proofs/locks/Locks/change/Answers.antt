use Rattle.std.specs.List.{AllByRecursion}
use Rattle.std.proofs.Common.{◌≡◌, refl, ap, ◌∙◌, arith, subst, sym, if◌then◌else◌}
use Rattle.nfs_locks.specs.AllLocks.{is_full_for, locks_in, locks_of, locks_or_none, with_locks}
use Rattle.nfs_locks.specs.LockNodes.{number_of}
use Rattle.nfs_locks.specs.Locks.{after_change, is_numbered, with_lock_change}
use Rattle.nfs_locks.proofs.Files.{changed_at, locks_at}
use Rattle.nfs_locks.proofs.Indexed.{in_view, same_number, seen_within}
use Rattle.nfs_nodes.specs.Numbers.{AreFound}
use Rattle.nfs_nodes.proofs.Callers.{found_changed}
use Rattle.nfs_locks.proofs.Named.{names_at}
use Rattle.nfs_locks.proofs.locks.Locks.change.Goals as goal

pub returns-then-node-len : goal.returns-then-node-len
returns-then-node-len c =
    let change = with_lock_change c.args.number c.args.change in
    seen_within _ _
    ∙ changed_at change c.self.inside.files.items c.args.node c.index_mut.result.now c.change.new.self (omega (arith, c.if-node-len.true, c.len.ensures)) c.index_mut.ensures.value c.change.ensures.states
    ∙ ap (with_locks c.args.node change) (in_view c.self.inside.nodes.room c.self.inside.files.items c.args.self.now c.self.view_is)

pub change-requires-clause-place : goal.change-requires-clause-place
change-requires-clause-place c =
    let full = is_full_for c.args.number c.args.change in
    ap full (sym (locks_at c.self.inside.files.items c.args.node c.index_mut.result.now (omega (arith, c.if-node-len.true, c.len.ensures)) c.index_mut.ensures.value))
    ∙ ap (λ locks. full (locks_of c.args.node locks)) (in_view c.self.inside.nodes.room c.self.inside.files.items c.args.self.now c.self.view_is)
    ∙ c.requires.place

pub invariant_of-self : goal.invariant_of-self
invariant_of-self c =
    let files = c.self.inside.files.items in (
      subst (AreFound number_of c.self.inside.nodes c.self.inside.count)
          (sym (changed_at (with_lock_change c.args.number c.args.change) files c.args.node c.index_mut.result.now c.change.new.self (omega (arith, c.if-node-len.true, c.len.ensures)) c.index_mut.ensures.value c.change.ensures.states))
          (found_changed number_of locks_or_none (λ xs. refl) c.args.node c.self.inside.count (locks_in files) c.self.inside.nodes
          (λ l. if is_numbered c.args.number l then after_change c.args.change l else l) (same_number c.args.number c.args.change) c.self.invariant.0),
      subst (AllByRecursion (λ n. n ≡ c.self.inside.names)) (sym (names_at c.self.inside.files.items c.args.node c.index_mut.result.now c.change.new.self (omega (arith, c.if-node-len.true, c.len.ensures)) c.index_mut.ensures.value c.change.ensures.names)) c.self.invariant.1,
    )
