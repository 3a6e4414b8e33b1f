use Rattle.std.proofs.Common.{◌≡◌, ap, ◌∙◌, arith, subst, sym}
use Rattle.std.specs.List.{AllByRecursion}
use Rattle.std.specs.Prelude.{not}
use Rattle.nfs_locks.specs.AllLocks.{with_locks}
use Rattle.nfs_locks.specs.Locks.{is_under, without}
use Rattle.nfs_locks.proofs.Files.{changed_at}
use Rattle.nfs_locks.proofs.Indexed.{gone_at, in_view, seen_within}
use Rattle.nfs_locks.proofs.Named.{names_at}
use Rattle.nfs_locks.proofs.locks.Locks.close.Goals as goal

pub overflow_sub-self : goal.overflow_sub-self
overflow_sub-self c =
    (gone_at (λ l. not (is_under c.args.open_number l)) c.self.inside.files.items c.args.node c.index_mut.result.now c.close_in.new.file c.self.inside.count c.close_in.result c.self.inside.nodes
    (omega (arith, c.if-node-len.true, c.len.ensures)) c.index_mut.ensures.value c.close_in.ensures.locks c.close_in.ensures.gone c.self.invariant.0).0

pub invariant_of-self : goal.invariant_of-self
invariant_of-self c = (
  (gone_at (λ l. not (is_under c.args.open_number l)) c.self.inside.files.items c.args.node c.index_mut.result.now c.close_in.new.file c.self.inside.count c.close_in.result c.self.inside.nodes
      (omega (arith, c.if-node-len.true, c.len.ensures)) c.index_mut.ensures.value c.close_in.ensures.locks c.close_in.ensures.gone c.self.invariant.0).1,
  subst (AllByRecursion (λ n. n ≡ c.self.inside.names)) (sym (names_at c.self.inside.files.items c.args.node c.index_mut.result.now c.close_in.new.file (omega (arith, c.if-node-len.true, c.len.ensures)) c.index_mut.ensures.value c.close_in.ensures.names)) c.self.invariant.1,
)

pub returns-then-node-len : goal.returns-then-node-len
returns-then-node-len c =
    let change = without (is_under c.args.open_number) in
    seen_within _ _
    ∙ changed_at change c.self.inside.files.items c.args.node c.index_mut.result.now c.close_in.new.file (omega (arith, c.if-node-len.true, c.len.ensures)) c.index_mut.ensures.value c.close_in.ensures.locks
    ∙ ap (with_locks c.args.node change) (in_view c.self.inside.nodes.room c.self.inside.files.items c.args.self.now c.self.view_is)
