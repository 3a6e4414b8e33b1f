use Rattle.std.proofs.Common.{refl, slice_set, ap, ◌∙◌, subst, sym, arith}
use Rattle.nfs_share.specs.AllOpens.{HasLendingRoomAt, HasRoomAt, with_delegations}
use Rattle.nfs_share.specs.Delegations.{is_delegation_numbered, without_lent}
use Rattle.nfs_share.specs.OpenNodes.{lent_number, open_number}
use Rattle.nfs_share.proofs.Indexed.{as_long, gone_at, keeps_within, lent_differs, lent_view, lent_within, opens_view, opens_within}
use Rattle.nfs_share.proofs.OneFile.{changed_at, rooms_grow, same_at}
use Rattle.nfs_nodes.specs.Numbers.{AreFound}
use Rattle.nfs_share.proofs.opens.Opens.give_back.Goals as goal

pub overflow_sub-self : goal.overflow_sub-self
overflow_sub-self c =
    (gone_at (λ f. f.delegations) lent_number is_delegation_numbered lent_differs c.args.number c.self.inside.files.items c.args.node c.index_mut.result.now c.give_back_in.new.file c.self.inside.lent_count c.give_back_in.result c.self.inside.lent c.self.inside.lent (omega (arith, c.if-at-len.true, c.len.ensures)) c.index_mut.ensures.value c.give_back_in.ensures.delegations c.give_back_in.ensures.gone (λ n m known differs. known) c.self.invariant.1).0

pub invariant_of-self : goal.invariant_of-self
invariant_of-self c = (
  subst (AreFound open_number c.self.inside.nodes c.self.inside.count) (sym (same_at (λ f. f.opens) c.self.inside.files.items c.args.node c.index_mut.result.now c.give_back_in.new.file (omega (arith, c.if-at-len.true, c.len.ensures)) c.index_mut.ensures.value c.give_back_in.ensures.opens)) c.self.invariant.0,
  (gone_at (λ f. f.delegations) lent_number is_delegation_numbered lent_differs c.args.number c.self.inside.files.items c.args.node c.index_mut.result.now c.give_back_in.new.file c.self.inside.lent_count c.give_back_in.result c.self.inside.lent c.remove.new.self (omega (arith, c.if-at-len.true, c.len.ensures)) c.index_mut.ensures.value c.give_back_in.ensures.delegations c.give_back_in.ensures.gone c.remove.ensures.nodes c.self.invariant.1).1,
)

pub returns-then-at-len-clause-delegations : goal.returns-then-at-len-clause-delegations
returns-then-at-len-clause-delegations c =
    lent_within _ _ _ ∙ changed_at (λ f. f.delegations) (without_lent (is_delegation_numbered c.args.number)) c.self.inside.files.items c.args.node c.index_mut.result.now c.give_back_in.new.file (omega (arith, c.if-at-len.true, c.len.ensures)) c.index_mut.ensures.value c.give_back_in.ensures.delegations ∙ ap (with_delegations c.args.node (without_lent (is_delegation_numbered c.args.number))) (lent_view c.self.inside.nodes.room c.self.inside.lent.room c.self.inside.files.items c.args.self.now c.self.view_is)

pub returns-then-at-len-clause-opens : goal.returns-then-at-len-clause-opens
returns-then-at-len-clause-opens c =
    opens_within _ _ _ ∙ same_at (λ f. f.opens) c.self.inside.files.items c.args.node c.index_mut.result.now c.give_back_in.new.file (omega (arith, c.if-at-len.true, c.len.ensures)) c.index_mut.ensures.value c.give_back_in.ensures.opens ∙ (opens_view c.self.inside.nodes.room c.self.inside.lent.room c.self.inside.files.items c.args.self.now c.self.view_is)

pub returns-then-at-len-clause-room : goal.returns-then-at-len-clause-room
returns-then-at-len-clause-room c at has =
    keeps_within (λ f. f.lending_room) c.self.inside.nodes.room c.self.inside.lent.room c.self.inside.lent.room c.self.inside.nodes.room c.remove.new.self.room c.remove.new.self.room (λ f. refl) (λ f. refl) (c.remove.ensures.room) c.self.inside.files.items (slice_set c.self.inside.files.items c.args.node c.give_back_in.new.file) at (as_long c.self.inside.files.items c.args.node c.give_back_in.new.file)
    (rooms_grow (λ f. f.lending_room) c.self.inside.files.items c.args.node c.index_mut.result.now c.give_back_in.new.file (omega (arith, c.if-at-len.true, c.len.ensures)) c.index_mut.ensures.value (c.give_back_in.ensures.room) at)
    (subst (HasLendingRoomAt at) (sym c.self.view_is) has)

pub returns-then-at-len-clause-opening : goal.returns-then-at-len-clause-opening
returns-then-at-len-clause-opening c at has =
    keeps_within (λ f. f.room) c.self.inside.nodes.room c.self.inside.lent.room c.self.inside.nodes.room c.self.inside.nodes.room c.remove.new.self.room c.self.inside.nodes.room (λ f. refl) (λ f. refl) (omega arith) c.self.inside.files.items (slice_set c.self.inside.files.items c.args.node c.give_back_in.new.file) at (as_long c.self.inside.files.items c.args.node c.give_back_in.new.file)
    (rooms_grow (λ f. f.room) c.self.inside.files.items c.args.node c.index_mut.result.now c.give_back_in.new.file (omega (arith, c.if-at-len.true, c.len.ensures)) c.index_mut.ensures.value (c.give_back_in.ensures.opening) at)
    (subst (HasRoomAt at) (sym c.self.view_is) has)
