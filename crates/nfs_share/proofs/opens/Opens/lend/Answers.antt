use Rattle.std.proofs.Common.{List, ◌+◌, ◌∷◌, [], ◌++◌, refl, slice_set, ap, ◌∙◌, subst, sym, arith}
use Rattle.nfs_share.specs.AllOpens.{HasLendingRoomAt, HasRoomAt, IsAboveAllLent, delegations_in, list_or_none, with_delegations}
use Rattle.nfs_share.specs.Delegations.{first_delegation}
use Rattle.nfs_share.specs.OpenNodes.{lent_number, open_number}
use Rattle.nfs_share.specs.declared.delegation.Delegation.{Delegation}
use Rattle.nfs_share.proofs.AllOpens.{as_many}
use Rattle.nfs_share.proofs.Indexed.{as_long, has_without, keeps_within, lent_view, lent_within, opens_view, opens_within}
use Rattle.nfs_share.proofs.OneFile.{changed_at, newest_lent_at, room_of, rooms_grow, same_at}
use Rattle.nfs_nodes.specs.Numbers.{AreFound}
use Rattle.nfs_nodes.proofs.Callers.{counts_more, found_more}
use Rattle.nfs_share.proofs.opens.Opens.lend.Goals as goal

pub lend-requires-clause-newest : goal.lend-requires-clause-newest
lend-requires-clause-newest c =
    newest_lent_at c.args.number c.self.inside.files.items c.args.node c.index_mut.result.now (omega (arith, c.if-at-len.true, c.len.ensures)) c.index_mut.ensures.value (subst (IsAboveAllLent c.args.number) (sym (lent_view c.self.inside.nodes.room c.self.inside.lent.room c.self.inside.files.items c.args.self.now c.self.view_is)) c.requires.newest)

pub lend-requires-clause-room : goal.lend-requires-clause-room
lend-requires-clause-room c =
    room_of (λ f. f.lending_room) c.self.inside.files.items c.args.node c.index_mut.result.now (omega (arith, c.if-at-len.true, c.len.ensures)) c.index_mut.ensures.value (has_without (λ f. f.lending_room) c.self.inside.nodes.room c.self.inside.lent.room c.self.inside.lent.room (λ f. refl) c.self.inside.files.items c.args.node (omega (arith, c.if-at-len.true, c.len.ensures)) (subst (HasLendingRoomAt c.args.node) (sym c.self.view_is) c.requires.room)).1

pub add-requires : goal.add-requires
add-requires c =
    (has_without (λ f. f.lending_room) c.self.inside.nodes.room c.self.inside.lent.room c.self.inside.lent.room (λ f. refl) c.self.inside.files.items c.args.node (omega (arith, c.if-at-len.true, c.len.ensures)) (subst (HasLendingRoomAt c.args.node) (sym c.self.view_is) c.requires.room)).0

pub overflow_add-self : goal.overflow_add-self
overflow_add-self c =
    omega (arith, counts_more lent_number c.self.inside.lent c.self.inside.lent_count (delegations_in c.self.inside.files.items) c.self.invariant.1)

pub invariant_of-self : goal.invariant_of-self
invariant_of-self c = (
  subst (AreFound open_number c.self.inside.nodes c.self.inside.count) (sym (same_at (λ f. f.opens) c.self.inside.files.items c.args.node c.index_mut.result.now c.lend.new.self (omega (arith, c.if-at-len.true, c.len.ensures)) c.index_mut.ensures.value c.lend.ensures.opens)) c.self.invariant.0,
  subst (AreFound lent_number c.add.new.self (c.self.inside.lent_count + 1)) (sym (changed_at (λ f. f.delegations) (λ (all : List Delegation). all ++ first_delegation c.args.client c.args.kind c.args.number ∷ []) c.self.inside.files.items c.args.node c.index_mut.result.now c.lend.new.self (omega (arith, c.if-at-len.true, c.len.ensures)) c.index_mut.ensures.value c.lend.ensures.delegations))
      (found_more lent_number list_or_none (λ xs. refl) c.args.node c.self.inside.lent_count (delegations_in c.self.inside.files.items) c.self.inside.lent c.add.new.self (first_delegation c.args.client c.args.kind c.args.number) c.add.ensures (omega (arith, c.ranges.number.fits))
      (omega (arith, as_many (λ f. f.delegations) c.self.inside.files.items, c.if-at-len.true, c.len.ensures)) (subst (IsAboveAllLent c.args.number) (sym (lent_view c.self.inside.nodes.room c.self.inside.lent.room c.self.inside.files.items c.args.self.now c.self.view_is)) c.requires.newest) c.self.invariant.1),
)

pub returns-then-at-len-clause-delegations : goal.returns-then-at-len-clause-delegations
returns-then-at-len-clause-delegations c =
    lent_within _ _ _ ∙ changed_at (λ f. f.delegations) (λ (all : List Delegation). all ++ first_delegation c.args.client c.args.kind c.args.number ∷ []) c.self.inside.files.items c.args.node c.index_mut.result.now c.lend.new.self (omega (arith, c.if-at-len.true, c.len.ensures)) c.index_mut.ensures.value c.lend.ensures.delegations ∙ ap (with_delegations c.args.node (λ (all : List Delegation). all ++ first_delegation c.args.client c.args.kind c.args.number ∷ [])) (lent_view c.self.inside.nodes.room c.self.inside.lent.room c.self.inside.files.items c.args.self.now c.self.view_is)

pub returns-then-at-len-clause-opens : goal.returns-then-at-len-clause-opens
returns-then-at-len-clause-opens c =
    opens_within _ _ _ ∙ same_at (λ f. f.opens) c.self.inside.files.items c.args.node c.index_mut.result.now c.lend.new.self (omega (arith, c.if-at-len.true, c.len.ensures)) c.index_mut.ensures.value c.lend.ensures.opens ∙ (opens_view c.self.inside.nodes.room c.self.inside.lent.room c.self.inside.files.items c.args.self.now c.self.view_is)

pub returns-then-at-len-clause-opening : goal.returns-then-at-len-clause-opening
returns-then-at-len-clause-opening c at has =
    keeps_within (λ f. f.room) c.self.inside.nodes.room c.self.inside.lent.room c.self.inside.nodes.room c.self.inside.nodes.room c.add.new.self.room c.self.inside.nodes.room (λ f. refl) (λ f. refl) (omega arith) c.self.inside.files.items (slice_set c.self.inside.files.items c.args.node c.lend.new.self) at (as_long c.self.inside.files.items c.args.node c.lend.new.self)
    (rooms_grow (λ f. f.room) c.self.inside.files.items c.args.node c.index_mut.result.now c.lend.new.self (omega (arith, c.if-at-len.true, c.len.ensures)) c.index_mut.ensures.value (c.lend.ensures.opening) at)
    (subst (HasRoomAt at) (sym c.self.view_is) has)
