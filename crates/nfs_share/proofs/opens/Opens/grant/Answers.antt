use Rattle.std.proofs.Common.{◌+◌, ◌∷◌, [], ◌++◌, refl, slice_set, ap, ◌∙◌, subst, sym, arith}
use Rattle.std.specs.Prelude.{is_some, if◌then◌else◌}
use Rattle.nfs_share.specs.AllOpens.{HasLendingRoomAt, HasRoomAt, IsNewestAt, list_or_none, opens_in, with_opens}
use Rattle.nfs_share.specs.OpenNodes.{lent_number, open_number}
use Rattle.nfs_share.specs.Opens.{after_open, first_open, is_of, open_of, with_each, with_opening}
use Rattle.nfs_share.proofs.AllOpens.{as_many}
use Rattle.nfs_share.proofs.Indexed.{as_long, has_without, joins, keeps_within, lent_view, lent_within, list_at_there, makes, makes_none, opens_view, opens_within, same_numbers}
use Rattle.nfs_share.proofs.OneFile.{changed_at, newest_at, room_of, rooms_grow, same_at}
use Rattle.nfs_nodes.specs.Numbers.{AreFound}
use Rattle.nfs_nodes.proofs.Callers.{counts_more, found_changed, found_more}
use Rattle.nfs_share.proofs.opens.Opens.grant.Goals as goal

pub grant_in-is_new-requires-clause-newest : goal.grant_in-is_new-requires-clause-newest
grant_in-is_new-requires-clause-newest c =
    newest_at c.args.owner c.args.number c.self.inside.files.items c.args.node c.index_mut.result.now (omega (arith, c.if-at-len.true, c.len.ensures)) c.index_mut.ensures.value (subst (λ opens. IsNewestAt c.args.node c.args.owner c.args.number opens) (sym (opens_view c.self.inside.nodes.room c.self.inside.lent.room c.self.inside.files.items c.args.self.now c.self.view_is)) c.requires.newest)

pub grant_in-is_new-requires-clause-room : goal.grant_in-is_new-requires-clause-room
grant_in-is_new-requires-clause-room c =
    room_of (λ f. f.room) c.self.inside.files.items c.args.node c.index_mut.result.now (omega (arith, c.if-at-len.true, c.len.ensures)) c.index_mut.ensures.value (has_without (λ f. f.room) c.self.inside.nodes.room c.self.inside.lent.room c.self.inside.nodes.room (λ f. refl) c.self.inside.files.items c.args.node (omega (arith, c.if-at-len.true, c.len.ensures)) (subst (HasRoomAt c.args.node) (sym c.self.view_is) c.requires.room)).1

pub add-requires : goal.add-requires
add-requires c =
    (has_without (λ f. f.room) c.self.inside.nodes.room c.self.inside.lent.room c.self.inside.nodes.room (λ f. refl) c.self.inside.files.items c.args.node (omega (arith, c.if-at-len.true, c.len.ensures)) (subst (HasRoomAt c.args.node) (sym c.self.view_is) c.requires.room)).0

pub overflow_add-self : goal.overflow_add-self
overflow_add-self c =
    omega (arith, counts_more open_number c.self.inside.nodes c.self.inside.count (opens_in c.self.inside.files.items) c.self.invariant.0)

pub invariant_of-self : goal.invariant_of-self
invariant_of-self c = (
  subst (AreFound open_number c.add.new.self (c.self.inside.count + 1)) (sym (changed_at (λ f. f.opens) (λ opens. opens ++ first_open c.args.owner c.args.share c.args.number ∷ []) c.self.inside.files.items c.args.node c.index_mut.result.now c.grant_in-is_new.new.file (omega (arith, c.if-at-len.true, c.len.ensures)) c.index_mut.ensures.value (c.grant_in-is_new.ensures.opens ∙ makes c.args.owner c.args.share c.args.number c.index_mut.result.now.opens (sym c.grant_in-is_new.ensures.made ∙ c.if-is_new.true))))
      (found_more open_number list_or_none (λ xs. refl) c.args.node c.self.inside.count (opens_in c.self.inside.files.items) c.self.inside.nodes c.add.new.self (first_open c.args.owner c.args.share c.args.number) c.add.ensures (omega (arith, c.ranges.number.fits))
      (omega (arith, as_many (λ f. f.opens) c.self.inside.files.items, c.if-at-len.true, c.len.ensures)) ((subst (λ opens. IsNewestAt c.args.node c.args.owner c.args.number opens) (sym (opens_view c.self.inside.nodes.room c.self.inside.lent.room c.self.inside.files.items c.args.self.now c.self.view_is)) c.requires.newest) (ap (λ opens. is_some (open_of c.args.owner opens)) (list_at_there (λ f. f.opens) c.self.inside.files.items c.args.node c.index_mut.result.now (omega (arith, c.if-at-len.true, c.len.ensures)) c.index_mut.ensures.value) ∙ makes_none c.args.owner c.index_mut.result.now.opens (sym c.grant_in-is_new.ensures.made ∙ c.if-is_new.true))) c.self.invariant.0),
  subst (AreFound lent_number c.self.inside.lent c.self.inside.lent_count) (sym (same_at (λ f. f.delegations) c.self.inside.files.items c.args.node c.index_mut.result.now c.grant_in-is_new.new.file (omega (arith, c.if-at-len.true, c.len.ensures)) c.index_mut.ensures.value c.grant_in-is_new.ensures.delegations)) c.self.invariant.1,
)

pub invariant_of-self-else-is_new : goal.invariant_of-self-else-is_new
invariant_of-self-else-is_new c = (
  subst (AreFound open_number c.self.inside.nodes c.self.inside.count) (sym (changed_at (λ f. f.opens) (with_each (is_of c.args.owner) (after_open c.args.share)) c.self.inside.files.items c.args.node c.index_mut.result.now c.grant_in-is_new.new.file (omega (arith, c.if-at-len.true, c.len.ensures)) c.index_mut.ensures.value (c.grant_in-is_new.ensures.opens ∙ joins c.args.owner c.args.share c.args.number c.index_mut.result.now.opens (sym c.grant_in-is_new.ensures.made ∙ c.if-is_new.false))))
      (found_changed open_number list_or_none (λ xs. refl) c.args.node c.self.inside.count (opens_in c.self.inside.files.items) c.self.inside.nodes (λ o. if is_of c.args.owner o then after_open c.args.share o else o) (same_numbers open_number (is_of c.args.owner) (after_open c.args.share) (λ o. refl)) c.self.invariant.0),
  subst (AreFound lent_number c.self.inside.lent c.self.inside.lent_count) (sym (same_at (λ f. f.delegations) c.self.inside.files.items c.args.node c.index_mut.result.now c.grant_in-is_new.new.file (omega (arith, c.if-at-len.true, c.len.ensures)) c.index_mut.ensures.value c.grant_in-is_new.ensures.delegations)) c.self.invariant.1,
)

pub returns-then-is_new-clause-opens : goal.returns-then-is_new-clause-opens
returns-then-is_new-clause-opens c =
    opens_within _ _ _ ∙ changed_at (λ f. f.opens) (with_opening c.args.owner c.args.share c.args.number) c.self.inside.files.items c.args.node c.index_mut.result.now c.grant_in-is_new.new.file (omega (arith, c.if-at-len.true, c.len.ensures)) c.index_mut.ensures.value c.grant_in-is_new.ensures.opens ∙ ap (with_opens c.args.node (with_opening c.args.owner c.args.share c.args.number)) (opens_view c.self.inside.nodes.room c.self.inside.lent.room c.self.inside.files.items c.args.self.now c.self.view_is)

pub returns-else-is_new-clause-opens : goal.returns-else-is_new-clause-opens
returns-else-is_new-clause-opens c =
    opens_within _ _ _ ∙ changed_at (λ f. f.opens) (with_opening c.args.owner c.args.share c.args.number) c.self.inside.files.items c.args.node c.index_mut.result.now c.grant_in-is_new.new.file (omega (arith, c.if-at-len.true, c.len.ensures)) c.index_mut.ensures.value c.grant_in-is_new.ensures.opens ∙ ap (with_opens c.args.node (with_opening c.args.owner c.args.share c.args.number)) (opens_view c.self.inside.nodes.room c.self.inside.lent.room c.self.inside.files.items c.args.self.now c.self.view_is)

pub returns-then-is_new-clause-delegations : goal.returns-then-is_new-clause-delegations
returns-then-is_new-clause-delegations c =
    lent_within _ _ _ ∙ same_at (λ f. f.delegations) c.self.inside.files.items c.args.node c.index_mut.result.now c.grant_in-is_new.new.file (omega (arith, c.if-at-len.true, c.len.ensures)) c.index_mut.ensures.value c.grant_in-is_new.ensures.delegations ∙ (lent_view c.self.inside.nodes.room c.self.inside.lent.room c.self.inside.files.items c.args.self.now c.self.view_is)

pub returns-else-is_new-clause-delegations : goal.returns-else-is_new-clause-delegations
returns-else-is_new-clause-delegations c =
    lent_within _ _ _ ∙ same_at (λ f. f.delegations) c.self.inside.files.items c.args.node c.index_mut.result.now c.grant_in-is_new.new.file (omega (arith, c.if-at-len.true, c.len.ensures)) c.index_mut.ensures.value c.grant_in-is_new.ensures.delegations ∙ (lent_view c.self.inside.nodes.room c.self.inside.lent.room c.self.inside.files.items c.args.self.now c.self.view_is)

pub returns-then-is_new-clause-lending : goal.returns-then-is_new-clause-lending
returns-then-is_new-clause-lending c at has =
    keeps_within (λ f. f.lending_room) c.self.inside.nodes.room c.self.inside.lent.room c.self.inside.lent.room c.add.new.self.room c.self.inside.lent.room c.self.inside.lent.room (λ f. refl) (λ f. refl) (omega arith) c.self.inside.files.items (slice_set c.self.inside.files.items c.args.node c.grant_in-is_new.new.file) at (as_long c.self.inside.files.items c.args.node c.grant_in-is_new.new.file)
    (rooms_grow (λ f. f.lending_room) c.self.inside.files.items c.args.node c.index_mut.result.now c.grant_in-is_new.new.file (omega (arith, c.if-at-len.true, c.len.ensures)) c.index_mut.ensures.value (c.grant_in-is_new.ensures.lending) at)
    (subst (HasLendingRoomAt at) (sym c.self.view_is) has)

pub returns-else-is_new-clause-lending : goal.returns-else-is_new-clause-lending
returns-else-is_new-clause-lending c at has =
    keeps_within (λ f. f.lending_room) c.self.inside.nodes.room c.self.inside.lent.room c.self.inside.lent.room c.self.inside.nodes.room c.self.inside.lent.room c.self.inside.lent.room (λ f. refl) (λ f. refl) (omega arith) c.self.inside.files.items (slice_set c.self.inside.files.items c.args.node c.grant_in-is_new.new.file) at (as_long c.self.inside.files.items c.args.node c.grant_in-is_new.new.file)
    (rooms_grow (λ f. f.lending_room) c.self.inside.files.items c.args.node c.index_mut.result.now c.grant_in-is_new.new.file (omega (arith, c.if-at-len.true, c.len.ensures)) c.index_mut.ensures.value (c.grant_in-is_new.ensures.lending) at)
    (subst (HasLendingRoomAt at) (sym c.self.view_is) has)
