use Rattle.std.proofs.Common.{List, map, refl, slice_set, ◌∙◌, subst, sym, arith}
use Rattle.std.proofs.lemmas.Bool.{false≢true}
use Rattle.nfs_share.specs.AllOpens.{HasLendingRoomAt, HasRoomAt, delegations_in}
use Rattle.nfs_share.specs.OpenNodes.{lent_number, open_number}
use Rattle.nfs_share.specs.Opens.{FileOpens}
use Rattle.nfs_share.proofs.Indexed.{as_long, has_within, has_without, keeps_within, lent_view, lent_within, opens_view, opens_within}
use Rattle.nfs_share.proofs.OneFile.{no_room_at, room_at, room_of, rooms_grow, same_at}
use Rattle.nfs_nodes.specs.Numbers.{AreFound, StandFrom}
use Rattle.std.proofs.lemmas.List.{length-map}
use Rattle.nfs_share.specs.OpenNodes.{within_rooms}
use Rattle.nfs_share.proofs.opens.Opens.reserve_delegation.Goals as goal

pub returns-in_err-reserve_number-clause-opens : goal.returns-in_err-reserve_number-clause-opens
returns-in_err-reserve_number-clause-opens c =
    opens_within _ _ _ ∙ (opens_view c.self.inside.nodes.room c.self.inside.lent.room c.self.inside.files.items c.args.self.now c.self.view_is)

pub returns-in_err-reserve_number-clause-delegations : goal.returns-in_err-reserve_number-clause-delegations
returns-in_err-reserve_number-clause-delegations c =
    lent_within _ _ _ ∙ (lent_view c.self.inside.nodes.room c.self.inside.lent.room c.self.inside.files.items c.args.self.now c.self.view_is)

pub returns-in_err-reserve_number-clause-ready : goal.returns-in_err-reserve_number-clause-ready
returns-in_err-reserve_number-clause-ready c =
    λ room. absurd (false≢true (c.in_err-reserve_number.ensures.ready (has_without (λ f. f.lending_room) c.self.inside.nodes.room c.self.inside.lent.room c.self.inside.lent.room (λ f. refl) c.self.inside.files.items c.args.node (omega (arith, c.if-node-len.true, c.len.ensures)) (subst (HasLendingRoomAt c.args.node) (sym c.self.view_is) room)).0))

pub returns-in_err-reserve_number-clause-others : goal.returns-in_err-reserve_number-clause-others
returns-in_err-reserve_number-clause-others c at has =
    keeps_within (λ f. f.lending_room) c.self.inside.nodes.room c.self.inside.lent.room c.self.inside.lent.room c.self.inside.nodes.room c.reserve_number.new.nodes.room c.reserve_number.new.nodes.room (λ f. refl) (λ f. refl) c.reserve_number.ensures.grows c.self.inside.files.items c.self.inside.files.items at refl (λ h. h) (subst (HasLendingRoomAt at) (sym c.self.view_is) has)

pub returns-in_err-reserve_number-clause-opening : goal.returns-in_err-reserve_number-clause-opening
returns-in_err-reserve_number-clause-opening c at has =
    keeps_within (λ f. f.room) c.self.inside.nodes.room c.self.inside.lent.room c.self.inside.nodes.room c.self.inside.nodes.room c.reserve_number.new.nodes.room c.self.inside.nodes.room (λ f. refl) (λ f. refl) (omega arith) c.self.inside.files.items c.self.inside.files.items at refl (λ h. h) (subst (HasRoomAt at) (sym c.self.view_is) has)

pub returns-in_err-reserve_delegation-clause-opens : goal.returns-in_err-reserve_delegation-clause-opens
returns-in_err-reserve_delegation-clause-opens c =
    opens_within _ _ _ ∙ same_at (λ f. f.opens) c.self.inside.files.items c.args.node c.index_mut.result.now c.reserve_delegation.new.self (omega (arith, c.if-node-len.true, c.len.ensures)) c.index_mut.ensures.value c.reserve_delegation.ensures.opens ∙ (opens_view c.self.inside.nodes.room c.self.inside.lent.room c.self.inside.files.items c.args.self.now c.self.view_is)

pub returns-in_err-reserve_delegation-clause-delegations : goal.returns-in_err-reserve_delegation-clause-delegations
returns-in_err-reserve_delegation-clause-delegations c =
    lent_within _ _ _ ∙ same_at (λ f. f.delegations) c.self.inside.files.items c.args.node c.index_mut.result.now c.reserve_delegation.new.self (omega (arith, c.if-node-len.true, c.len.ensures)) c.index_mut.ensures.value c.reserve_delegation.ensures.delegations ∙ (lent_view c.self.inside.nodes.room c.self.inside.lent.room c.self.inside.files.items c.args.self.now c.self.view_is)

pub returns-in_err-reserve_delegation-clause-others : goal.returns-in_err-reserve_delegation-clause-others
returns-in_err-reserve_delegation-clause-others c at has =
    keeps_within (λ f. f.lending_room) c.self.inside.nodes.room c.self.inside.lent.room c.self.inside.lent.room c.self.inside.nodes.room c.reserve_number.new.nodes.room c.reserve_number.new.nodes.room (λ f. refl) (λ f. refl) (c.reserve_number.ensures.grows) c.self.inside.files.items (slice_set c.self.inside.files.items c.args.node c.reserve_delegation.new.self) at (as_long c.self.inside.files.items c.args.node c.reserve_delegation.new.self)
    (rooms_grow (λ f. f.lending_room) c.self.inside.files.items c.args.node c.index_mut.result.now c.reserve_delegation.new.self (omega (arith, c.if-node-len.true, c.len.ensures)) c.index_mut.ensures.value (c.reserve_delegation.ensures.grows) at)
    (subst (HasLendingRoomAt at) (sym c.self.view_is) has)

pub returns-in_err-reserve_delegation-clause-opening : goal.returns-in_err-reserve_delegation-clause-opening
returns-in_err-reserve_delegation-clause-opening c at has =
    keeps_within (λ f. f.room) c.self.inside.nodes.room c.self.inside.lent.room c.self.inside.nodes.room c.self.inside.nodes.room c.reserve_number.new.nodes.room c.self.inside.nodes.room (λ f. refl) (λ f. refl) (omega arith) c.self.inside.files.items (slice_set c.self.inside.files.items c.args.node c.reserve_delegation.new.self) at (as_long c.self.inside.files.items c.args.node c.reserve_delegation.new.self)
    (rooms_grow (λ f. f.room) c.self.inside.files.items c.args.node c.index_mut.result.now c.reserve_delegation.new.self (omega (arith, c.if-node-len.true, c.len.ensures)) c.index_mut.ensures.value (c.reserve_delegation.ensures.opening) at)
    (subst (HasRoomAt at) (sym c.self.view_is) has)

pub returns-in_ok-reserve_delegation-clause-opens : goal.returns-in_ok-reserve_delegation-clause-opens
returns-in_ok-reserve_delegation-clause-opens c =
    opens_within _ _ _ ∙ same_at (λ f. f.opens) c.self.inside.files.items c.args.node c.index_mut.result.now c.reserve_delegation.new.self (omega (arith, c.if-node-len.true, c.len.ensures)) c.index_mut.ensures.value c.reserve_delegation.ensures.opens ∙ (opens_view c.self.inside.nodes.room c.self.inside.lent.room c.self.inside.files.items c.args.self.now c.self.view_is)

pub returns-in_ok-reserve_delegation-clause-delegations : goal.returns-in_ok-reserve_delegation-clause-delegations
returns-in_ok-reserve_delegation-clause-delegations c =
    lent_within _ _ _ ∙ same_at (λ f. f.delegations) c.self.inside.files.items c.args.node c.index_mut.result.now c.reserve_delegation.new.self (omega (arith, c.if-node-len.true, c.len.ensures)) c.index_mut.ensures.value c.reserve_delegation.ensures.delegations ∙ (lent_view c.self.inside.nodes.room c.self.inside.lent.room c.self.inside.files.items c.args.self.now c.self.view_is)

pub returns-in_ok-reserve_delegation-clause-others : goal.returns-in_ok-reserve_delegation-clause-others
returns-in_ok-reserve_delegation-clause-others c at has =
    keeps_within (λ f. f.lending_room) c.self.inside.nodes.room c.self.inside.lent.room c.self.inside.lent.room c.self.inside.nodes.room c.reserve_number.new.nodes.room c.reserve_number.new.nodes.room (λ f. refl) (λ f. refl) (c.reserve_number.ensures.grows) c.self.inside.files.items (slice_set c.self.inside.files.items c.args.node c.reserve_delegation.new.self) at (as_long c.self.inside.files.items c.args.node c.reserve_delegation.new.self)
    (rooms_grow (λ f. f.lending_room) c.self.inside.files.items c.args.node c.index_mut.result.now c.reserve_delegation.new.self (omega (arith, c.if-node-len.true, c.len.ensures)) c.index_mut.ensures.value (c.reserve_delegation.ensures.grows) at)
    (subst (HasLendingRoomAt at) (sym c.self.view_is) has)

pub returns-in_ok-reserve_delegation-clause-opening : goal.returns-in_ok-reserve_delegation-clause-opening
returns-in_ok-reserve_delegation-clause-opening c at has =
    keeps_within (λ f. f.room) c.self.inside.nodes.room c.self.inside.lent.room c.self.inside.nodes.room c.self.inside.nodes.room c.reserve_number.new.nodes.room c.self.inside.nodes.room (λ f. refl) (λ f. refl) (omega arith) c.self.inside.files.items (slice_set c.self.inside.files.items c.args.node c.reserve_delegation.new.self) at (as_long c.self.inside.files.items c.args.node c.reserve_delegation.new.self)
    (rooms_grow (λ f. f.room) c.self.inside.files.items c.args.node c.index_mut.result.now c.reserve_delegation.new.self (omega (arith, c.if-node-len.true, c.len.ensures)) c.index_mut.ensures.value (c.reserve_delegation.ensures.opening) at)
    (subst (HasRoomAt at) (sym c.self.view_is) has)

pub returns-in_err-reserve_delegation-clause-ready : goal.returns-in_err-reserve_delegation-clause-ready
returns-in_err-reserve_delegation-clause-ready c =
    λ room. absurd (false≢true (c.in_err-reserve_delegation.ensures.ready (room_of (λ f. f.lending_room) c.self.inside.files.items c.args.node c.index_mut.result.now (omega (arith, c.if-node-len.true, c.len.ensures)) c.index_mut.ensures.value (has_without (λ f. f.lending_room) c.self.inside.nodes.room c.self.inside.lent.room c.self.inside.lent.room (λ f. refl) c.self.inside.files.items c.args.node (omega (arith, c.if-node-len.true, c.len.ensures)) (subst (HasLendingRoomAt c.args.node) (sym c.self.view_is) room)).1)))

pub returns-in_ok-reserve_delegation-clause-room : goal.returns-in_ok-reserve_delegation-clause-room
returns-in_ok-reserve_delegation-clause-room c =
    has_within (λ f. f.lending_room) c.self.inside.nodes.room c.reserve_number.new.nodes.room c.reserve_number.new.nodes.room (λ f. refl) c.in_ok-reserve_number.ensures.room (slice_set c.self.inside.files.items c.args.node c.reserve_delegation.new.self) c.args.node (room_at (λ f. f.lending_room) c.self.inside.files.items c.args.node c.reserve_delegation.new.self (omega (arith, c.if-node-len.true, c.len.ensures)) c.in_ok-reserve_delegation.ensures.room)

pub returns-else-node-len-clause-room : goal.returns-else-node-len-clause-room
returns-else-node-len-clause-room c =
    subst (HasLendingRoomAt c.args.node) c.self.view_is (no_room_at (λ f. f.lending_room) (map (within_rooms c.self.inside.nodes.room c.self.inside.lent.room) c.self.inside.files.items) c.args.node (omega (arith, c.if-node-len.false, c.len.ensures, length-map c.self.inside.files.items (within_rooms c.self.inside.nodes.room c.self.inside.lent.room))))

pub invariant_of-self-in-Continue-branch-2 : goal.invariant_of-self-in-Continue-branch-2
invariant_of-self-in-Continue-branch-2 c = (
  subst (AreFound open_number c.self.inside.nodes c.self.inside.count) (sym (same_at (λ f. f.opens) c.self.inside.files.items c.args.node c.index_mut.result.now c.reserve_delegation.new.self (omega (arith, c.if-node-len.true, c.len.ensures)) c.index_mut.ensures.value c.reserve_delegation.ensures.opens)) c.self.invariant.0,
  subst (AreFound lent_number c.reserve_number.new.nodes c.self.inside.lent_count) (sym (same_at (λ f. f.delegations) c.self.inside.files.items c.args.node c.index_mut.result.now c.reserve_delegation.new.self (omega (arith, c.if-node-len.true, c.len.ensures)) c.index_mut.ensures.value c.reserve_delegation.ensures.delegations))
      (record { stand = subst (λ (files : List FileOpens). StandFrom lent_number c.reserve_number.new.nodes 0 (delegations_in files)) c.deref.ensures.value c.reserve_number.ensures.stand; counted = c.self.invariant.1.counted; few = c.self.invariant.1.few }),
)

pub invariant_of-self-in_err-reserve_delegation : goal.invariant_of-self-in_err-reserve_delegation
invariant_of-self-in_err-reserve_delegation c = (
  subst (AreFound open_number c.self.inside.nodes c.self.inside.count) (sym (same_at (λ f. f.opens) c.self.inside.files.items c.args.node c.index_mut.result.now c.reserve_delegation.new.self (omega (arith, c.if-node-len.true, c.len.ensures)) c.index_mut.ensures.value c.reserve_delegation.ensures.opens)) c.self.invariant.0,
  subst (AreFound lent_number c.reserve_number.new.nodes c.self.inside.lent_count) (sym (same_at (λ f. f.delegations) c.self.inside.files.items c.args.node c.index_mut.result.now c.reserve_delegation.new.self (omega (arith, c.if-node-len.true, c.len.ensures)) c.index_mut.ensures.value c.reserve_delegation.ensures.delegations))
      (record { stand = subst (λ (files : List FileOpens). StandFrom lent_number c.reserve_number.new.nodes 0 (delegations_in files)) c.deref.ensures.value c.reserve_number.ensures.stand; counted = c.self.invariant.1.counted; few = c.self.invariant.1.few }),
)
