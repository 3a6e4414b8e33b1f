use Rattle.std.proofs.Common.{List, ◌-◌, length, map, refl, ap, ◌∙◌, subst, sym, arith}
use Rattle.std.specs.Prelude.{not}
use Rattle.nfs_share.specs.AllOpens.{HasLendingRoomAt, HasRoomAt, list_or_none, opens_in, total_length}
use Rattle.nfs_share.specs.OpenNodes.{lent_number, open_number}
use Rattle.nfs_share.specs.Opens.{is_of, without}
use Rattle.nfs_share.specs.declared.delegation.Delegation.{Delegation}
use Rattle.nfs_share.proofs.AllOpens.{as_many}
use Rattle.nfs_share.proofs.Indexed.{counted_again, keeps_within, lent_view, lent_within, opens_view, opens_within}
use Rattle.nfs_nodes.specs.Numbers.{AreFound}
use Rattle.nfs_nodes.proofs.Callers.{found_fewer}
use Rattle.nfs_share.proofs.opens.Opens.remove_owner.Goals as goal

pub invariant_of-self : goal.invariant_of-self
invariant_of-self c = (
  subst (AreFound open_number c.self.inside.nodes (c.self.inside.count - c.places_left.result)) (sym c.remove_owner_each.ensures.opens)
      (found_fewer open_number list_or_none (λ xs. refl) 0 c.self.inside.count (opens_in c.self.inside.files.items) c.self.inside.nodes (λ o. not (is_of c.args.owner.now o)) (c.self.inside.count - c.places_left.result)
      (counted_again (λ o. not (is_of c.args.owner.now o)) c.self.inside.count c.places_left.result (c.self.inside.count - c.places_left.result) (opens_in c.self.inside.files.items) c.self.invariant.0.counted
      (c.places_left.ensures ∙ ap (λ files. c.self.inside.count - total_length (opens_in files)) c.deref.ensures.value ∙ ap (λ l. c.self.inside.count - total_length l) c.remove_owner_each.ensures.opens) refl)
      c.self.invariant.0),
  subst (AreFound lent_number c.self.inside.lent c.self.inside.lent_count) (sym c.remove_owner_each.ensures.delegations) c.self.invariant.1,
)

pub returns-clause-opens : goal.returns-clause-opens
returns-clause-opens c =
    opens_within _ _ _ ∙ c.remove_owner_each.ensures.opens ∙ ap (map (without (is_of c.args.owner.now))) (opens_view c.self.inside.nodes.room c.self.inside.lent.room c.self.inside.files.items c.args.self.now c.self.view_is)

pub returns-clause-delegations : goal.returns-clause-delegations
returns-clause-delegations c =
    lent_within _ _ _ ∙ c.remove_owner_each.ensures.delegations ∙ (lent_view c.self.inside.nodes.room c.self.inside.lent.room c.self.inside.files.items c.args.self.now c.self.view_is)

pub returns-clause-room : goal.returns-clause-room
returns-clause-room c at has =
    keeps_within (λ f. f.room) c.self.inside.nodes.room c.self.inside.lent.room c.self.inside.nodes.room c.self.inside.nodes.room c.self.inside.lent.room c.self.inside.nodes.room (λ f. refl) (λ f. refl) (omega arith) c.self.inside.files.items c.remove_owner_each.new.files.items at
    (omega (arith, ap (λ (l : List (List Delegation)). length l) c.remove_owner_each.ensures.delegations, as_many (λ f. f.delegations) c.remove_owner_each.new.files.items, as_many (λ f. f.delegations) c.self.inside.files.items))
    (c.remove_owner_each.ensures.room at) (subst (HasRoomAt at) (sym c.self.view_is) has)

pub returns-clause-lending : goal.returns-clause-lending
returns-clause-lending c at has =
    keeps_within (λ f. f.lending_room) c.self.inside.nodes.room c.self.inside.lent.room c.self.inside.lent.room c.self.inside.nodes.room c.self.inside.lent.room c.self.inside.lent.room (λ f. refl) (λ f. refl) (omega arith) c.self.inside.files.items c.remove_owner_each.new.files.items at
    (omega (arith, ap (λ (l : List (List Delegation)). length l) c.remove_owner_each.ensures.delegations, as_many (λ f. f.delegations) c.remove_owner_each.new.files.items, as_many (λ f. f.delegations) c.self.inside.files.items))
    (c.remove_owner_each.ensures.lending at) (subst (HasLendingRoomAt at) (sym c.self.view_is) has)
