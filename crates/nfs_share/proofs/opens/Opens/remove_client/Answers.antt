use Rattle.std.proofs.Common.{◌-◌, map, refl, ap, ◌∙◌, subst, sym}
use Rattle.std.specs.Prelude.{not}
use Rattle.nfs_share.specs.AllOpens.{delegations_in, list_or_none, opens_in, total_length}
use Rattle.nfs_share.specs.Delegations.{is_lent_to, without_lent}
use Rattle.nfs_share.specs.OpenNodes.{lent_number, open_number}
use Rattle.nfs_share.specs.Opens.{is_of_client, without}
use Rattle.nfs_share.proofs.Indexed.{counted_again, lent_view, lent_within, opens_view, opens_within}
use Rattle.nfs_nodes.specs.Numbers.{AreFound}
use Rattle.nfs_nodes.proofs.Callers.{found_fewer}
use Rattle.nfs_share.proofs.opens.Opens.remove_client.Goals as goal

pub invariant_of-self : goal.invariant_of-self
invariant_of-self c = (
  subst (AreFound open_number c.self.inside.nodes (c.self.inside.count - c.places_left.result)) (sym c.remove_client_each.ensures.opens)
      (found_fewer open_number list_or_none (λ xs. refl) 0 c.self.inside.count (opens_in c.self.inside.files.items) c.self.inside.nodes (λ o. not (is_of_client c.args.client o)) (c.self.inside.count - c.places_left.result)
      (counted_again (λ o. not (is_of_client c.args.client o)) c.self.inside.count c.places_left.result (c.self.inside.count - c.places_left.result) (opens_in c.self.inside.files.items) c.self.invariant.0.counted
      (c.places_left.ensures ∙ ap (λ files. c.self.inside.count - total_length (opens_in files)) c.deref.ensures.value ∙ ap (λ l. c.self.inside.count - total_length l) c.remove_client_each.ensures.opens) refl)
      c.self.invariant.0),
  subst (AreFound lent_number c.self.inside.lent (c.self.inside.lent_count - c.lending_places_left.result)) (sym c.remove_client_each.ensures.delegations)
      (found_fewer lent_number list_or_none (λ xs. refl) 0 c.self.inside.lent_count (delegations_in c.self.inside.files.items) c.self.inside.lent (λ d. not (is_lent_to c.args.client d)) (c.self.inside.lent_count - c.lending_places_left.result)
      (counted_again (λ d. not (is_lent_to c.args.client d)) c.self.inside.lent_count c.lending_places_left.result (c.self.inside.lent_count - c.lending_places_left.result) (delegations_in c.self.inside.files.items) c.self.invariant.1.counted
      (c.lending_places_left.ensures ∙ ap (λ files. c.self.inside.lent_count - total_length (delegations_in files)) c.deref-2.ensures.value ∙ ap (λ l. c.self.inside.lent_count - total_length l) c.remove_client_each.ensures.delegations) refl)
      c.self.invariant.1),
)

pub returns-clause-opens : goal.returns-clause-opens
returns-clause-opens c =
    opens_within _ _ _ ∙ c.remove_client_each.ensures.opens ∙ ap (map (without (is_of_client c.args.client))) (opens_view c.self.inside.nodes.room c.self.inside.lent.room c.self.inside.files.items c.args.self.now c.self.view_is)

pub returns-clause-delegations : goal.returns-clause-delegations
returns-clause-delegations c =
    lent_within _ _ _ ∙ c.remove_client_each.ensures.delegations ∙ ap (map (without_lent (is_lent_to c.args.client))) (lent_view c.self.inside.nodes.room c.self.inside.lent.room c.self.inside.files.items c.args.self.now c.self.view_is)
