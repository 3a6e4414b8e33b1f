use Rattle.std.proofs.Common.{◌≡◌, Bool, true, false, nat_lt, length, refl, sym, ap, ◌∙◌, subst}
use Rattle.std.specs.Prelude.{◌||◌}
use Rattle.std.proofs.lemmas.List.{length-map}
use Rattle.nfs_owners.specs.declared.owner.Owner.{Owner}
use Rattle.nfs_owners.specs.declared.owner.TheConstants.{OWNER_LIMIT}
use Rattle.nfs_owners.specs.Owner.{is_known}
use Rattle.nfs_owners.specs.Owners.{AreOwners, RoomyOwners}
use Rattle.nfs_owners.proofs.OwnerLists.{few_others}
use Rattle.nfs_owners.specs.StateOwner.{owner_seen}
use Rattle.nfs_owners.proofs.owners.Owners.has_place.Goals as goal

or_true : (a b : Bool) → b ≡ true → a || b ≡ true
or_true true b h = refl
or_true false b h = h

pub returns-then-len-lt-OWNER_LIMIT-clause-left : goal.returns-then-len-lt-OWNER_LIMIT-clause-left
returns-then-len-lt-OWNER_LIMIT-clause-left c below =
    let owners = c.args.self.now.owners in
    let size : c.len.result ≡ length owners = c.len.ensures ∙ sym (length-map {B = Owner} c.self.inside.owners.rows (λ r. r.value)) ∙ ap (λ (o : RoomyOwners). length o.owners) c.self.view_is in
    few_others (owner_seen c.args.name) owners (subst AreOwners (ap (λ (o : RoomyOwners). o.owners) c.self.view_is) c.self.invariant)
    (or_true (is_known (owner_seen c.args.name) owners) (nat_lt (length owners) OWNER_LIMIT) (ap (λ n. nat_lt n OWNER_LIMIT) (sym size) ∙ below))

pub returns-else-len-lt-OWNER_LIMIT-clause-left : goal.returns-else-len-lt-OWNER_LIMIT-clause-left
returns-else-len-lt-OWNER_LIMIT-clause-left c known =
    let owners = c.args.self.now.owners in
    few_others (owner_seen c.args.name) owners (subst AreOwners (ap (λ (o : RoomyOwners). o.owners) c.self.view_is) c.self.invariant)
    (ap (λ b. b || nat_lt (length owners) OWNER_LIMIT) (sym c.is_known.ensures ∙ known))
