use Rattle.std.proofs.Common.{◌≡◌, ◌∙◌, Option, Some, None, ap, is_some, option_copied, refl}
use Rattle.std.specs.Borrow.{Bor}
use Rattle.nfs_owners.specs.ClientRoom.{RoomyClients}
use Rattle.nfs_owners.specs.Registry.{is_live, is_of_client}
use Rattle.nfs_owners.proofs.LiveNumbers.{found_any}
use Rattle.nfs_owners.proofs.clients.Clients.live.Goals as goal

copied : {V : Type 0} (found : Option (Bor V)) → is_some found ≡ is_some (option_copied found)
copied None = refl
copied (Some r) = refl

pub returns : goal.returns
returns c =
    c.is_some.ensures
    ∙ copied c.of_client.result
    ∙ ap is_some c.of_client.ensures.found
    ∙ found_any (is_of_client c.args.number) c.self.inside.confirmed.records
    ∙ ap (λ (s : RoomyClients). is_live c.args.number s.registry) c.self.view_is
