use Rattle.std.proofs.Common.{◌≡◌, Some, refl, arith}
use Rattle.nfs_owners.specs.Confirmation.{confirmation_beside, confirmation_by}
use Rattle.nfs_owners.specs.Registry.{client_seen, confirmed_of, is_named_by, record_state, unconfirmed_named_by}
use Rattle.nfs_owners.proofs.ClientLists.{confirmation_fits, fits_as_result, named_client}
use Rattle.nfs_owners.proofs.clients.Clients.confirm.Goals as goal

pub returns-in-Some-clause-fits : goal.returns-in-Some-clause-fits
returns-in-Some-clause-fits c =
    let registry = c.args.self.now.registry in
    let candidate = client_seen c.in-Some.candidate in
    let found = record_state (confirmed_of registry candidate.id) in
    let named : unconfirmed_named_by c.args.args.now registry ≡ Some candidate = grind (arith, c.unconfirmed_named_by.ensures, c.in-Some.is) in
    let of = named_client (is_named_by c.args.args.now) registry.unconfirmed candidate c.records_are_apart.ensures.unconfirmed named in
    fits_as_result registry (confirmation_by (confirmation_beside found candidate c.args.has_state) c.args.path) _
    (confirmation_fits registry found candidate c.args.has_state c.args.path refl of) c.confirm_unconfirmed.ensures.ok
