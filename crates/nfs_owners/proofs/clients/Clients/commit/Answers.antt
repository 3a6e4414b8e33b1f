use Rattle.std.proofs.Common.{subst, sym}
use Rattle.nfs_owners.specs.ClientRoom.{FitsRecords, RoomyClients}
use Rattle.nfs_owners.specs.Registry.{Registry}
use Rattle.nfs_owners.specs.declared.clients.client_change.ClientChange.{ClientChange}
use Rattle.nfs_owners.specs.declared.clients.client_change.ClientChange.TheVariants as changes
use Rattle.nfs_owners.proofs.ClientLists.{confirmed_takes_none, records_confirmed_by, records_updated, update_takes_none}
use Rattle.nfs_owners.proofs.clients.Clients.commit.Goals as goal

pub invariant_of-self : goal.invariant_of-self
invariant_of-self c =
    let old : Registry = record {
      confirmed = c.self.inside.confirmed.records;
      unconfirmed = c.self.inside.unconfirmed.records;
      given = c.self.inside.given;
      last_confirm = c.self.inside.last_confirm;
    } in
    let change : ClientChange = changes.Updates c.in-Updates.record in
    let fits = subst (λ (s : RoomyClients). FitsRecords change s.registry) (sym c.self.view_is)
    (subst (λ t. FitsRecords t c.args.self.now.registry) c.in-Updates.is c.requires.fits) in
    rw c.put.ensures (records_updated c.in-Updates.record old c.self.invariant fits)

pub put-requires-clause-own : goal.put-requires-clause-own
put-requires-clause-own c =
    let old : Registry = record {
      confirmed = c.self.inside.confirmed.records;
      unconfirmed = c.self.inside.unconfirmed.records;
      given = c.self.inside.given;
      last_confirm = c.self.inside.last_confirm;
    } in
    let change : ClientChange = changes.Updates c.in-Updates.record in
    let fits = subst (λ (s : RoomyClients). FitsRecords change s.registry) (sym c.self.view_is)
    (subst (λ t. FitsRecords t c.args.self.now.registry) c.in-Updates.is c.requires.fits) in
    update_takes_none c.in-Updates.record old c.self.invariant fits

pub invariant_of-self-in-Confirms : goal.invariant_of-self-in-Confirms
invariant_of-self-in-Confirms c =
    let old : Registry = record {
      confirmed = c.self-in-Confirms.inside.confirmed.records;
      unconfirmed = c.self-in-Confirms.inside.unconfirmed.records;
      given = c.self-in-Confirms.inside.given;
      last_confirm = c.self-in-Confirms.inside.last_confirm;
    } in
    let fits = subst (λ (s : RoomyClients). FitsRecords c.args.change s.registry) (sym c.self-in-Confirms.view_is) c.requires.fits in
    rw c.put-in-Confirms.ensures (rw c.remove_id.ensures.records (rw c.as_slice.ensures.value
    (records_confirmed_by c.args.change c.in-Confirms.record old c.self-in-Confirms.invariant fits c.in-Confirms.is)))

pub put-requires-in-Confirms-clause-own : goal.put-requires-in-Confirms-clause-own
put-requires-in-Confirms-clause-own c =
    let old : Registry = record {
      confirmed = c.self-in-Confirms.inside.confirmed.records;
      unconfirmed = c.self-in-Confirms.inside.unconfirmed.records;
      given = c.self-in-Confirms.inside.given;
      last_confirm = c.self-in-Confirms.inside.last_confirm;
    } in
    let fits = subst (λ (s : RoomyClients). FitsRecords c.args.change s.registry) (sym c.self-in-Confirms.view_is) c.requires.fits in
    confirmed_takes_none c.args.change c.in-Confirms.record old c.self-in-Confirms.invariant fits c.in-Confirms.is
