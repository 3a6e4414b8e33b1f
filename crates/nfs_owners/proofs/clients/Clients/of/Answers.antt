use Rattle.std.proofs.Common.{◌≡◌, ◌∙◌, Some, None, cond, ap, option_copied, sym, true, false}
use Rattle.nfs_forms.specs.ClientId.{is_same_client}
use Rattle.nfs_owners.specs.ClientRoom.{RoomyClients}
use Rattle.nfs_owners.specs.Registry.{record_of, record_state}
use Rattle.nfs_owners.proofs.LiveNumbers.{of_clientid}
use Rattle.nfs_owners.proofs.clients.Clients.of.Goals as goal

pub returns-in_err-record : goal.returns-in_err-record
returns-in_err-record c =
    ap option_copied c.from_residual.ensures
    ∙ ap record_state (of_clientid c.args.client c.self.inside.confirmed.records None c.of_client.ensures.apart c.in_err-record.ensures.found)
    ∙ ap (λ (s : RoomyClients). record_state (record_of c.args.client s.registry)) c.self.view_is

pub returns-then-eq : goal.returns-then-eq
returns-then-eq c =
    let r = c.in_ok-record.record.now in
    let same : is_same_client r.state.client c.args.client ≡ true = sym c.eq.ensures ∙ c.if-eq.true in
    sym (ap (λ b. record_state (cond b (Some r) None)) same)
    ∙ ap record_state (of_clientid c.args.client c.self.inside.confirmed.records (Some r) c.of_client.ensures.apart c.in_ok-record.ensures.found)
    ∙ ap (λ (s : RoomyClients). record_state (record_of c.args.client s.registry)) c.self.view_is

pub returns-else-eq : goal.returns-else-eq
returns-else-eq c =
    let r = c.in_ok-record.record.now in
    let other : is_same_client r.state.client c.args.client ≡ false = sym c.eq.ensures ∙ c.if-eq.false in
    sym (ap (λ b. record_state (cond b (Some r) None)) other)
    ∙ ap record_state (of_clientid c.args.client c.self.inside.confirmed.records (Some r) c.of_client.ensures.apart c.in_ok-record.ensures.found)
    ∙ ap (λ (s : RoomyClients). record_state (record_of c.args.client s.registry)) c.self.view_is
