use Rattle.std.proofs.Common.{◌≡◌, ℕ, Option, Some, refl, subst}
use Rattle.nfs_callbacks.specs.declared.probe.Probe.{Probe}
use Rattle.nfs_owners.specs.LiveClients.{IsNextUnknown}
use Rattle.nfs_owners.specs.declared.client_record.ClientState.{ClientState}
use Rattle.nfs_shared.specs.Held.{HasLooked, SenderMayFind}
use Rattle.nfs_shared.specs.Sender.{SenderView}
use Rattle.nfs_threads.proofs.calling.SharedSourceCallbackSource.probe.Goals as goal

pub returns-in-Ok : goal.returns-in-Ok
returns-in-Ok g c =
    let start = g.N.Naming.start in
    let found = c.in_ok-client.ensures.found in
    let held = found.0 in
    let may = subst (λ (s : SenderView). SenderMayFind start s held) c.self.view_is found.1 in
    let next = subst (λ (o : Option ClientState). IsNextUnknown c.args.after held.server.stored.clients o) c.in-Some.is found.2 in
    let same = subst (λ (p : Probe). Some c.in-Ok.probe ≡ Some p) c.in-Ok.ensures refl in
    let looked = subst (λ (s : SenderView). HasLooked start s c.probe.new.sender) c.self.view_is c.probe.ensures.sender in
    ((held, may, (Some c.in-Some.client, next, same)), looked)

pub returns : goal.returns
returns g c =
    subst (λ (s : SenderView). HasLooked g.N.Naming.start s c.probe.new.sender) c.self.view_is c.probe.ensures.sender
