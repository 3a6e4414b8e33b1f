use Rattle.std.proofs.Common.{refl, sym, subst, inl}
use Rattle.nfs_callbacks.proofs.Going.{not_begun}
use Rattle.nfs_forms.specs.declared.callback.Callback.{Callback}
use Rattle.nfs_rpc.specs.UniversalAddress.{Names}
use Rattle.nfs_callbacks.proofs.exchange.Exchange.begin.Goals as goal

pub returns-in_default : goal.returns-in_default
returns-in_default g c =
    inl (
      refl,
      λ address names. c.in_default.not-Some address ((c.socket_address.ensures address).1
          (subst (λ (callback : Callback). Names callback.address address) (sym c.callback.ensures) names)),
      refl,
    )

pub returns-in-Ok-connect : goal.returns-in-Ok-connect
returns-in-Ok-connect g c =
    let address = c.in-Some.address in
    let names = subst (λ (callback : Callback). Names callback.address address) c.callback.ensures
    ((c.in-Some.ensures address).0 refl) in
    (c.in-Ok.ensures, (address, names, c.in-Ok-connect.ensures))

pub returns-in-Err : goal.returns-in-Err
returns-in-Err g c =
    let address = c.in-Some.address in
    let names = subst (λ (callback : Callback). Names callback.address address) c.callback.ensures
    ((c.in-Some.ensures address).0 refl) in
    not_begun g.D.Network.carries c.args.client c.args.errand.now c.args.xid c.in-Err.error c.args.net.now c.connect.new.self
    (address, names, c.in-Err.ensures)
