use Rattle.std.proofs.Common.{Bool, sym, subst, ap, refl, inr, ◌∙◌, not, false}
use Rattle.nfs_callbacks.proofs.Stepping.{asks, some_from, stops}
use Rattle.nfs_callbacks.specs.Callers.{scene_of}
use Rattle.nfs_callbacks.specs.Source.{Lives}
use Rattle.nfs_callbacks.specs.Steps.{rules}
use Rattle.nfs_callbacks.proofs.caller.Caller.cancel_dead.Goals as goal

pub returns-then-is_live : goal.returns-then-is_live
returns-then-is_live g c =
    let answers = g.S.CallbackSource.answers in
    let r = rules answers g.D.Network.carries in
    let old = scene_of c.args.self.now in
    asks r old (Lives c.args.client c.is_live.result) c.is_live.new.self tt c.is_live.ensures

pub returns : goal.returns
returns g c =
    let answers = g.S.CallbackSource.answers in
    let r = rules answers g.D.Network.carries in
    let old = scene_of c.args.self.now in
    let call = some_from c.current.result (c.is_none.ensures ∙ ap not c.if-is_none.false) in
    stops r old _ c.args.client call.0 (Lives c.args.client false) c.is_live.new.self (sym c.current.ensures ∙ call.1) (inr (inr refl))
    (subst (λ (b : Bool). answers old.source (Lives c.args.client b) c.is_live.new.self) c.if-is_live.false c.is_live.ensures)
    c.stop.ensures.closes c.stop.ensures.scene
