use Rattle.std.proofs.Common.{List, ℕ, [], ◌∷◌, take, inl, refl, sym, subst}
use Rattle.nfs_callbacks.proofs.Going.{sends_some, stands_still}
use Rattle.nfs_callbacks.specs.Exchanges.{Conversation, GoesOnBy}
use Rattle.nfs_callbacks.specs.Network.{Breaks, Sends, Talks}
use Rattle.nfs_callbacks.proofs.exchange.Exchange.write_once.Goals as goal

pub returns-in-Bytes : goal.returns-in-Bytes
returns-in-Bytes g c =
    let carries = g.D.Network.carries in
    let old = c.args.self.now in
    let n = c.in-Bytes.count in
    let talks = Sends (take n old.unsent) ∷ [] in
    let sent = subst (λ (unsent : List ℕ). carries c.args.net.now (Talks c.args.client (Sends (take n unsent))) c.write.new.self)
    c.unsent-unsent.ensures c.in-Bytes.ensures.carries in (
      talks,
      subst (λ (e : Conversation). GoesOnBy carries c.args.client c.args.net.now old talks c.write.new.self e)
          (sym c.pass.ensures) (sends_some carries c.args.client c.args.net.now c.write.new.self old n sent),
      tt,
    )

pub returns-in-Blocked : goal.returns-in-Blocked
returns-in-Blocked g c = (
  Sends [] ∷ [],
  stands_still g.D.Network.carries c.args.client c.args.net.now c.write.new.self c.args.self.now (Sends [])
      c.in-Blocked.ensures.carries refl refl,
  tt,
)

pub returns-in-Broken : goal.returns-in-Broken
returns-in-Broken g c = (
  Breaks c.in-Broken.fault ∷ [],
  stands_still g.D.Network.carries c.args.client c.args.net.now c.write.new.self c.args.self.now (Breaks c.in-Broken.fault)
      c.in-Broken.ensures.carries refl refl,
  inl refl,
)
