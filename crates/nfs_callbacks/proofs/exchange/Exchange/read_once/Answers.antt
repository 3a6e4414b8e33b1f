use Rattle.std.proofs.Common.{List, [], ◌∷◌, ◌+◌, ◌∙◌, take, drop, inl, refl, sym, subst}
use Rattle.std.proofs.lemmas.List.{append-nil}
use Rattle.nfs_callbacks.proofs.Going.{goes_by, hears_some, read_more}
use Rattle.nfs_callbacks.specs.Exchanges.{Conversation, GoesOnBy}
use Rattle.nfs_callbacks.specs.Network.{Breaks, Hears, Talk}
use Rattle.nfs_callbacks.proofs.exchange.Exchange.read_once.Goals as goal

pub returns-in-Bytes : goal.returns-in-Bytes
returns-in-Bytes g c =
    let carries = g.D.Network.carries in
    let inside = c.self.inside in
    let received = inside.reply_len in
    let place = c.read_behind.new.place.items in
    let old : Conversation = record {
      xid = inside.xid;
      is_compound = inside.is_compound;
      unsent = drop inside.sent_len inside.call.items;
      reply = take received inside.place.items;
      is_stalled = inside.is_stalled;
    } in
    let new : Conversation = record old { reply = take (received + c.in-Bytes.count) place } in
    let more = take c.in-Bytes.count (drop received place) in
    let talks : List Talk = Hears more ∷ [] in (
      talks,
      subst (λ (e : Conversation). GoesOnBy carries c.args.client c.args.net.now e talks c.read_behind.new.net new) c.self.view_is
          (hears_some carries c.args.client c.args.net.now c.read_behind.new.net old new more c.in-Bytes.ensures.carries refl refl refl
          (read_more received c.in-Bytes.count inside.place.items place c.read_behind.ensures.kept)),
      tt,
    )

pub returns-in-Blocked : goal.returns-in-Blocked
returns-in-Blocked g c =
    let carries = g.D.Network.carries in
    let inside = c.self.inside in
    let received = inside.reply_len in
    let place = c.read_behind.new.place.items in
    let old : Conversation = record {
      xid = inside.xid;
      is_compound = inside.is_compound;
      unsent = drop inside.sent_len inside.call.items;
      reply = take received inside.place.items;
      is_stalled = inside.is_stalled;
    } in
    let new : Conversation = record old { reply = take received place } in
    let talks : List Talk = Hears [] ∷ [] in (
      talks,
      subst (λ (e : Conversation). GoesOnBy carries c.args.client c.args.net.now e talks c.read_behind.new.net new) c.self.view_is
          (hears_some carries c.args.client c.args.net.now c.read_behind.new.net old new [] c.in-Blocked.ensures.carries refl refl refl
          (c.read_behind.ensures.kept ∙ sym (append-nil old.reply))),
      tt,
    )

pub returns-in-Broken : goal.returns-in-Broken
returns-in-Broken g c =
    let carries = g.D.Network.carries in
    let inside = c.self.inside in
    let received = inside.reply_len in
    let place = c.read_behind.new.place.items in
    let old : Conversation = record {
      xid = inside.xid;
      is_compound = inside.is_compound;
      unsent = drop inside.sent_len inside.call.items;
      reply = take received inside.place.items;
      is_stalled = inside.is_stalled;
    } in
    let new : Conversation = record old { reply = take received place } in
    let talks : List Talk = Breaks c.in-Broken.fault ∷ [] in (
      talks,
      subst (λ (e : Conversation). GoesOnBy carries c.args.client c.args.net.now e talks c.read_behind.new.net new) c.self.view_is
          (goes_by carries c.args.client c.args.net.now c.read_behind.new.net old new (Breaks c.in-Broken.fault) c.in-Broken.ensures.carries refl refl refl
          (c.read_behind.ensures.kept ∙ sym (append-nil old.reply))),
      inl refl,
    )
