use Rattle.std.proofs.Common.{◌≡◌, Ok, ap, rules, arith}
use Rattle.std.proofs.lemmas.Result.{IfOk-at_ok}
use Rattle.nfs_rpc.proofs.Taking.{sound_after, count_after}
use Rattle.nfs_rpc.proofs.records.Records.feed.Goals as goal

pub invariant_of-self-2 : goal.invariant_of-self-2
invariant_of-self-2 c =
    let taken : c.take_piece.result ≡ Ok c.in_ok-first.first = search rules in
    let w = IfOk-at_ok _ taken c.take_piece.ensures.ok in
    let at_place = IfOk-at_ok _ taken c.take_piece.ensures.at_place in
    let few = IfOk-at_ok _ taken c.take_piece.ensures.few in
    let sound = c.self.invariant.0 in
    let fed : c.self.inside.fed ≡ c.args.self.now.fed = ap (λ s. s.fed) c.self.view_is in
    let count = count_after _ _ c.args.piece.now w.0 c.self.inside.first c.in_ok-first.first c.if-self.false w.1 sound in (
      sound_after _ _ c.args.piece.now w.0 c.self.inside.first c.in_ok-first.first c.if-self.false w.1 sound at_place few,
      omega (arith, count, c.self.invariant.1),
      omega arith,
      c.take_piece.ensures.none,
    )

pub invariant_of-self-then-first : goal.invariant_of-self-then-first
invariant_of-self-then-first c =
    let taken : c.take_piece.result ≡ Ok c.in_ok-first.first = search rules in
    let w = IfOk-at_ok _ taken c.take_piece.ensures.ok in
    let at_place = IfOk-at_ok _ taken c.take_piece.ensures.at_place in
    let few = IfOk-at_ok _ taken c.take_piece.ensures.few in
    let sound = c.self.invariant.0 in
    let fed : c.self.inside.fed ≡ c.args.self.now.fed = ap (λ s. s.fed) c.self.view_is in
    let count = count_after _ _ c.args.piece.now w.0 c.self.inside.first c.in_ok-first.first c.if-self.false w.1 sound in (
      sound_after _ _ c.args.piece.now w.0 c.self.inside.first c.in_ok-first.first c.if-self.false w.1 sound at_place few,
      omega (arith, count, c.self.invariant.1),
      omega arith,
      c.take_piece.ensures.none,
    )
