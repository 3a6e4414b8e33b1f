use Rattle.std.proofs.Common.{◌<◌, ◌≤◌, ◌∷◌, [], ◌++◌, length, ap, ◌∙◌, arith}
use Rattle.nfs_tree.proofs.Paths.{extended_none, slash_turn, other_turn, pieces_done}
use Rattle.nfs_tree.proofs.path.pieces_of.Goals as goal
use Rattle.nfs_tree.proofs.path.pieces_of.Goals.{then-byte-eq47+in_ok-push, else-byte-eq47+in_ok-push-2}

pub loop-byte-init : goal.loop-byte-init
loop-byte-init c = rw (c.new-pieces.ensures.items, c.new-piece.ensures.items) (extended_none c.args.path.now)

pub loop-byte-preserved : goal.loop-byte-preserved
loop-byte-preserved c =
    let path = c.args.path.now in
    let i = c.loop-byte.byte-index in
    let within : i < length path = omega arith in
    elim c.if-byte-eq47.branch [
      | then-byte-eq47+in_ok-push w ↦
          rw (w.pieces-is, w.piece-is, w.in_ok-push.ensures.items, w.new.ensures, w.new-piece-then-byte-eq47.ensures.items)
          (slash_turn path i c.loop-byte.pieces.items c.loop-byte.piece.items within w.if-byte-eq47.true c.loop-byte.invariant)
      | else-byte-eq47+in_ok-push-2 w ↦
          rw (w.pieces-is, w.piece-is, w.in_ok-push-2.ensures.items)
          (other_turn path i c.loop-byte.pieces.items c.loop-byte.piece.items within w.if-byte-eq47.false c.loop-byte.invariant)
    ]

pub returns : goal.returns
returns c =
    let path = c.args.path.now in
    let past : length path ≤ c.loop-byte.byte-index = omega arith in
    c.new-3.ensures ∙ c.in_ok-push-3.ensures.items
    ∙ ap (λ p. c.loop-byte.pieces.items ++ p ∷ []) c.new-2.ensures
    ∙ pieces_done path c.loop-byte.byte-index c.loop-byte.pieces.items c.loop-byte.piece.items past c.loop-byte.invariant
