use Rattle.std.proofs.Common.{◌∙◌, arith, rules, sym}
use Rattle.std.proofs.lemmas.Option.{gets}
use Rattle.std.proofs.lemmas.Grind.{common_steps}
use Rattle.nfs_state.proofs.Pieces.{full_piece, last_piece, no_piece}
use Rattle.nfs_state.proofs.piece_list.PieceList.piece.Goals as goal

pub returns-in-Some : goal.returns-in-Some
returns-in-Some g c =
    let l = c.self.inside in
    rw (← c.self.view_is) (c.as_slice.ensures.value ∙ sym (full_piece (λ p. p.items) c.args.number l.full.items l.last.items c.in-Some.piece.now c.self.invariant.0 (search (rules, gets))))

pub returns-in-None : goal.returns-in-None
returns-in-None g c =
    let l = c.self.inside in
    rw (← c.self.view_is) (c.as_slice-in-None.ensures.value
    ∙ sym (last_piece (λ p. p.items) c.args.number l.full.items l.last.items c.self.invariant.0 (omega (arith, c.deref.ensures)) c.self.invariant.1))

pub returns-in-None-2 : goal.returns-in-None-2
returns-in-None-2 g c =
    let l = c.self.inside in
    rw (← c.self.view_is) (sym (no_piece (λ p. p.items) c.args.number l.full.items l.last.items c.self.invariant.0 c.self.invariant.1 (grind (arith, common_steps))))
