use Rattle.std.proofs.Common.{◌≡◌, ◌∙◌, ap, arith, drop, rules, sym, []}
use Rattle.std.proofs.lemmas.Grind.{common_steps}
use Rattle.std.proofs.lemmas.List.{drop_all, take_rest}
use Rattle.std.specs.Prelude.{◌%◌}
use Rattle.nfs_state.proofs.Pieces.{rest_of_piece}
use Rattle.nfs_state.specs.declared.piece_list.TheConstants.{PIECE_LEN}
use Rattle.nfs_state.proofs.piece_list.PieceList.piece_from.Goals as goal

pub returns-in-Some : goal.returns-in-Some
returns-in-Some g c =
    let here : c.in-Some.rest.now ≡ drop (c.args.number % PIECE_LEN) c.piece.result.now = search (rules, take_rest c.piece.result.now (c.args.number % PIECE_LEN)) in
    here ∙ ap (drop (c.args.number % PIECE_LEN)) c.piece.ensures ∙ rest_of_piece c.args.number c.args.self.now.items

pub returns-in-None : goal.returns-in-None
returns-in-None g c =
    let here : drop (c.args.number % PIECE_LEN) c.piece.result.now ≡ [] = drop_all (c.args.number % PIECE_LEN) c.piece.result.now (grind (arith, common_steps)) in
    sym here ∙ ap (drop (c.args.number % PIECE_LEN)) c.piece.ensures ∙ rest_of_piece c.args.number c.args.self.now.items
