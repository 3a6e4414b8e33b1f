use Rattle.std.proofs.Common.{◌≡◌, ◌∙◌, ◌%◌, ap, rules, sym, Some, None}
use Rattle.std.proofs.lemmas.Option.{gets}
use Rattle.std.specs.Prelude.{slice_get}
use Rattle.nfs_state.proofs.Pieces.{get_in_piece}
use Rattle.nfs_state.specs.declared.piece_list.TheConstants.{PIECE_LEN}
use Rattle.nfs_state.proofs.piece_list.PieceList.get.Goals as goal

pub returns-in-Some : goal.returns-in-Some
returns-in-Some g c =
    let here : slice_get c.piece.result.now (c.args.number % PIECE_LEN) ≡ Some c.in-Some.item.now = search (rules, gets) in
    sym here ∙ ap (λ xs. slice_get xs (c.args.number % PIECE_LEN)) c.piece.ensures ∙ get_in_piece c.args.number c.args.self.now.items

pub returns-in-None : goal.returns-in-None
returns-in-None g c =
    let here : slice_get c.piece.result.now (c.args.number % PIECE_LEN) ≡ None = search (rules, gets) in
    sym here ∙ ap (λ xs. slice_get xs (c.args.number % PIECE_LEN)) c.piece.ensures ∙ get_in_piece c.args.number c.args.self.now.items
