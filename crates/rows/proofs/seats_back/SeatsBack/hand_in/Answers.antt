use Rattle.std.proofs.Common.{map, refl, ap, sym, ◌∙◌, ◌++◌, ◌∷◌, [], length}
use Rattle.std.proofs.lemmas.List.{map-append}
use Rattle.rows.proofs.Handing.{kept_more, kept_same}
use Rattle.rows.proofs.seats_back.SeatsBack.hand_in.Goals as goal

pub invariant_of-self : goal.invariant_of-self
invariant_of-self g c = kept_same _ _ _ _ c.self.invariant c.reserve.ensures.items refl

pub invariant_of-self-in_err-reserve-2 : goal.invariant_of-self-in_err-reserve-2
invariant_of-self-in_err-reserve-2 g c =
    kept_same _ _ _ _ c.self.invariant c.reserve.ensures.items (ap (λ xs. map (λ v. v.items) xs) c.reserve-2.ensures.items)

pub invariant_of-self-2 : goal.invariant_of-self-2
invariant_of-self-2 g c =
    kept_same _ _ _ _
    (kept_more _ _ c.args.seat c.args.receipts.items c.self.invariant
    (c.requires.place ∙ ap (λ v. length v.seats) (sym c.self.view_is)) c.requires.kept)
    (c.push_reserved.ensures.items ∙ ap (λ xs. xs ++ c.args.seat ∷ []) c.reserve.ensures.items)
    (ap (λ xs. map (λ v. v.items) xs) (c.push_reserved-2.ensures.items ∙ ap (λ xs. xs ++ c.args.receipts ∷ []) c.reserve-2.ensures.items)
    ∙ map-append (λ v. v.items) c.self.inside.receipts.items (c.args.receipts ∷ []))
