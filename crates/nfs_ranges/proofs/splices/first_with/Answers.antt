use Rattle.std.proofs.Common.{◌≡◌, Some, None, sym, ◌∙◌, ap, arith}
use Rattle.std.proofs.lemmas.Option.{same_Some}
use Rattle.nfs_ranges.specs.Merged.{in_order}
use Rattle.nfs_ranges.specs.Modes.{is_same}
use Rattle.nfs_ranges.specs.declared.piece.Piece.{Piece}
use Rattle.nfs_ranges.proofs.Found.{first_alike, first_other}
use Rattle.nfs_ranges.proofs.splices.first_with.Goals as goal

pub returns-in-Some : goal.returns-in-Some
returns-in-Some c =
    first_alike c.args.change (in_order c.args.runs.now) c.in-Some.run' c.requires.merged (omega (arith, c.if-first-eq0.false))
    (sym c.find.ensures ∙ c.in-Some.is) (sym c.are_alike.ensures ∙ c.if-are_alike.true)

pub returns-in_default : goal.returns-in_default
returns-in_default c =
    first_other c.args.change (in_order c.args.runs.now) c.requires.merged
    (λ p above found. ap (λ (q : Piece). is_same q.mode c.args.change.mode)
    (same_Some p c.in-Some.run' (sym found ∙ sym c.find.ensures ∙ c.in-Some.is))
    ∙ sym c.are_alike.ensures ∙ c.if-are_alike.false)

pub returns-in_default-2 : goal.returns-in_default-2
returns-in_default-2 c =
    first_other c.args.change (in_order c.args.runs.now) c.requires.merged
    (λ p above found.
    let none : Some p ≡ None = sym found ∙ sym c.find.ensures ∙ c.in_default.is in
    absurd cc)
