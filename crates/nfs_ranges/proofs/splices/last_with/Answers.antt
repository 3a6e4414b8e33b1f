use Rattle.std.proofs.Common.{◌≡◌, Some, None, sym, ◌∙◌, ap}
use Rattle.std.proofs.lemmas.Option.{same_Some}
use Rattle.nfs_ranges.specs.Merged.{in_order}
use Rattle.nfs_ranges.specs.Modes.{is_same}
use Rattle.nfs_ranges.specs.declared.piece.Piece.{Piece}
use Rattle.nfs_ranges.proofs.Found.{last_alike, last_end, last_other}
use Rattle.nfs_ranges.proofs.splices.last_with.Goals as goal

pub returns-in-Some : goal.returns-in-Some
returns-in-Some c =
    last_alike c.args.change (in_order c.args.runs.now) c.in-Some.run' c.requires.merged
    (sym c.find.ensures ∙ c.in-Some.is) (sym c.are_alike.ensures ∙ c.if-are_alike.true)

pub returns-in_default : goal.returns-in_default
returns-in_default c =
    last_other c.args.change (in_order c.args.runs.now) c.requires.merged
    (λ p less found. ap (λ (q : Piece). is_same q.mode c.args.change.mode)
    (same_Some p c.in-Some.run' (sym found ∙ sym c.find.ensures ∙ c.in-Some.is))
    ∙ sym c.are_alike.ensures ∙ c.if-are_alike.false)

pub returns-in_default-2 : goal.returns-in_default-2
returns-in_default-2 c =
    last_other c.args.change (in_order c.args.runs.now) c.requires.merged
    (λ p less found.
    let none : Some p ≡ None = sym found ∙ sym c.find.ensures ∙ c.in_default.is in
    absurd cc)

pub returns-then-last : goal.returns-then-last
returns-then-last c = last_end c.args.change (in_order c.args.runs.now) c.requires.merged c.if-last.true
