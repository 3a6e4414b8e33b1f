-- Lists of visits, of calls on a book and of entries, with more at the end.
use Rattle.std.proofs.Common.{◌≡◌, ℕ, ◌+◌, ◌<◌, ◌≤◌, ◌==◌, ◌||◌, List, [], ◌∷◌, ◌++◌, length, refl, sym, ap, subst, ◌∙◌, append_assoc, arith}
use Rattle.std.proofs.lemmas.Grind.{common_steps}
use Rattle.std.specs.List.{list_any}
use Rattle.nfs_core.specs.Server.{Server}
use Rattle.nfs_leases.specs.BookEvent.{BookEvent, AllHappen}
use Rattle.nfs_leases.specs.laws.Counting.{expiries_more}
use Rattle.nfs_leases.specs.laws.Gaining.{append-nil, gains_more, gains_none}
use Rattle.nfs_leases.specs.Sweeps.{is_of, Ascend, AreVisits, IsVisit, events_of_all, tally}
use Rattle.nfs_leases.specs.Visit.{Gains, Visit, events_of, expiries, total, with_case}
use Rattle.nfs_leases.specs.declared.visit_case.VisitCase.{VisitCase}
use Rattle.nfs_leases.specs.declared.visit_case.VisitCase.TheVariants as cases
use Rattle.nfs_leases.specs.declared.swept.Swept.{Swept}
use Rattle.nfs_state.specs.declared.entry.Entry.{Entry}

-- calls that lead to a book, and more that lead on from it
pub happen_more : {Book : Type 0} (happens : Book → BookEvent → Book → Type 0) (old mid new : Book)
    (events more : List BookEvent)
    → AllHappen happens old events mid → AllHappen happens mid more new → AllHappen happens old (events ++ more) new
happen_more happens old mid new [] more h k = subst (λ b. AllHappen happens b more new) h k
happen_more happens old mid new (e ∷ events) more h k = (h.0, h.1, happen_more happens h.0 mid new events more h.2 k)

pub events_more : (now : ℕ) (visits : List Visit) (t : Visit)
    → events_of_all now (visits ++ t ∷ []) ≡ events_of_all now visits ++ events_of now t
events_more now [] t = append-nil (events_of now t)
events_more now (u ∷ visits) t =
    ap (λ es. events_of now u ++ es) (events_more now visits t)
    ∙ sym (append_assoc (events_of now u) (events_of_all now visits) (events_of now t))

pub tally_more : (swept : Swept) (visits : List Visit) (t : Visit)
    → tally swept (visits ++ t ∷ []) ≡ with_case (tally swept visits) t.case
tally_more swept [] t = refl
tally_more swept (u ∷ visits) t = tally_more (with_case swept u.case) visits t

one_counted : (swept : Swept) (case : VisitCase) → total (with_case swept case) ≡ total swept + 1
one_counted swept cases.Expired = omega arith
one_counted swept cases.Kept = omega arith
one_counted swept cases.Changed = omega arith
one_counted swept cases.Refused = omega arith

-- each visit is counted once
pub total_tally : (swept : Swept) (visits : List Visit) → total (tally swept visits) ≡ total swept + length visits
total_tally swept [] = omega arith
total_tally swept (u ∷ visits) =
    omega (arith, total_tally (with_case swept u.case) visits, one_counted swept u.case)

-- the visits go up, from above the first number to at most the second one
abbrev pub Reaches : ℕ → List Visit → ℕ → Type 0
Reaches after [] upto = after ≤ upto
Reaches after (t ∷ visits) upto = (after < t.client) × Reaches t.client visits upto

pub reaches_more : (after : ℕ) (visits : List Visit) (upto : ℕ) (t : Visit)
    → Reaches after visits upto → upto < t.client → Reaches after (visits ++ t ∷ []) t.client
reaches_more after [] upto t h k = (omega arith, omega arith)
reaches_more after (u ∷ visits) upto t h k = (h.0, reaches_more u.client visits upto t h.1 k)

pub ascend_from_reaches : (after : ℕ) (visits : List Visit) (upto : ℕ) → Reaches after visits upto → Ascend after visits
ascend_from_reaches after [] upto h = tt
ascend_from_reaches after (u ∷ visits) upto h = (h.0, ascend_from_reaches u.client visits upto h.1)

-- so there are no more visits than numbers between
pub reaches_length : (after : ℕ) (visits : List Visit) (upto : ℕ) → Reaches after visits upto → after + length visits ≤ upto
reaches_length after [] upto h = omega arith
reaches_length after (u ∷ visits) upto h = omega (arith, reaches_length u.client visits upto h.1)

-- whose visits there are, with one more
pub visits_more : (visits : List Visit) (t : Visit) (client : ℕ)
    → list_any (is_of client) (visits ++ t ∷ []) ≡ (list_any (is_of client) visits || (t.client == client))
visits_more [] t client = grind (arith, common_steps)
visits_more (u ∷ visits) t client = grind (arith, common_steps, visits_more visits t client)

pub right_more : (now : ℕ) (visits : List Visit) (t : Visit) (old mid new : Server)
    → AreVisits now visits old mid → IsVisit now t mid new → AreVisits now (visits ++ t ∷ []) old new
right_more now [] t old mid new h k = (new, subst (λ (s : Server). IsVisit now t s new) h k, refl)
right_more now (u ∷ visits) t old mid new h k = (h.0, h.1, right_more now visits t h.0 mid new h.2 k)

-- what the journal gains in all visits
pub gains_of_all : (now : ℕ) (visits : List Visit) (old new : Server)
    → AreVisits now visits old new → Gains (expiries (events_of_all now visits)) old new
gains_of_all now [] old new h = subst (λ (s : Server). Gains [] old s) (sym h) (gains_none old)
gains_of_all now (t ∷ visits) old new h =
    subst (λ (es : List Entry). Gains es old new) (sym (expiries_more (events_of now t) (events_of_all now visits)))
    (gains_more (expiries (events_of now t)) (expiries (events_of_all now visits)) old h.0 new h.1.gains
    (gains_of_all now visits h.0 new h.2))
