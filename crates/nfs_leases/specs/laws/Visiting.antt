-- What a sweep asks of the book in its visits.
use Rattle.std.specs.Prelude.{ℕ, ⊤, List, [], ◌∷◌, ◌++◌}
use Rattle.std.specs.List.{AllByRecursion}
use Rattle.nfs_leases.specs.BookEvent.{BookEvent, Look, Renew, Close, Open, Retire}
use Rattle.nfs_leases.specs.Sweeps.{events_of_all}
use Rattle.nfs_leases.specs.Visit.{Visit, events_by}
use Rattle.nfs_leases.specs.declared.visit_case.VisitCase.{VisitCase}
use Rattle.nfs_leases.specs.declared.visit_case.VisitCase.TheVariants as cases

-- the call is a look, or an attempt to close a lease
abbrev pub IsOfVisit : BookEvent → Type 0
IsOfVisit (Look client shown) = ⊤
IsOfVisit (Renew client moment answer) = ⊥
IsOfVisit (Close client seen now answer) = ⊤
IsOfVisit (Open client moment) = ⊥
IsOfVisit (Retire client) = ⊥

one_visit : (case : VisitCase) (client seen now : ℕ) (rest : List BookEvent)
    → AllByRecursion IsOfVisit rest
    → AllByRecursion IsOfVisit (events_by case client seen now ++ rest)
one_visit cases.Expired client seen now rest all = (tt, (tt, all))
one_visit cases.Kept client seen now rest all = (tt, all)
one_visit cases.Changed client seen now rest all = (tt, (tt, all))
one_visit cases.Refused client seen now rest all = (tt, all)

-- In its visits a sweep looks, and tries to close leases, and asks nothing else of the book.
pub visits_look_and_close : (now : ℕ) (visits : List Visit)
    → AllByRecursion IsOfVisit (events_of_all now visits)
visits_look_and_close now [] = tt
visits_look_and_close now (visit ∷ visits) =
    one_visit visit.case visit.client visit.seen now (events_of_all now visits) (visits_look_and_close now visits)
