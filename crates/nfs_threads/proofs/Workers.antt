-- What workers did for their links.
use Rattle.std.proofs.Common.{◌≡◌, suc, List, [], ◌∷◌, ◌++◌, length, refl, subst, sym, append_assoc}
use Rattle.std.proofs.lemmas.List.{append-nil, nil_from_length}
use Rattle.nfs_shared.specs.Ends.{IsKept}
use Rattle.nfs_shared.specs.Seats.{SeatView}
use Rattle.nfs_tree.specs.Tree.{Files}
use Rattle.nfs_threads.specs.WorkerThread.{AreWorkers, IsWorker}
use Rattle.nfs_threads.specs.Worker.{AreEndsOf, AreUnused, IsEndOf, Linking, seats_of}
use Rattle.nfs_threads.specs.declared.worker_thread.Worker.{Worker}
use Rattle.nfs_threads.specs.declared.worker_end.WorkerEnd.{WorkerEnd}

-- a seat that was given nothing is kept with no receipts
pub kept_unused : (seat : SeatView) → seat.receipts.given ≡ 0 → IsKept seat []
kept_unused seat none = record {
  place = λ k r at. cc;
  list = λ k r at. cc;
  rising = λ j k q r less at other. cc;
  last = λ k r at. cc;
  given = sym none;
}

-- one more worker has begun
pub one_more_begun : {N L D C : Type 0} (linking : Linking L D C) (tree : Files) (links left rest : List (L × SeatView)) (link : L × SeatView) (workers : List (Worker N L D C)) (worker : Worker N L D C)
    → left ≡ link ∷ rest
    → ((more : List (Worker N L D C)) → AreWorkers linking tree left more → AreWorkers linking tree links (workers ++ more))
    → IsWorker linking tree link.0 link.1 worker
    → (more : List (Worker N L D C)) → AreWorkers linking tree rest more → AreWorkers linking tree links ((workers ++ worker ∷ []) ++ more)
one_more_begun linking tree links left rest link workers worker same completes is more these =
    subst (λ w. AreWorkers linking tree links w) (sym (append_assoc workers (worker ∷ []) more))
    (completes (worker ∷ more) (subst (λ l. AreWorkers linking tree l (worker ∷ more)) (sym same) (is, these)))

-- once no links are left, the workers so far are those of all links
pub all_begun : {N L D C : Type 0} (linking : Linking L D C) (tree : Files) (links left : List (L × SeatView)) (workers : List (Worker N L D C))
    → ((more : List (Worker N L D C)) → AreWorkers linking tree left more → AreWorkers linking tree links (workers ++ more))
    → length left ≡ 0
    → AreWorkers linking tree links workers
all_begun {N = N} linking tree links left workers completes none =
    let empty = nil_from_length left none in
    let whole : AreWorkers linking tree links (workers ++ []) = completes [] (subst (λ l. AreWorkers {N = N} linking tree l []) (sym empty) tt) in
    subst (λ w. AreWorkers linking tree links w) (append-nil workers) whole

-- the workers that are left are those of some links, and what is done of these completes what is done
abbrev pub Completes : {N L D C : Type 0} → Linking L D C → Files → List (L × SeatView) → List (Worker N L D C) → List (WorkerEnd N) → Type 0
Completes {N = N} {L = L} linking tree links workers ends =
    (left : List (L × SeatView)) × AreWorkers linking tree left workers
    × ((more : List (WorkerEnd N)) → AreEndsOf linking tree left more → AreEndsOf linking tree links (ends ++ more))

pub one_more_done : {N L D C : Type 0} (linking : Linking L D C) (tree : Files) (links left : List (L × SeatView)) (worker : Worker N L D C) (workers : List (Worker N L D C)) (ends : List (WorkerEnd N)) (end : WorkerEnd N)
    → AreWorkers linking tree left (worker ∷ workers)
    → ((more : List (WorkerEnd N)) → AreEndsOf linking tree left more → AreEndsOf linking tree links (ends ++ more))
    → ((link : L) (seat : SeatView) → IsWorker linking tree link seat worker → IsEndOf linking tree link seat end)
    → Completes linking tree links workers (ends ++ end ∷ [])
one_more_done linking tree links [] worker workers ends end are completes finished = absurd are
one_more_done linking tree links (l ∷ left) worker workers ends end are completes finished = (
  left,
  are.1,
  λ more these. subst (λ d. AreEndsOf linking tree links d) (sym (append_assoc ends (end ∷ []) more)) (completes (end ∷ more) (finished l.0 l.1 are.0, these)),
)

-- no workers are those of no links
no_workers : (N : Type 0) {L D C : Type 0} (linking : Linking L D C) (tree : Files) (links : List (L × SeatView)) → AreWorkers {N = N} linking tree links [] → AreEndsOf {N = N} linking tree links []
no_workers N linking tree [] are = tt
no_workers N linking tree (l ∷ links) are = absurd are

pub all_done : {N L D C : Type 0} (linking : Linking L D C) (tree : Files) (links : List (L × SeatView)) (workers : List (Worker N L D C)) (ends : List (WorkerEnd N))
    → Completes linking tree links workers ends
    → length workers ≡ 0
    → AreEndsOf linking tree links ends
all_done {N = N} linking tree links workers ends so_far none =
    let are : AreWorkers {N = N} linking tree so_far.0 [] = subst (λ w. AreWorkers linking tree so_far.0 w) (nil_from_length workers none) so_far.1 in
    let whole : AreEndsOf linking tree links (ends ++ []) = so_far.2 [] (no_workers N linking tree so_far.0 are) in
    subst (λ d. AreEndsOf linking tree links d) (append-nil ends) whole
