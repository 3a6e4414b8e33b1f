-- A worker that has begun, or that no thread could be made for.
use Rattle.std.specs.Prelude.{◌≡◌, List, [], ◌∷◌}
use Rattle.nfs_shared.specs.Seats.{SeatView}
use Rattle.nfs_tree.specs.Tree.{Files}
use Rattle.nfs_threads.specs.declared.worker_thread.Worker.{Worker}
use Rattle.nfs_threads.specs.declared.worker_thread.Worker.TheVariants as workers
use Rattle.nfs_threads.specs.Worker.{IsEndOf, Linking}

-- The worker is that of these links and this seat: what its thread promises is of these, or it gave back what is of
-- them.
abbrev pub IsWorker : {N L D C : Type 0} → Linking L D C → Files → L → SeatView → Worker N L D C
    → Type 0
IsWorker linking tree links seat (workers.Begun handle) =
    (handle.promise.promise.value.tree.value ≡ tree)
    × (handle.promise.promise.value.links.value ≡ links)
    × (handle.promise.promise.value.seat.value ≡ seat)
IsWorker linking tree links seat (workers.Refused end) = IsEndOf linking tree links seat end

-- each worker is that of the links and the seat at its place
abbrev pub AreWorkers : {N L D C : Type 0} → Linking L D C → Files → List (L × SeatView)
    → List (Worker N L D C) → Type 0
AreWorkers linking tree [] [] = Unit {0}
AreWorkers linking tree (link ∷ links) (worker ∷ workers) =
    IsWorker linking tree link.0 link.1 worker × AreWorkers linking tree links workers
AreWorkers linking tree [] (worker ∷ workers) = ⊥
AreWorkers linking tree (link ∷ links) [] = ⊥
