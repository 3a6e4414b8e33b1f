-- Lists.
use Rattle.std.proofs.Common.{◌≡◌, suc, List, [], ◌∷◌, ◌++◌, Some, refl, subst}
use Rattle.std.specs.List.{AllByRecursion}
use Rattle.nfs_threads.specs.Worker.{AreUnused, seats_of}
use Rattle.nfs_shared.specs.Seats.{SeatView}

pub some_is : {A : Type 0} (x y : A) → Some x ≡ Some y → x ≡ y
some_is x y same = cc

-- P holds of one element more
pub all_and_one : {X : Type 0} (P : X → Type 0) (xs : List X) (x : X) → AllByRecursion P xs → P x → AllByRecursion P (xs ++ x ∷ [])
all_and_one P [] x all here = (here, tt)
all_and_one P (y ∷ ys) x all here = (all.0, all_and_one P ys x all.1 here)

-- where no seat of some links was given anything, the first was not, and no other
pub unused_rest : {L : Type 0} (links left : List (L × SeatView)) (link : L × SeatView) → links ≡ link ∷ left → AreUnused (seats_of links)
    → (link.1.receipts.given ≡ 0) × AreUnused (seats_of left)
unused_rest links left link same unused =
    let here = subst (λ l. AreUnused (seats_of l)) same unused in (here 0 link.1 refl, λ k seat at. here (suc k) seat at)
