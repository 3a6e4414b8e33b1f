-- Lists that are made before they are filled.
use Rattle.std.specs.Prelude.{◌≡◌, ℕ, ◌≤◌, [], vec_capacity}
use Rattle.std.specs.Global.{Vec}
use Rattle.nfs_threads.specs.declared.lists.Lists.{Lists}

-- nothing was put into the list, and it has room for so many
abbrev pub HasRoom : {A : Type 0} → ℕ → Vec A → Type 0
HasRoom count list = (list.items ≡ []) × (count ≤ vec_capacity list)

-- nothing was put into any list of a run, and each has room for so many
pub record HaveRoom {N R W : Type 0} (count : ℕ) (lists : Lists N R W) : Type 0 where
  pub links : HasRoom count lists.links
  pub spare : HasRoom count lists.spare
  pub shifts : HasRoom count lists.shifts
  pub seats : HasRoom count lists.seats
  pub receipts : HasRoom count lists.receipts
