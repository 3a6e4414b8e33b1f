-- How the nodes of opens and of delegations are kept beside those.
use Rattle.std.specs.Prelude.{ℕ, min}
use Rattle.nfs_share.specs.Opens.{FileOpens}
use Rattle.nfs_share.specs.declared.delegation.Delegation.{Delegation}
use Rattle.nfs_share.specs.declared.open_state.OpenState.{OpenState}

abbrev pub open_number : OpenState → ℕ
open_number o = o.number

abbrev pub lent_number : Delegation → ℕ
lent_number d = d.number

-- the opens and the delegations of a file, with room for no more of them than these
abbrev pub within_rooms : ℕ → ℕ → FileOpens → FileOpens
within_rooms room lending f =
    record f { room = min room f.room; lending_room = min lending f.lending_room }
