-- Who comes to be live by a change of the clients' records, or is live no longer (RFC 7530, sections 9.1.1 and
-- 16.34.5).
use Rattle.std.specs.Prelude.{ℕ, Bool, ◌&&◌, ◌||◌, ◌==◌, not}
use Rattle.nfs_owners.specs.declared.clients.client_change.ClientChange.{ClientChange}
use Rattle.nfs_owners.specs.declared.clients.client_change.ClientChange.TheVariants as changes
use Rattle.nfs_owners.specs.declared.live_change.LiveChange.{LiveChange}
use Rattle.nfs_owners.specs.declared.live_change.LiveChange.TheVariants.{Same, Comes, Replaces, Goes}

-- only a first confirmation makes a client live, and only a client that is replaced is live no longer
abbrev pub live_change : ClientChange → LiveChange
live_change changes.Nothing = Same
live_change (changes.Arrives r) = Same
live_change (changes.Updates r) = Same
live_change (changes.Confirms r) = Comes r.state.client.number
live_change (changes.Refreshes r) = Same
live_change (changes.Replaces r client) = Replaces r.state.client.number client.number

-- whether the client with this number is live after the change, if it was or wasn't so before
abbrev pub is_live_after : LiveChange → ℕ → Bool → Bool
is_live_after Same number was_live = was_live
is_live_after (Comes comes) number was_live = (number == comes) || was_live
is_live_after (Replaces comes goes) number was_live =
    (number == comes) || (was_live && not (number == goes))
is_live_after (Goes goes) number was_live = was_live && not (number == goes)
