-- Who comes to be live by the change of an entry, or is live no longer (RFC 7530, sections 9.1.1, 9.6 and 16.34.5).
use Rattle.nfs_owners.specs.LiveChange.{live_change}
use Rattle.nfs_owners.specs.declared.live_change.LiveChange.{LiveChange}
use Rattle.nfs_owners.specs.declared.live_change.LiveChange.TheVariants.{Same, Goes}
use Rattle.nfs_state.specs.declared.change.Change.{Change}
use Rattle.nfs_state.specs.declared.change.Change.TheVariants as changes

abbrev pub live_change_of : Change → LiveChange
live_change_of (changes.Clients change) = live_change change
live_change_of (changes.Expires client) = Goes client.number
live_change_of change = Same
