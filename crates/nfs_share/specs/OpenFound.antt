-- What a lookup of an open or a delegation returns, as the definitions speak of it.
use Rattle.nfs_share.specs.AllOpens.{DelegationAt, OpenAt}
use Rattle.nfs_share.specs.declared.opens.DelegationFound.{DelegationFound}
use Rattle.nfs_share.specs.declared.opens.DelegationRef.{DelegationRef}
use Rattle.nfs_share.specs.declared.opens.OpenFound.{OpenFound}

abbrev pub open_seen : OpenFound → OpenAt
open_seen found = record { node = found.node; state = found.state.now }

abbrev pub delegation_seen : DelegationFound → DelegationAt
delegation_seen found = record { node = found.node; state = found.state }

abbrev pub delegation_ref_seen : DelegationRef → DelegationAt
delegation_ref_seen found = record { node = found.node; state = found.state.now }
