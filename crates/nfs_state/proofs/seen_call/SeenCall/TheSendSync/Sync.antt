use denote.Param.Send.{IsSync, part_keyless}
use Rattle.nfs_state.specs.contracts.seen_call.SeenCall.{the_row}
use Rattle.nfs_state.proofs.seen_call.SeenCall.TheSendSync.Send.{send}

pub sync : IsSync the_row
sync = record { shared = λ d b o κ q. part_keyless the_row send q d b o }
