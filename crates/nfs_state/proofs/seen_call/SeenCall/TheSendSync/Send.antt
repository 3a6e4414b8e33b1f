use denote.Param.Send.{IsSend}
use Rattle.nfs_state.specs.contracts.seen_call.SeenCall.{the_row}

pub send : IsSend the_row
send = record { owned = λ d vs. ((λ vss. (tt, tt)), tt); leaving = λ k f vs. tt }
