-- What a call at a seat says of the receipt that it gave.
use Rattle.std.proofs.Common.{◌≡◌, Option, Some, None}
use Rattle.std.specs.Prelude.{◌≢◌, ◌↔◌, IfSome, IsNone}
use Rattle.nfs_shared.specs.Seats.{Gives, SeatView}
use Rattle.nfs_shared.specs.declared.receipt.Receipt.{Receipt}
use Rattle.nfs_state.specs.Entries.{resource}
use Rattle.nfs_state.specs.declared.request.Request.{Request}
use Rattle.nfs_xdr.specs.declared.op_result.OpResult.{OpResult}

-- with a receipt the answer isn't NFS4ERR_RESOURCE, and the receipt is for the request, and is the seat's
pub received : (request : Request) (answer : OpResult) (given : Option Receipt) (receipt : Receipt) (old new : SeatView)
    → given ≡ Some receipt
    → (IsNone given ↔ (answer ≡ resource request.op))
    → IfSome given (λ r. r.call ≡ record { request = request; answer = answer })
    → IfSome given (λ r. Gives old r new)
    → (answer ≢ resource request.op) × (receipt.call ≡ record { request = request; answer = answer }) × Gives old receipt new
received request answer None receipt old new is refused entry gives = absurd cc
received request answer (Some r) receipt old new is refused entry gives =
    let same : r ≡ receipt = cc in
    rw (← same) ((λ same. cc (refused.1 same)), entry, gives)
