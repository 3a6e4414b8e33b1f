-- What a desk holds, and how it answers as a service.
use Rattle.std.specs.Prelude.{◌≡◌, ◌≢◌, ℕ, List, [], ◌∷◌, ◌++◌, Option, Some, None}
use Rattle.nfs_forms.specs.ClientId.{number_in}
use Rattle.nfs_shared.specs.Renewing.{RenewsAs, RenewsFor, was_renewed}
use Rattle.nfs_shared.specs.Seats.{Gives, KnowsTheSame, SeatView, with_leases}
use Rattle.nfs_shared.specs.declared.receipt.Receipt.{Receipt}
use Rattle.nfs_state.specs.Entries.{resource}
use Rattle.nfs_state.specs.declared.request.Request.{Request}
use Rattle.nfs_server.specs.Asking.{Operation, Question, Renewal}
use Rattle.nfs_leases.specs.Renewals.{renewal_answer, renewed_by}
use Rattle.nfs_leases.specs.declared.renewal.Renewal.{Renewal as LeaseRenewal}
use Rattle.nfs_xdr.specs.declared.op_result.OpResult.{OpResult}
use Rattle.nfs_xdr.specs.declared.op_result.OpResult.TheVariants as results

pub record Holding : Type 0 where
  pub seat : SeatView
  -- the receipts that the seat was given, in order
  pub receipts : List Receipt
  -- for how many more receipts there is room
  pub room : ℕ

-- these differ at most in their room
abbrev pub AreAlikeButRoom : Holding → Holding → Type 0
AreAlikeButRoom old new = new ≡ record old { room = new.room }

-- the seat knows of receipts what it knew, and the receipts are as they were
abbrev pub HoldsTheSame : Holding → Holding → Type 0
HoldsTheSame old new = KnowsTheSame old.seat new.seat × (new.receipts ≡ old.receipts)

-- The receipt for an operation, if there is one. Without a receipt the answer is NFS4ERR_RESOURCE. A receipt is for
-- this request with this answer, it is the seat's, and it comes after those that it was given before. What the seat
-- knows of leases isn't compared here.
abbrev pub IsReceived : Holding → Request → OpResult → Option Receipt → Holding → Type 0
IsReceived old request answer None new = (answer ≡ resource request.op) × HoldsTheSame old new
IsReceived old request answer (Some receipt) new =
    (answer ≢ resource request.op)
    × (receipt.call ≡ record { request = request; answer = answer })
    × Gives (with_leases old.seat new.seat.leases) receipt new.seat
    × (new.receipts ≡ old.receipts ++ receipt ∷ [])

-- How a desk answers a question, in the run with this epoch. Of leases its seat gains just what one renewal adds: for
-- an operation that of the client that it names, if it names one of this run, also where it is answered
-- NFS4ERR_RESOURCE; for RENEW that of its client, and RENEW is answered NFS4_OK exactly where that lease was renewed.
abbrev pub GivenBySeat : ℕ → Holding → Question → OpResult → Holding → Type 0
GivenBySeat epoch old (Operation request) answer new =
    RenewsFor (renewed_by epoch request.op) request.moment old.seat.leases new.seat.leases
    × (receipt : Option Receipt)
    × IsReceived old request answer receipt new
GivenBySeat epoch old (Renewal moment client) answer new =
    (told : Option LeaseRenewal)
    × RenewsAs (number_in epoch client) moment told old.seat.leases new.seat.leases
    × (answer ≡ results.Renew (renewal_answer (was_renewed told)))
    × HoldsTheSame old new
