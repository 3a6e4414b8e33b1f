-- How a core with the leases of its clients answers as a service (RFC 7530, sections 9.5 and 16.28).
use Rattle.std.specs.Prelude.{◌≡◌, ℕ, Bool, false, Option, Some, None}
use Rattle.nfs_forms.specs.declared.client_id.ClientId.{ClientId}
use Rattle.nfs_owners.specs.Registry.{Registry, is_live}
use Rattle.nfs_core.specs.Entered.{Answers}
use Rattle.nfs_core.specs.declared.entered.Entered.{Entered}
use Rattle.nfs_server.specs.Asking.{Operation, Question, Renewal}
use Rattle.nfs_leases.specs.BookEvent.{AllHappen}
use Rattle.nfs_leases.specs.BookOf.{events_entered}
use Rattle.nfs_server.specs.Leases.{LentCore}
use Rattle.nfs_leases.specs.PlainBook.{Happens, with_renewal}
use Rattle.nfs_leases.specs.Renewals.{renewal_answer, renewed_by}
use Rattle.nfs_xdr.specs.declared.op.Op.{Op}
use Rattle.nfs_xdr.specs.declared.op.Op.TheVariants as ops
use Rattle.nfs_xdr.specs.declared.op_result.OpResult.{OpResult}
use Rattle.nfs_xdr.specs.declared.op_result.OpResult.TheVariants as results

-- RENEW of this client
abbrev pub renewal_of : ClientId → Op
renewal_of client = ops.Renew (record { client = client })

-- the client with this number, if there is one, is live
abbrev pub names_live : Registry → Option ℕ → Bool
names_live clients None = false
names_live clients (Some number) = is_live number clients

-- How a core with the leases of its clients answers a question. Before an operation is judged it renews the lease of
-- the client that it names, whatever is answered; after it, the lease of a client that became live by it is opened, and
-- that of one that was replaced is retired. A renewal is answered NFS4_OK where the client is live.
abbrev pub IsGiven : LentCore → Question → OpResult → LentCore → Type 0
IsGiven old (Operation request) answer new =
    let client = renewed_by old.core.journal.epoch request.op in
    (entered : Option Entered)
    × Answers old.core new.core request answer entered
    × AllHappen Happens (with_renewal client request.moment old.book)
    (events_entered entered request.moment) new.book
IsGiven old (Renewal moment client) answer new =
    let number = renewed_by old.core.journal.epoch (renewal_of client) in
    (answer ≡ results.Renew (renewal_answer (names_live old.core.stored.clients number)))
    × (new.core ≡ old.core)
    × (new.book ≡ with_renewal number moment old.book)
