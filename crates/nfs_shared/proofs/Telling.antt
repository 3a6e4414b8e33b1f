-- What a call of the locked state did, seen from the value that it began with.
use Rattle.std.proofs.Common.{◌≡◌, Option, subst}
use Rattle.nfs_core.specs.Entered.{Answers}
use Rattle.nfs_core.specs.Server.{Server}
use Rattle.nfs_core.specs.declared.entered.Entered.{Entered}
use Rattle.nfs_leases.specs.BookEvent.{AllHappen}
use Rattle.nfs_leases.specs.BookOf.{events_entered}
use Rattle.nfs_state.specs.declared.request.Request.{Request}
use Rattle.nfs_words.specs.Desk.{Happens}
use Rattle.nfs_words.specs.Sitting.{Sitting}
use Rattle.nfs_xdr.specs.declared.op_result.OpResult.{OpResult}

pub told_from : (request : Request) (answer : OpResult) (core server new : Server) (entered : Option Entered) (book old after : Sitting)
    → core ≡ server → book ≡ old
    → Answers core new request answer entered
    → AllHappen Happens book (events_entered entered request.moment) after
    → Answers server new request answer entered × AllHappen Happens old (events_entered entered request.moment) after
told_from request answer core server new entered book old after core_is book_is answers happen = (
  subst (λ (s : Server). Answers s new request answer entered) core_is answers,
  subst (λ (b : Sitting). AllHappen Happens b (events_entered entered request.moment) after) book_is happen,
)
