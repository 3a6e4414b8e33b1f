-- The leases of a lent core: those of its live clients are open, and a core in which nobody is live has none.
use Rattle.std.proofs.Common.{◌≡◌, ℕ, false, Option, Some, None, refl}
use Rattle.std.specs.Prelude.{IsFalse}
use Rattle.nfs_core.specs.Server.{Server}
use Rattle.nfs_owners.specs.Registry.{is_live}
use Rattle.nfs_server.specs.Leases.{IsLent}
use Rattle.nfs_server.specs.LentAnswers.{names_live}
use Rattle.nfs_leases.specs.PlainBook.{PlainBook, has_open_lease, is_open_in, was_opened_in}
use Rattle.nfs_leases.specs.laws.Agreeing.{fresh_book_agrees}

pub fresh_lent : (core : Server) (book : PlainBook) → book.lease ≡ core.journal.lease → ((c : ℕ) → is_open_in book c ≡ false) → ((c : ℕ) → was_opened_in book c ≡ false) → ((c : ℕ) → IsFalse (is_live c core.stored.clients)) → IsLent core book
fresh_lent core book lasts closed fresh nobody = fresh_book_agrees (is_open_in book) (was_opened_in book) book.lease core lasts closed fresh nobody

-- the lease of the client is open where the client is live
pub open_is_live : (core : Server) (book : PlainBook) (client : Option ℕ) → IsLent core book → has_open_lease book client ≡ names_live core.stored.clients client
open_is_live core book None lent = refl
open_is_live core book (Some client) lent = lent.live client
