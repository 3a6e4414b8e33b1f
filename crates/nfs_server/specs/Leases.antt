-- A lent core, and the book of its clients' leases.
use Rattle.nfs_core.specs.Server.{Server}
use Rattle.nfs_leases.specs.BookOf.{IsBookOf}
use Rattle.nfs_leases.specs.PlainBook.{PlainBook, is_open_in, was_opened_in}

-- a lent core, and the book of its clients' leases
pub record LentCore : Type 0 where
  pub core : Server
  pub book : PlainBook

-- the book has the leases of the core's clients
abbrev pub IsLent : Server → PlainBook → Type 0
IsLent core book = IsBookOf (is_open_in book) (was_opened_in book) book.lease core
