-- The receipts that a desk is given when it is asked questions.
use Rattle.std.specs.Prelude.{◌≡◌, ℕ, ◌<◌, List, [], ◌∷◌, ◌++◌, map, Option, Some, Result}
use Rattle.std.specs.List.{flat_map}
use Rattle.nfs_shared.specs.declared.receipt.Receipt.{Receipt}
use Rattle.nfs_state.specs.declared.entry.Entry.{Entry}
use Rattle.nfs_state.specs.declared.entry.Entry.TheVariants as entries
use Rattle.nfs_server.specs.declared.serve_error.ServeError.{ServeError}
use Rattle.nfs_server.specs.Asking.{Question}
use Rattle.nfs_server.specs.Connection.{Scene, Course, IsCourse, all_exchanges}
use Rattle.nfs_server.specs.Device.{Device}
use Rattle.nfs_server.specs.Entries.{AreEntries}
use Rattle.nfs_server.specs.Exchange.{Rules, questions_of}
use Rattle.nfs_threads.specs.Holding.{Holding}
use Rattle.nfs_xdr.specs.declared.op_result.OpResult.{OpResult}

-- the entries that the receipts are for
abbrev pub entries_of : List Receipt → List Entry
entries_of receipts = map (λ receipt. entries.Call receipt.call) receipts

-- The receipts bear this place, and their numbers rise above the last one from before, up to the last one.
abbrev pub AreOfSeat : ℕ → Option ℕ → List Receipt → Option ℕ → Type 0
AreOfSeat place before [] last = last ≡ before
AreOfSeat place before (receipt ∷ receipts) last =
    (receipt.place ≡ place)
    × ((number : ℕ) → before ≡ Some number → number < receipt.number)
    × AreOfSeat place (Some receipt.number) receipts last

-- A desk that answered these questions in this way has the receipts that it had before, and after them those for the
-- questions' entries: the operations that were asked, with their answers, in order, except those that were answered
-- NFS4ERR_RESOURCE. They are its seat's, which keeps its place.
pub record GainsReceipts (old : Holding) (questions : List Question) (answers : List OpResult)
    (new : Holding) : Type 0 where
  pub receipts : List Receipt
  pub more : new.receipts ≡ old.receipts ++ receipts
  pub entries : AreEntries questions answers (entries_of receipts)
  pub place : new.seat.place ≡ old.seat.place
  pub of_seat : AreOfSeat old.seat.place old.seat.receipts.last receipts new.seat.receipts.last

-- In every course a desk gains the receipts for the questions that it is asked.
abbrev pub ReceiptsAreQuestions : {D C : Type 0} → Device D → Rules Holding C → Type 0
ReceiptsAreQuestions {D = D} {C = C} device rules =
    (before after : Scene D Holding C) (course : Course) (result : Result ℕ ServeError)
    → IsCourse device rules before course result after
    → GainsReceipts before.service
    (flat_map (questions_of rules.export) (all_exchanges course))
    (flat_map (λ e. e.answers) (all_exchanges course)) after.service
