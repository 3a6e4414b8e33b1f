-- What follows from every course: for the whole text that was read, for devices whose bytes are known, and for the
-- journal. And what follows from writes to a device whose bytes are known.
use Rattle.std.specs.Prelude.{◌≡◌, ◌≢◌, ℕ, List, [], ◌++◌, Option, Result, Err, OnOk}
use Rattle.std.specs.List.{flat_map}
use Rattle.std.specs.Io.KnownBytes.{Appends, Consumes, IsAtEnd, Keeps}
use Rattle.nfs_state.specs.declared.entry.Entry.{Entry}
use Rattle.nfs_rpc.specs.Records.{Splits}
use Rattle.nfs_tree.specs.Exports.{Exported}
use Rattle.nfs_server.specs.declared.serve_error.ServeError.{ServeError}
use Rattle.nfs_server.specs.declared.serve_error.ServeError.TheVariants as errors
use Rattle.nfs_server.specs.Leases.{LentCore}
use Rattle.nfs_server.specs.Connection.{Scene, Turn, Course, AreTurns, IsCourse, all_exchanges, exchanges_of, rest_after, text_of}
use Rattle.nfs_server.specs.Device.{Device, IsCut, IsWritten}
use Rattle.nfs_server.specs.Entries.{AreEntries}
use Rattle.nfs_server.specs.Exchange.{Rules, messages_of, questions_of, written_for_all}

-- The records that were answered in turns are those of the whole text that was read, in order, and the records of one
-- more piece continue them.
abbrev pub IsOneText : {D S C : Type 0} → Device D → Rules S C → Type 0
IsOneText {D = D} {S = S} {C = C} device rules =
    (before after : Scene D S C) (turns : List Turn)
    → AreTurns device rules before [] turns after
    → Splits (text_of turns) (messages_of (exchanges_of turns)) (rest_after [] turns)
    × ((piece : List ℕ) (found : List (List ℕ)) (rest : List ℕ)
    → Splits (rest_after [] turns ++ piece) found rest
    → Splits (text_of turns ++ piece) (messages_of (exchanges_of turns) ++ found) rest)

-- What was written in a course: the replies to all records that were answered, or, if a write failed, a beginning of
-- these replies that ends within those to the records of the last read.
abbrev pub IsWrittenBy : {T : Type 0} → Exported → Course → Result T ServeError → List ℕ → Type 0
IsWrittenBy export course (Err errors.Write) written =
    (front : List ℕ) × (back : List ℕ)
    × (written_for_all export course.last.exchanges ≡ front ++ back) × (back ≢ [])
    × (written ≡ written_for_all export (exchanges_of course.turns) ++ front)
IsWrittenBy export course result written = written ≡ written_for_all export (all_exchanges course)

-- The bytes of a device are known: those that reads will give, and those that were written.
pub record TellsBytes {D : Type 0} (device : Device D)
    (remaining contents : D → Option (List ℕ)) : Type 0 where
  pub gives : (a b : D) (piece : List ℕ) → device.gives a piece b
      → Consumes (remaining a) (remaining b) piece × (piece ≡ [] → IsAtEnd (remaining b))
      × (contents b ≡ contents a)
  pub fails_to_read : (a b : D) → device.fails_to_read a b
      → Keeps (remaining a) (remaining b) × (contents b ≡ contents a)
  pub takes : (a b : D) (part : List ℕ) → device.takes a part b
      → Appends (contents a) (contents b) part × (remaining b ≡ remaining a)
  pub fails_to_write : (a b : D) → device.fails_to_write a b
      → Keeps (contents a) (contents b) × (remaining b ≡ remaining a)

-- What is written to a device is added after the bytes that were written before, if these are known: all of it, or a
-- beginning that isn't all where a write failed.
abbrev pub AddsWritten : {D : Type 0} → Device D → (D → Option (List ℕ)) → Type 0
AddsWritten {D = D} device contents =
    (old new : D) (bytes : List ℕ)
    → (IsWritten device old bytes new → Appends (contents old) (contents new) bytes)
    × (IsCut device old bytes new → (front : List ℕ) × (back : List ℕ)
    × (bytes ≡ front ++ back) × (back ≢ []) × Appends (contents old) (contents new) front)

-- What is read in a course is taken from the front of the bytes that the device had, up to their end if the course ends
-- without an error, and what is written is added after the bytes that were written before.
abbrev pub HasBytes : {D S C : Type 0} → Device D → Rules S C
    → (remaining contents : D → Option (List ℕ)) → Type 0
HasBytes {D = D} {S = S} {C = C} device rules remaining contents =
    (before after : Scene D S C) (course : Course) (result : Result ℕ ServeError)
    → IsCourse device rules before course result after
    → Consumes (remaining before.device) (remaining after.device)
    (text_of course.turns ++ course.last.piece)
    × OnOk result (IsAtEnd (remaining after.device))
    × ((written : List ℕ) × IsWrittenBy rules.export course result written
    × Appends (contents before.device) (contents after.device) written)

-- If the service is a core, its journal gains an entry for each operation that it was asked in a course and that wasn't
-- answered NFS4ERR_RESOURCE, in order, and no others.
abbrev pub GainsEntries : {D C : Type 0} → Device D → Rules LentCore C → Type 0
GainsEntries {D = D} {C = C} device rules =
    (before after : Scene D LentCore C) (course : Course) (result : Result ℕ ServeError)
    → IsCourse device rules before course result after
    → (entries : List Entry)
    × AreEntries (flat_map (questions_of rules.export) (all_exchanges course))
    (flat_map (λ e. e.answers) (all_exchanges course)) entries
    × (after.service.core.journal
    ≡ record before.service.core.journal {
      entries = before.service.core.journal.entries ++ entries;
    })
