-- A connection: what was read, asked, answered and written in each turn, and how the connection ends.
use Rattle.std.specs.Prelude.{◌≡◌, ◌≢◌, ℕ, ◌+◌, ◌^◌, ◌≤◌, List, [], ◌∷◌, ◌++◌, ◌⊎◌, length, Result, Ok, Err}
use Rattle.std.specs.List.{flat_map}
use Rattle.nfs_rpc.specs.Records.{IsTooLong, Splits}
use Rattle.nfs_server.specs.declared.serve_error.ServeError.{ServeError}
use Rattle.nfs_server.specs.declared.serve_error.ServeError.TheVariants as errors
use Rattle.nfs_server.specs.Device.{Device, IsCut, IsWritten}
use Rattle.nfs_server.specs.Exchange.{Exchange, Rules, AreExchanged, AreLeft, messages_of, written_for_all}

-- a moment of a connection: the states of its device, its service and its clock
pub record Scene (D S C : Type 0) : Type 0 where
  pub device : D
  pub service : S
  pub clock : C

abbrev pub scene : {D S C : Type 0} → D → S → C → Scene D S C
scene device service clock = record { device = device; service = service; clock = clock }

-- What one read gave, and what followed from it: of the records that it completed those that were answered and those
-- that weren't, and the bytes after these records. If the read led to nothing, the last two have no meaning.
pub record Turn : Type 0 where
  pub piece : List ℕ
  pub exchanges : List Exchange
  pub unanswered : List (List ℕ)
  pub rest : List ℕ

-- A turn. `carried` are the bytes from earlier reads that are no whole record yet. A read gives a piece; the records
-- that are whole now are answered in their order; and their replies are written, completely, or partly if a write
-- fails. The device is `mid` after the read, and the service is `service` after the last record that was answered.
pub record IsTurn {D S C : Type 0} (device : Device D) (rules : Rules S C)
    (goes_out : Device D → D → List ℕ → D → Type 0) (before : Scene D S C) (carried : List ℕ)
    (turn : Turn) (after : Scene D S C) : Type 0 where
  pub mid : D
  pub service : S
  pub some : turn.piece ≢ []
  pub reads : device.gives before.device turn.piece mid
  pub split : Splits (carried ++ turn.piece) (messages_of turn.exchanges ++ turn.unanswered)
      turn.rest
  pub exchanged : AreExchanged rules before.service before.clock turn.exchanges service after.clock
  pub left : AreLeft rules.alike service turn.unanswered after.service
  pub written : goes_out device mid (written_for_all rules.export turn.exchanges) after.device

-- Turns one after the other. In each of them every record is answered and every reply is written before the next read,
-- and no record is too long.
abbrev pub AreTurns : {D S C : Type 0} → Device D → Rules S C → Scene D S C → List ℕ → List Turn
    → Scene D S C → Type 0
AreTurns device rules before carried [] after = after ≡ before
AreTurns {D = D} {S = S} {C = C} device rules before carried (turn ∷ turns) after =
    (mid : Scene D S C) × IsTurn device rules IsWritten before carried turn mid
    × (turn.unanswered ≡ []) × (IsTooLong turn.rest → ⊥)
    × AreTurns device rules mid turn.rest turns after

-- the bytes that were read in turns
abbrev pub text_of : List Turn → List ℕ
text_of turns = flat_map (λ turn. turn.piece) turns

-- the bytes that are no whole record yet after these turns
abbrev pub rest_after : List ℕ → List Turn → List ℕ
rest_after carried [] = carried
rest_after carried (turn ∷ turns) = rest_after turn.rest turns

-- The course of a connection: its turns, and its last read with what followed from it.
pub record Course : Type 0 where
  pub turns : List Turn
  pub last : Turn

-- the connection read no more bytes than a connection may carry
abbrev pub IsWithin : Course → Type 0
IsWithin course = length (text_of course.turns) + length course.last.piece ≤ 2 ^ 40

-- the records that were answered in turns
abbrev pub exchanges_of : List Turn → List Exchange
exchanges_of turns = flat_map (λ turn. turn.exchanges) turns

abbrev pub all_exchanges : Course → List Exchange
all_exchanges course = exchanges_of course.turns ++ course.last.exchanges

-- The last read gave its piece, which may be empty, and nothing followed from it.
abbrev pub IsIdle : {D S C : Type 0} → Device D → Rules S C → Scene D S C → Turn → Scene D S C
    → Type 0
IsIdle device rules before last after =
    (last.exchanges ≡ [])
    × (after ≡ record before { device = after.device })
    × device.gives before.device last.piece after.device

-- How a connection ends, starting at the end of its turns.
abbrev pub EndsWith : {D S C : Type 0} → Device D → Rules S C → Scene D S C → Course
    → Result ℕ ServeError → Scene D S C → Type 0
-- at the end of the input: the number of bytes after the last whole record is returned
EndsWith device rules before course (Ok len) after =
    IsIdle device rules before course.last after × (course.last.piece ≡ [])
    × (len ≡ length (rest_after [] course.turns))
-- a read failed
EndsWith device rules before course (Err errors.Read) after =
    (course.last.exchanges ≡ []) × (course.last.piece ≡ [])
    × (after ≡ record before { device = after.device })
    × device.fails_to_read before.device after.device
-- a write failed within the replies to the records of the last read
EndsWith device rules before course (Err errors.Write) after =
    IsTurn device rules IsCut before (rest_after [] course.turns) course.last after
    × IsWithin course
-- a header in the last read announces a record that is too long: the records before it were answered
EndsWith device rules before course (Err errors.TooLong) after =
    IsTurn device rules IsWritten before (rest_after [] course.turns) course.last after
    × IsWithin course
    × (course.last.unanswered ≡ []) × IsTooLong course.last.rest
-- Memory ran out: before anything was read; or for the bytes of the last read, of whose records none was answered then;
-- or for the reply to one of its records, after the replies to the records before it were written.
EndsWith device rules before course (Err errors.Memory) after =
    ((course.turns ≡ []) × (course.last.exchanges ≡ []) × (course.last.piece ≡ [])
    × (after ≡ before))
    ⊎ ((IsIdle device rules before course.last after × IsWithin course × (course.last.piece ≢ []))
    ⊎ (IsTurn device rules IsWritten before (rest_after [] course.turns) course.last after
    × IsWithin course
    × (course.last.unanswered ≢ [])))
-- more bytes came than a connection may carry
EndsWith device rules before course (Err errors.TooMuch) after =
    IsIdle device rules before course.last after × (IsWithin course → ⊥)

-- what holds for every course
abbrev pub IsCourse : {D S C : Type 0} → Device D → Rules S C → Scene D S C → Course
    → Result ℕ ServeError → Scene D S C → Type 0
IsCourse {D = D} {S = S} {C = C} device rules before course result after =
    (mid : Scene D S C) × AreTurns device rules before [] course.turns mid
    × (length (text_of course.turns) ≤ 2 ^ 40)
    × EndsWith device rules mid course result after

-- There is a course from the scene before to the scene after that ends with this result.
abbrev pub HasCourse : {D S C : Type 0} → Device D → Rules S C → Scene D S C → Result ℕ ServeError
    → Scene D S C → Type 0
HasCourse device rules before result after =
    (course : Course) × IsCourse device rules before course result after
