-- The course of a connection up to the present.
use Rattle.std.proofs.Common.{◌≡◌, ◌≢◌, ℕ, ◌+◌, ◌^◌, ◌<◌, ◌≤◌, ◌⊎◌, inl, inr, true, false, List, [], ◌∷◌, ◌++◌, length, take, Result, Ok, Err, refl, sym, ap, subst, ◌∙◌, arith}
use Rattle.std.specs.List.{AllByRecursion}
use Rattle.std.specs.Prelude.{◌↔◌, IsErrOf}
use Rattle.std.proofs.lemmas.List.{append-nil, length-append, length-take}
use Rattle.std.proofs.lemmas.List.Concat.{flat_map-cons}
use Rattle.std.proofs.lemmas.Grind.{flat_map-append}
use Rattle.nfs_rpc.specs.declared.records.TheConstants.{RECORD_LIMIT}
use Rattle.nfs_rpc.specs.Records.{AreRecords, IsNew, IsStream, IsTooLong, Keeps, Splits, Stream, TakesPiece}
use Rattle.nfs_server.specs.declared.serve_error.ServeError.{ServeError}
use Rattle.nfs_server.specs.declared.serve_error.ServeError.TheVariants as errors
use Rattle.nfs_server.specs.Connection.{Scene, Turn, AreTurns, EndsWith, HasCourse, IsTurn, rest_after, scene, text_of}
use Rattle.nfs_server.specs.Device.{Device, IsWritten}
use Rattle.nfs_server.specs.Exchange.{Rules, messages_of}
use Rattle.nfs_server.specs.Serving.{GoesOut, IsServed}
use Rattle.nfs_server.proofs.Serving.{errs, error_is}

-- turns with one more turn after them
turns_more : {D S C : Type 0} (device : Device D) (rules : Rules S C) (a b c : Scene D S C) (carried : List ℕ) (turns : List Turn) (turn : Turn)
    → AreTurns device rules a carried turns b → IsTurn device rules IsWritten b (rest_after carried turns) turn c → turn.unanswered ≡ [] → (IsTooLong turn.rest → ⊥)
    → AreTurns device rules a carried (turns ++ turn ∷ []) c
turns_more {D = D} {S = S} {C = C} device rules a b c carried [] turn are more none goes =
    (c, subst (λ (x : Scene D S C). IsTurn device rules IsWritten x carried turn c) are more, none, goes, refl)
turns_more device rules a b c carried (first ∷ turns) turn are more none goes =
    (are.0, are.1, are.2, are.3, turns_more device rules are.0 b c first.rest turns turn are.4 more none goes)

rest_more : (carried : List ℕ) (turns : List Turn) (turn : Turn) → rest_after carried (turns ++ turn ∷ []) ≡ turn.rest
rest_more carried [] turn = refl
rest_more carried (first ∷ turns) turn = rest_more first.rest turns turn

text_more : (turns : List Turn) (turn : Turn) → text_of (turns ++ turn ∷ []) ≡ text_of turns ++ turn.piece
text_more turns turn =
    flat_map-append (λ (t : Turn). t.piece) turns (turn ∷ []) ∙ ap (λ (x : List ℕ). text_of turns ++ x) (flat_map-cons (λ (t : Turn). t.piece) turn [] ∙ append-nil turn.piece)

-- All turns so far are complete, and the stream keeps the bytes that they left.
pub record IsUnderWay {D S C : Type 0} (device : Device D) (rules : Rules S C) (before : Scene D S C) (stream : Stream) (now : Scene D S C) : Type 0 where
  pub turns : List Turn
  pub are : AreTurns device rules before [] turns now
  pub keeps : Keeps (rest_after [] turns) stream
  pub idle : stream.ready ≡ []
  pub fed : stream.fed ≡ length (text_of turns)

pub starts : {D S C : Type 0} (device : Device D) (rules : Rules S C) (before : Scene D S C) (stream : Stream) → IsNew stream → IsUnderWay device rules before stream before
starts device rules before stream new = record { turns = []; are = refl; keeps = new.keeps; idle = new.idle; fed = new.fed }

-- a last read after which no record was answered
abbrev pub idle : List ℕ → Turn
idle piece = record { piece = piece; exchanges = []; unanswered = []; rest = [] }

-- The connection ends with a read after which no record was answered.
pub ends_idle : {D S C : Type 0} (device : Device D) (rules : Rules S C) (before now : Scene D S C) (stream : Stream) (piece : List ℕ) (result : Result ℕ ServeError) (d : D)
    → (u : IsUnderWay device rules before stream now) → IsStream stream
    → EndsWith device rules now (record { turns = u.turns; last = idle piece }) result (scene d now.service now.clock)
    → HasCourse device rules before result (scene d now.service now.clock)
ends_idle device rules before now stream piece result d u sound ends =
    (record { turns = u.turns; last = idle piece }, (now, u.are, omega (arith, u.fed, sound.bounded), ends))

-- memory ran out before anything was read
pub ends_unread : {D S C : Type 0} (device : Device D) (rules : Rules S C) (before : Scene D S C) → HasCourse device rules before (Err errors.Memory) before
ends_unread device rules before = (record { turns = []; last = idle [] }, (before, refl, omega arith, inl (refl, refl, refl, refl)))

-- each record of a split is within the limit
within_limit : (found : List (List ℕ)) (front : List ℕ) → AreRecords found front → AllByRecursion (λ message. length message ≤ RECORD_LIMIT) found
within_limit [] front are = tt
within_limit (message ∷ found) front are = (are.0, within_limit found are.1.1 are.1.4)

-- the records that a piece completes are the ready ones
found_ready : (old new : Stream) (piece : List ℕ) → old.ready ≡ [] → (takes : TakesPiece old new piece) → new.ready ≡ takes.found
found_ready old new piece none takes = takes.ready ∙ ap (λ (r : List (List ℕ)). r ++ takes.found) none

pub ready_within : (old new : Stream) (piece rest : List ℕ) → old.ready ≡ [] → Keeps rest old → TakesPiece old new piece → AllByRecursion (λ message. length message ≤ RECORD_LIMIT) new.ready
ready_within old new piece rest none keeps takes =
    let w = takes.split rest keeps in
    rw (found_ready old new piece none takes) (within_limit takes.found w.1.front w.1.records)

pub same_error : {T : Type 0} (result : Result T ServeError) (e f : ServeError) → result ≡ Err e → result ≡ Err f → e ≡ f
same_error result e f first second = let both : Err e ≡ Err f = sym first ∙ second in cc

write_or_memory : (error : ServeError) → (errs error ≡ errs errors.Write) ⊎ (errs error ≡ errs errors.Memory) → (error ≡ errors.Write) ⊎ (error ≡ errors.Memory)
write_or_memory error (inl write) = inl (error_is error errors.Write write)
write_or_memory error (inr memory) = inr (error_is error errors.Memory memory)

-- A piece was read and added to the stream, and records that it completed were answered.
pub record IsPart {D S C T : Type 0} (device : Device D) (rules : Rules S C) (before now : Scene D S C) (old new : Stream) (piece : List ℕ) (result : Result T ServeError) (after : Scene D S C) : Type 0 where
  pub mid : D
  pub under_way : IsUnderWay device rules before old now
  pub some : piece ≢ []
  pub reads : device.gives now.device piece mid
  pub takes : TakesPiece old new piece
  pub served : IsServed {T = T} device rules (scene mid now.service now.clock) new.ready result after
  pub within : old.fed + length piece ≤ 2 ^ 40

abbrev rest_of : {D S C T : Type 0} (device : Device D) (rules : Rules S C) (before now : Scene D S C) (old new : Stream) (piece : List ℕ) (result : Result T ServeError) (after : Scene D S C) → IsPart device rules before now old new piece result after → List ℕ
rest_of device rules before now old new piece result after p = (p.takes.split (rest_after [] p.under_way.turns) p.under_way.keeps).0

-- the turn that consists of reading the piece and answering its records
abbrev turn_of : {D S C T : Type 0} (device : Device D) (rules : Rules S C) (before now : Scene D S C) (old new : Stream) (piece : List ℕ) (result : Result T ServeError) (after : Scene D S C) → IsPart device rules before now old new piece result after → Turn
turn_of device rules before now old new piece result after p = record {
  piece = piece;
  exchanges = p.served.exchanges;
  unanswered = p.served.unanswered;
  rest = rest_of device rules before now old new piece result after p;
}

is_turn : {D S C T : Type 0} (device : Device D) (rules : Rules S C) (before now : Scene D S C) (old new : Stream) (piece : List ℕ) (result : Result T ServeError) (after : Scene D S C)
    → (p : IsPart device rules before now old new piece result after)
    → IsTurn device rules (λ device. GoesOut device result) now (rest_after [] p.under_way.turns) (turn_of device rules before now old new piece result after p) after
is_turn device rules before now old new piece result after p =
    let rest = rest_after [] p.under_way.turns in
    let w = p.takes.split rest p.under_way.keeps in
    let all : p.takes.found ≡ messages_of p.served.exchanges ++ p.served.unanswered = sym (found_ready old new piece p.under_way.idle p.takes) ∙ p.served.served in
    record {
      mid = p.mid;
      service = p.served.service;
      some = p.some;
      reads = p.reads;
      split = subst (λ (m : List (List ℕ)). Splits (rest ++ piece) m w.0) all w.1;
      exchanged = p.served.exchanged;
      left = p.served.left;
      written = p.served.written;
    }

-- the connection ends while the records of a piece are answered
pub ends_part : {D S C T : Type 0} (device : Device D) (rules : Rules S C) (before now : Scene D S C) (old new : Stream) (piece : List ℕ) (error : ServeError) (after : Scene D S C)
    → (error ≡ errors.Write) ⊎ (error ≡ errors.Memory) → IsStream old
    → IsPart {T = T} device rules before now old new piece (Err error) after
    → HasCourse device rules before (Err error) after
ends_part {T = T} device rules before now old new piece errors.Write after which sound p =
    (record { turns = p.under_way.turns; last = turn_of {T = T} device rules before now old new piece (Err errors.Write) after p }, (now, p.under_way.are, omega (arith, p.under_way.fed, sound.bounded), (is_turn {T = T} device rules before now old new piece (Err errors.Write) after p, omega (arith, p.within, p.under_way.fed))))
ends_part {T = T} device rules before now old new piece errors.Memory after which sound p =
    (record { turns = p.under_way.turns; last = turn_of {T = T} device rules before now old new piece (Err errors.Memory) after p }, (now, p.under_way.are, omega (arith, p.under_way.fed, sound.bounded), inr (inr (is_turn {T = T} device rules before now old new piece (Err errors.Memory) after p, omega (arith, p.within, p.under_way.fed), p.served.some_left refl))))
ends_part device rules before now old new piece error after (inl which) sound p = cc
ends_part device rules before now old new piece error after (inr which) sound p = cc

pub ends_failed : {D S C T : Type 0} (device : Device D) (rules : Rules S C) (before now : Scene D S C) (old new : Stream) (piece : List ℕ) (error : ServeError) (result : Result ℕ ServeError) (after : Scene D S C)
    → result ≡ Err error → (errs error ≡ errs errors.Write) ⊎ (errs error ≡ errs errors.Memory) → IsStream old
    → IsPart {T = T} device rules before now old new piece (Err error) after
    → HasCourse device rules before result after
ends_failed {T = T} device rules before now old new piece error result after failed which sound p =
    rw failed (ends_part {T = T} device rules before now old new piece error after (write_or_memory error which) sound p)

-- the connection ends with a record that is too long
pub ends_too_long : {D S C T : Type 0} (device : Device D) (rules : Rules S C) (before now : Scene D S C) (old new last : Stream) (piece : List ℕ) (x : T) (after : Scene D S C)
    → IsStream old → IsPart {T = T} device rules before now old new piece (Ok x) after
    → last ≡ record new { ready = [] } → last.is_too_long ≡ true
    → HasCourse device rules before (Err errors.TooLong) after
ends_too_long {T = T} device rules before now old new last piece x after sound p same told =
    let w = p.takes.split (rest_after [] p.under_way.turns) p.under_way.keeps in
    let long : new.is_too_long ≡ true = sym (ap (λ (s : Stream). s.is_too_long) same) ∙ told in
    (record { turns = p.under_way.turns; last = turn_of {T = T} device rules before now old new piece (Ok x) after p }, (now, p.under_way.are, omega (arith, p.under_way.fed, sound.bounded), (is_turn {T = T} device rules before now old new piece (Ok x) after p, omega (arith, p.within, p.under_way.fed), p.served.none_left, w.2.too_long.0 long)))

-- a turn is complete, and the connection goes on
pub more_served : {D S C T : Type 0} (device : Device D) (rules : Rules S C) (before now : Scene D S C) (old new last : Stream) (piece : List ℕ) (x : T) (after : Scene D S C)
    → IsPart {T = T} device rules before now old new piece (Ok x) after
    → last ≡ record new { ready = [] } → last.is_too_long ≡ false
    → IsUnderWay device rules before last after
more_served {T = T} device rules before now old new last piece x after p same goes =
    let u = p.under_way in
    let w = p.takes.split (rest_after [] u.turns) u.keeps in
    let turn = turn_of {T = T} device rules before now old new piece (Ok x) after p in
    let short : IsTooLong w.0 → ⊥ = λ long.
    let told : new.is_too_long ≡ true = w.2.too_long.1 long in
    let clash : true ≡ false = sym told ∙ sym (ap (λ (s : Stream). s.is_too_long) same) ∙ goes in
    cc in
    record {
      turns = u.turns ++ turn ∷ [];
      are = turns_more device rules before now after [] u.turns turn u.are (is_turn {T = T} device rules before now old new piece (Ok x) after p) p.served.none_left short;
      keeps = rw (rest_more [] u.turns turn) (subst (λ (s : Stream). Keeps w.0 s) (sym same) w.2);
      idle = ap (λ (s : Stream). s.ready) same;
      fed = ap (λ (s : Stream). s.fed) same ∙ p.takes.fed ∙ ap (λ (n : ℕ). n + length piece) u.fed ∙ sym (ap length (text_more u.turns turn) ∙ length-append (text_of u.turns) piece);
    }

not_read : (error : ServeError) → (error ≡ errors.Write) ⊎ (error ≡ errors.Memory) → error ≡ errors.Read → ⊥
not_read error (inl write) read = let clash : errors.Write ≡ errors.Read = sym write ∙ read in cc
not_read error (inr memory) read = let clash : errors.Memory ≡ errors.Read = sym memory ∙ read in cc

-- no read failed while records were answered
pub no_read_failed : {T : Type 0} (result : Result T ServeError) (error : ServeError) (old mid new : ℕ) → result ≡ Err error → (errs error ≡ errs errors.Write) ⊎ (errs error ≡ errs errors.Memory) → new ≡ mid → mid ≡ old → IsErrOf result errors.Read ↔ old < new
no_read_failed result error old mid new failed which same same' =
    (λ read. absurd (not_read error (write_or_memory error which) (same_error result error errors.Read failed read)), λ less. absurd (omega (arith, less, same, same')))

-- the result is Write exactly if a write failed
pub write_failed : {T : Type 0} (result : Result T ServeError) (error : ServeError) (old mid new : ℕ) → result ≡ Err error → (errs error ≡ errs errors.Write ↔ mid < new) → mid ≡ old → IsErrOf result errors.Write ↔ old < new
write_failed result error old mid new failed told same =
    (λ write. omega (arith, told.0 (ap errs (same_error result error errors.Write failed write)), same), λ less. failed ∙ ap (λ (e : ServeError). Err e) (error_is error errors.Write (told.1 (omega (arith, less, same)))))

-- a read that gives at least one byte gives a piece that isn't empty
pub some_piece : (buffer : List ℕ) (count : ℕ) → count ≤ length buffer → (count ≡ 0 → ⊥) → take count buffer ≢ []
some_piece buffer count within some none = some (omega (arith, length-take count buffer, ap length none, within))

-- only the ready records change, so what holds for every stream still holds
pub still_stream : (old new : Stream) → new ≡ record old { ready = [] } → IsStream old → IsStream new
still_stream old new same sound = rw same (record { keeps = sound.keeps; few = sound.few; bounded = sound.bounded })
