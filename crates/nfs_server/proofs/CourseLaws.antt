-- What follows from every course of a connection.
use Rattle.std.proofs.Common.{◌≡◌, ℕ, List, [], ◌∷◌, ◌++◌, Option, None, Ok, Err, inl, inr, refl, sym, ap, subst, ◌∙◌, append_assoc, length, arith}
use Rattle.std.specs.List.{flat_map}
use Rattle.std.specs.Io.KnownBytes.{Appends, Consumes, IsAtEnd, Keeps}
use Rattle.std.proofs.KnownBytes.{Appends-nil, Appends-kept, Appends-trans, Consumes-kept, Consumes-nil, Consumes-trans}
use Rattle.std.proofs.lemmas.List.{append-nil, length-append}
use Rattle.std.proofs.lemmas.List.Concat.{flat_map-cons}
use Rattle.nfs_rpc.specs.Records.{IsRest, SplitGoesOn, Splits}
use Rattle.nfs_tree.specs.Exports.{Exported}
use Rattle.nfs_server.specs.declared.serve_error.ServeError.TheVariants as errors
use Rattle.nfs_server.specs.Connection.{Scene, Turn, Course, AreTurns, EndsWith, IsIdle, IsTurn, all_exchanges, exchanges_of, rest_after, text_of}
use Rattle.nfs_server.specs.Sides.{device_of}
use Rattle.nfs_server.specs.declared.device.Counted.{Counted}
use Rattle.nfs_server.specs.declared.sides.Sides.{Sides}
use Rattle.nfs_server.specs.CourseLaws.{AddsWritten, HasBytes, IsOneText, TellsBytes}
use Rattle.nfs_server.specs.Device.{Device, AreTaken, IsCut, IsWritten, device_of_sink}
use Rattle.nfs_server.specs.Exchange.{Exchange, Rules, messages_of, rules, written_for_all}
use Rattle.nfs_server.proofs.Serving.{messages-append, written-append}

-- turns that begin with the rest of a text that was split: the whole text is split into the records of both
texts_go_on : {D S C : Type 0} (continues : SplitGoesOn) (device : Device D) (rules : Rules S C) (before after : Scene D S C) (text : List ℕ) (messages : List (List ℕ)) (carried : List ℕ) (turns : List Turn)
    → Splits text messages carried → AreTurns device rules before carried turns after
    → Splits (text ++ text_of turns) (messages ++ messages_of (exchanges_of turns)) (rest_after carried turns)
texts_go_on continues device rules before after text messages carried [] split are =
    subst (λ (t : List ℕ). Splits t (messages ++ []) carried) (sym (append-nil text)) (subst (λ (m : List (List ℕ)). Splits text m carried) (sym (append-nil messages)) split)
texts_go_on continues device rules before after text messages carried (turn ∷ turns) split are =
    let piece = turn.piece in
    let here = messages_of turn.exchanges in
    let all : here ++ turn.unanswered ≡ here = ap (λ (m : List (List ℕ)). here ++ m) are.2 ∙ append-nil here in
    let more = continues text piece messages here carried turn.rest split (subst (λ (m : List (List ℕ)). Splits (carried ++ piece) m turn.rest) all are.1.split) in
    let others = texts_go_on continues device rules are.0 after (text ++ piece) (messages ++ here) turn.rest turns more are.4 in
    let texts : (text ++ piece) ++ text_of turns ≡ text ++ text_of (turn ∷ turns) =
    append_assoc text piece (text_of turns) ∙ ap (λ (t : List ℕ). text ++ t) (sym (flat_map-cons (λ (t : Turn). t.piece) turn turns)) in
    let found : (messages ++ here) ++ messages_of (exchanges_of turns) ≡ messages ++ messages_of (exchanges_of (turn ∷ turns)) =
    append_assoc messages here (messages_of (exchanges_of turns)) ∙ ap (λ (m : List (List ℕ)). messages ++ m) (sym (messages-append turn.exchanges (exchanges_of turns)) ∙ ap (λ (es : List Exchange). messages_of es) (sym (flat_map-cons (λ (t : Turn). t.exchanges) turn turns))) in
    subst (λ (t : List ℕ). Splits t (messages ++ messages_of (exchanges_of (turn ∷ turns))) (rest_after turn.rest turns)) texts
    (subst (λ (m : List (List ℕ)). Splits ((text ++ piece) ++ text_of turns) m (rest_after turn.rest turns)) found others)

-- no record is at the front of an empty text
none_begins : IsRest []
none_begins message front back whole is within =
    let last = is.3.4 in
    omega (arith, ap length whole, length-append front back, ap length is.3.2, length-append is.3.0 is.3.1, ap length last.2, length-append last.0 is.1, last.1.four)

pub is_one_text : {D S C : Type 0} (continues : SplitGoesOn) (device : Device D) (rules : Rules S C) → IsOneText device rules
is_one_text continues device rules before after turns are =
    let none : Splits [] [] [] = record { front = []; whole = refl; records = refl; none_left = none_begins } in
    let all = texts_go_on continues device rules before after [] [] [] turns none are in
    (all, λ piece found rest more. continues (text_of turns) piece (messages_of (exchanges_of turns)) found (rest_after [] turns) rest all more)

-- which bytes are in the device after writes took these parts
taken_bytes : {D : Type 0} (device : Device D) (remaining contents : D → Option (List ℕ)) (tells : TellsBytes device remaining contents) (a b : D) (parts : List (List ℕ)) → AreTaken device a parts b
    → Appends (contents a) (contents b) (flat_map (λ part. part) parts) × (remaining b ≡ remaining a)
taken_bytes {D = D} device remaining contents tells a b [] taken =
    (subst (λ (x : D). Appends (contents a) (contents x) []) (sym taken) (Appends-nil (contents a)), ap remaining taken)
taken_bytes device remaining contents tells a b (part ∷ parts) taken =
    let one = tells.takes a taken.0 part taken.1 in
    let others = taken_bytes device remaining contents tells taken.0 b parts taken.2 in (
      subst (λ (w : List ℕ). Appends (contents a) (contents b) w) (sym (flat_map-cons (λ (p : List ℕ). p) part parts)) (Appends-trans (contents a) (contents taken.0) (contents b) part (flat_map (λ p. p) parts) one.0 others.0),
      others.1 ∙ one.1,
    )

written_bytes : {D : Type 0} (device : Device D) (remaining contents : D → Option (List ℕ)) (tells : TellsBytes device remaining contents) (a b : D) (bytes : List ℕ) → IsWritten device a bytes b
    → Appends (contents a) (contents b) bytes × (remaining b ≡ remaining a)
written_bytes device remaining contents tells a b bytes written =
    let taken = taken_bytes device remaining contents tells a b written.0 written.2 in
    (subst (λ (w : List ℕ). Appends (contents a) (contents b) w) (sym written.1) taken.0, taken.1)

-- what is written to a device that tells its bytes is added after them: all of it, or a beginning where a write failed
pub adds_written : {D : Type 0} (device : Device D) (remaining contents : D → Option (List ℕ)) (tells : TellsBytes device remaining contents) → AddsWritten device contents
adds_written device remaining contents tells old new bytes = (
  λ written. (written_bytes device remaining contents tells old new bytes written).0,
  λ cut. (
    cut.0,
    cut.1,
    cut.3,
    cut.4,
    Appends-kept (contents old) (contents cut.2) (contents new) cut.0 (written_bytes device remaining contents tells old cut.2 cut.0 cut.5).0 (tells.fails_to_write cut.2 new cut.6).0,
  ),
)

-- a source and a sink of std that count their failed calls tell their bytes, as one device
pub counted_tell : {R W : Type 0} (remaining : R → Option (List ℕ)) (contents : W → Option (List ℕ))
    → TellsBytes {D = Sides (Counted R) (Counted W)}
    (device_of (λ old piece new. Consumes (remaining old.device) (remaining new.device) piece × (piece ≡ [] → IsAtEnd (remaining new.device)))
    (λ old new. Keeps (remaining old.device) (remaining new.device))
    (λ old part new. Appends (contents old.device) (contents new.device) part)
    (λ old new. Keeps (contents old.device) (contents new.device)))
    (λ sides. remaining sides.source.device) (λ sides. contents sides.sink.device)
counted_tell remaining contents = record {
  gives = λ a b piece did. (did.0.0, did.0.1, ap (λ sink. contents sink.device) did.1);
  fails_to_read = λ a b did. (did.0, ap (λ sink. contents sink.device) did.1);
  takes = λ a b part did. (did.0, ap (λ source. remaining source.device) did.1);
  fails_to_write = λ a b did. (did.0, ap (λ source. remaining source.device) did.1);
}

-- a sink of std that counts its failed writes tells its bytes
pub counted_sink_tells : {W : Type 0} (contents : W → Option (List ℕ))
    → TellsBytes {D = Counted W}
    (device_of_sink (λ old part new. Appends (contents old.device) (contents new.device) part) (λ old new. Keeps (contents old.device) (contents new.device)))
    (λ sink. None) (λ sink. contents sink.device)
counted_sink_tells contents = record {
  gives = λ a b piece did. (tt, (λ none. tt), ap (λ sink. contents sink.device) did);
  fails_to_read = λ a b did. (tt, ap (λ sink. contents sink.device) did);
  takes = λ a b part did. (did, refl);
  fails_to_write = λ a b did. (did, refl);
}

-- which bytes a turn read and wrote, given those of its replies that were written
turn_bytes : {D S C : Type 0} (device : Device D) (rules : Rules S C) (remaining contents : D → Option (List ℕ)) (tells : TellsBytes device remaining contents) (out : Device D → D → List ℕ → D → Type 0) (before : Scene D S C) (carried : List ℕ) (turn : Turn) (after : Scene D S C) (written : List ℕ)
    → (t : IsTurn device rules out before carried turn after) → Appends (contents t.mid) (contents after.device) written × (remaining after.device ≡ remaining t.mid)
    → Consumes (remaining before.device) (remaining after.device) turn.piece × Appends (contents before.device) (contents after.device) written
turn_bytes device rules remaining contents tells out before carried turn after written t wrote =
    let read = tells.gives before.device t.mid turn.piece t.reads in (
      subst (λ (o : Option (List ℕ)). Consumes (remaining before.device) o turn.piece) (sym wrote.1) read.0,
      subst (λ (o : Option (List ℕ)). Appends o (contents after.device) written) read.2 wrote.0,
    )

turns_bytes : {D S C : Type 0} (device : Device D) (rules : Rules S C) (remaining contents : D → Option (List ℕ)) (tells : TellsBytes device remaining contents) (before : Scene D S C) (carried : List ℕ) (turns : List Turn) (after : Scene D S C)
    → AreTurns device rules before carried turns after
    → Consumes (remaining before.device) (remaining after.device) (text_of turns) × Appends (contents before.device) (contents after.device) (written_for_all rules.export (exchanges_of turns))
turns_bytes {D = D} {S = S} {C = C} device rules remaining contents tells before carried [] after are = (
  subst (λ (s : Scene D S C). Consumes (remaining before.device) (remaining s.device) []) (sym are) (Consumes-nil (remaining before.device)),
  subst (λ (s : Scene D S C). Appends (contents before.device) (contents s.device) []) (sym are) (Appends-nil (contents before.device)),
)
turns_bytes device rules remaining contents tells before carried (turn ∷ turns) after are =
    let mid = are.0 in
    let written = written_for_all rules.export turn.exchanges in
    let others = written_for_all rules.export (exchanges_of turns) in
    let one = turn_bytes device rules remaining contents tells IsWritten before carried turn mid written are.1 (written_bytes device remaining contents tells are.1.mid mid.device written are.1.written) in
    let more = turns_bytes device rules remaining contents tells mid turn.rest turns after are.4 in
    let all : written ++ others ≡ written_for_all rules.export (exchanges_of (turn ∷ turns)) =
    sym (ap (λ (es : List Exchange). written_for_all rules.export es) (flat_map-cons (λ (t : Turn). t.exchanges) turn turns) ∙ written-append rules.export turn.exchanges (exchanges_of turns)) in (
      subst (λ (x : List ℕ). Consumes (remaining before.device) (remaining after.device) x) (sym (flat_map-cons (λ (t : Turn). t.piece) turn turns)) (Consumes-trans (remaining before.device) (remaining mid.device) (remaining after.device) turn.piece (text_of turns) one.0 more.0),
      subst (λ (x : List ℕ). Appends (contents before.device) (contents after.device) x) all (Appends-trans (contents before.device) (contents mid.device) (contents after.device) written others one.1 more.1),
    )

-- which bytes a last turn read and wrote whose replies were all written
last_bytes : {D S C : Type 0} (device : Device D) (rules : Rules S C) (remaining contents : D → Option (List ℕ)) (tells : TellsBytes device remaining contents) (before : Scene D S C) (carried : List ℕ) (last : Turn) (after : Scene D S C)
    → IsTurn device rules IsWritten before carried last after
    → Consumes (remaining before.device) (remaining after.device) last.piece × Appends (contents before.device) (contents after.device) (written_for_all rules.export last.exchanges)
last_bytes device rules remaining contents tells before carried last after t =
    turn_bytes device rules remaining contents tells IsWritten before carried last after (written_for_all rules.export last.exchanges) t (written_bytes device remaining contents tells t.mid after.device (written_for_all rules.export last.exchanges) t.written)

-- a last turn without exchanges wrote nothing
silent_bytes : (export : Exported) (es : List Exchange) (a b : Option (List ℕ)) → es ≡ [] → b ≡ a → Appends a b (written_for_all export es)
silent_bytes export es a b none same = rw (none, same) (Appends-nil a)

-- which bytes the turns and the last turn read and wrote together, if all replies were written
joined_bytes : {D S C : Type 0} (device : Device D) (rules : Rules S C) (remaining contents : D → Option (List ℕ)) (tells : TellsBytes device remaining contents) (before mid after : Scene D S C) (course : Course)
    → AreTurns device rules before [] course.turns mid
    → Consumes (remaining mid.device) (remaining after.device) course.last.piece × Appends (contents mid.device) (contents after.device) (written_for_all rules.export course.last.exchanges)
    → Consumes (remaining before.device) (remaining after.device) (text_of course.turns ++ course.last.piece)
    × Appends (contents before.device) (contents after.device) (written_for_all rules.export (all_exchanges course))
joined_bytes device rules remaining contents tells before mid after course are end =
    let turns = turns_bytes device rules remaining contents tells before [] course.turns mid are in (
      Consumes-trans (remaining before.device) (remaining mid.device) (remaining after.device) (text_of course.turns) course.last.piece turns.0 end.0,
      subst (λ (x : List ℕ). Appends (contents before.device) (contents after.device) x) (sym (written-append rules.export (exchanges_of course.turns) course.last.exchanges))
          (Appends-trans (contents before.device) (contents mid.device) (contents after.device) (written_for_all rules.export (exchanges_of course.turns)) (written_for_all rules.export course.last.exchanges) turns.1 end.1),
    )

idle_bytes : {D S C : Type 0} (device : Device D) (rules : Rules S C) (remaining contents : D → Option (List ℕ)) (tells : TellsBytes device remaining contents) (before : Scene D S C) (last : Turn) (after : Scene D S C)
    → IsIdle device rules before last after
    → Consumes (remaining before.device) (remaining after.device) last.piece × Appends (contents before.device) (contents after.device) (written_for_all rules.export last.exchanges)
idle_bytes device rules remaining contents tells before last after idle =
    let read = tells.gives before.device after.device last.piece idle.2 in
    (read.0, silent_bytes rules.export last.exchanges (contents before.device) (contents after.device) idle.0 read.2)

memory_bytes : {D S C : Type 0} (device : Device D) (rules : Rules S C) (remaining contents : D → Option (List ℕ)) (tells : TellsBytes device remaining contents) (before : Scene D S C) (course : Course) (after : Scene D S C)
    → EndsWith device rules before course (Err errors.Memory) after
    → Consumes (remaining before.device) (remaining after.device) course.last.piece × Appends (contents before.device) (contents after.device) (written_for_all rules.export course.last.exchanges)
memory_bytes {D = D} {S = S} {C = C} device rules remaining contents tells before course after (inl ends) = (
  rw (ends.2) (subst (λ (s : Scene D S C). Consumes (remaining before.device) (remaining s.device) []) (sym ends.3) (Consumes-nil (remaining before.device))),
  silent_bytes rules.export course.last.exchanges (contents before.device) (contents after.device) ends.1 (ap (λ (s : Scene D S C). contents s.device) ends.3),
)
memory_bytes device rules remaining contents tells before course after (inr (inl ends)) = idle_bytes device rules remaining contents tells before course.last after ends.0
memory_bytes device rules remaining contents tells before course after (inr (inr ends)) = last_bytes device rules remaining contents tells before (rest_after [] course.turns) course.last after ends.0

pub has_bytes : {D S C : Type 0} (device : Device D) (rules : Rules S C) (remaining contents : D → Option (List ℕ)) → TellsBytes device remaining contents → HasBytes device rules remaining contents
has_bytes device rules remaining contents tells before after course (Ok len) is =
    let all = joined_bytes device rules remaining contents tells before is.0 after course is.1 (idle_bytes device rules remaining contents tells is.0 course.last after is.3.0) in
    let read = tells.gives is.0.device after.device course.last.piece is.3.0.2 in
    (all.0, read.1 is.3.1, (written_for_all rules.export (all_exchanges course), refl, all.1))
has_bytes device rules remaining contents tells before after course (Err errors.Read) is =
    let failed = tells.fails_to_read is.0.device after.device is.3.3 in
    let none : Consumes (remaining is.0.device) (remaining after.device) course.last.piece =
    rw (is.3.1) (Consumes-kept (remaining is.0.device) (remaining is.0.device) (remaining after.device) [] (Consumes-nil (remaining is.0.device)) failed.0) in
    let all = joined_bytes device rules remaining contents tells before is.0 after course is.1 (none, silent_bytes rules.export course.last.exchanges (contents is.0.device) (contents after.device) is.3.0 failed.1) in
    (all.0, tt, (written_for_all rules.export (all_exchanges course), refl, all.1))
has_bytes device rules remaining contents tells before after course (Err errors.Write) is =
    let mid = is.0 in
    let t = is.3.0 in
    let cut = t.written in
    let wrote = written_bytes device remaining contents tells t.mid cut.2 cut.0 cut.5 in
    let failed = tells.fails_to_write cut.2 after.device cut.6 in
    let end = turn_bytes device rules remaining contents tells IsCut mid (rest_after [] course.turns) course.last after cut.0 t
    (Appends-kept (contents t.mid) (contents cut.2) (contents after.device) cut.0 wrote.0 failed.0, failed.1 ∙ wrote.1) in
    let turns = turns_bytes device rules remaining contents tells before [] course.turns mid is.1 in (
      Consumes-trans (remaining before.device) (remaining mid.device) (remaining after.device) (text_of course.turns) course.last.piece turns.0 end.0,
      tt,
      (
        written_for_all rules.export (exchanges_of course.turns) ++ cut.0,
        (cut.0, cut.1, cut.3, cut.4, refl),
        Appends-trans (contents before.device) (contents mid.device) (contents after.device) (written_for_all rules.export (exchanges_of course.turns)) cut.0 turns.1 end.1,
      ),
    )
has_bytes device rules remaining contents tells before after course (Err errors.TooLong) is =
    let all = joined_bytes device rules remaining contents tells before is.0 after course is.1 (last_bytes device rules remaining contents tells is.0 (rest_after [] course.turns) course.last after is.3.0) in
    (all.0, tt, (written_for_all rules.export (all_exchanges course), refl, all.1))
has_bytes {D = D} {S = S} {C = C} device rules remaining contents tells before after course (Err errors.TooMuch) is =
    let all = joined_bytes device rules remaining contents tells before is.0 after course is.1 (idle_bytes device rules remaining contents tells is.0 course.last after is.3.0) in
    (all.0, tt, (written_for_all rules.export (all_exchanges course), refl, all.1))
has_bytes {D = D} {S = S} {C = C} device rules remaining contents tells before after course (Err errors.Memory) is =
    let all = joined_bytes device rules remaining contents tells before is.0 after course is.1 (memory_bytes device rules remaining contents tells is.0 course after is.3) in
    (all.0, tt, (written_for_all rules.export (all_exchanges course), refl, all.1))
