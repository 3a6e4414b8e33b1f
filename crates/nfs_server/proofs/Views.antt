-- What is done over a device is done over another one, as which it is seen: a course over a pair that borrows a source
-- and a sink is a course over the source and the sink, and writes to the pair are writes to the sink.
use Rattle.std.proofs.Common.{◌≡◌, ℕ, List, [], ◌∷◌, Result, Ok, Err, OnOk, OnErr, inl, inr, refl, ap, subst, sym, ◌∙◌}
use Rattle.nfs_server.specs.declared.serve_error.ServeError.{ServeError}
use Rattle.nfs_server.specs.declared.serve_error.ServeError.TheVariants as errors
use Rattle.nfs_server.specs.Connection.{Scene, Turn, Course, AreTurns, EndsWith, HasCourse, IsIdle, IsTurn, rest_after, scene}
use Rattle.nfs_server.specs.Device.{Device, AreTaken, IsCut, IsWritten, device_of_sink}
use Rattle.nfs_server.specs.declared.sides.Sides.{Sides}
use Rattle.nfs_server.specs.Sides.{device_of, sides}
use Rattle.nfs_server.specs.Exchange.{Rules}
use Rattle.nfs_server.specs.Pair.{BorrowsTheSame, device_of_pair, sides_of}
use Rattle.nfs_server.specs.declared.device.DeviceFailed.{DeviceFailed}
use Rattle.nfs_server.specs.declared.duplex.Pair.{Pair}

-- In a state in which `IsBound` holds, each call of the device `from` is a call of the device `to`, seen through
-- `view`, and `IsBound` still holds after it.
pub record Is {D E : Type 0} (from : Device D) (to : Device E) (view : D → E) (IsBound : D → Type 0) : Type 0 where
  pub gives : (a b : D) (piece : List ℕ) → IsBound a → from.gives a piece b → to.gives (view a) piece (view b) × IsBound b
  pub fails_to_read : (a b : D) → IsBound a → from.fails_to_read a b → to.fails_to_read (view a) (view b) × IsBound b
  pub takes : (a b : D) (part : List ℕ) → IsBound a → from.takes a part b → to.takes (view a) part (view b) × IsBound b
  pub fails_to_write : (a b : D) → IsBound a → from.fails_to_write a b → to.fails_to_write (view a) (view b) × IsBound b

abbrev scene_as : {D E S C : Type 0} → (D → E) → Scene D S C → Scene E S C
scene_as view s = scene (view s.device) s.service s.clock

taken_as : {D E : Type 0} (from : Device D) (to : Device E) (view : D → E) (IsBound : D → Type 0) (is : Is from to view IsBound) (a b : D) (parts : List (List ℕ)) → IsBound a → AreTaken from a parts b → AreTaken to (view a) parts (view b) × IsBound b
taken_as from to view IsBound is a b [] bound taken = (ap view taken, subst IsBound (sym taken) bound)
taken_as from to view IsBound is a b (part ∷ parts) bound taken =
    let one = is.takes a taken.0 part bound taken.1 in
    let others = taken_as from to view IsBound is taken.0 b parts one.1 taken.2 in
    ((view taken.0, one.0, others.0), others.1)

written_as : {D E : Type 0} (from : Device D) (to : Device E) (view : D → E) (IsBound : D → Type 0) (is : Is from to view IsBound) (a b : D) (bytes : List ℕ) → IsBound a → IsWritten from a bytes b → IsWritten to (view a) bytes (view b) × IsBound b
written_as from to view IsBound is a b bytes bound written =
    let taken = taken_as from to view IsBound is a b written.0 bound written.2 in
    ((written.0, written.1, taken.0), taken.1)

cut_as : {D E : Type 0} (from : Device D) (to : Device E) (view : D → E) (IsBound : D → Type 0) (is : Is from to view IsBound) (a b : D) (bytes : List ℕ) → IsBound a → IsCut from a bytes b → IsCut to (view a) bytes (view b) × IsBound b
cut_as from to view IsBound is a b bytes bound cut =
    let written = written_as from to view IsBound is a cut.2 cut.0 bound cut.5 in
    let failed = is.fails_to_write cut.2 b written.1 cut.6 in
    ((cut.0, cut.1, view cut.2, cut.3, cut.4, written.0, failed.0), failed.1)

-- a turn over the one device is a turn over the other; `out` is `IsWritten` or `IsCut`
turn_as : {D E S C : Type 0} (from : Device D) (to : Device E) (view : D → E) (IsBound : D → Type 0) (is : Is from to view IsBound) (rules : Rules S C) (out : Device D → D → List ℕ → D → Type 0) (out' : Device E → E → List ℕ → E → Type 0)
    → ((a b : D) (bytes : List ℕ) → IsBound a → out from a bytes b → out' to (view a) bytes (view b) × IsBound b)
    → (before : Scene D S C) (carried : List ℕ) (turn : Turn) (after : Scene D S C) → IsBound before.device → IsTurn from rules out before carried turn after
    → IsTurn to rules out' (scene_as view before) carried turn (scene_as view after) × IsBound after.device
turn_as from to view IsBound is rules out out' goes before carried turn after bound t =
    let read = is.gives before.device t.mid turn.piece bound t.reads in
    let written = goes t.mid after.device _ read.1 t.written in (
      record {
        mid = view t.mid;
        service = t.service;
        some = t.some;
        reads = read.0;
        split = t.split;
        exchanged = t.exchanged;
        left = t.left;
        written = written.0;
      },
      written.1,
    )

turns_as : {D E S C : Type 0} (from : Device D) (to : Device E) (view : D → E) (IsBound : D → Type 0) (is : Is from to view IsBound) (rules : Rules S C) (before : Scene D S C) (carried : List ℕ) (turns : List Turn) (after : Scene D S C)
    → IsBound before.device → AreTurns from rules before carried turns after
    → AreTurns to rules (scene_as view before) carried turns (scene_as view after) × IsBound after.device
turns_as {D = D} {S = S} {C = C} from to view IsBound is rules before carried [] after bound are =
    (ap (λ (s : Scene D S C). scene_as view s) are, subst (λ (s : Scene D S C). IsBound s.device) (sym are) bound)
turns_as from to view IsBound is rules before carried (turn ∷ turns) after bound are =
    let one = turn_as from to view IsBound is rules IsWritten IsWritten (written_as from to view IsBound is) before carried turn are.0 bound are.1 in
    let others = turns_as from to view IsBound is rules are.0 turn.rest turns after one.1 are.4 in
    ((scene_as view are.0, one.0, are.2, are.3, others.0), others.1)

idle_as : {D E S C : Type 0} (from : Device D) (to : Device E) (view : D → E) (IsBound : D → Type 0) (is : Is from to view IsBound) (rules : Rules S C) (before : Scene D S C) (last : Turn) (after : Scene D S C)
    → IsBound before.device → IsIdle from rules before last after
    → IsIdle to rules (scene_as view before) last (scene_as view after) × IsBound after.device
idle_as {D = D} {S = S} {C = C} from to view IsBound is rules before last after bound idle =
    let read = is.gives before.device after.device last.piece bound idle.2 in
    ((idle.0, ap (λ (s : Scene D S C). scene (view after.device) s.service s.clock) idle.1, read.0), read.1)

end_as : {D E S C : Type 0} (from : Device D) (to : Device E) (view : D → E) (IsBound : D → Type 0) (is : Is from to view IsBound) (rules : Rules S C) (before : Scene D S C) (course : Course) (result : Result ℕ ServeError) (after : Scene D S C)
    → IsBound before.device → EndsWith from rules before course result after
    → EndsWith to rules (scene_as view before) course result (scene_as view after) × IsBound after.device
end_as from to view IsBound is rules before course (Ok len) after bound ends =
    let idle = idle_as from to view IsBound is rules before course.last after bound ends.0 in
    ((idle.0, ends.1, ends.2), idle.1)
end_as {D = D} {S = S} {C = C} from to view IsBound is rules before course (Err errors.Read) after bound ends =
    let failed = is.fails_to_read before.device after.device bound ends.3 in
    ((ends.0, ends.1, ap (λ (s : Scene D S C). scene (view after.device) s.service s.clock) ends.2, failed.0), failed.1)
end_as from to view IsBound is rules before course (Err errors.Write) after bound ends =
    let turn = turn_as from to view IsBound is rules IsCut IsCut (cut_as from to view IsBound is) before (rest_after [] course.turns) course.last after bound ends.0 in
    ((turn.0, ends.1), turn.1)
end_as from to view IsBound is rules before course (Err errors.TooLong) after bound ends =
    let turn = turn_as from to view IsBound is rules IsWritten IsWritten (written_as from to view IsBound is) before (rest_after [] course.turns) course.last after bound ends.0 in
    ((turn.0, ends.1, ends.2, ends.3), turn.1)
end_as {D = D} {S = S} {C = C} from to view IsBound is rules before course (Err errors.Memory) after bound (inl ends) =
    (inl (ends.0, ends.1, ends.2, ap (λ (s : Scene D S C). scene_as view s) ends.3), subst (λ (s : Scene D S C). IsBound s.device) (sym ends.3) bound)
end_as from to view IsBound is rules before course (Err errors.Memory) after bound (inr (inl ends)) =
    let idle = idle_as from to view IsBound is rules before course.last after bound ends.0 in
    (inr (inl (idle.0, ends.1, ends.2)), idle.1)
end_as from to view IsBound is rules before course (Err errors.Memory) after bound (inr (inr ends)) =
    let turn = turn_as from to view IsBound is rules IsWritten IsWritten (written_as from to view IsBound is) before (rest_after [] course.turns) course.last after bound ends.0 in
    (inr (inr (turn.0, ends.1, ends.2)), turn.1)
end_as from to view IsBound is rules before course (Err errors.TooMuch) after bound ends =
    let idle = idle_as from to view IsBound is rules before course.last after bound ends.0 in
    ((idle.0, ends.1), idle.1)

pub course_as : {D E S C : Type 0} (from : Device D) (to : Device E) (view : D → E) (IsBound : D → Type 0) (is : Is from to view IsBound) (rules : Rules S C) (before : Scene D S C) (result : Result ℕ ServeError) (after : Scene D S C)
    → IsBound before.device → HasCourse from rules before result after
    → HasCourse to rules (scene_as view before) result (scene_as view after) × IsBound after.device
course_as from to view IsBound is rules before result after bound has =
    let course = has.0 in
    let turns = turns_as from to view IsBound is rules before [] course.turns has.1.0 bound has.1.1 in
    let end = end_as from to view IsBound is rules has.1.0 course result after turns.1 has.1.3 in
    ((course, (scene_as view has.1.0, turns.0, has.1.2, end.0)), end.1)

-- a pair behaves like the source and the sink that it borrows, as long as it borrows the same ones
pub pair_is_sides : {R W : Type 0} (gives : R → List ℕ → R → Type 0) (fails : R → R → Type 0) (takes : W → List ℕ → W → Type 0) (fails' : W → W → Type 0) (start : Pair R W)
    → Is (device_of_pair gives fails takes fails') (device_of gives fails takes fails') sides_of (λ p. BorrowsTheSame start p)
pair_is_sides gives fails takes fails' start = record {
  gives = λ a b piece bound did. (did.1, (did.0.0 ∙ bound.0, did.0.1 ∙ bound.1));
  fails_to_read = λ a b bound did. (did.1, (did.0.0 ∙ bound.0, did.0.1 ∙ bound.1));
  takes = λ a b part bound did. (did.1, (did.0.0 ∙ bound.0, did.0.1 ∙ bound.1));
  fails_to_write = λ a b bound did. (did.1, (did.0.0 ∙ bound.0, did.0.1 ∙ bound.1));
}

-- a pair behaves like the sink that it borrows, as long as it borrows the same one; reads of it don't change the sink
pair_is_sink : {R W : Type 0} (gives : R → List ℕ → R → Type 0) (fails : R → R → Type 0) (takes : W → List ℕ → W → Type 0) (fails' : W → W → Type 0) (start : Pair R W)
    → Is (device_of_pair gives fails takes fails') (device_of_sink takes fails') (λ p. p.sink.now) (λ p. BorrowsTheSame start p)
pair_is_sink gives fails takes fails' start = record {
  gives = λ a b piece bound did. (did.1.1, (did.0.0 ∙ bound.0, did.0.1 ∙ bound.1));
  fails_to_read = λ a b bound did. (did.1.1, (did.0.0 ∙ bound.0, did.0.1 ∙ bound.1));
  takes = λ a b part bound did. (did.1.0, (did.0.0 ∙ bound.0, did.0.1 ∙ bound.1));
  fails_to_write = λ a b bound did. (did.1.0, (did.0.0 ∙ bound.0, did.0.1 ∙ bound.1));
}

-- what was written to a pair was written to its sink, and the pair still borrows the same source and the same sink
pub writes_to_sink : {R W : Type 0} (gives : R → List ℕ → R → Type 0) (fails : R → R → Type 0) (takes : W → List ℕ → W → Type 0) (fails' : W → W → Type 0) (result : Result (Unit {0}) DeviceFailed) (before after : Pair R W) (bytes : List ℕ)
    → OnOk result (IsWritten (device_of_pair gives fails takes fails') before bytes after)
    → OnErr result (IsCut (device_of_pair gives fails takes fails') before bytes after)
    → OnOk result (IsWritten (device_of_sink takes fails') before.sink.now bytes after.sink.now)
    × OnErr result (IsCut (device_of_sink takes fails') before.sink.now bytes after.sink.now)
    × BorrowsTheSame before after
writes_to_sink gives fails takes fails' (Ok tt) before after bytes written cut =
    let to = written_as (device_of_pair gives fails takes fails') (device_of_sink takes fails') (λ p. p.sink.now) (λ p. BorrowsTheSame before p) (pair_is_sink gives fails takes fails' before) before after bytes (refl, refl) written in
    (to.0, tt, to.1)
writes_to_sink gives fails takes fails' (Err error) before after bytes written cut =
    let to = cut_as (device_of_pair gives fails takes fails') (device_of_sink takes fails') (λ p. p.sink.now) (λ p. BorrowsTheSame before p) (pair_is_sink gives fails takes fails' before) before after bytes (refl, refl) cut in
    (tt, to.0, to.1)

-- a course over a pair that borrows a source and a sink is a course over these, and the pair still borrows the same
-- ones
pub course_of_sides : {R W S C : Type 0} (gives : R → List ℕ → R → Type 0) (fails : R → R → Type 0) (takes : W → List ℕ → W → Type 0) (fails' : W → W → Type 0) (rules : Rules S C) (before : Scene (Pair R W) S C) (result : Result ℕ ServeError) (after : Scene (Pair R W) S C)
    → HasCourse (device_of_pair gives fails takes fails') rules before result after
    → HasCourse (device_of gives fails takes fails') rules (scene_as sides_of before) result (scene_as sides_of after) × BorrowsTheSame before.device after.device
course_of_sides gives fails takes fails' rules before result after has =
    course_as (device_of_pair gives fails takes fails') (device_of gives fails takes fails') sides_of (λ p. BorrowsTheSame before.device p) (pair_is_sides gives fails takes fails' before.device) rules before result after (refl, refl) has

-- the source and the sink at the end of a course may be replaced by equal ones
pub course_to : {R W S C : Type 0} (device : Device (Sides R W)) (rules : Rules S C) (before : Scene (Sides R W) S C) (result : Result ℕ ServeError) (source source' : R) (sink sink' : W) (service : S) (clock : C)
    → source' ≡ source → sink' ≡ sink
    → HasCourse device rules before result (scene (sides source sink) service clock)
    → HasCourse device rules before result (scene (sides source' sink') service clock)
course_to device rules before result source source' sink sink' service clock same same' has = rw (same, same') has
