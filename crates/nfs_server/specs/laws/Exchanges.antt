-- The exchanges of a connection follow one another.
use Rattle.std.proofs.Common.{◌≡◌, ℕ, List, [], ◌∷◌, ◌++◌, Result, Ok, Err, inl, inr, sym, ap, subst, ◌∙◌}
use Rattle.std.proofs.lemmas.List.Concat.{flat_map-cons}
use Rattle.nfs_server.specs.declared.serve_error.ServeError.{ServeError}
use Rattle.nfs_server.specs.declared.serve_error.ServeError.TheVariants as errors
use Rattle.nfs_server.specs.Connection.{Scene, Turn, Course, AreTurns, EndsWith, IsCourse, IsTurn, all_exchanges, exchanges_of, rest_after}
use Rattle.nfs_server.specs.Device.{Device, IsCut, IsWritten}
use Rattle.nfs_server.specs.Exchange.{Exchange, Rules, AreExchanged, AreLeft}

-- exchanges, and more exchanges after them
pub exchanged_then : {S C : Type 0} (rules : Rules S C) (es fs : List Exchange) (s mid new : S) (c between after : C)
    → AreExchanged rules s c es mid between → AreExchanged rules mid between fs new after
    → AreExchanged rules s c (es ++ fs) new after
exchanged_then {S = S} {C = C} rules [] fs s mid new c between after first second =
    subst (λ (x : S). AreExchanged rules x c fs new after) first.0
    (subst (λ (y : C). AreExchanged rules mid y fs new after) first.1 second)
exchanged_then rules (e ∷ es) fs s mid new c between after first second =
    (first.0, first.1, first.2, exchanged_then rules es fs first.0 mid new first.1 between after first.3 second)

-- where no record is left, the service is as it was
none_left : {S : Type 0} (alike : S → S → Type 0) (old new : S) (left : List (List ℕ))
    → left ≡ [] → AreLeft alike old left new → new ≡ old
none_left alike old new left none stays = rw none at stays

-- whatever records are left, the service is alike
left_alike : {S : Type 0} (alike : S → S → Type 0) (same : (s : S) → alike s s) (old new : S) (left : List (List ℕ))
    → AreLeft alike old left new → alike old new
left_alike {S = S} alike same old new [] stays = subst (λ (s : S). alike old s) (sym stays) (same old)
left_alike alike same old new (message ∷ left) stays = stays

-- the exchanges of turns follow one another, and lead the service and the clock from the first turn to the last
turns_exchanged : {D S C : Type 0} (device : Device D) (rules : Rules S C) (before after : Scene D S C)
    (carried : List ℕ) (turns : List Turn)
    → AreTurns device rules before carried turns after
    → AreExchanged rules before.service before.clock (exchanges_of turns) after.service after.clock
turns_exchanged {D = D} {S = S} {C = C} device rules before after carried [] are =
    (ap (λ (s : Scene D S C). s.service) are, ap (λ (s : Scene D S C). s.clock) are)
turns_exchanged {D = D} {S = S} {C = C} device rules before after carried (turn ∷ turns) are =
    let mid = are.0 in
    let here = subst (λ (s : S). AreExchanged rules before.service before.clock turn.exchanges s mid.clock)
    (sym (none_left rules.alike are.1.service mid.service turn.unanswered are.2 are.1.left)) are.1.exchanged in
    subst (λ (es : List Exchange). AreExchanged rules before.service before.clock es after.service after.clock)
    (sym (flat_map-cons (λ (t : Turn). t.exchanges) turn turns))
    (exchanged_then rules turn.exchanges (exchanges_of turns) before.service mid.service after.service
    before.clock mid.clock after.clock here (turns_exchanged device rules mid after turn.rest turns are.4))

-- the exchanges follow one another, and lead to a service that is alike to the one at the end
abbrev pub LeadTo : {S C : Type 0} → Rules S C → S → C → List Exchange → S → C → Type 0
LeadTo {S = S} rules service clock es service' clock' =
    (served : S) × AreExchanged rules service clock es served clock' × rules.alike served service'

idle_exchanged : {D S C : Type 0} (device : Device D) (rules : Rules S C) (same : (s : S) → rules.alike s s)
    (before after : Scene D S C) (exchanges : List Exchange)
    → exchanges ≡ [] → after ≡ record before { device = after.device }
    → LeadTo rules before.service before.clock exchanges after.service after.clock
idle_exchanged {D = D} {S = S} {C = C} device rules same before after exchanges none is = (
  after.service,
  subst (λ (es : List Exchange). AreExchanged rules before.service before.clock es after.service after.clock)
      (sym none) (ap (λ (s : Scene D S C). s.service) is, ap (λ (s : Scene D S C). s.clock) is),
  same after.service,
)

turn_exchanged : {D S C : Type 0} (device : Device D) (rules : Rules S C) (same : (s : S) → rules.alike s s)
    (out : Device D → D → List ℕ → D → Type 0)
    (before : Scene D S C) (carried : List ℕ) (turn : Turn) (after : Scene D S C)
    → IsTurn device rules out before carried turn after
    → LeadTo rules before.service before.clock turn.exchanges after.service after.clock
turn_exchanged device rules same out before carried turn after t =
    (t.service, t.exchanged, left_alike rules.alike same t.service after.service turn.unanswered t.left)

end_exchanged : {D S C : Type 0} (device : Device D) (rules : Rules S C) (same : (s : S) → rules.alike s s)
    (before : Scene D S C) (course : Course) (result : Result ℕ ServeError) (after : Scene D S C)
    → EndsWith device rules before course result after
    → LeadTo rules before.service before.clock course.last.exchanges after.service after.clock
end_exchanged device rules same before course (Ok len) after ends =
    idle_exchanged device rules same before after course.last.exchanges ends.0.0 ends.0.1
end_exchanged device rules same before course (Err errors.Read) after ends =
    idle_exchanged device rules same before after course.last.exchanges ends.0 ends.2
end_exchanged device rules same before course (Err errors.Write) after ends =
    turn_exchanged device rules same IsCut before (rest_after [] course.turns) course.last after ends.0
end_exchanged device rules same before course (Err errors.TooLong) after ends =
    turn_exchanged device rules same IsWritten before (rest_after [] course.turns) course.last after ends.0
end_exchanged {D = D} {S = S} {C = C} device rules same before course (Err errors.Memory) after (inl ends) =
    idle_exchanged device rules same before after course.last.exchanges ends.1
    (ends.3 ∙ ap (λ (s : Scene D S C). record before { device = s.device }) (sym ends.3))
end_exchanged device rules same before course (Err errors.Memory) after (inr (inl ends)) =
    idle_exchanged device rules same before after course.last.exchanges ends.0.0 ends.0.1
end_exchanged device rules same before course (Err errors.Memory) after (inr (inr ends)) =
    turn_exchanged device rules same IsWritten before (rest_after [] course.turns) course.last after ends.0
end_exchanged device rules same before course (Err errors.TooMuch) after ends =
    idle_exchanged device rules same before after course.last.exchanges ends.0.0 ends.0.1

pub course_exchanged : {D S C : Type 0} (device : Device D) (rules : Rules S C) (same : (s : S) → rules.alike s s)
    (before : Scene D S C) (course : Course) (result : Result ℕ ServeError) (after : Scene D S C)
    → IsCourse device rules before course result after
    → LeadTo rules before.service before.clock (all_exchanges course) after.service after.clock
course_exchanged device rules same before course result after is =
    let mid = is.0 in
    let end = end_exchanged device rules same mid course result after is.3 in (
      end.0,
      exchanged_then rules (exchanges_of course.turns) course.last.exchanges
          before.service mid.service end.0 before.clock mid.clock after.clock
          (turns_exchanged device rules before mid [] course.turns is.1) end.1,
      end.2,
    )
