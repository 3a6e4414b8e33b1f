-- How RENEW is answered: by the events of the seat, and by the journal.
use Rattle.std.proofs.Common.{◌≡◌, ◌⊎◌, ℕ, zero, suc, List, [], ◌∷◌, ◌++◌, Option, Some, None, Contains, Result, refl, sym, ap, subst, ◌∙◌, inl, inr, ⊎_elim, arith, append_assoc, slice_get}
use Rattle.std.specs.Prelude.{◌+◌, true, false}
use Rattle.std.specs.List.{flat_map}
use Rattle.std.proofs.lemmas.List.Elements.{Contains-append_left, Contains-append_right}
use Rattle.nfs_forms.specs.ClientId.{number_in}
use Rattle.nfs_forms.specs.declared.client_id.ClientId.{ClientId}
use Rattle.nfs_leases.specs.BookEvent.{BookEvent}
use Rattle.nfs_leases.specs.Renewals.{renewal_answer, renewed_by}
use Rattle.nfs_leases.specs.declared.renewal.Renewal.{Renewal as LeaseRenewal}
use Rattle.nfs_leases.specs.declared.renewal.Renewal.TheVariants as renewal
use Rattle.nfs_server.specs.Asking.{Operation, Question, Renewal}
use Rattle.nfs_server.specs.Connection.{Course, IsCourse, Scene, all_exchanges, scene}
use Rattle.nfs_server.specs.Device.{Device}
use Rattle.nfs_server.specs.Exchange.{Exchange, questions_of, rules}
use Rattle.nfs_server.specs.Serves.{exported}
use Rattle.nfs_server.specs.declared.serve_error.ServeError.{ServeError}
use Rattle.nfs_server.specs.laws.Gaining.{IsGain, course_gains}
use Rattle.nfs_shared.specs.Ends.{AllBorneOut, HasEnded, IsBorneOutBy}
use Rattle.nfs_shared.specs.Renewing.{RenewsAs, was_renewed}
use Rattle.nfs_shared.specs.Seats.{SeatView}
use Rattle.nfs_shared.specs.declared.receipt.Receipt.{Receipt}
use Rattle.nfs_tree.specs.Exports.{Exported}
use Rattle.nfs_tree.specs.Tree.{Files}
use Rattle.nfs_threads.specs.Holding.{AreAlikeButRoom, GivenBySeat, Holding}
use Rattle.nfs_threads.specs.Renewals.{EachIsOfJournal, EachRenewal, EachRenewalIn, GainsEvents, IsOfJournal, IsSeen, RenewalsAreEvents, not_renewed, renewed}
use Rattle.nfs_threads.specs.Run.{AreShifts}
use Rattle.nfs_threads.specs.Worker.{AreServed, IsServed, Linking, Stand, stand}
use Rattle.nfs_threads.specs.declared.connection_end.ConnectionEnd.{ConnectionEnd}
use Rattle.nfs_threads.specs.declared.shift.Shift.{Shift}
use Rattle.nfs_words.specs.Calls.{with_events}
use Rattle.nfs_words.specs.Deeds.{event}
use Rattle.nfs_words.specs.SeatLaws.{HasFoundClosed}
use Rattle.nfs_words.specs.Sitting.{Sitting, Words}
use Rattle.nfs_words.specs.Words.{IsMoment, closed_part}
use Rattle.nfs_words.specs.declared.event.Deed.TheVariants.{Look, Renew}
use Rattle.nfs_words.specs.declared.event.Event.{Event}
use Rattle.nfs_xdr.specs.declared.op_result.OpResult.{OpResult}
use Rattle.nfs_xdr.specs.declared.op_result.OpResult.TheVariants as results

-- P of each RENEW is Q of each
each_map : (P Q : ℕ → ClientId → OpResult → Type 0) → ((moment : ℕ) (client : ClientId) (answer : OpResult) → P moment client answer → Q moment client answer)
    → (questions : List Question) (answers : List OpResult) → EachRenewal P questions answers → EachRenewal Q questions answers
each_map P Q f [] [] h = tt
each_map P Q f (Operation request ∷ questions) (answer ∷ answers) h = each_map P Q f questions answers h
each_map P Q f (Renewal moment client ∷ questions) (answer ∷ answers) h = (f moment client answer h.0, each_map P Q f questions answers h.1)
each_map P Q f [] (answer ∷ answers) h = absurd h
each_map P Q f (question ∷ questions) [] h = absurd h

-- and of more questions after them
each_then : (P : ℕ → ClientId → OpResult → Type 0) (questions others : List Question) (answers replies : List OpResult)
    → EachRenewal P questions answers → EachRenewal P others replies → EachRenewal P (questions ++ others) (answers ++ replies)
each_then P [] others [] replies h more = more
each_then P (Operation request ∷ questions) others (answer ∷ answers) replies h more = each_then P questions others answers replies h more
each_then P (Renewal moment client ∷ questions) others (answer ∷ answers) replies h more = (h.0, each_then P questions others answers replies h.1 more)
each_then P [] others (answer ∷ answers) replies h more = absurd h
each_then P (question ∷ questions) others [] replies h more = absurd h

abbrev AreAmong : List Event → List Event → Type 0
AreAmong events more = (e : Event) → Contains events e → Contains more e

closed_more : (number : ℕ) (events more : List Event) → AreAmong events more → HasFoundClosed number events → HasFoundClosed number more
closed_more number events more among h =
    ⊎_elim
    (λ (look : Contains events (event number (Look closed_part))). inl (among (event number (Look closed_part)) look))
    (λ (raise : (moment : ℕ) × Contains events (event number (Renew moment closed_part))). inr (raise.0, among (event number (Renew raise.0 closed_part)) raise.1))
    h

seen_more : (epoch : ℕ) (events more : List Event) → AreAmong events more → (moment : ℕ) (client : ClientId) (answer : OpResult) → IsSeen epoch events moment client answer → IsSeen epoch more moment client answer
seen_more epoch events more among moment client answer h = record {
  raised = λ is. let r = h.raised is in (r.0, r.1, r.2, r.3, among (event r.0 (Renew moment r.1)) r.4);
  refused = λ number of is.
      ⊎_elim
      (λ (look : Contains events (event number (Look 0))). inl (among (event number (Look 0)) look))
      (λ (closed : HasFoundClosed number events). inr (closed_more number events more among closed))
      (h.refused number of is);
}

first_of : {X : Type 0} (x : X) (xs : List X) → Contains (x ∷ xs) x
first_of x xs = (zero, omega arith, refl)

-- what one renewal adds, and what it tells of RENEW
record Adds (old new : Sitting) (S : List Event → Type 0) : Type 0 where
  events : List Event
  more : new ≡ with_events old events
  seen : S events

adds : (old new : Sitting) (S : List Event → Type 0) (events : List Event) → new ≡ with_events old events → S events → Adds old new S
adds old new S events more seen = record { events = events; more = more; seen = seen }

-- the answer tells whether the lease was renewed
not_both : (answer : OpResult) → answer ≡ renewed → answer ≡ not_renewed → ⊥
not_both answer was refusal = cc

some_one : (a b : ℕ) (o : Option ℕ) → o ≡ Some a → o ≡ Some b → a ≡ b
some_one a b o first second = cc

seen_renewed : (epoch : ℕ) (events : List Event) (moment : ℕ) (client : ClientId) (answer : OpResult) (number found : ℕ)
    → number_in epoch client ≡ Some number → (found ≡ closed_part → ⊥) → Contains events (event number (Renew moment found)) → answer ≡ renewed
    → IsSeen epoch events moment client answer
seen_renewed epoch events moment client answer number found of unclosed has is = record {
  raised = λ was. (number, found, of, unclosed, has);
  refused = λ other same refusal. absurd (not_both answer is refusal);
}

seen_refused : (epoch : ℕ) (events : List Event) (moment : ℕ) (client : ClientId) (answer : OpResult) (number : ℕ)
    → number_in epoch client ≡ Some number → Contains events (event number (Look 0)) ⊎ HasFoundClosed number events → answer ≡ not_renewed
    → IsSeen epoch events moment client answer
seen_refused epoch events moment client answer number of found is = record {
  raised = λ was. absurd (not_both answer was is);
  refused = λ other same refusal. subst (λ (n : ℕ). Contains events (event n (Look 0)) ⊎ HasFoundClosed n events) (some_one number other (number_in epoch client) of same) found;
}

seen_of_none : (epoch : ℕ) (events : List Event) (moment : ℕ) (client : ClientId) (answer : OpResult)
    → number_in epoch client ≡ None → answer ≡ not_renewed → IsSeen epoch events moment client answer
seen_of_none epoch events moment client answer none is = record {
  raised = λ was. absurd (not_both answer was is);
  refused = λ number other refusal. absurd (cc (none, other));
}

-- a renewal by a seat, and RENEW's answer by it
renewal_seen : (epoch moment : ℕ) (client : ClientId) (number : Option ℕ) (told : Option LeaseRenewal) (old new : Sitting) (answer : OpResult)
    → number_in epoch client ≡ number → RenewsAs number moment told old new → answer ≡ results.Renew (renewal_answer (was_renewed told))
    → Adds old new (λ events. IsSeen epoch events moment client answer)
renewal_seen epoch moment client None None old new answer of h is =
    adds old new (λ events. IsSeen epoch events moment client answer) [] h.1 (seen_of_none epoch [] moment client answer of is)
renewal_seen epoch moment client None (Some other) old new answer of h is = absurd (cc h.0)
renewal_seen epoch moment client (Some number) None old new answer of h is = absurd h
renewal_seen epoch moment client (Some number) (Some renewal.Renewed) old new answer of h is =
    let events : List Event = event number (Renew moment h.1) ∷ event number (Look (h.0 + 1)) ∷ [] in
    adds old new (λ events. IsSeen epoch events moment client answer) events h.5
    (seen_renewed epoch events moment client answer number h.1 of h.3 (first_of (event number (Renew moment h.1)) (event number (Look (h.0 + 1)) ∷ [])) is)
renewal_seen epoch moment client (Some number) (Some renewal.Closed) old new answer of h is =
    ⊎_elim
    (λ (look : new ≡ with_events old (event number (Look closed_part) ∷ [])).
    adds old new (λ events. IsSeen epoch events moment client answer) (event number (Look closed_part) ∷ []) look
    (seen_refused epoch (event number (Look closed_part) ∷ []) moment client answer number of (inr (inl (first_of (event number (Look closed_part)) []))) is))
    (λ (raise : (seen : ℕ) × IsMoment seen × (new ≡ with_events old (event number (Renew moment closed_part) ∷ event number (Look (seen + 1)) ∷ []))).
    adds old new (λ events. IsSeen epoch events moment client answer) (event number (Renew moment closed_part) ∷ event number (Look (raise.0 + 1)) ∷ []) raise.2
    (seen_refused epoch (event number (Renew moment closed_part) ∷ event number (Look (raise.0 + 1)) ∷ []) moment client answer number of (inr (inr (moment, first_of (event number (Renew moment closed_part)) (event number (Look (raise.0 + 1)) ∷ [])))) is))
    h
renewal_seen epoch moment client (Some number) (Some renewal.Unknown) old new answer of h is =
    adds old new (λ events. IsSeen epoch events moment client answer) (event number (Look 0) ∷ []) h
    (seen_refused epoch (event number (Look 0) ∷ []) moment client answer number of (inl (first_of (event number (Look 0)) [])) is)

-- a renewal adds events, of which nothing is said
renewal_adds : (number : Option ℕ) (moment : ℕ) (told : Option LeaseRenewal) (old new : Sitting) → RenewsAs number moment told old new → Adds old new (λ events. Unit {0})
renewal_adds None moment told old new h = adds old new (λ events. Unit {0}) [] h.1 tt
renewal_adds (Some client) moment None old new h = absurd h
renewal_adds (Some client) moment (Some renewal.Renewed) old new h =
    adds old new (λ events. Unit {0}) (event client (Renew moment h.1) ∷ event client (Look (h.0 + 1)) ∷ []) h.5 tt
renewal_adds (Some client) moment (Some renewal.Closed) old new h =
    ⊎_elim
    (λ (look : new ≡ with_events old (event client (Look closed_part) ∷ [])). adds old new (λ events. Unit {0}) (event client (Look closed_part) ∷ []) look tt)
    (λ (raise : (seen : ℕ) × IsMoment seen × (new ≡ with_events old (event client (Renew moment closed_part) ∷ event client (Look (seen + 1)) ∷ []))).
    adds old new (λ events. Unit {0}) (event client (Renew moment closed_part) ∷ event client (Look (raise.0 + 1)) ∷ []) raise.2 tt)
    h
renewal_adds (Some client) moment (Some renewal.Unknown) old new h = adds old new (λ events. Unit {0}) (event client (Look 0) ∷ []) h tt

events_alike : (epoch : ℕ) (old new : Holding) → AreAlikeButRoom old new → GainsEvents epoch old [] [] new
events_alike epoch old new alike = record { events = []; more = ap (λ (h : Holding). h.seat.leases) alike; seen = tt }

events_one : (epoch : ℕ) (old new : Holding) (question : Question) (answer : OpResult) → GivenBySeat epoch old question answer new → GainsEvents epoch old (question ∷ []) (answer ∷ []) new
events_one epoch old new (Operation request) answer given =
    let added = renewal_adds (renewed_by epoch request.op) request.moment given.0.0 old.seat.leases new.seat.leases given.0.1 in
    record { events = added.events; more = added.more; seen = tt }
events_one epoch old new (Renewal moment client) answer given =
    let added = renewal_seen epoch moment client (number_in epoch client) given.0 old.seat.leases new.seat.leases answer refl given.1 given.2 in
    record { events = added.events; more = added.more; seen = (added.seen, tt) }

events_more : (epoch : ℕ) (old mid new : Holding) (questions others : List Question) (answers replies : List OpResult)
    → GainsEvents epoch old questions answers mid → GainsEvents epoch mid others replies new → GainsEvents epoch old (questions ++ others) (answers ++ replies) new
events_more epoch old mid new questions others answers replies first second =
    let all : List Event = second.events ++ first.events in record {
      events = all;
      more = second.more
          ∙ ap (λ (s : Sitting). with_events s second.events) first.more
          ∙ ap (λ (l : List Event). record old.seat.leases { view = record old.seat.leases.view { own = l } }) (sym (append_assoc second.events first.events old.seat.leases.view.own));
      seen = each_then (IsSeen epoch all) questions others answers replies
          (each_map (IsSeen epoch first.events) (IsSeen epoch all) (seen_more epoch first.events all (λ e h. Contains-append_right second.events first.events e h)) questions answers first.seen)
          (each_map (IsSeen epoch second.events) (IsSeen epoch all) (seen_more epoch second.events all (λ e h. Contains-append_left second.events first.events e h)) others replies second.seen);
    }

desk_events : (epoch : ℕ) → IsGain (GivenBySeat epoch) AreAlikeButRoom (GainsEvents epoch)
desk_events epoch = record { same = λ (h : Holding). refl; stays = events_alike epoch; one = events_one epoch; more = events_more epoch }

pub renewals_are_events : {D C : Type 0} (device : Device D) (export : Exported) (epoch : ℕ) (tells : C → ℕ → C → Type 0) → RenewalsAreEvents device (rules export (GivenBySeat epoch) AreAlikeButRoom tells) epoch
renewals_are_events device export epoch tells before after course result is =
    course_gains device (rules export (GivenBySeat epoch) AreAlikeButRoom tells) (GainsEvents epoch) (desk_events epoch) before course result after is

-- what a connection adds to the events of its seat
events_of : {L D C : Type 0} (linking : Linking L D C) (tree : Files) (before : Stand L) (one : ConnectionEnd) (after : Stand L) (is : IsServed linking tree before one after)
    → GainsEvents linking.served.epoch before.desk
    (flat_map (questions_of (exported tree linking.served)) (all_exchanges is.course.0))
    (flat_map (λ (e : Exchange). e.answers) (all_exchanges is.course.0)) after.desk
events_of linking tree before one after is =
    renewals_are_events linking.device (exported tree linking.served) linking.served.epoch linking.tells
    (scene is.device before.desk is.clock) (scene is.device' after.desk is.clock') is.course.0 one.result is.course.1

-- no connection takes events of its seat away
served_keeps : {L D C : Type 0} (linking : Linking L D C) (tree : Files) (before : Stand L) (connections : List ConnectionEnd) (after : Stand L)
    → AreServed linking tree before connections after
    → AreAmong before.desk.seat.leases.view.own after.desk.seat.leases.view.own
served_keeps {L = L} linking tree before [] after are e h = subst (λ (s : Stand L). Contains s.desk.seat.leases.view.own e) (sym are) h
served_keeps linking tree before (one ∷ more) after are e h =
    let gains = events_of linking tree before one are.0 are.1 in
    served_keeps linking tree are.0 more after are.2 e
    (subst (λ (s : Sitting). Contains s.view.own e) (sym gains.more) (Contains-append_right gains.events before.desk.seat.leases.view.own e h))

of_journal : (epoch : ℕ) (deeds : List BookEvent) (events own : List Event) → AreAmong events own → IsBorneOutBy deeds own
    → (moment : ℕ) (client : ClientId) (answer : OpResult) → IsSeen epoch events moment client answer → IsOfJournal epoch deeds own moment client answer
of_journal epoch deeds events own among borne moment client answer h = record {
  live = λ is. let r = h.raised is in (r.0, r.2, borne.renewed r.0 moment r.1 (among (event r.0 (Renew moment r.1)) r.4));
  ended = λ number of is.
      ⊎_elim
      (λ (look : Contains events (event number (Look 0))). inl (among (event number (Look 0)) look))
      (λ (closed : HasFoundClosed number events). inr (borne.closed number (closed_more number events own among closed)))
      (h.refused number of is);
}

each_in : {L D C : Type 0} (linking : Linking L D C) (tree : Files) (deeds : List BookEvent) (own : List Event) → IsBorneOutBy deeds own
    → (before : Stand L) (connections : List ConnectionEnd) (after : Stand L) (are : AreServed linking tree before connections after)
    → AreAmong after.desk.seat.leases.view.own own
    → EachRenewalIn linking tree (IsOfJournal linking.served.epoch deeds own) before connections after are
each_in linking tree deeds own borne before [] after are among = tt
each_in linking tree deeds own borne before (one ∷ more) after are among =
    let epoch = linking.served.epoch in
    let gains = events_of linking tree before one are.0 are.1 in
    let here : AreAmong gains.events own = λ e h. among e (served_keeps linking tree are.0 more after are.2 e
    (subst (λ (s : Sitting). Contains s.view.own e) (sym gains.more) (Contains-append_left gains.events before.desk.seat.leases.view.own e h))) in (
      each_map (IsSeen epoch gains.events) (IsOfJournal epoch deeds own) (of_journal epoch deeds gains.events own here borne)
          (flat_map (questions_of (exported tree linking.served)) (all_exchanges are.1.course.0))
          (flat_map (λ (x : Exchange). x.answers) (all_exchanges are.1.course.0)) gains.seen,
      each_in linking tree deeds own borne are.0 more after are.2 among,
    )

-- the shifts of a run
pub each_of_journal : {L D C : Type 0} (linking : Linking L D C) (tree : Files) (links : L) (words : Words) (deeds : List BookEvent) (shifts : List Shift) (receipts : List (List Receipt)) (seats : List SeatView)
    (are : AreShifts linking tree links words shifts receipts seats) → AllBorneOut deeds seats
    → EachIsOfJournal linking tree links words deeds shifts receipts seats are
each_of_journal linking tree links words deeds shifts receipts seats are borne place shift given seat shift_at given_at seat_at =
    let is = are place shift given seat shift_at given_at seat_at in
    let same = is.ended.0 ∙ ap (λ (h : Holding). h.seat) is.served.3 in
    each_in linking tree deeds seat.leases.view.own (borne place seat seat_at) (stand links is.desk) shift.connections.items is.served.0 is.served.1
    (λ e h. subst (λ (s : SeatView). Contains s.leases.view.own e) (sym same) h)
