-- From what a seat keeps of its deeds to single events.
use Rattle.std.proofs.Common.{◌≡◌, ◌≢◌, ℕ, ◌+◌, ◌<◌, ◌≤◌, ◌&&◌, not, cond, List, [], ◌∷◌, ◌++◌, Bool, true, false, true≢false, refl, sym, subst, ⊎_elim, arith, Contains, nat_lt, nat_le, ltb-true, le_trans, lt-ltb, ◌==◌}
use Rattle.std.proofs.lemmas.Bool.Decides.{nat_tests}
use Rattle.nfs_words.specs.declared.event.Event.{Event}
use Rattle.nfs_words.specs.declared.event.Deed.{Deed}
use Rattle.nfs_words.specs.declared.event.Deed.TheVariants.{Look, Renew, Open, Close, Retire}
use Rattle.nfs_words.specs.Deeds.{event, deeds_of, opens_later, greatest_part, least_closed, saw_end, knows, saw_open, may_follow, in_order}
use Rattle.nfs_words.specs.Words.{closed_part}
use Rattle.nfs_words.specs.SeatLaws.{NoneLate, NoneAfterEnd, LooksFirst, NeverVacantAgain}
use Rattle.nfs_words.proofs.Keeping.{of_same}
use Rattle.nfs_words.proofs.Turns.{contains_cons}

left_true : (a b : Bool) → (a && b) ≡ true → a ≡ true
left_true true b h = refl
left_true false b h = h

right_true : (a b : Bool) → (a && b) ≡ true → b ≡ true
right_true true b h = h
right_true false b h = absurd (true≢false (sym h))

reach_more : (deed : Deed) (deeds : List Deed) → greatest_part deeds ≤ greatest_part (deed ∷ deeds)
reach_more (Look part) deeds = grind (arith, nat_tests)
reach_more (Renew moment old) deeds = grind (arith, nat_tests)
reach_more (Open moment) deeds = omega arith
reach_more (Close seen now done) deeds = omega arith
reach_more Retire deeds = omega arith

cap_more : (deed : Deed) (deeds : List Deed) → least_closed (deed ∷ deeds) ≤ least_closed deeds
cap_more (Look part) deeds = omega arith
cap_more (Renew moment old) deeds = omega arith
cap_more (Open moment) deeds = omega arith
cap_more (Close seen now true) deeds = omega arith
cap_more (Close seen now false) deeds = omega arith
cap_more Retire deeds = omega arith

reach_cond : (b p : Bool) (deed : Deed) (deeds : List Deed)
    → greatest_part deeds ≤ greatest_part (cond b (deed ∷ deeds) (cond p (Retire ∷ deeds) deeds))
reach_cond true p deed deeds = reach_more deed deeds
reach_cond false true deed deeds = omega arith
reach_cond false false deed deeds = omega arith

cap_cond : (b p : Bool) (deed : Deed) (deeds : List Deed)
    → least_closed (cond b (deed ∷ deeds) (cond p (Retire ∷ deeds) deeds)) ≤ least_closed deeds
cap_cond true p deed deeds = cap_more deed deeds
cap_cond false true deed deeds = omega arith
cap_cond false false deed deeds = omega arith

order_cond : (lease : ℕ) (b p : Bool) (deed : Deed) (deeds : List Deed)
    → in_order lease (cond b (deed ∷ deeds) (cond p (Retire ∷ deeds) deeds)) ≡ true
    → in_order lease deeds ≡ true
order_cond lease true p deed deeds h = right_true (may_follow lease deed deeds) (in_order lease deeds) h
order_cond lease false true deed deeds h = h
order_cond lease false false deed deeds h = h

pub answered_reach : (events : List Event) (client moment from : ℕ) → from ≢ closed_part
    → Contains events (event client (Renew moment from)) → moment + 1 ≤ greatest_part (deeds_of client events)
answered_reach [] client moment from apart (k, low, e) = absurd (omega arith)
answered_reach (x ∷ events) client moment from apart has =
    ⊎_elim
    (λ (is : x ≡ event client (Renew moment from)).
    let here : moment + 1 ≤ greatest_part (Renew moment from ∷ deeds_of client events) = grind (arith, nat_tests) in
    subst (λ (y : Event). moment + 1 ≤ greatest_part (deeds_of client (y ∷ events))) (sym is) (subst (λ (l : List Deed). moment + 1 ≤ greatest_part l) (sym (of_same client (Renew moment from) events)) here))
    (λ (found_older : Contains events (event client (Renew moment from))).
    let h = answered_reach events client moment from apart found_older in
    let more = reach_cond (x.client == client) (opens_later client x) x.deed (deeds_of client events) in
    le_trans h more)
    (contains_cons x events (event client (Renew moment from)) has)

-- what holds of a deed at the head of any list holds of the greatest word of a list that has it
reach_has : (deed : Deed) (n : ℕ) → ((deeds : List Deed) → n ≤ greatest_part (deed ∷ deeds))
    → (events : List Event) (client : ℕ) → Contains events (event client deed)
    → n ≤ greatest_part (deeds_of client events)
reach_has deed n at [] client (k, low, e) = absurd (omega (arith, low))
reach_has deed n at (x ∷ events) client has =
    ⊎_elim
    (λ (is : x ≡ event client deed). subst (λ (y : Event). n ≤ greatest_part (deeds_of client (y ∷ events))) (sym is) (subst (λ (l : List Deed). n ≤ greatest_part l) (sym (of_same client deed events)) (at (deeds_of client events))))
    (λ (found_older : Contains events (event client deed)). le_trans (reach_has deed n at events client found_older) (reach_cond (x.client == client) (opens_later client x) x.deed (deeds_of client events)))
    (contains_cons x events (event client deed) has)

opened_first : (moment : ℕ) (deeds : List Deed) → moment + 1 ≤ greatest_part (Open moment ∷ deeds)
opened_first moment deeds = omega arith

pub opened_reach : (events : List Event) (client moment : ℕ) → Contains events (event client (Open moment))
    → moment + 1 ≤ greatest_part (deeds_of client events)
opened_reach events client moment has = reach_has (Open moment) (moment + 1) (opened_first moment) events client has

looked_first : (part : ℕ) (deeds : List Deed) → part ≢ closed_part → part ≤ greatest_part (Look part ∷ deeds)
looked_first part deeds apart = grind (arith, nat_tests)

pub looked_reach : (events : List Event) (client part : ℕ) → part ≢ closed_part
    → Contains events (event client (Look part)) → part ≤ greatest_part (deeds_of client events)
looked_reach events client part apart has = reach_has (Look part) part (λ deeds. looked_first part deeds apart) events client has

done_cap : (events : List Event) (client seen now : ℕ) → Contains events (event client (Close seen now true))
    → least_closed (deeds_of client events) ≤ seen + 1
done_cap [] client seen now (k, low, e) = absurd (omega arith)
done_cap (x ∷ events) client seen now has =
    ⊎_elim
    (λ (is : x ≡ event client (Close seen now true)).
    let here : least_closed (Close seen now true ∷ deeds_of client events) ≤ seen + 1 = omega arith in
    subst (λ (y : Event). least_closed (deeds_of client (y ∷ events)) ≤ seen + 1) (sym is) (subst (λ (l : List Deed). least_closed l ≤ seen + 1) (sym (of_same client (Close seen now true) events)) here))
    (λ (found_older : Contains events (event client (Close seen now true))). le_trans (cap_cond (x.client == client) (opens_later client x) x.deed (deeds_of client events)) (done_cap events client seen now found_older))
    (contains_cons x events (event client (Close seen now true)) has)

done_due : (lease : ℕ) (events : List Event) (client seen now : ℕ)
    → in_order lease (deeds_of client events) ≡ true → Contains events (event client (Close seen now true))
    → seen + lease < now
done_due lease [] client seen now order (k, low, e) = absurd (omega arith)
done_due lease (x ∷ events) client seen now order has =
    ⊎_elim
    (λ (is : x ≡ event client (Close seen now true)).
    let o : in_order lease (Close seen now true ∷ deeds_of client events) ≡ true =
    subst (λ (l : List Deed). in_order lease l ≡ true) (of_same client (Close seen now true) events) (subst (λ (y : Event). in_order lease (deeds_of client (y ∷ events)) ≡ true) is order) in
    let may = left_true (may_follow lease (Close seen now true) (deeds_of client events)) (in_order lease (deeds_of client events)) o in
    let due : nat_lt (seen + lease) now ≡ true = left_true (nat_lt (seen + lease) now) (not (saw_end (deeds_of client events)) && nat_le (greatest_part (deeds_of client events)) (seen + 1)) may in
    ltb-true (seen + lease) now due)
    (λ (found_older : Contains events (event client (Close seen now true))). done_due lease events client seen now (order_cond lease (x.client == client) (opens_later client x) x.deed (deeds_of client events) order) found_older)
    (contains_cons x events (event client (Close seen now true)) has)

-- no renewal that one list has as answered is late for a closing that another has as done
pub none_late : (lease : ℕ) (events closings : List Event)
    → ((client : ℕ) → greatest_part (deeds_of client events) ≤ least_closed (deeds_of client closings))
    → ((client : ℕ) → in_order lease (deeds_of client closings) ≡ true) → NoneLate lease events closings
none_late lease events closings under order = record {
  moments = λ client moment from seen now has apart done.
      let a = answered_reach events client moment from apart has in
      let b = done_cap closings client seen now done in
      let over = done_due lease closings client seen now (order client) done in
      let u = under client in
      (omega arith, lt-ltb (moment + lease) now (omega arith));
}

order_tail : (lease client : ℕ) (newer rest : List Event)
    → in_order lease (deeds_of client (newer ++ rest)) ≡ true → in_order lease (deeds_of client rest) ≡ true
order_tail lease client [] rest h = h
order_tail lease client (x ∷ newer) rest h = order_tail lease client newer rest (order_cond lease (x.client == client) (opens_later client x) x.deed (deeds_of client (newer ++ rest)) h)

-- an event in a list in order may follow the older ones
may_at : (lease client : ℕ) (deed : Deed) (newer older events : List Event)
    → in_order lease (deeds_of client events) ≡ true → events ≡ newer ++ event client deed ∷ older
    → may_follow lease deed (deeds_of client older) ≡ true
may_at lease client deed newer older events order is =
    left_true (may_follow lease deed (deeds_of client older)) (in_order lease (deeds_of client older))
    (subst (λ (l : List Deed). in_order lease l ≡ true) (of_same client deed older)
    (order_tail lease client newer (event client deed ∷ older) (subst (λ (l : List Event). in_order lease (deeds_of client l) ≡ true) is order)))

renew_may : (lease moment from : ℕ) (deeds : List Deed) → from ≢ closed_part
    → may_follow lease (Renew moment from) deeds ≡ true → saw_end deeds ≡ false
renew_may lease moment from deeds apart may = grind (arith, nat_tests)

pub none_after_end : (lease : ℕ) (events : List Event)
    → ((client : ℕ) → in_order lease (deeds_of client events) ≡ true) → NoneAfterEnd events
none_after_end lease events order = record { none_after = λ newer older client moment from is apart. renew_may lease moment from (deeds_of client older) apart (may_at lease client (Renew moment from) newer older events (order client) is) }

pub looks_first : (lease : ℕ) (events : List Event)
    → ((client : ℕ) → in_order lease (deeds_of client events) ≡ true) → LooksFirst events
looks_first lease events order = record { look_before = λ newer older client moment from is. left_true (saw_open (deeds_of client older)) _ (may_at lease client (Renew moment from) newer older events (order client) is) }

not_true : (b : Bool) → not b ≡ true → b ≡ false
not_true true h = sym h
not_true false h = refl

pub never_vacant_again : (lease : ℕ) (events : List Event)
    → ((client : ℕ) → in_order lease (deeds_of client events) ≡ true) → NeverVacantAgain events
never_vacant_again lease events order = record { not_vacant = λ newer older client is. not_true (knows (deeds_of client older)) (may_at lease client (Look 0) newer older events (order client) is) }

saw_more : (deed : Deed) (deeds : List Deed) → saw_open deeds ≡ true → saw_open (deed ∷ deeds) ≡ true
saw_more (Look part) deeds h = grind (arith, nat_tests)
saw_more (Renew moment old) deeds h = h
saw_more (Open moment) deeds h = h
saw_more (Close seen now done) deeds h = h
saw_more Retire deeds h = h

saw_cond : (b p : Bool) (deed : Deed) (deeds : List Deed) → saw_open deeds ≡ true
    → saw_open (cond b (deed ∷ deeds) (cond p (Retire ∷ deeds) deeds)) ≡ true
saw_cond true p deed deeds h = saw_more deed deeds h
saw_cond false true deed deeds h = h
saw_cond false false deed deeds h = h

-- a list in order that has a renewal has a look that showed the lease open
pub renewed_saw : (lease : ℕ) (events : List Event) (client moment from : ℕ)
    → in_order lease (deeds_of client events) ≡ true → Contains events (event client (Renew moment from))
    → saw_open (deeds_of client events) ≡ true
renewed_saw lease [] client moment from order (k, low, e) = absurd (omega (arith, low))
renewed_saw lease (x ∷ events) client moment from order has =
    ⊎_elim
    (λ (is : x ≡ event client (Renew moment from)).
    let o : in_order lease (Renew moment from ∷ deeds_of client events) ≡ true =
    subst (λ (l : List Deed). in_order lease l ≡ true) (of_same client (Renew moment from) events) (subst (λ (y : Event). in_order lease (deeds_of client (y ∷ events)) ≡ true) is order) in
    let may = left_true (may_follow lease (Renew moment from) (deeds_of client events)) (in_order lease (deeds_of client events)) o in
    let saw : saw_open (deeds_of client events) ≡ true = left_true (saw_open (deeds_of client events)) _ may in
    subst (λ (y : Event). saw_open (deeds_of client (y ∷ events)) ≡ true) (sym is) (subst (λ (l : List Deed). saw_open l ≡ true) (sym (of_same client (Renew moment from) events)) saw))
    (λ (older : Contains events (event client (Renew moment from))).
    saw_cond (x.client == client) (opens_later client x) x.deed (deeds_of client events) (renewed_saw lease events client moment from (order_cond lease (x.client == client) (opens_later client x) x.deed (deeds_of client events) order) older))
    (contains_cons x events (event client (Renew moment from)) has)
