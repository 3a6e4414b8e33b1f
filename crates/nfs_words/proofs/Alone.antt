-- What is found of a client that was opened goes by the events of the client itself.
use Rattle.std.proofs.Common.{◌≡◌, ◌≢◌, ◌⊎◌, ℕ, zero, ◌+◌, ◌≤◌, ◌==◌, cond, List, [], ◌∷◌, Bool, true, false, Contains, refl, sym, ap, ◌∙◌, subst, inl, inr, ⊎_elim, arith, eqb-true, eq-eqb}
use mathlib.Core.Option.{some-injective}
use lib.ListN.{get_elem?}
use Rattle.atomic_table.specs.Table.{State}
use Rattle.nfs_words.specs.declared.event.Event.{Event}
use Rattle.nfs_words.specs.declared.event.Deed.{Deed}
use Rattle.nfs_words.specs.declared.event.Deed.TheVariants.{Renew, Open}
use Rattle.nfs_words.specs.declared.rule.View.{View}
use Rattle.nfs_words.specs.Words.{closed_part}
use Rattle.nfs_words.specs.Deeds.{HasOpened, event, deeds_of, own_deeds_of, phase_of, is_standing}
use Rattle.nfs_words.specs.Rule.{Kept}
use Rattle.nfs_words.specs.Rules.{AnswersAlone, HasSameOf, IsSeated, KeeperHas, WroteAt, client_part}
use Rattle.nfs_words.proofs.Turns.{alone_standing, contains_cons, has_own, in_more}
use Rattle.nfs_words.proofs.Ruling.{keeper_held, rules}

-- a deed is among those of the client itself
abbrev In : Deed → List Deed → Type 0
In deed [] = ⊥
In deed (x ∷ deeds) = (x ≡ deed) ⊎ In deed deeds

to_own : (client : ℕ) (deed : Deed) (events : List Event) → Contains events (event client deed)
    → In deed (own_deeds_of client events)
to_own client deed [] h = absurd (omega (arith, h.1))
to_own client deed (e ∷ events) h = by_place (λ k. to_own client deed events k) (contains_cons e events (event client deed) h)
  where
    by_test : (b : Bool) → In deed (own_deeds_of client events)
        → In deed (cond b (e.deed ∷ own_deeds_of client events) (own_deeds_of client events))
    by_test true x = inr x
    by_test false x = x

    here : In deed (own_deeds_of client (event client deed ∷ events))
    here = subst (λ (b : Bool). In deed (cond b (deed ∷ own_deeds_of client events) (own_deeds_of client events))) (sym (eq-eqb client client refl)) (inl refl)

    by_place : (Contains events (event client deed) → In deed (own_deeds_of client events))
        → (e ≡ event client deed) ⊎ Contains events (event client deed)
        → In deed (own_deeds_of client (e ∷ events))
    by_place ih x =
        ⊎_elim (λ (is : e ≡ event client deed). subst (λ (y : Event). In deed (own_deeds_of client (y ∷ events))) (sym is) here)
        (λ (rest : Contains events (event client deed)). by_test (e.client == client) (ih rest)) x

of_own : (client : ℕ) (deed : Deed) (events : List Event) → In deed (own_deeds_of client events)
    → Contains events (event client deed)
of_own client deed [] h = absurd h
of_own client deed (e ∷ events) h = by_client (λ k. of_own client deed events k) (e.client == client) refl h
  where
    by_client : (In deed (own_deeds_of client events) → Contains events (event client deed)) → (b : Bool)
        → (e.client == client) ≡ b
        → In deed (cond b (e.deed ∷ own_deeds_of client events) (own_deeds_of client events))
        → Contains (e ∷ events) (event client deed)
    by_client ih true is k =
        ⊎_elim (λ (same : e.deed ≡ deed). (zero, omega arith, ap (λ (n : ℕ). event n e.deed) (eqb-true e.client client is) ∙ ap (event client) same))
        (λ (rest : In deed (own_deeds_of client events)). in_more (event client deed) e events (ih rest)) k
    by_client ih false is k = in_more (event client deed) e events (ih k)

-- what the one list has of the client, the other has
moved : (client : ℕ) (deed : Deed) (events fs : List Event)
    → own_deeds_of client fs ≡ own_deeds_of client events → Contains events (event client deed)
    → Contains fs (event client deed)
moved client deed events fs same h = of_own client deed fs (subst (In deed) (sym same) (to_own client deed events h))

wrote_moved : (client moment : ℕ) (view u : View) → own_deeds_of client u.own ≡ own_deeds_of client view.own
    → WroteAt client moment view → WroteAt client moment u
wrote_moved client moment view u same h =
    ⊎_elim (λ (o : Contains view.own (event client (Open moment))). inl (moved client (Open moment) view.own u.own same o))
    (λ (r : (from : ℕ) × (from ≢ closed_part) × Contains view.own (event client (Renew moment from))). inr (r.0, r.1, moved client (Renew moment r.0) view.own u.own same r.2))
    h

-- the table has one keeper
keeper_is : (table : State ℕ View) (lawful : Kept table) (view : View) → IsSeated table view → view.keeps ≡ true
    → view ≡ (rules table lawful).keeper
keeper_is table lawful view at keeps =
    let fit = (lawful.one 0).each at.0 view at.1 in
    some-injective view lawful.holds.0 (sym at.1 ∙ ap (get_elem? table.views) (fit.keeps keeps).0 ∙ lawful.holds.1) ∙ sym (keeper_held table lawful)

-- the word of an open lease is no less at the other table
no_less_there : (one other : State ℕ View) (a : Kept one) (b : Kept other) (client : ℕ)
    → is_standing (phase_of (deeds_of client (rules one a).keeper.own)) ≡ true
    → is_standing (phase_of (deeds_of client (rules other b).keeper.own)) ≡ true → HasSameOf client one other
    → client_part one client ≤ client_part other client
no_less_there one other a b client here there same =
    let w = (rules one a).greatest.written client here in
    let u = same w.2.0 w.2.1 in
    let wrote = wrote_moved client w.0 w.2.0 u.0 u.2 w.2.2 in
    let up : w.0 + 1 ≤ client_part other client =
    ⊎_elim (λ (o : Contains u.0.own (event client (Open w.0))). (rules other b).greatest.no_less client w.0 u.0 u.0.own u.1 (inl refl) there o)
    (λ (r : (from : ℕ) × (from ≢ closed_part) × Contains u.0.own (event client (Renew w.0 from))). (rules other b).greatest.greatest client w.0 r.0 u.0 u.0.own u.1 (inl refl) there r.2 r.1)
    wrote in
    omega (arith, w.1, up)

-- a lease that is open by its own events is open
open_by_own : (table : State ℕ View) (lawful : Kept table) (client : ℕ) (deeds : List Deed)
    → KeeperHas client table deeds → is_standing (phase_of deeds) ≡ true
    → is_standing (phase_of (deeds_of client (rules table lawful).keeper.own)) ≡ true
open_by_own table lawful client deeds h is =
    let same : h.0 ≡ lawful.holds.0 = keeper_is table lawful h.0 h.1 h.2 ∙ keeper_held table lawful in
    let turn = lawful.turn lawful.keeper lawful.holds.0 lawful.holds.1 lawful.holds.2 in
    let has = subst (λ (view : View). HasOpened client view.own) same h.3 in
    ap (λ (view : View). is_standing (phase_of (deeds_of client view.own))) (keeper_held table lawful)
    ∙ sym (alone_standing lawful.holds.0.own turn.in_turn client (has_own lawful.holds.0.own client has))
    ∙ ap (λ (view : View). is_standing (phase_of (own_deeds_of client view.own))) (sym same) ∙ ap (λ (deeds : List Deed). is_standing (phase_of deeds)) h.4 ∙ is

-- and closed where it isn't
shut_by_own : (table : State ℕ View) (lawful : Kept table) (client : ℕ) (deeds : List Deed)
    → KeeperHas client table deeds → is_standing (phase_of deeds) ≡ false
    → client_part table client ≡ closed_part
shut_by_own table lawful client deeds h idle =
    let same : h.0 ≡ (rules table lawful).keeper = keeper_is table lawful h.0 h.1 h.2 in
    ((rules table lawful).apart.alone client (subst (λ (view : View). HasOpened client view.own) same h.3)).1.1
    (ap (λ (view : View). is_standing (phase_of (own_deeds_of client view.own))) (sym same) ∙ ap (λ (deeds : List Deed). is_standing (phase_of deeds)) h.4 ∙ idle)

pub answers : AnswersAlone
answers one other a b client deeds h k there back = by_live (is_standing (phase_of deeds)) refl
  where
    by_live : (x : Bool) → is_standing (phase_of deeds) ≡ x → client_part one client ≡ client_part other client
    by_live true x =
        let o = open_by_own one a client deeds h x in
        let p = open_by_own other b client deeds k x in
        let up = no_less_there one other a b client o p there in
        let down = no_less_there other one b a client p o back in
        omega (arith, up, down)
    by_live false x = shut_by_own one a client deeds h x ∙ sym (shut_by_own other b client deeds k x)
