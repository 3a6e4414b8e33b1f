-- What a change of the clients' records does to who is live, and which epoch their clientids are of.
use Rattle.std.proofs.Common.{◌≡◌, ◌⊎◌, inl, inr, ℕ, Bool, true, false, List, [], ◌∷◌, ◌++◌, filter, refl, sym, ap, ◌∙◌, subst}
use Rattle.std.specs.Prelude.{⊤, ◌<◌, ◌&&◌, ◌||◌, ◌==◌, find, is_some, not}
use Rattle.std.specs.List.{AllByRecursion, list_any}
use Rattle.std.specs.Str.{bytes_eq}
use Rattle.std.proofs.lemmas.Bool.{and_from, and_parts, cases_Bool, eq-eqb, eqb-true, false_from_ne_true, not-true, not_from_false, or_cases, or_left, or_right}
use Rattle.std.proofs.lemmas.Slice.Eq.{bytes_eq-Decides}
use Rattle.nfs_core.proofs.ClientChanges.{IsClientsFor}
use Rattle.nfs_core.proofs.LiveLists.{any_found_with, any_holds, any_kept, any_of_kept, any_put, any_split, any_weaken, bool_equal, found_any, none_any}
use Rattle.nfs_core.proofs.SafeLists.{all_always, all_weaken, found_holds}
use Rattle.nfs_core.proofs.Slots.{IsLastOf, last_is_given, next_is_new, same_last, slot_below, still_given}
use Rattle.nfs_core.proofs.Sound.{HasRecord, IsOnlyOf, equal_clients, is_live_in, is_record_of, same_client_self}
use Rattle.nfs_core.proofs.SoundClients.{EachRecord, HasLastNumber, HasSameId, HasSingles, before_newcomer, each_before, each_confirmed, each_marked, each_unconfirmed, singles_changed}
use Rattle.nfs_core.proofs.SoundSequences.{never}
use Rattle.nfs_core.proofs.SoundSteps.{IsClientReady}
use Rattle.nfs_core.specs.LiveClients.{CanCome, Fits, IsAlone, LiveFollows}
use Rattle.nfs_forms.specs.ClientId.{is_same_client}
use Rattle.nfs_forms.specs.declared.client_id.ClientId.{ClientId}
use Rattle.nfs_owners.specs.Choice.{has_slot}
use Rattle.nfs_owners.specs.ClientChange.{with_change}
use Rattle.nfs_owners.specs.LiveChange.{is_live_after, live_change}
use Rattle.nfs_owners.specs.LiveClients.{can_become_live}
use Rattle.nfs_owners.specs.Registry.{Registry, is_live, is_of, is_of_client, takes_number, was_given, with_mark, without_client, without_id, without_number}
use Rattle.nfs_owners.specs.Slots.{slot_of}
use Rattle.nfs_owners.specs.laws.Marks.{mark_keeps_can_become_live, mark_keeps_live, same_record}
use Rattle.nfs_owners.specs.declared.client_record.ClientRecord.{ClientRecord}
use Rattle.nfs_owners.specs.declared.client_record.PathMark.{PathMark}
use Rattle.nfs_owners.specs.declared.clients.client_change.ClientChange.{ClientChange}
use Rattle.nfs_owners.specs.declared.clients.client_change.ClientChange.TheVariants as client_changes
use Rattle.nfs_owners.specs.declared.live_change.LiveChange.TheVariants.{Same, Goes}
use Rattle.nfs_xdr.specs.declared.op.Op.{Op}
use Rattle.nfs_xdr.specs.declared.op.Op.TheVariants as ops

-- A record with a clientid and an id, among these records.

-- what holds of each record holds of one of this client and this id
record Found (P : ClientRecord → Type 0) (client : ClientId) (id : List ℕ) : Type 0 where
  one : ClientRecord
  holds : P one
  client_is : one.state.client ≡ client
  id_is : one.id ≡ id

find_record : (P : ClientRecord → Type 0) (client : ClientId) (id : List ℕ) (records : List ClientRecord) → HasRecord client id records → AllByRecursion P records → Found P client id
find_record P client id records there all =
    let held = found_holds P (is_record_of client id) records there all in
    let both = and_parts (is_same_client held.0.state.client client) (bytes_eq held.0.id id) held.2 in
    record {
      one = held.0;
      holds = held.1;
      client_is = equal_clients held.0.state.client client both.0;
      id_is = (bytes_eq-Decides held.0.id id).0 both.1;
    }

-- the client is among them
of_record : (client : ClientId) (id : List ℕ) (records : List ClientRecord) (c : ℕ) → HasRecord client id records → (c == client.number) ≡ true → list_any (is_of_client c) records ≡ true
of_record client id records c there is =
    any_found_with (is_record_of client id) (is_of_client c) records
    (λ s passes.
    let same = equal_clients s.state.client client (and_parts (is_same_client s.state.client client) (bytes_eq s.id id) passes).0 in
    eq-eqb s.state.client.number c (ap (λ (x : ClientId). x.number) same ∙ sym (eqb-true c client.number is))) there

turned : (a b : ℕ) → (a == b) ≡ (b == a)
turned a b = bool_equal (a == b) (b == a) (λ is. eq-eqb b a (sym (eqb-true a b is))) (λ is. eq-eqb a b (sym (eqb-true b a is)))

-- Who is live once a record is put in place of those of its id: its client, and those that have a record of another id.
live_put : (r : ClientRecord) (records : List ClientRecord) (c : ℕ)
    → list_any (is_of_client c) (without_id r.id records ++ r ∷ []) ≡ ((c == r.state.client.number) || list_any (takes_number r.id c) records)
live_put r records c =
    any_put (is_of_client c) (λ s. not (is_of r.id s)) records r
    ∙ ap (λ b. b || list_any (takes_number r.id c) records) (turned r.state.client.number c)

kept_is : (p q : ClientRecord → Bool) (records : List ClientRecord) → list_any (λ s. p s && q s) records ≡ true → list_any p records ≡ true
kept_is p q records any = any_weaken (λ s. ⊤) (λ s. p s && q s) p (λ s _ both. (and_parts (p s) (q s) both).0) records (all_always records) any

-- where no record has the id, all stay
all_stay : (id : List ℕ) (records : List ClientRecord) (c : ℕ) → AllByRecursion (λ s. is_of id s ≡ false) records → list_any (takes_number id c) records ≡ list_any (is_of_client c) records
all_stay id records c none =
    bool_equal (list_any (takes_number id c) records) (list_any (is_of_client c) records) (kept_is (is_of_client c) (λ s. not (is_of id s)) records)
    (λ any. any_weaken (λ s. is_of id s ≡ false) (is_of_client c) (takes_number id c)
    (λ s other is. and_from (is_of_client c s) (not (is_of id s)) is (not_from_false (is_of id s) other)) records none any)

-- where all records with the id are of one client, those of other clients stay
others_stay : (client : ClientId) (id : List ℕ) (records : List ClientRecord) (c : ℕ) → AllByRecursion (IsOnlyOf client id) records → list_any (is_of_client c) records ≡ true
    → (list_any (takes_number id c) records ≡ true) ⊎ ((c == client.number) ≡ true)
others_stay client id records c only live =
    any_split (IsOnlyOf client id) (is_of_client c) (takes_number id c) ((c == client.number) ≡ true)
    (λ s is_only passes. elim (cases_Bool (is_of id s)) [
      | inl same ↦ inr (eq-eqb c client.number (sym (eqb-true s.state.client.number c passes) ∙ ap (λ (x : ClientId). x.number) (equal_clients s.state.client client (is_only same))))
      | inr other ↦ inl (and_from (is_of_client c s) (not (is_of id s)) passes (not_from_false (is_of id s) other))
    ]) records only live

-- The client of a record has no record of another id.
own_id : (c : ℕ) (s : ClientRecord) (id : List ℕ) (records : List ClientRecord) → s.state.client.number ≡ c → s.id ≡ id → AllByRecursion (HasSameId s) records → list_any (takes_number id c) records ≡ false
own_id c s id records number ids same =
    none_any (takes_number id c) records
    (all_weaken (HasSameId s) (λ t. takes_number id c t ≡ false)
    (λ t same_id. false_from_ne_true (takes_number id c t)
    (λ passes.
    let both = and_parts (is_of_client c t) (not (is_of id t)) passes in
    let is : t.id ≡ id = sym (same_id (number ∙ sym (eqb-true t.state.client.number c both.0))).1 ∙ ids in
    never (is_of id t) (not-true (is_of id t) both.1) ((bytes_eq-Decides t.id id).1 is))) records same)

-- the same of a client that has a record of the id among some of the registry
own_id_of : (client : ClientId) (id : List ℕ) (some others : List ClientRecord) (c : ℕ) → HasRecord client id some → AllByRecursion (λ s. AllByRecursion (HasSameId s) others) some → (c == client.number) ≡ true
    → list_any (takes_number id c) others ≡ false
own_id_of client id some others c there same is =
    let found = find_record (λ s. AllByRecursion (HasSameId s) others) client id some there same in
    own_id c found.one id others (ap (λ (x : ClientId). x.number) found.client_is ∙ sym (eqb-true c client.number is)) found.id_is found.holds

-- Who is live after each change.

or_same : (a b c : Bool) → b ≡ c → (a || b) ≡ (a || c)
or_same a b c same = ap (λ x. a || x) same

-- the client was live, and is
absorbed : (a b was : Bool) → (a ≡ true → was ≡ true) → (b ≡ true → was ≡ true) → (was ≡ true → (b ≡ true) ⊎ (a ≡ true)) → (a || b) ≡ was
absorbed a b was from_a from_b cases =
    bool_equal (a || b) was
    (λ either. elim (or_cases a b either) [
      | inl is ↦ from_a is
      | inr is ↦ from_b is
    ])
    (λ is. elim (cases is) [
      | inl kept ↦ or_right a b kept
      | inr own ↦ or_left a b own
    ])

-- all but one stay
but_one : (b was gone : Bool) → (b ≡ true → was ≡ true) → (gone ≡ true → b ≡ false) → (was ≡ true → (b ≡ true) ⊎ (gone ≡ true)) → b ≡ (was && not gone)
but_one b was gone from_b none cases =
    bool_equal b (was && not gone)
    (λ is. and_from was (not gone) (from_b is) (not_from_false gone (false_from_ne_true gone (λ g. never b (none g) is))))
    (λ both. elim (cases (and_parts was (not gone) both).0) [
      | inl kept ↦ kept
      | inr g ↦ absurd (never gone (not-true gone (and_parts was (not gone) both).1) g)
    ])

-- records of the rows of one list, in each of the two
rows_confirmed : (records : List ClientRecord) (registry : Registry) → AllByRecursion (λ r. EachRecord (HasSameId r) registry) records → AllByRecursion (λ r. AllByRecursion (HasSameId r) registry.confirmed) records
rows_confirmed records registry rows = all_weaken (λ r. EachRecord (HasSameId r) registry) (λ r. AllByRecursion (HasSameId r) registry.confirmed) (λ r row. row.0) records rows

rows_unconfirmed : (records : List ClientRecord) (registry : Registry) → AllByRecursion (λ r. EachRecord (HasSameId r) registry) records → AllByRecursion (λ r. AllByRecursion (HasSameId r) registry.unconfirmed) records
rows_unconfirmed records registry rows = all_weaken (λ r. EachRecord (HasSameId r) registry) (λ r. AllByRecursion (HasSameId r) registry.unconfirmed) (λ r row. row.1) records rows

live_changed : (change : ClientChange) (old : Registry) → HasSingles old → IsClientReady change old → (c : ℕ) → is_live c (with_change change old) ≡ is_live_after (live_change change) c (is_live c old)
live_changed client_changes.Nothing old singles ready c = refl
live_changed (client_changes.Arrives r) old singles ready c = refl
live_changed (client_changes.Updates r) old singles ready c = refl
live_changed (client_changes.Confirms r) old singles ready c =
    live_put r old.confirmed c ∙ or_same (c == r.state.client.number) _ _ (all_stay r.id old.confirmed c ready.0)
live_changed (client_changes.Refreshes r) old singles ready c =
    live_put r old.confirmed c
    ∙ absorbed (c == r.state.client.number) (list_any (takes_number r.id c) old.confirmed) (is_live c old)
    (λ is. of_record r.state.client r.id old.confirmed c ready.1 is) (kept_is (is_of_client c) (λ s. not (is_of r.id s)) old.confirmed)
    (λ live. others_stay r.state.client r.id old.confirmed c ready.0 live)
live_changed (client_changes.Replaces r client) old singles ready c =
    live_put r old.confirmed c
    ∙ or_same (c == r.state.client.number) _ _
    (but_one (list_any (takes_number r.id c) old.confirmed) (is_live c old) (c == client.number) (kept_is (is_of_client c) (λ s. not (is_of r.id s)) old.confirmed)
    (λ is. own_id_of client r.id old.confirmed old.confirmed c ready.1 (rows_confirmed old.confirmed old singles.same.0) is)
    (λ live. others_stay client r.id old.confirmed c ready.0 live))

-- Who can become live.

-- by whether a number was given, whether its client is live, and whether it has an unconfirmed record
cases_of_can : (given live known : Bool) → (not given || (not live && known)) ≡ true → (given ≡ false) ⊎ ((live ≡ false) × (known ≡ true))
cases_of_can false live known can = inl refl
cases_of_can true false known can = inr (refl, can)
cases_of_can true true known can = absurd cc

can_of_new : (given live known : Bool) → given ≡ false → (not given || (not live && known)) ≡ true
can_of_new false live known is = refl
can_of_new true live known is = absurd cc

can_of_known : (given live known : Bool) → live ≡ false → known ≡ true → (not given || (not live && known)) ≡ true
can_of_known false live known dead there = refl
can_of_known true false known dead there = there
can_of_known true true known dead there = absurd cc

-- Whoever can become live afterwards could before, if numbers stay given, and a client that was given a number and isn't live
-- but has an unconfirmed record was so before.
once_by : (c : ℕ) (old new : Registry) → (was_given c old ≡ true → was_given c new ≡ true)
    → (was_given c old ≡ true → is_live c new ≡ false → list_any (is_of_client c) new.unconfirmed ≡ true → (is_live c old ≡ false) × (list_any (is_of_client c) old.unconfirmed ≡ true))
    → can_become_live c new ≡ true → can_become_live c old ≡ true
once_by c old new stays before can =
    let live = is_live c old in
    let known = list_any (is_of_client c) old.unconfirmed in
    elim (cases_Bool (was_given c old)) [
      | inl given ↦ elim (cases_of_can (was_given c new) (is_live c new) (list_any (is_of_client c) new.unconfirmed) can) [
        | inl new_one ↦ absurd (never (was_given c new) new_one (stays given))
        | inr is ↦
            let was = before given is.0 is.1 in
            can_of_known (was_given c old) live known was.0 was.1
      ]
      | inr new_one ↦ can_of_new (was_given c old) live known new_one
    ]

-- each live client has the last number that was given of its slot
pub numbered : (registry : Registry) → HasSingles registry → (number : ℕ) → is_live number registry ≡ true → IsLastOf registry.given number
numbered registry singles number live =
    let held = any_holds (HasLastNumber registry.given) (is_of_client number) registry.confirmed live singles.given.0 in
    subst (IsLastOf registry.given) (eqb-true held.0.state.client.number number held.2) held.1

-- who can become live isn't
not_yet : (registry : Registry) → HasSingles registry → (c : ℕ) → can_become_live c registry ≡ true → is_live c registry ≡ false
not_yet registry singles c can = elim (cases_of_can (was_given c registry) (is_live c registry) (list_any (is_of_client c) registry.unconfirmed) can) [
  | inl new_one ↦ false_from_ne_true (is_live c registry)
      (λ live. never (was_given c registry) new_one (last_is_given registry.given c (numbered registry singles c live)))
  | inr is ↦ is.0
]

-- where a record is put among the unconfirmed ones, its client or one that was there is among them
known_put : (r : ClientRecord) (records : List ClientRecord) (c : ℕ) → list_any (is_of_client c) (without_id r.id records ++ r ∷ []) ≡ true → ((c == r.state.client.number) ≡ true) ⊎ (list_any (is_of_client c) records ≡ true)
known_put r records c there =
    elim (or_cases (c == r.state.client.number) (list_any (takes_number r.id c) records) (sym (live_put r records c) ∙ there)) [
      | inl own ↦ inl own
      | inr kept ↦ inr (kept_is (is_of_client c) (λ s. not (is_of r.id s)) records kept)
    ]

-- where records with an id are removed, one of the client that stays was there, and has another id
known_left : (id : List ℕ) (records : List ClientRecord) (c : ℕ) → list_any (is_of_client c) (without_id id records) ≡ true → list_any (takes_number id c) records ≡ true
known_left id records c there = any_of_kept (is_of_client c) (λ s. not (is_of id s)) records there

can_changed : (change : ClientChange) (old : Registry) → HasSingles old → IsClientReady change old → (c : ℕ) → can_become_live c (with_change change old) ≡ true → can_become_live c old ≡ true
can_changed client_changes.Nothing old singles ready c can = can
can_changed (client_changes.Arrives r) old singles ready c can =
    let n = r.state.client.number in
    let stays : ClientRecord → Bool = λ s. not (has_slot (slot_of n) s) in
    once_by c old (with_change (client_changes.Arrives r) old)
    (still_given old.given (slot_of n) c (subst (λ many. slot_of n < many) (sym singles.slots) (slot_below n)))
    (λ given dead there. (
      dead,
      elim (known_put r (filter stays old.unconfirmed) c there) [
        | inl own ↦ absurd (next_is_new old.given n c ready.0.next given (eqb-true c n own))
        | inr was ↦ kept_is (is_of_client c) stays old.unconfirmed (any_of_kept (is_of_client c) stays old.unconfirmed was)
      ],
    )) can
can_changed (client_changes.Updates r) old singles ready c can =
    once_by c old (with_change (client_changes.Updates r) old) (λ given. given)
    (λ given dead there. (
      dead,
      elim (known_put r old.unconfirmed c there) [
        | inl own ↦ absurd (never (is_live c old) dead (of_record r.state.client r.id old.confirmed c ready own))
        | inr was ↦ was
      ],
    )) can
can_changed (client_changes.Confirms r) old singles ready c can =
    let new = with_change (client_changes.Confirms r) old in
    once_by c old new (λ given. given)
    (λ given dead there. (
      false_from_ne_true (is_live c old)
          (λ live. never (is_live c new) dead (live_changed (client_changes.Confirms r) old singles ready c ∙ or_right (c == r.state.client.number) (is_live c old) live)),
      kept_is (is_of_client c) (λ s. not (is_of r.id s)) old.unconfirmed (known_left r.id old.unconfirmed c there),
    )) can
can_changed (client_changes.Refreshes r) old singles ready c can =
    let new = with_change (client_changes.Refreshes r) old in
    once_by c old new (λ given. given)
    (λ given dead there. (
      sym (live_changed (client_changes.Refreshes r) old singles ready c) ∙ dead,
      kept_is (is_of_client c) (λ s. not (is_of r.id s)) old.unconfirmed (known_left r.id old.unconfirmed c there),
    )) can
can_changed (client_changes.Replaces r client) old singles ready c can =
    let new = with_change (client_changes.Replaces r client) old in
    once_by c old new (λ given. given)
    (λ given dead there.
    let kept = known_left r.id old.unconfirmed c there in (
      false_from_ne_true (is_live c old)
          (λ live. elim (cases_Bool (c == client.number)) [
            | inl goes ↦ never (list_any (takes_number r.id c) old.unconfirmed)
                (own_id_of client r.id old.confirmed old.unconfirmed c ready.1 (rows_unconfirmed old.confirmed old singles.same.0) goes) kept
            | inr other ↦ never (is_live c new) dead
                (live_changed (client_changes.Replaces r client) old singles ready c
                ∙ or_right (c == r.state.client.number) (is_live c old && not (c == client.number)) (and_from (is_live c old) (not (c == client.number)) live (not_from_false (c == client.number) other)))
          ]),
      kept_is (is_of_client c) (λ s. not (is_of r.id s)) old.unconfirmed kept,
    )) can

-- Who comes could become live, and who goes was live.

-- a live client of the slot would have the same number
alone_in_slot : (number : ℕ) (old : Registry) → HasSingles old → IsLastOf old.given number → is_live number old ≡ false → IsAlone number old
alone_in_slot number old singles last dead = λ other slots.
    false_from_ne_true (is_live other old)
    (λ live.
    let same = same_last old.given other number (numbered old singles other live) last slots in
    never (is_live number old) dead (subst (λ n. is_live n old ≡ true) same live))

can_come : (client : ClientId) (id : List ℕ) (old : Registry) → HasSingles old → HasRecord client id old.unconfirmed → is_live client.number old ≡ false → CanCome client.number old
can_come client id old singles there dead =
    let n = client.number in
    let found = find_record (HasLastNumber old.given) client id old.unconfirmed there singles.given.1 in
    let last : IsLastOf old.given n = subst (λ (x : ClientId). IsLastOf old.given x.number) found.client_is found.holds in (
      can_of_known (was_given n old) (is_live n old) (list_any (is_of_client n) old.unconfirmed) dead (of_record client id old.unconfirmed n there (eq-eqb n n refl)),
      last.0,
      alone_in_slot n old singles last dead,
    )

-- a client that has an unconfirmed record of an id has no confirmed record of another
own_id_before : (client : ClientId) (id : List ℕ) (old : Registry) → HasSingles old → HasRecord client id old.unconfirmed → list_any (takes_number id client.number) old.confirmed ≡ false
own_id_before client id old singles there =
    own_id_of client id old.unconfirmed old.confirmed client.number there (rows_confirmed old.unconfirmed old singles.same.1) (eq-eqb client.number client.number refl)

-- two records of one id, an unconfirmed and a confirmed one, that have one client number have one client
same_number : (r client : ClientId) (id : List ℕ) (old : Registry) → HasSingles old → HasRecord r id old.unconfirmed → HasRecord client id old.confirmed → r.number ≡ client.number → client ≡ r
same_number r client id old singles there held number =
    let u = find_record (λ s. EachRecord (HasSameId s) old) r id old.unconfirmed there singles.same.1 in
    let t = find_record (HasSameId u.one) client id old.confirmed held u.holds.0 in
    let numbers = ap (λ (x : ClientId). x.number) u.client_is ∙ number ∙ sym (ap (λ (x : ClientId). x.number) t.client_is) in
    sym t.client_is ∙ sym (t.holds numbers).0 ∙ u.client_is

fits_changed : (change : ClientChange) (old : Registry) → HasSingles old → IsClientReady change old → Fits (live_change change) old
fits_changed client_changes.Nothing old singles ready = tt
fits_changed (client_changes.Arrives r) old singles ready = tt
fits_changed (client_changes.Updates r) old singles ready = tt
fits_changed (client_changes.Confirms r) old singles ready =
    can_come r.state.client r.id old singles ready.1
    (sym (all_stay r.id old.confirmed r.state.client.number ready.0) ∙ own_id_before r.state.client r.id old singles ready.1)
fits_changed (client_changes.Refreshes r) old singles ready = tt
fits_changed (client_changes.Replaces r client) old singles ready =
    let n = r.state.client.number in (
      can_come r.state.client r.id old singles ready.2
          (false_from_ne_true (is_live n old)
          (λ live. elim (others_stay client r.id old.confirmed n ready.0 live) [
            | inl kept ↦ never (list_any (takes_number r.id n) old.confirmed) (own_id_before r.state.client r.id old singles ready.2) kept
            | inr goes ↦ never (is_same_client client r.state.client) ready.3
                (subst (λ x. is_same_client x r.state.client ≡ true) (sym (same_number r.state.client client r.id old singles ready.2 ready.1 (eqb-true n client.number goes))) (same_client_self r.state.client))
          ])),
      of_record client r.id old.confirmed client.number ready.1 (eq-eqb client.number client.number refl),
    )

-- So each change follows.

pub follows_same : (registry : Registry) → HasSingles registry → LiveFollows Same registry registry
follows_same registry singles = record { live = λ c. refl; fits = tt; once = λ c can. (can, not_yet registry singles c can) }

pub follows_changed : (change : ClientChange) (old : Registry) → HasSingles old → IsClientReady change old → LiveFollows (live_change change) old (with_change change old)
follows_changed change old singles ready = record {
  live = live_changed change old singles ready;
  fits = fits_changed change old singles ready;
  once = λ c can. (can_changed change old singles ready c can, not_yet (with_change change old) (singles_changed change old ready singles) c can);
}

-- A mark of a path leaves who is live, and who can become so.
pub follows_marked : (client : ℕ) (path : PathMark) (old : Registry) → HasSingles old → LiveFollows Same old (with_mark client path old)
follows_marked client path old singles = record {
  live = mark_keeps_live client path old;
  fits = tt;
  once = λ c can.
      let could : can_become_live c old ≡ true = sym (mark_keeps_can_become_live client path old c) ∙ can in
      (could, mark_keeps_live client path old c ∙ not_yet old singles c could);
}

-- A client ends.

-- where the records of a client are removed, none of its own stays
none_left : (client : ℕ) (records : List ClientRecord) (c : ℕ) → (c == client) ≡ true → list_any (is_of_client c) (without_number client records) ≡ false
none_left client records c same =
    false_from_ne_true (list_any (is_of_client c) (without_number client records))
    (λ any.
    let held = any_holds (λ s. ⊤) (λ s. is_of_client c s && not (is_of_client client s)) records (any_of_kept (is_of_client c) (λ s. not (is_of_client client s)) records any) (all_always records) in
    let n = held.0.state.client.number in
    let both = and_parts (n == c) (not (n == client)) held.2 in
    never (n == client) (not-true (n == client) both.1) (eq-eqb n client (eqb-true n c both.0 ∙ eqb-true c client same)))

live_ended : (client : ℕ) (old : Registry) (c : ℕ) → is_live c (without_client client old) ≡ (is_live c old && not (c == client))
live_ended client old c =
    let q : ClientRecord → Bool = λ s. not (is_of_client client s) in
    but_one (is_live c (without_client client old)) (is_live c old) (c == client) (λ any. kept_is (is_of_client c) q old.confirmed (any_of_kept (is_of_client c) q old.confirmed any))
    (none_left client old.confirmed c)
    (λ live. elim (cases_Bool (c == client)) [
      | inl same ↦ inr same
      | inr other ↦ inl (any_kept (is_of_client c) q old.confirmed
          (any_weaken (λ s. ⊤) (is_of_client c) (λ s. is_of_client c s && q s)
          (λ s _ is. and_from (is_of_client c s) (q s) is (not_from_false (is_of_client client s) (ap (λ n. n == client) (eqb-true s.state.client.number c is) ∙ other)))
          old.confirmed (all_always old.confirmed) live))
    ])

can_ended : (client : ℕ) (old : Registry) (c : ℕ) → can_become_live c (without_client client old) ≡ true → can_become_live c old ≡ true
can_ended client old c can =
    let new = without_client client old in
    let q : ClientRecord → Bool = λ s. not (is_of_client client s) in
    once_by c old new (λ given. given)
    (λ given dead there. (
      false_from_ne_true (is_live c old)
          (λ live. elim (cases_Bool (c == client)) [
            | inl same ↦ never (list_any (is_of_client c) new.unconfirmed) (none_left client old.unconfirmed c same) there
            | inr other ↦ never (is_live c new) dead
                (live_ended client old c ∙ and_from (is_live c old) (not (c == client)) live (not_from_false (c == client) other))
          ]),
      kept_is (is_of_client c) q old.unconfirmed (any_of_kept (is_of_client c) q old.unconfirmed there),
    )) can

pub follows_ended : (client : ℕ) (old : Registry) → HasSingles (without_client client old) → is_live client old ≡ true → LiveFollows (Goes client) old (without_client client old)
follows_ended client old singles live = record {
  live = live_ended client old;
  fits = live;
  once = λ c can. (can_ended client old c can, not_yet (without_client client old) singles c can);
}

-- Clientids are of one epoch.

abbrev pub HasEpoch : ℕ → ClientRecord → Type 0
HasEpoch epoch r = r.state.client.epoch ≡ epoch

abbrev pub HaveEpoch : ℕ → Registry → Type 0
HaveEpoch epoch registry = EachRecord (HasEpoch epoch) registry

epoch_of_record : (epoch : ℕ) (client : ClientId) (id : List ℕ) (records : List ClientRecord) → HasRecord client id records → AllByRecursion (HasEpoch epoch) records → client.epoch ≡ epoch
epoch_of_record epoch client id records of h =
    let found = find_record (HasEpoch epoch) client id records of h in
    sym (ap (λ (x : ClientId). x.epoch) found.client_is) ∙ found.holds

pub epoch_changed : (epoch : ℕ) (op : Op) (change : ClientChange) (old : Registry) → IsClientReady change old → IsClientsFor epoch old op change → HaveEpoch epoch old → HaveEpoch epoch (with_change change old)
epoch_changed epoch op client_changes.Nothing old ready is h = h
epoch_changed epoch (ops.Setclientid args) (client_changes.Arrives r) old ready is h =
    each_unconfirmed (HasEpoch epoch) r (before_newcomer r old) is
    (each_before (HasEpoch epoch) (HasEpoch epoch) r old ready.0.alone (λ s k _. k) h)
epoch_changed epoch op (client_changes.Updates r) old ready is h = each_unconfirmed (HasEpoch epoch) r old (epoch_of_record epoch r.state.client r.id old.confirmed ready h.0) h
epoch_changed epoch op (client_changes.Confirms r) old ready is h = each_confirmed (HasEpoch epoch) r old (epoch_of_record epoch r.state.client r.id old.unconfirmed ready.1 h.1) h
epoch_changed epoch op (client_changes.Refreshes r) old ready is h = each_confirmed (HasEpoch epoch) r old (epoch_of_record epoch r.state.client r.id old.confirmed ready.1 h.0) h
epoch_changed epoch op (client_changes.Replaces r client) old ready is h = each_confirmed (HasEpoch epoch) r old (epoch_of_record epoch r.state.client r.id old.unconfirmed ready.2 h.1) h
epoch_changed epoch op change old ready is h = absurd is

pub epoch_marked : (epoch client : ℕ) (path : PathMark) (old : Registry) → HaveEpoch epoch old → HaveEpoch epoch (with_mark client path old)
epoch_marked epoch client path old h =
    each_marked client path (HasEpoch epoch) (HasEpoch epoch) (λ r k. k)
    (λ r k. ap (λ (x : ClientId). x.epoch) (same_record client path r).1 ∙ k) old h

-- a client that is live is so by its number
pub live_number : (client : ClientId) (records : List ClientRecord) → is_live_in records client ≡ true → list_any (is_of_client client.number) records ≡ true
live_number client records found =
    any_found_with (λ r. is_same_client r.state.client client) (is_of_client client.number) records
    (λ r passes. (and_parts (r.state.client.epoch == client.epoch) (r.state.client.number == client.number) passes).1) found

-- so a client is told by its number
pub told_by_number : (epoch number : ℕ) (records : List ClientRecord) → AllByRecursion (HasEpoch epoch) records
    → is_live_in records (record { epoch = epoch; number = number }) ≡ list_any (is_of_client number) records
told_by_number epoch number records h =
    let client : ClientId = record { epoch = epoch; number = number } in
    let named : ClientRecord → Bool = λ r. is_same_client r.state.client client in
    bool_equal (is_some (find named records)) (list_any (is_of_client number) records)
    (live_number client records)
    (λ any. found_any named records
    (any_weaken (HasEpoch epoch) (is_of_client number) named
    (λ r of passes. and_from (r.state.client.epoch == epoch) (r.state.client.number == number) (eq-eqb r.state.client.epoch epoch of) passes) records h any))
