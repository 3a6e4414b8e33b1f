-- Which owner is forgotten next, among the owners as they are stored.
use Rattle.std.proofs.Common.{◌≡◌, ℕ, ◌<◌, ◌≤◌, Bool, true, false, cond, find, map, option_copied, option_map, Option, Some, None, List, [], ◌∷◌, inl, inr, refl, sym, ap, ◌∙◌, subst, arith}
use Rattle.std.specs.Borrow.{Bor}
use Rattle.std.specs.Prelude.{◌&&◌, IfNone, IfSome, not}
use Rattle.std.specs.List.{AllByRecursion}
use Rattle.std.proofs.lemmas.Bool.{and_from, and_parts, cases_lt, le-leb}
use Rattle.nfs_owners.specs.Owner as stored
use Rattle.nfs_owners.specs.Owners.{StandInOrder, is_from}
use Rattle.nfs_owners.specs.StateOwner.{as_open_owner, is_same_kind, open_owner}
use Rattle.nfs_owners.specs.declared.state_owner.OwnerKind.{OwnerKind}
use Rattle.nfs_owners.specs.declared.state_owner.OwnerKind.TheVariants as kinds
use Rattle.nfs_owners.specs.declared.owner.Owner.{Owner}
use Rattle.nfs_owners.specs.declared.owner.OwnerState.{OwnerState}
use Rattle.nfs_owners.specs.declared.state_owner.StateOwner.{StateOwner}
use Rattle.nfs_rules.specs.entries.Forget.{IsForgetting, IsNoneBefore, NoneIdle, NoneIdleBefore, end_of, has_open, is_idle, is_open_owner, is_past, kept_moment, recording_entry_of}
use Rattle.nfs_state.specs.Changes.{change_alone}
use Rattle.nfs_state.specs.Owners.{KnownOwner}
use Rattle.nfs_state.specs.Owners as known
use Rattle.nfs_state.specs.State.{History, State}
use Rattle.nfs_state.specs.Stored.{known_owner}
use Rattle.nfs_state.specs.declared.change.Change.TheVariants as changes
use Rattle.nfs_state.specs.declared.effect.Effect.{Effect}
use Rattle.nfs_state.specs.declared.entry.Forget.{Forget}

one_owner : (a b : Owner) → Some a ≡ Some b → a ≡ b
one_owner a b is = cc

one_known : (a b : KnownOwner) → Some a ≡ Some b → a ≡ b
one_known a b is = cc

not_both : (b : Bool) → b ≡ true → b ≡ false → ⊥
not_both true is other = cc
not_both false is other = cc

-- what holds of each owner holds of the one that is found, which passes the test
found_in : (P : Owner → Type 0) (test : Owner → Bool) (owners : List Owner) (x : Owner) → AllByRecursion P owners → find test owners ≡ Some x → P x × (test x ≡ true)
found_in P test [] x all found = absurd cc
found_in P test (o ∷ owners) x all found = by (test o) refl found (λ there. found_in P test owners x all.1 there)
  where
    by : (b : Bool) → test o ≡ b → cond b (Some o) (find test owners) ≡ Some x → (find test owners ≡ Some x → P x × (test x ≡ true)) → P x × (test x ≡ true)
    by true is here rest = let same = one_owner o x here in (subst P same all.0, subst (λ y. test y ≡ true) same is)
    by false is there rest = rest there

any_owner : (owners : List Owner) → AllByRecursion (λ o. Unit {0}) owners
any_owner [] = tt
any_owner (o ∷ owners) = (tt, any_owner owners)

found_passes : (test : Owner → Bool) (owners : List Owner) (x : Owner) → find test owners ≡ Some x → test x ≡ true
found_passes test owners x found = (found_in (λ o. Unit {0}) test owners x (any_owner owners) found).1

-- no owner passes where none is found
none_pass : (test : Owner → Bool) (owners : List Owner) → find test owners ≡ None → AllByRecursion (λ o. test o ≡ false) owners
none_pass test [] none = tt
none_pass test (o ∷ owners) none = by (test o) refl none (λ rest. none_pass test owners rest)
  where
    by : (b : Bool) → test o ≡ b → cond b (Some o) (find test owners) ≡ None → (find test owners ≡ None → AllByRecursion (λ o. test o ≡ false) owners)
        → AllByRecursion (λ o. test o ≡ false) (o ∷ owners)
    by true is there rest = absurd cc
    by false is there rest = (is, rest there)

weaken : (P Q : Owner → Type 0) → ((o : Owner) → P o → Q o) → (owners : List Owner) → AllByRecursion P owners → AllByRecursion Q owners
weaken P Q leads [] all = tt
weaken P Q leads (o ∷ owners) all = (leads o all.0, weaken P Q leads owners all.1)

-- the first that passes a test was recorded first of those that pass
pub least_first : (test : Owner → Bool) (owners : List Owner) (x : Owner) → StandInOrder owners → find test owners ≡ Some x → AllByRecursion (λ o. test o ≡ true → x.state.recorded ≤ o.state.recorded) owners
least_first test [] x order found = tt
least_first test (o ∷ owners) x order found = by (test o) refl found (λ there. least_first test owners x order.1 there)
  where
    Least : Owner → Owner → Type 0
    Least x o = test o ≡ true → x.state.recorded ≤ o.state.recorded

    by : (b : Bool) → test o ≡ b → cond b (Some o) (find test owners) ≡ Some x → (find test owners ≡ Some x → AllByRecursion (Least x) owners) → AllByRecursion (Least x) (o ∷ owners)
    by true is here rest =
        let same = one_owner o x here in
        subst (λ (y : Owner). AllByRecursion (Least y) (o ∷ owners)) same
        (λ _. omega arith, weaken (λ p. o.state.recorded < p.state.recorded) (Least o) (λ p above _. omega (arith, above)) owners order.0)
    by false is there rest = (λ passes. absurd (not_both (test o) passes is), rest there)

-- two that are found and that one entry recorded are one
same_one : (p q : Owner → Bool) (owners : List Owner) (x y : Owner) → StandInOrder owners → find p owners ≡ Some x → find q owners ≡ Some y → x.state.recorded ≡ y.state.recorded → x ≡ y
same_one p q [] x y order found other same = absurd cc
same_one p q (o ∷ owners) x y order found other same = by (p o) (q o) refl refl found other (λ there there_too. same_one p q owners x y order.1 there there_too same)
  where
    Above : Owner → Type 0
    Above r = o.state.recorded < r.state.recorded

    by : (b c : Bool) → p o ≡ b → q o ≡ c → cond b (Some o) (find p owners) ≡ Some x → cond c (Some o) (find q owners) ≡ Some y → (find p owners ≡ Some x → find q owners ≡ Some y → x ≡ y) → x ≡ y
    by true true is is_too here here_too rest = sym (one_owner o x here) ∙ one_owner o y here_too
    by true false is is_too here there rest =
        let first = one_owner o x here in
        absurd (omega (arith, (found_in Above q owners y order.0 there).0, same, ap (λ (r : Owner). r.state.recorded) first))
    by false true is is_too there here rest =
        let first = one_owner o y here in
        absurd (omega (arith, (found_in Above p owners x order.0 there).0, same, ap (λ (r : Owner). r.state.recorded) first))
    by false false is is_too there there_too rest = rest there there_too

-- the owner with a name as the rules see it
pub known_found : (name : StateOwner) (owners : List Owner) → known.owner_of name (map known_owner owners) ≡ option_map known_owner (stored.owner_of name owners)
known_found name [] = refl
known_found name (o ∷ owners) = by (stored.has_name name o) (known_found name owners)
  where
    by : (b : Bool) → known.owner_of name (map known_owner owners) ≡ option_map known_owner (stored.owner_of name owners)
        → cond b (Some (known_owner o)) (known.owner_of name (map known_owner owners)) ≡ option_map known_owner (cond b (Some o) (stored.owner_of name owners))
    by true rest = refl
    by false rest = rest

-- what is found of an owner by its name is an owner's state
pub no_state : (k : Option Owner) → None ≡ option_map (λ (o : Owner). o.state) k → k ≡ None
no_state None is = refl
no_state (Some o) is = absurd cc

pub has_state : (k : Option Owner) (s : OwnerState) → Some s ≡ option_map (λ (o : Owner). o.state) k → (o : Owner) × (k ≡ Some o) × (o.state ≡ s)
has_state None s is = absurd cc
has_state (Some o) s is = (o, refl, cc)

-- an owner that opens files is the open owner of its client and name
open_again : (name : StateOwner) → is_open_owner name ≡ true → open_owner (as_open_owner name) ≡ name
open_again name opens = by name.kind refl opens
  where
    by : (kind : OwnerKind) → name.kind ≡ kind → is_open_owner name ≡ true → open_owner (as_open_owner name) ≡ name
    by kinds.Open is opens = λ i. record { kind = sym is i; client = name.client; name = name.name }
    by kinds.Lock is opens = absurd (closed (ap (λ k. is_same_kind k kinds.Open) (sym is) ∙ opens))
      where
        closed : is_same_kind kinds.Lock kinds.Open ≡ true → ⊥
        closed h = cc

all_known : (P : KnownOwner → Type 0) (owners : List Owner) → AllByRecursion (λ o. P (known_owner o)) owners → AllByRecursion P (map known_owner owners)
all_known P [] all = tt
all_known P (o ∷ owners) all = (all.0, all_known P owners all.1)

all_stored : (P : KnownOwner → Type 0) (owners : List Owner) → AllByRecursion P (map known_owner owners) → AllByRecursion (λ o. P (known_owner o)) owners
all_stored P [] all = tt
all_stored P (o ∷ owners) all = (all.0, all_stored P owners all.1)

-- a known owner is stored
stored_known : (state : State) (owners : List Owner) (name : StateOwner) (o : KnownOwner) (k : Option Owner) → state.owners ≡ map known_owner owners → stored.owner_of name owners ≡ k
    → known.owner_of name state.owners ≡ Some o → option_map known_owner k ≡ Some o
stored_known state owners name o k seen named found = sym (ap (option_map known_owner) named) ∙ sym (known_found name owners) ∙ sym (ap (known.owner_of name) seen) ∙ found

-- where none has the name, it may not be forgotten
pub not_known : (journal : History) (state : State) (owners : List Owner) (forget : Forget) (effect : Effect) → state.owners ≡ map known_owner owners → stored.owner_of (open_owner forget.owner) owners ≡ None
    → IsForgetting journal state forget effect → ⊥
not_known journal state owners forget effect seen none is = no_one is.owner (stored_known state owners (open_owner forget.owner) is.owner None seen none is.found)
  where
    no_one : (o : KnownOwner) → None ≡ Some o → ⊥
    no_one o same = cc

module _ (journal : History) (state : State) (now : ℕ) (owners : List Owner) (seen : state.owners ≡ map known_owner owners) (order : StandInOrder owners) where
  stored_one : (name : StateOwner) (o : KnownOwner) (k : Option Owner) → stored.owner_of name owners ≡ k → known.owner_of name state.owners ≡ Some o → option_map known_owner k ≡ Some o
  stored_one name o k named found = stored_known state owners name o k seen named found

  -- the owner may be forgotten, and this entry recorded it or a later one
  abbrev pub passes : ℕ → Owner → Bool
  passes entry o = is_from entry o && is_idle journal state now (known_owner o)

  from_start : (o : Owner) → is_idle journal state now (known_owner o) ≡ true → passes 0 o ≡ true
  from_start o idle = and_from (is_from 0 o) (is_idle journal state now (known_owner o)) (le-leb 0 o.state.recorded (omega arith)) idle

  is_idle_too : (entry : ℕ) (o : Owner) → passes entry o ≡ true → is_idle journal state now (known_owner o) ≡ true
  is_idle_too entry o both = (and_parts (is_from entry o) (is_idle journal state now (known_owner o)) both).1

  -- the next one may be, which has the name
  pub may_forget : (forget : Forget) (effect : Effect) (next k : Owner) → forget.now ≡ now → find (passes 0) owners ≡ Some next → stored.owner_of (open_owner forget.owner) owners ≡ Some k
      → next.state.recorded ≡ k.state.recorded → effect ≡ change_alone (changes.Forgets forget.owner) → IsForgetting journal state forget effect
  may_forget forget effect next k at found named same is =
      let name = open_owner forget.owner in
      let one = same_one (passes 0) (stored.has_name name) owners next k order found named same in
      let idle = is_idle_too 0 next (found_passes (passes 0) owners next found) in
      let Least : Owner → Type 0 = λ o. is_idle journal state now (known_owner o) ≡ true → k.state.recorded ≤ o.state.recorded in
      let least : AllByRecursion Least owners =
      weaken (λ o. passes 0 o ≡ true → next.state.recorded ≤ o.state.recorded) Least (λ o h idle. omega (arith, same, h (from_start o idle))) owners (least_first (passes 0) owners next order found) in
      record {
        owner = known_owner k;
        found = ap (known.owner_of name) seen ∙ known_found name owners ∙ ap (option_map known_owner) named;
        idle = subst (λ n. is_idle journal state n (known_owner k) ≡ true) (sym at) (subst (λ o. is_idle journal state now (known_owner o) ≡ true) one idle);
        least = subst (λ all. AllByRecursion (IsNoneBefore journal state forget.now k.state.recorded) all) (sym seen)
            (subst (λ n. AllByRecursion (IsNoneBefore journal state n k.state.recorded) (map known_owner owners)) (sym at) (all_known (IsNoneBefore journal state now k.state.recorded) owners least));
        removal = is;
      }

  idle_now : (forget : Forget) (effect : Effect) → forget.now ≡ now → (is : IsForgetting journal state forget effect) → is_idle journal state now is.owner ≡ true
  idle_now forget effect at is = subst (λ n. is_idle journal state n is.owner ≡ true) at is.idle

  -- where none may be forgotten, or another one comes first, this one may not be
  pub none_may : (forget : Forget) (effect : Effect) (k : Owner) → forget.now ≡ now → stored.owner_of (open_owner forget.owner) owners ≡ Some k → find (passes 0) owners ≡ None → IsForgetting journal state forget effect → ⊥
  none_may forget effect k at named none is =
      let one : known_owner k ≡ is.owner = one_known (known_owner k) is.owner (stored_one (open_owner forget.owner) is.owner (Some k) named is.found) in
      let idle = from_start k (ap (is_idle journal state now) one ∙ idle_now forget effect at is) in
      not_both (passes 0 k) idle (found_in (λ o. passes 0 o ≡ false) (stored.has_name (open_owner forget.owner)) owners k (none_pass (passes 0) owners none) named).0

  pub other_first : (forget : Forget) (effect : Effect) (next k : Owner) → forget.now ≡ now → find (passes 0) owners ≡ Some next → stored.owner_of (open_owner forget.owner) owners ≡ Some k
      → (next.state.recorded ≡ k.state.recorded → ⊥) → IsForgetting journal state forget effect → ⊥
  other_first forget effect next k at found named differ is =
      let one : known_owner k ≡ is.owner = one_known (known_owner k) is.owner (stored_one (open_owner forget.owner) is.owner (Some k) named is.found) in
      let idle = from_start k (ap (is_idle journal state now) one ∙ idle_now forget effect at is) in
      let first = (found_in (λ o. passes 0 o ≡ true → next.state.recorded ≤ o.state.recorded) (stored.has_name (open_owner forget.owner)) owners k (least_first (passes 0) owners next order found) named).0 idle in
      let None_before : KnownOwner → Type 0 = IsNoneBefore journal state forget.now is.owner.recording_entry in
      let least = all_stored None_before owners (subst (AllByRecursion None_before) seen is.least) in
      let next_idle = is_idle_too 0 next (found_passes (passes 0) owners next found) in
      let last = (found_in (λ o. None_before (known_owner o)) (passes 0) owners next least found).0 (subst (λ n. is_idle journal state n (known_owner next) ≡ true) (sym at) next_idle) in
      differ (omega (arith, first, last, ap (λ (o : KnownOwner). o.recording_entry) one))

  -- Where none may be that an earlier entry recorded.

  abbrev Before : ℕ → KnownOwner → Type 0
  Before entry o = o.recording_entry < entry → is_idle journal state now o ≡ false

  before_stored : (entry : ℕ) → NoneIdleBefore entry journal state now → AllByRecursion (λ o. Before entry (known_owner o)) owners
  before_stored entry before = all_stored (Before entry) owners (subst (AllByRecursion (Before entry)) seen before)

  idle_from : (entry : ℕ) (o : Owner) → Before entry (known_owner o) → is_idle journal state now (known_owner o) ≡ true → passes entry o ≡ true
  idle_from entry o before idle =
      elim (cases_lt o.state.recorded entry) [
        | inl less ↦ absurd (not_both (is_idle journal state now (known_owner o)) idle (before less))
        | inr from ↦ and_from (is_from entry o) (is_idle journal state now (known_owner o)) (le-leb entry o.state.recorded from) idle
      ]

  -- the next one is the first of all
  idle_least : (entry : ℕ) (x : Owner) → NoneIdleBefore entry journal state now → find (passes entry) owners ≡ Some x
      → AllByRecursion (λ o. is_idle journal state now (known_owner o) ≡ true → x.state.recorded ≤ o.state.recorded) owners
  idle_least entry x before found = both owners (before_stored entry before) (least_first (passes entry) owners x order found)
    where
      both : (os : List Owner) → AllByRecursion (λ o. Before entry (known_owner o)) os → AllByRecursion (λ o. passes entry o ≡ true → x.state.recorded ≤ o.state.recorded) os
          → AllByRecursion (λ o. is_idle journal state now (known_owner o) ≡ true → x.state.recorded ≤ o.state.recorded) os
      both [] b l = tt
      both (o ∷ os) b l = (λ idle. l.0 (idle_from entry o b.0 idle), both os b.1 l.1)

  pub next_may : (entry : ℕ) (x : Owner) → NoneIdleBefore entry journal state now → find (passes entry) owners ≡ Some x → stored.owner_of x.name owners ≡ Some x
      → IsForgetting journal state (end_of x.name now) (change_alone (changes.Forgets (as_open_owner x.name)))
  next_may entry x before found own =
      let idle = is_idle_too entry x (found_passes (passes entry) owners x found) in
      let opens : is_open_owner x.name ≡ true =
      (and_parts (is_open_owner x.name) (is_past journal.lease now (kept_moment journal (known_owner x)))
      (and_parts (is_open_owner x.name && is_past journal.lease now (kept_moment journal (known_owner x))) (not (has_open x.name state)) idle).0).0 in
      record {
        owner = known_owner x;
        found = ap (λ n. known.owner_of n state.owners) (open_again x.name opens) ∙ ap (known.owner_of x.name) seen ∙ known_found x.name owners ∙ ap (option_map known_owner) own;
        idle = idle;
        least = subst (AllByRecursion (IsNoneBefore journal state now x.state.recorded)) (sym seen)
            (all_known (IsNoneBefore journal state now x.state.recorded) owners (idle_least entry x before found));
        removal = refl;
      }

  pub none_before : (entry : ℕ) (x : Owner) → NoneIdleBefore entry journal state now → find (passes entry) owners ≡ Some x → NoneIdleBefore x.state.recorded journal state now
  none_before entry x before found =
      subst (AllByRecursion (Before x.state.recorded)) (sym seen)
      (all_known (Before x.state.recorded) owners
      (weaken (λ o. is_idle journal state now (known_owner o) ≡ true → x.state.recorded ≤ o.state.recorded) (λ o. Before x.state.recorded (known_owner o))
      (λ o least less. by o (is_idle journal state now (known_owner o)) refl least less) owners (idle_least entry x before found)))
    where
      by : (o : Owner) (b : Bool) → is_idle journal state now (known_owner o) ≡ b → (is_idle journal state now (known_owner o) ≡ true → x.state.recorded ≤ o.state.recorded) → o.state.recorded < x.state.recorded
          → is_idle journal state now (known_owner o) ≡ false
      by o true is least less = absurd (omega (arith, least is, less))
      by o false is least less = is

  pub none_next : (entry : ℕ) → NoneIdleBefore entry journal state now → find (passes entry) owners ≡ None → NoneIdle journal state now
  none_next entry before none =
      subst (AllByRecursion (λ o. is_idle journal state now o ≡ false)) (sym seen)
      (all_known (λ o. is_idle journal state now o ≡ false) owners (both owners (before_stored entry before) (none_pass (passes entry) owners none)))
    where
      both : (os : List Owner) → AllByRecursion (λ o. Before entry (known_owner o)) os → AllByRecursion (λ o. passes entry o ≡ false) os
          → AllByRecursion (λ o. is_idle journal state now (known_owner o) ≡ false) os
      both [] b l = tt
      both (o ∷ os) b l = (by (is_idle journal state now (known_owner o)) refl, both os b.1 l.1)
        where
          by : (c : Bool) → is_idle journal state now (known_owner o) ≡ c → is_idle journal state now (known_owner o) ≡ false
          by true is = absurd (not_both (passes entry o) (idle_from entry o b.0 is) l.0)
          by false is = is

  -- The same of one that is lent, if there is one.

  pub found_next : (entry : ℕ) (found : Option (Bor Owner)) → NoneIdleBefore entry journal state now → option_copied found ≡ find (passes entry) owners → IfSome found (λ o. stored.owner_of o.now.name owners ≡ Some o.now)
      → IfSome found (λ o. IsForgetting journal state (end_of o.now.name now) (change_alone (changes.Forgets (as_open_owner o.now.name))))
  found_next entry None before is own = tt
  found_next entry (Some o) before is own = next_may entry o.now before (sym is) own

  pub found_recorded : (entry : ℕ) (found : Option (Bor Owner)) → NoneIdleBefore entry journal state now → option_copied found ≡ find (passes entry) owners → IfSome found (λ o. stored.owner_of o.now.name owners ≡ Some o.now)
      → IfSome found (λ o. recording_entry_of (as_open_owner o.now.name) state ≡ Some o.now.state.recorded)
  unfolding next_may
  found_recorded entry None before is own = tt
  found_recorded entry (Some o) before is own =
      ap (option_map (λ (k : KnownOwner). k.recording_entry)) (next_may entry o.now before (sym is) own).found

  pub found_before : (entry : ℕ) (found : Option (Bor Owner)) → NoneIdleBefore entry journal state now → option_copied found ≡ find (passes entry) owners
      → IfSome found (λ o. NoneIdleBefore o.now.state.recorded journal state now)
  found_before entry None before is = tt
  found_before entry (Some o) before is = none_before entry o.now before (sym is)

  pub found_none : (entry : ℕ) (found : Option (Bor Owner)) → NoneIdleBefore entry journal state now → option_copied found ≡ find (passes entry) owners → IfNone found (NoneIdle journal state now)
  found_none entry None before is = none_next entry before (sym is)
  found_none entry (Some o) before is = tt
