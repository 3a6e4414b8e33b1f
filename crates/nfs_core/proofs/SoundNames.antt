-- No two known owners have one name.
use Rattle.std.proofs.Common.{◌≡◌, inl, inr, ℕ, Bool, true, false, Option, Some, None, List, [], ◌∷◌, filter, map, refl, sym, ap, ◌∙◌, subst}
use Rattle.std.proofs.lemmas.Bool.{cases_Bool, not-true}
use Rattle.std.specs.Prelude.{⊤, is_some, not}
use Rattle.std.specs.List.{AllByRecursion, IsDistinct}
use Rattle.nfs_core.specs.Safe.{have_same_name}
use Rattle.nfs_core.proofs.LiveLists.{none_any}
use Rattle.nfs_core.proofs.SafeDistinct.{distinct_filter, distinct_map, distinct_none, distinct_push}
use Rattle.nfs_core.proofs.SafeLists.{all_always, all_filter, all_map, all_none}
use Rattle.nfs_core.proofs.Sound.{KeepsOwner, equal_names, is_known_in, same_name_self}
use Rattle.nfs_core.proofs.SoundSteps.{IsOwnerReady, keeps_confirmed, keeps_kept}
use Rattle.nfs_forms.specs.ClientId.{is_same_client}
use Rattle.nfs_owners.specs.Owner as stored
use Rattle.nfs_owners.specs.Owners.{AreApart}
use Rattle.nfs_owners.specs.StateOwner.{is_same_state_owner, lock_owner, open_owner}
use Rattle.nfs_owners.specs.declared.clients.client_change.ClientChange.TheVariants as client_changes
use Rattle.nfs_owners.specs.declared.owner.Owner.{Owner}
use Rattle.nfs_owners.specs.declared.state_owner.StateOwner.{StateOwner}
use Rattle.nfs_state.specs.Changes.{with_owner_change, with_state_change}
use Rattle.nfs_state.specs.Owners.{KnownOwner, has_name, with_kept_entry, with_record, without_owner}
use Rattle.nfs_state.specs.State.{State, empty_server}
use Rattle.nfs_state.specs.Stored.{known_owner}
use Rattle.nfs_state.specs.declared.change.Change.{Change}
use Rattle.nfs_state.specs.declared.change.Change.TheVariants as changes
use Rattle.nfs_state.specs.declared.owner_change.OwnerChange.{OwnerChange}
use Rattle.nfs_state.specs.declared.owner_change.OwnerChange.TheVariants as owner_changes
use Rattle.nfs_tree.specs.declared.node.Node.{Node}

abbrev pub HaveNames : List KnownOwner → Type 0
HaveNames owners = IsDistinct have_same_name owners

-- none of the owners has the name
abbrev IsNew : StateOwner → List KnownOwner → Type 0
IsNew name owners = AllByRecursion (λ o. has_name name o ≡ false) owners

nothing_found : (found : Option KnownOwner) → is_some found ≡ false → found ≡ None
nothing_found None none = refl
nothing_found (Some o) none = absurd cc

is_new : (name : StateOwner) (owners : List KnownOwner) → is_known_in owners name ≡ false → IsNew name owners
is_new name owners unknown = all_none (has_name name) owners (nothing_found _ unknown)

-- Owners that change, none of them its name; one more; and those that are left.

names_mapped : (f : KnownOwner → KnownOwner) → KeepsOwner f → (owners : List KnownOwner) → HaveNames owners → HaveNames (map f owners)
names_mapped f keeps owners h =
    distinct_map have_same_name f
    (λ a b. ap (λ n. is_same_state_owner n (f b).name) (keeps.name a) ∙ ap (λ n. is_same_state_owner a.name n) (keeps.name b)) owners h

new_mapped : (f : KnownOwner → KnownOwner) → KeepsOwner f → (name : StateOwner) (owners : List KnownOwner) → IsNew name owners → IsNew name (map f owners)
new_mapped f keeps name owners h =
    all_map (λ o. has_name name o ≡ false) (λ o. has_name name o ≡ false) f
    (λ o other. ap (λ n. is_same_state_owner n name) (keeps.name o) ∙ other) owners h

names_recorded : (number : ℕ) (name : StateOwner) (confirmed : Bool) (owners : List KnownOwner) → IsNew name owners → HaveNames owners → HaveNames (with_record number name confirmed owners)
names_recorded number name confirmed owners new h =
    distinct_push have_same_name owners (record { name = name; confirmed = confirmed; recording_entry = number; kept_entry = number }) h new

names_left : (gone : KnownOwner → Bool) (owners : List KnownOwner) → HaveNames owners → HaveNames (filter (λ o. not (gone o)) owners)
names_left gone owners h = distinct_filter have_same_name (λ o. not (gone o)) owners h

new_left : (name : StateOwner) (owners : List KnownOwner) → IsNew name (without_owner name owners)
new_left name owners =
    all_filter (λ o. ⊤) (λ o. has_name name o ≡ false) (λ o. not (has_name name o)) (λ o _ other. not-true (has_name name o) other) owners (all_always owners)

names_kept : (number : ℕ) (name : StateOwner) (owners : List KnownOwner) → HaveNames owners → HaveNames (with_kept_entry number name owners)
names_kept number name owners h = names_mapped _ (keeps_kept number name) owners h

-- what an entry means for an owner
pub names_owned : (change : OwnerChange) (number : ℕ) (old : State) → IsOwnerReady change old → HaveNames old.owners → HaveNames (with_owner_change change number old).owners
names_owned owner_changes.Nothing number old ready h = h
names_owned (owner_changes.Keeps name) number old ready h = names_kept number name old.owners h
names_owned (owner_changes.KeepsBoth name newcomer) number old ready h =
    names_kept number newcomer (with_kept_entry number name old.owners) (names_kept number name old.owners h)
names_owned (owner_changes.Introduces name newcomer) number old ready h =
    names_recorded number newcomer false (with_kept_entry number name old.owners)
    (new_mapped _ (keeps_kept number name) newcomer old.owners (is_new newcomer old.owners ready.2)) (names_kept number name old.owners h)
names_owned (owner_changes.Records name confirmed) number old ready h =
    names_recorded number (open_owner name) confirmed old.owners (is_new (open_owner name) old.owners ready.2) h
names_owned (owner_changes.Restarts name confirmed) number old ready h =
    names_recorded number (open_owner name) confirmed (without_owner (open_owner name) old.owners) (new_left (open_owner name) old.owners)
    (names_left (has_name (open_owner name)) old.owners h)
names_owned (owner_changes.Drops name) number old ready h = names_left (has_name (open_owner name)) old.owners h

-- an operation's own change
pub names_changed : (change : Change) (old : State) → HaveNames old.owners → HaveNames (with_state_change change old).owners
names_changed changes.Nothing old h = h
names_changed (changes.Opens node owner share None) old h = h
names_changed (changes.Opens node owner share (Some kind)) old h = h
names_changed (changes.Clients (client_changes.Replaces r client)) old h = names_left (λ o. is_same_client o.name.client client) old.owners h
names_changed (changes.Clients change) old h = h
names_changed (changes.Confirms node number owner) old h = names_mapped _ (keeps_confirmed (open_owner owner)) old.owners h
names_changed (changes.Releases owner) old h = names_left (has_name (lock_owner owner)) old.owners h
names_changed (changes.Forgets owner) old h = names_left (has_name (open_owner owner)) old.owners h
names_changed (changes.Expires client) old h = names_left (λ o. is_same_client o.name.client client) old.owners h
names_changed change old h = h

pub names_empty : (nodes : List Node) → HaveNames (empty_server nodes).owners
names_empty nodes = distinct_none have_same_name

-- The stored owners, whose names are those of the state.

other_self : (a b : StateOwner) → is_same_state_owner a b ≡ false → is_same_state_owner b a ≡ false
other_self a b other = elim (cases_Bool (is_same_state_owner b a)) [
  | inl same ↦
      let equal : is_same_state_owner a b ≡ true = subst (λ n. is_same_state_owner a n ≡ true) (sym (equal_names b a same)) (same_name_self a) in
      absurd cc
  | inr fails ↦ fails
]

others_stored : (name : StateOwner) (owners : List Owner) → AllByRecursion (λ o. is_same_state_owner name o.name ≡ false) (map known_owner owners)
    → AllByRecursion (λ o. is_same_state_owner o.name name ≡ false) owners
others_stored name [] h = tt
others_stored name (o ∷ owners) h = (other_self name o.name h.0, others_stored name owners h.1)

pub stored_apart : (owners : List Owner) → HaveNames (map known_owner owners) → AreApart owners
unfolding IsDistinct
stored_apart [] h = tt
stored_apart (o ∷ owners) h =
    (none_any (stored.has_name o.name) owners (others_stored o.name owners h.0), stored_apart owners h.1)
