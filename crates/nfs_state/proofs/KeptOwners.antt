-- What is stored of the owners agrees with the journal, entry after entry.
use Rattle.std.proofs.Common.{◌≡◌, ◌<◌, ℕ, zero, suc, Bool, true, false, Option, None, Some, List, [], ◌∷◌, ◌++◌, length, map, refl, ap, ◌∙◌, subst, sym, arith}
use Rattle.std.proofs.lemmas.List.{length-append}
use Rattle.std.specs.Str.{bytes_eq}
use Rattle.std.specs.Prelude.{◌+◌, ◌&&◌, not, option_and_then, option_map, slice_get, if◌then◌else◌}
use Rattle.nfs_state.specs.declared.entry.Entry.{Entry}
use Rattle.nfs_state.specs.declared.owner_change.OwnerChange.{OwnerChange}
use Rattle.nfs_state.specs.declared.owner_change.OwnerChange.TheVariants as owner_changes
use Rattle.nfs_state.specs.Entries.{IsSendable, with_entry}
use Rattle.nfs_state.specs.Kept.{Agrees, CanBeKept, IsKeptIn, kept_at, kept_in, owners_after, update_by, update_of}
use Rattle.nfs_state.specs.State.{History}
use Rattle.std.proofs.lemmas.Bool.{and_parts, cond_both, false≢true}
use Rattle.nfs_forms.specs.ClientId.{is_same_client}
use Rattle.nfs_owners.specs.StateOwner.{is_same_kind, open_owner}
use Rattle.nfs_owners.specs.declared.state_owner.OwnerKind.{OwnerKind}
use Rattle.nfs_owners.specs.declared.state_owner.OwnerKind.TheVariants as kinds
use Rattle.nfs_owners.specs.declared.state_owner.StateOwner.{StateOwner}
use Rattle.nfs_owners.specs.Kept.{Kept, summary_of}
use Rattle.nfs_owners.specs.declared.owner.Owner.{Owner}
use Rattle.nfs_owners.specs.Owner.{has_name, is_known, new_owner, with_request}
use Rattle.nfs_owners.specs.Owners.{AreBefore, with_kept, without_owner}

-- what an owner keeps of an entry, it keeps of it in a longer journal
kept_longer : (kind : OwnerKind) (entries more : List Entry) (number : ℕ) (kept : Kept) → option_map (λ (k : OwnerKind → Kept). k kind) (option_and_then kept_in (slice_get entries number)) ≡ Some kept → option_map (λ (k : OwnerKind → Kept). k kind) (option_and_then kept_in (slice_get (entries ++ more) number)) ≡ Some kept
kept_longer kind [] more number kept is = absurd cc
kept_longer kind (first ∷ entries) more zero kept is = is
kept_longer kind (first ∷ entries) more (suc number) kept is = kept_longer kind entries more number kept is

-- what it keeps is of an entry that the journal has
kept_within : (kind : OwnerKind) (entries : List Entry) (number : ℕ) (kept : Kept) → option_map (λ (k : OwnerKind → Kept). k kind) (option_and_then kept_in (slice_get entries number)) ≡ Some kept → number < length entries
kept_within kind [] number kept is = absurd cc
kept_within kind (first ∷ entries) zero kept is = omega arith
kept_within kind (first ∷ entries) (suc number) kept is = omega (arith, kept_within kind entries number kept is)

-- so each owner was recorded before the journal's next entry
pub Agrees-before : (journal : History) (owners : List Owner) → Agrees journal owners → AreBefore (length journal.entries) owners
Agrees-before journal [] agrees = tt
Agrees-before journal (o ∷ owners) agrees = (
  omega (arith, agrees.0.recorded, kept_within o.name.kind journal.entries o.state.number agrees.0.kept agrees.0.entry),
  Agrees-before journal owners agrees.1,
)

-- what it keeps of the last entry
kept_last : (kind : OwnerKind) (entries : List Entry) (entry : Entry) → option_map (λ (k : OwnerKind → Kept). k kind) (option_and_then kept_in (slice_get (entries ++ entry ∷ []) (length entries))) ≡ option_map (λ (k : OwnerKind → Kept). k kind) (kept_in entry)
kept_last kind [] entry = refl
kept_last kind (first ∷ entries) entry = kept_last kind entries entry

-- the stored owners agree with a longer journal too
Agrees-longer : (journal : History) (entry : Entry) (owners : List Owner) → Agrees journal owners → Agrees (with_entry entry journal) owners
Agrees-longer journal entry [] agrees = agrees
Agrees-longer journal entry (o ∷ owners) agrees = (
  record {
    kept = agrees.0.kept;
    entry = kept_longer o.name.kind journal.entries (entry ∷ []) o.state.number agrees.0.kept agrees.0.entry;
    sendable = agrees.0.sendable;
    stored = agrees.0.stored;
    recorded = agrees.0.recorded;
  },
  Agrees-longer journal entry owners agrees.1,
)

Agrees-push : (journal : History) (owners : List Owner) (o : Owner) → Agrees journal owners → IsKeptIn journal o → Agrees journal (owners ++ o ∷ [])
Agrees-push journal [] o agrees is = (is, tt)
Agrees-push journal (first ∷ owners) o agrees is = (agrees.0, Agrees-push journal owners o agrees.1 is)

Agrees-either : (journal : History) (b : Bool) (o : Owner) (owners : List Owner) → IsKeptIn journal o → Agrees journal owners → Agrees journal (if b then o ∷ owners else owners)
Agrees-either journal true o owners is agrees = (is, agrees)
Agrees-either journal false o owners is agrees = agrees

Agrees-without : (journal : History) (name : StateOwner) (owners : List Owner) → Agrees journal owners → Agrees journal (without_owner name owners)
Agrees-without journal name [] agrees = agrees
Agrees-without journal name (o ∷ owners) agrees =
    Agrees-either journal (not (has_name name o)) o (without_owner name owners) agrees.0 (Agrees-without journal name owners agrees.1)

-- the entry with this number has this to keep for owners of each kind, which can be sent again
record IsEntryOf (journal : History) (number : ℕ) (kept : OwnerKind → Kept) : Type 0 where
  pub entry : (kind : OwnerKind) → kept_at journal kind number ≡ Some (kept kind)
  pub sendable : (kind : OwnerKind) → IsSendable (kept kind).request.op (kept kind).answer
  -- it is the last one
  pub last : length journal.entries ≡ number + 1

-- an owner with the name is of its kind
same_kind : (a b : OwnerKind) → is_same_kind a b ≡ true → a ≡ b
same_kind kinds.Open kinds.Open same = refl
same_kind kinds.Open kinds.Lock same = absurd (false≢true same)
same_kind kinds.Lock kinds.Open same = absurd (false≢true same)
same_kind kinds.Lock kinds.Lock same = refl

kind_of_name : (name : StateOwner) (o : Owner) → has_name name o ≡ true → o.name.kind ≡ name.kind
kind_of_name name o has =
    let beside_name = and_parts (is_same_kind o.name.kind name.kind && is_same_client o.name.client name.client) (bytes_eq o.name.name name.name) has in
    same_kind o.name.kind name.kind (and_parts (is_same_kind o.name.kind name.kind) (is_same_client o.name.client name.client) beside_name.0).0

kept_by : (journal : History) (name : StateOwner) (number : ℕ) (kept : OwnerKind → Kept) (o : Owner) → IsEntryOf journal number kept → IsKeptIn journal o → o.name.kind ≡ name.kind → IsKeptIn journal (record o { state = with_request number (summary_of (kept name.kind)) o.state })
kept_by journal name number kept o is was kind = record {
  kept = kept name.kind;
  entry = is.entry o.name.kind ∙ ap (λ k. Some (kept k)) kind;
  sendable = is.sendable name.kind;
  stored = refl;
  recorded = omega (arith, was.recorded, kept_within o.name.kind journal.entries o.state.number was.kept was.entry, is.last);
}

Agrees-change : (journal : History) (name : StateOwner) (number : ℕ) (kept : OwnerKind → Kept) (owners : List Owner) → IsEntryOf journal number kept → Agrees journal owners → Agrees journal (map (λ o. if has_name name o then record o { state = with_request number (summary_of (kept name.kind)) o.state } else o) owners)
Agrees-change journal name number kept [] is agrees = agrees
Agrees-change journal name number kept (o ∷ owners) is agrees = (
  cond_both (has_name name o) (record o { state = with_request number (summary_of (kept name.kind)) o.state }) o (IsKeptIn journal)
      (λ has. kept_by journal name number kept o is agrees.0 (kind_of_name name o has)) (λ _. agrees.0),
  Agrees-change journal name number kept owners is agrees.1,
)

Agrees-kept : (journal : History) (name : StateOwner) (number : ℕ) (kept : OwnerKind → Kept) (confirmed : Bool) (owners : List Owner) → IsEntryOf journal number kept → Agrees journal owners → Agrees journal (with_kept name number (summary_of (kept name.kind)) confirmed owners)
Agrees-kept journal name number kept confirmed owners is agrees = by (is_known name owners)
  where
    by : (b : Bool) → Agrees journal (if b then map (λ o. if has_name name o then record o { state = with_request number (summary_of (kept name.kind)) o.state } else o) owners else owners ++ new_owner name number (summary_of (kept name.kind)) confirmed ∷ [])
    by true = Agrees-change journal name number kept owners is agrees
    by false = Agrees-push journal owners (new_owner name number (summary_of (kept name.kind)) confirmed) agrees (record { kept = kept name.kind; entry = is.entry name.kind; sendable = is.sendable name.kind; stored = refl; recorded = omega arith })

after_update : (journal : History) (change : OwnerChange) (number : ℕ) (kept : OwnerKind → Kept) (owners : List Owner) → IsEntryOf journal number kept → Agrees journal owners → Agrees journal (owners_after (update_of change kept) number owners)
after_update journal owner_changes.Nothing number kept owners is agrees = agrees
after_update journal (owner_changes.Keeps name) number kept owners is agrees = Agrees-kept journal name number kept false owners is agrees
after_update journal (owner_changes.KeepsBoth name newcomer) number kept owners is agrees =
    Agrees-kept journal newcomer number kept false (with_kept name number (summary_of (kept name.kind)) false owners) is (Agrees-kept journal name number kept false owners is agrees)
after_update journal (owner_changes.Introduces name newcomer) number kept owners is agrees =
    Agrees-kept journal newcomer number kept false (with_kept name number (summary_of (kept name.kind)) false owners) is (Agrees-kept journal name number kept false owners is agrees)
after_update journal (owner_changes.Records name confirmed) number kept owners is agrees = Agrees-kept journal (open_owner name) number kept confirmed owners is agrees
after_update journal (owner_changes.Restarts name confirmed) number kept owners is agrees =
    Agrees-kept journal (open_owner name) number kept confirmed (without_owner (open_owner name) owners) is (Agrees-without journal (open_owner name) owners agrees)
after_update journal (owner_changes.Drops name) number kept owners is agrees = Agrees-without journal (open_owner name) owners agrees

-- after an entry that may be kept, the stored owners agree with the journal that ends with it
Agrees-after : (journal : History) (entry : Entry) (found : Option (OwnerKind → Kept)) (change : OwnerChange) (owners : List Owner) → kept_in entry ≡ found → CanBeKept found change → Agrees journal owners → Agrees (with_entry entry journal) (owners_after (update_by change found) (length journal.entries) owners)
Agrees-after journal entry None change owners is keeps agrees = Agrees-longer journal entry owners agrees
Agrees-after journal entry (Some kept) change owners is sendable agrees =
    after_update (with_entry entry journal) change (length journal.entries) kept owners (record { entry = λ kind. kept_last kind journal.entries entry ∙ ap (option_map (λ (k : OwnerKind → Kept). k kind)) is; sendable = sendable; last = length-append journal.entries (entry ∷ []) }) (Agrees-longer journal entry owners agrees)

-- after an entry that may be kept, and its change, the stored owners agree with the journal; the journal, the number and
-- the owners after the change have names of their own
pub Agrees-changed : (old new : History) (entry : Entry) (change : OwnerChange) (number : ℕ) (owners after : List Owner) → ((journal : History) → Agrees journal (owners_after (update_by change (kept_in entry)) number owners) → Agrees journal after) → new ≡ with_entry entry old → number ≡ length old.entries → CanBeKept (kept_in entry) change → Agrees old owners → Agrees new after
Agrees-changed old new entry change number owners after keeps is at kept agrees =
    let with_number : ℕ → Type 0 = λ n. Agrees (with_entry entry old) (owners_after (update_by change (kept_in entry)) n owners) in
    let with_journal : History → Type 0 = λ journal. Agrees journal after in
    subst with_journal (sym is) (keeps (with_entry entry old) (subst with_number (sym at) (Agrees-after old entry (kept_in entry) change owners refl kept agrees)))
