-- After an owner is forgotten, the others stand as they did.
use Rattle.std.proofs.Common.{◌≡◌, ◌<◌, ℕ, zero, suc, Bool, true, false, length, map, Some, List, [], ◌∷◌, ◌++◌, refl, sym, ap, ◌∙◌, subst, arith}
use Rattle.std.specs.Prelude.{◌&&◌, not, option_and_then, option_map, slice_get}
use Rattle.std.specs.List.{AllByRecursion, list_any}
use Rattle.nfs_core.proofs.SafeLists.{all_find, all_filter}
use Rattle.nfs_core.specs.Events.{IsForgottenFrom, NoneIsIdleBefore, forget_of}
use Rattle.nfs_core.specs.Server.{Enters, Server}
use Rattle.nfs_forms.specs.declared.open_owner.OpenOwner.{OpenOwner}
use Rattle.nfs_owners.specs.StateOwner.{as_open_owner, open_owner}
use Rattle.nfs_owners.specs.Kept.{Kept}
use Rattle.nfs_owners.specs.declared.owner.Owner.{Owner}
use Rattle.nfs_owners.specs.declared.state_owner.OwnerKind.{OwnerKind}
use Rattle.nfs_rules.specs.entries.Forget.{IsForgetting, NoneIdle, NoneIdleBefore, is_idle, is_open_owner, is_past, recording_entry_of}
use Rattle.nfs_share.specs.Opens.{is_of}
use Rattle.nfs_state.specs.Kept.{Agrees, IsKeptIn, kept_in}
use Rattle.nfs_state.specs.Stored.{known_owner, meaning}
use Rattle.nfs_state.specs.declared.entry.Call.{Call}
use Rattle.nfs_state.specs.Changes.{after, change_alone}
use Rattle.nfs_state.specs.Entries.{call_of, with_entry}
use Rattle.nfs_state.specs.Owners.{KnownOwner, has_name, without_owner}
use Rattle.nfs_state.specs.State.{History, State}
use Rattle.nfs_state.specs.declared.change.Change.TheVariants as changes
use Rattle.nfs_state.specs.declared.effect.Effect.{Effect}
use Rattle.nfs_state.specs.declared.entry.Entry.{Entry}
use Rattle.nfs_state.specs.declared.entry.Entry.TheVariants as entries
use Rattle.nfs_state.specs.declared.entry.Forget.{Forget}

not_both : (b : Bool) → b ≡ true → b ≡ false → ⊥
not_both true is other = cc
not_both false is other = cc

-- where an owner may be forgotten, it isn't so that none may
pub some_idle : (journal : History) (state : State) (forget : Forget) (effect : Effect) → IsForgetting journal state forget effect → NoneIdle journal state forget.now → ⊥
some_idle journal state forget effect is none =
    not_both (is_idle journal state forget.now is.owner) is.idle
    (all_find (λ o. is_idle journal state forget.now o ≡ false) (has_name (open_owner forget.owner)) state.owners is.owner is.found none).0

-- an entry that was there is in a longer journal too
entry_longer : (entries more : List Entry) (number : ℕ) → number < length entries → slice_get (entries ++ more) number ≡ slice_get entries number
entry_longer [] more number below = absurd (omega (arith, below))
entry_longer (first ∷ entries) more zero below = refl
entry_longer (first ∷ entries) more (suc number) below = entry_longer entries more number (omega (arith, below))

-- what is kept is of an entry that is there
kept_below : (kind : OwnerKind) (entries : List Entry) (number : ℕ) (kept : Kept) → option_map (λ (k : OwnerKind → Kept). k kind) (option_and_then kept_in (slice_get entries number)) ≡ Some kept → number < length entries
kept_below kind [] number kept is = absurd cc
kept_below kind (first ∷ entries) zero kept is = omega arith
kept_below kind (first ∷ entries) (suc number) kept is = omega (arith, kept_below kind entries number kept is)

-- An owner that may not be forgotten may not be after one more entry that leaves the opens as they are.
still_idle : (journal : History) (entry : Entry) (state new : State) (now : ℕ) (o : Owner) → IsKeptIn journal o → new.opens ≡ state.opens
    → is_idle (with_entry entry journal) new now (known_owner o) ≡ is_idle journal state now (known_owner o)
still_idle journal entry state new now o kept same =
    let below = kept_below o.name.kind journal.entries o.state.number kept.kept kept.entry in
    (λ i. is_open_owner o.name
    && is_past journal.lease now (option_map (λ (c : Call). c.request.moment) (option_and_then call_of (entry_longer journal.entries (entry ∷ []) o.state.number below i)))
    && not (list_any (list_any (is_of (as_open_owner o.name))) (same i)))

still_before : (journal : History) (entry : Entry) (state new : State) (recorded now : ℕ) (owners : List Owner) → Agrees journal owners → new.opens ≡ state.opens
    → AllByRecursion (λ o. o.recording_entry < recorded → is_idle journal state now o ≡ false) (map known_owner owners)
    → AllByRecursion (λ o. o.recording_entry < recorded → is_idle (with_entry entry journal) new now o ≡ false) (map known_owner owners)
still_before journal entry state new recorded now [] agrees same before = tt
still_before journal entry state new recorded now (o ∷ owners) agrees same before = (
  λ less. still_idle journal entry state new now o agrees.0 same ∙ before.0 less,
  still_before journal entry state new recorded now owners agrees.1 same before.1,
)

-- After an owner is forgotten, none may be that could not be before.
pub forgotten_before : (old new : History) (state after : State) (owner : OpenOwner) (entry : Entry) (recorded now : ℕ) (owners : List Owner) → new ≡ with_entry entry old
    → after ≡ record state { owners = without_owner (open_owner owner) state.owners } → state.owners ≡ map known_owner owners → Agrees old owners
    → NoneIdleBefore recorded old state now → NoneIdleBefore recorded new after now
forgotten_before old new state after owner entry recorded now owners longer is seen agrees before =
    let fewer : State = record state { owners = without_owner (open_owner owner) state.owners } in
    let Was : KnownOwner → Type 0 = λ o. o.recording_entry < recorded → is_idle old state now o ≡ false in
    let Is : KnownOwner → Type 0 = λ o. o.recording_entry < recorded → is_idle (with_entry entry old) fewer now o ≡ false in
    let all : AllByRecursion Is state.owners =
    subst (AllByRecursion Is) (sym seen) (still_before old entry state fewer recorded now owners agrees refl (subst (AllByRecursion Was) seen before)) in
    let left : NoneIdleBefore recorded (with_entry entry old) fewer now = all_filter Is Is (λ o. not (has_name (open_owner owner) o)) (λ o is_so _. is_so) state.owners all in
    subst (λ (j : History). NoneIdleBefore recorded j after now) (sym longer) (subst (λ (s : State). NoneIdleBefore recorded (with_entry entry old) s now) (sym is) left)

-- The owner that was found, and whose end was entered, is forgotten.
pub forgotten_one : (old new : Server) (owner : OpenOwner) (effect : Effect) (recorded now number : ℕ) (entered : Enters old new (entries.Forget (forget_of owner now)) number) → entered.2.effect ≡ effect
    → effect ≡ change_alone (changes.Forgets owner) → Agrees old.journal old.stored.owners → NoneIsIdleBefore recorded old now → recording_entry_of owner (meaning old.stored) ≡ Some recorded → IsForgottenFrom old new now (Some (record { number = number; recorded = recorded }))
forgotten_one old new owner effect recorded now number entered is_effect is agrees before by =
    let state : meaning new.stored ≡ record (meaning old.stored) { owners = without_owner (open_owner owner) (meaning old.stored).owners } =
    entered.2.state ∙ ap (λ (e : Effect). after (length old.journal.entries) e (meaning old.stored)) (is_effect ∙ is) in (
      (owner, entered),
      forgotten_before old.journal new.journal (meaning old.stored) (meaning new.stored) owner (entries.Forget (forget_of owner now)) recorded now old.stored.owners entered.1 state refl agrees before,
      by,
    )
