-- What goes with the end of an owner, and what stays.
use Rattle.std.proofs.Common.{◌≡◌, Bool, true, false, cond, Some, None, List, [], ◌∷◌, length, refl, sym, ap, ◌∙◌, subst}
use Rattle.std.specs.Prelude.{◌&&◌, IsFalse, not}
use Rattle.std.specs.List.{AllByRecursion}
use Rattle.std.proofs.lemmas.Bool.{and_parts}
use Rattle.nfs_core.proofs.IdleOwners.{idle_no_open, name_found}
use Rattle.nfs_core.proofs.SafeLists.{all_find}
use Rattle.nfs_core.proofs.Sound.{equal_names, same_name_self}
use Rattle.nfs_core.specs.ForgetLaws.{OnlyIdleOwnersGo, ForgottenAreAsNew, IsAsNew, OpenersStay}
use Rattle.nfs_core.specs.Step.{Step}
use Rattle.nfs_owners.specs.StateOwner.{is_same_state_owner, open_owner}
use Rattle.nfs_owners.specs.declared.state_owner.StateOwner.{StateOwner}
use Rattle.nfs_rules.specs.Sequences.{IsOfOwner, has_closed}
use Rattle.nfs_rules.specs.entries.Forget.{IsForgetting, has_open, is_open_owner, is_past, kept_moment}
use Rattle.nfs_state.specs.Changes.{after}
use Rattle.nfs_state.specs.Kept.{kept_for}
use Rattle.nfs_state.specs.Owners.{KnownOwner, has_name, owner_of, without_owner}
use Rattle.nfs_state.specs.State.{History, State}
use Rattle.nfs_state.specs.declared.effect.Effect.{Effect}
use Rattle.nfs_state.specs.declared.entry.Entry.TheVariants as entries
use Rattle.nfs_state.specs.declared.entry.Forget.{Forget}

not_both : (b : Bool) → b ≡ true → b ≡ false → ⊥
not_both true is other = cc
not_both false is other = cc

-- the owner that may be forgotten has no open
no_open_of : (journal : History) (old : State) (forget : Forget) (effect : Effect) → IsForgetting journal old forget effect → has_open (open_owner forget.owner) old ≡ false
no_open_of journal old forget effect is =
    ap (λ n. has_open n old) (sym (name_found (open_owner forget.owner) old.owners is.owner is.found)) ∙ idle_no_open journal old forget.now is.owner is.idle

pub Openers-stay : OpenersStay
Openers-stay journal old forget has new step = not_both (has_open (open_owner forget.owner) old) has (no_open_of journal old forget step.effect step.allowed)

-- the state after the end of an owner
left_by : (journal : History) (old : State) (forget : Forget) (new : State) → Step journal old (entries.Forget forget) new → new ≡ record old { owners = without_owner (open_owner forget.owner) old.owners }
left_by journal old forget new step = step.state ∙ ap (λ (e : Effect). after (length journal.entries) e old) step.allowed.removal

-- another owner is found as it was
other_found : (name other : StateOwner) (owners : List KnownOwner) → IsFalse (is_same_state_owner name other) → owner_of other (without_owner name owners) ≡ owner_of other owners
other_found name other [] differs = refl
other_found name other (o ∷ owners) differs = by (has_name name o) refl (other_found name other owners differs)
  where
    by : (b : Bool) → has_name name o ≡ b → owner_of other (without_owner name owners) ≡ owner_of other owners
        → owner_of other (cond (not b) (o ∷ without_owner name owners) (without_owner name owners)) ≡ owner_of other (o ∷ owners)
    by true is rest =
        let same : has_name other o ≡ false = ap (λ n. is_same_state_owner n other) (equal_names o.name name is) ∙ differs in
        rest ∙ sym (ap (λ b. cond b (Some o) (owner_of other owners)) same)
    by false is rest = ap (λ found. cond (has_name other o) (Some o) found) rest

pub Only-idle-owners-go : OnlyIdleOwnersGo
Only-idle-owners-go journal old forget new step =
    let is = step.allowed in
    let o = is.owner in
    let front = and_parts (is_open_owner o.name && is_past journal.lease forget.now (kept_moment journal o)) (not (has_open o.name old)) is.idle in
    record {
      owner = o;
      known = is.found;
      unused = no_open_of journal old forget step.effect is;
      past = (and_parts (is_open_owner o.name) (is_past journal.lease forget.now (kept_moment journal o)) front.0).1;
      only = left_by journal old forget new step;
      others = λ other differs. ap (λ (s : State). owner_of other s.owners) (left_by journal old forget new step) ∙ other_found (open_owner forget.owner) other old.owners differs;
    }

-- none with the name is left
all_other : (name : StateOwner) (owners : List KnownOwner) → AllByRecursion (λ o. has_name name o ≡ false) (without_owner name owners)
all_other name [] = tt
all_other name (o ∷ owners) = by (has_name name o) refl (all_other name owners)
  where
    by : (b : Bool) → has_name name o ≡ b → AllByRecursion (λ o. has_name name o ≡ false) (without_owner name owners)
        → AllByRecursion (λ o. has_name name o ≡ false) (cond (not b) (o ∷ without_owner name owners) (without_owner name owners))
    by true is rest = rest
    by false is rest = (is, rest)

none_found : (name : StateOwner) (owners : List KnownOwner) → AllByRecursion (λ o. has_name name o ≡ false) owners → owner_of name owners ≡ None
none_found name [] none = refl
none_found name (o ∷ owners) none = ap (λ b. cond b (Some o) (owner_of name owners)) none.0 ∙ none_found name owners none.1

as_new : (journal : History) (old : State) (forget : Forget) → IsAsNew forget.owner (record old { owners = without_owner (open_owner forget.owner) old.owners })
as_new journal old forget =
    let name = open_owner forget.owner in
    let left = without_owner name old.owners in
    let others = all_other name old.owners in
    let unknown : owner_of name left ≡ None = none_found name left others in
    record {
      unknown = unknown;
      judged = λ after seqid request sequence is. subst (λ o. IsOfOwner after o name seqid request sequence) unknown is;
      closed = λ after id other found same.
          not_both (has_name name other) (subst (λ n. is_same_state_owner n name ≡ true) (sym same) (same_name_self name))
          (all_find (λ o. has_name name o ≡ false) (λ o. has_closed id (kept_for after o)) left other found others).0;
    }

pub Forgotten-are-as-new : ForgottenAreAsNew
Forgotten-are-as-new journal old forget new step =
    subst (IsAsNew forget.owner) (sym (left_by journal old forget new step)) (as_new journal old forget)
