-- Owners that are forgotten have no open.
use Rattle.std.proofs.Common.{◌≡◌, ℕ, Bool, true, false, cond, Some, List, [], ◌∷◌, refl, sym, ap, ◌∙◌}
use Rattle.std.specs.Prelude.{◌&&◌, ◌||◌, not}
use Rattle.std.specs.List.{AllByRecursion, list_any}
use Rattle.std.proofs.lemmas.Bool.{and_parts, not-true}
use Rattle.nfs_core.proofs.Sound.{equal_names}
use Rattle.nfs_core.proofs.SoundSteps.{HasNoOpen}
use Rattle.nfs_forms.specs.OpenOwner.{is_same_owner}
use Rattle.nfs_forms.specs.declared.open_owner.OpenOwner.{OpenOwner}
use Rattle.nfs_owners.specs.StateOwner.{open_owner}
use Rattle.nfs_owners.specs.declared.state_owner.StateOwner.{StateOwner}
use Rattle.nfs_rules.specs.entries.Forget.{IsForgetting, has_open, is_idle, is_open_owner, is_past, kept_moment}
use Rattle.nfs_share.specs.Opens.{is_of}
use Rattle.nfs_share.specs.declared.open_state.OpenState.{OpenState}
use Rattle.nfs_state.specs.Owners.{KnownOwner, has_name, owner_of}
use Rattle.nfs_state.specs.State.{History, State}
use Rattle.nfs_state.specs.declared.effect.Effect.{Effect}
use Rattle.nfs_state.specs.declared.entry.Forget.{Forget}

-- the owner that a name finds has it
pub name_found : (name : StateOwner) (owners : List KnownOwner) (o : KnownOwner) → owner_of name owners ≡ Some o → o.name ≡ name
name_found name [] o found = absurd cc
name_found name (x ∷ owners) o found = by (has_name name x) refl found (λ there. name_found name owners o there)
  where
    by : (b : Bool) → has_name name x ≡ b → cond b (Some x) (owner_of name owners) ≡ Some o → (owner_of name owners ≡ Some o → o.name ≡ name) → o.name ≡ name
    by true is here rest =
        let same : x ≡ o = cc in
        ap (λ (k : KnownOwner). k.name) (sym same) ∙ equal_names x.name name is
    by false is there rest = rest there

none_of_file : (owner : OpenOwner) (xs : List OpenState) → list_any (is_of owner) xs ≡ false → AllByRecursion (λ o. is_same_owner o.owner owner ≡ false) xs
none_of_file owner [] none = tt
none_of_file owner (o ∷ xs) none =
    let parts = neither (is_of owner o) (list_any (is_of owner) xs) none in
    (parts.0, none_of_file owner xs parts.1)
  where
    neither : (a b : Bool) → (a || b) ≡ false → (a ≡ false) × (b ≡ false)
    neither true b h = absurd cc
    neither false b h = (refl, h)

no_open : (owner : OpenOwner) (opens : List (List OpenState)) → list_any (list_any (is_of owner)) opens ≡ false → HasNoOpen owner opens
no_open owner [] none = tt
no_open owner (xs ∷ opens) none =
    let parts = neither (list_any (is_of owner) xs) (list_any (list_any (is_of owner)) opens) none in
    (none_of_file owner xs parts.0, no_open owner opens parts.1)
  where
    neither : (a b : Bool) → (a || b) ≡ false → (a ≡ false) × (b ≡ false)
    neither true b h = absurd cc
    neither false b h = (refl, h)

-- an owner that may be forgotten has no open
pub idle_no_open : (journal : History) (state : State) (now : ℕ) (o : KnownOwner) → is_idle journal state now o ≡ true → has_open o.name state ≡ false
idle_no_open journal state now o idle =
    let front = is_open_owner o.name && is_past journal.lease now (kept_moment journal o) in
    not-true (has_open o.name state) (and_parts front (not (has_open o.name state)) idle).1

pub forgets_idle : (journal : History) (state : State) (forget : Forget) (effect : Effect) → IsForgetting journal state forget effect → HasNoOpen forget.owner state.opens
forgets_idle journal state forget effect is =
    let name : is.owner.name ≡ open_owner forget.owner = name_found (open_owner forget.owner) state.owners is.owner is.found in
    no_open forget.owner state.opens (ap (λ n. has_open n state) (sym name) ∙ idle_no_open journal state forget.now is.owner is.idle)
