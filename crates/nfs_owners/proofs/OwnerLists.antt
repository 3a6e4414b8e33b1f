-- Lists of owners of which no two have one name.
use Rattle.std.proofs.Common.{◌≡◌, ℕ, ◌<◌, Bool, true, false, cond, find, option_copied, Option, Some, None, List, [], ◌∷◌, ◌++◌, length, refl, sym, subst, ap, ◌∙◌, arith}
use Rattle.std.specs.Borrow.{Bor}
use Rattle.std.specs.Prelude.{◌&&◌, ◌||◌, nat_lt, not, filter, IfSome, if◌then◌else◌}
use Rattle.std.proofs.lemmas.Bool.{eqb-true, ltb-true}
use Rattle.std.proofs.lemmas.List.{length-append, length-map}
use Rattle.std.proofs.lemmas.List.Filters.{length-filter_both}
use Rattle.std.proofs.lemmas.List.Folds.{list_any-append}
use Rattle.std.proofs.lemmas.Slice.Eq.{bytes_eq-Decides}
use Rattle.nfs_owners.specs.declared.kept.KeptSummary.{KeptSummary}
use Rattle.nfs_owners.specs.declared.owner.Owner.{Owner}
use Rattle.nfs_owners.specs.declared.owner.OwnerState.{OwnerState}
use Rattle.nfs_owners.specs.declared.owner.TheConstants.{OWNER_LIMIT}
use Rattle.nfs_owners.specs.Owner.{has_name, is_known, owner_of, with_request, new_owner}
use Rattle.nfs_owners.specs.Owners.{AreApart, AreOwners, has_place, with_change, with_kept, without_owner}
use Rattle.nfs_owners.specs.StateOwner.{is_same_kind, is_same_state_owner}
use Rattle.nfs_owners.specs.declared.state_owner.OwnerKind.{OwnerKind}
use Rattle.nfs_owners.specs.declared.state_owner.OwnerKind.TheVariants as kinds
use Rattle.nfs_owners.specs.declared.state_owner.StateOwner.{StateOwner}

both : (a b : Bool) → a && b ≡ true → (a ≡ true) × (b ≡ true)
both true b h = (refl, h)
both false b h = cc

some_owner : (a b : Owner) → Some a ≡ Some b → a ≡ b
some_owner a b is = cc

kind_exact : (a b : OwnerKind) → is_same_kind a b ≡ true → a ≡ b
kind_exact kinds.Open kinds.Open same = refl
kind_exact kinds.Open kinds.Lock same = cc
kind_exact kinds.Lock kinds.Open same = cc
kind_exact kinds.Lock kinds.Lock same = refl

kind_swap : (a b : OwnerKind) → is_same_kind a b ≡ is_same_kind b a
kind_swap kinds.Open kinds.Open = refl
kind_swap kinds.Open kinds.Lock = refl
kind_swap kinds.Lock kinds.Open = refl
kind_swap kinds.Lock kinds.Lock = refl

kind_same : (a : OwnerKind) → is_same_kind a a ≡ true
kind_same kinds.Open = refl
kind_same kinds.Lock = refl

-- the test of a name decides whether the names are equal
pub name_exact : (name : StateOwner) (o : Owner) → has_name name o ≡ true → o.name ≡ name
name_exact name o same = grind (arith, kind_exact o.name.kind name.kind, bytes_eq-Decides o.name.name name.name, same, eqb-true, both)

pub name_swap : (a b : Owner) → has_name a.name b ≡ has_name b.name a
name_swap a b = grind (arith, kind_swap a.name.kind b.name.kind, bytes_eq-Decides a.name.name b.name.name, bytes_eq-Decides b.name.name a.name.name)

pub name_same : (o : Owner) → has_name o.name o ≡ true
name_same o = grind (arith, kind_same o.name.kind, bytes_eq-Decides o.name.name o.name.name)

known_filter : (p : Owner → Bool) (name : StateOwner) (owners : List Owner) → is_known name owners ≡ false → is_known name (filter p owners) ≡ false
known_filter p name [] none = refl
known_filter p name (o ∷ owners) none = grind (arith, known_filter p name owners)

pub apart_filter : (p : Owner → Bool) (owners : List Owner) → AreApart owners → AreApart (filter p owners)
apart_filter p [] apart = apart
apart_filter p (o ∷ owners) apart = grind (arith, apart_filter p owners apart.1, known_filter p o.name owners apart.0)

pub apart_push : (owners : List Owner) (o : Owner) → AreApart owners → is_known o.name owners ≡ false → AreApart (owners ++ o ∷ [])
apart_push [] o apart new = (refl, tt)
apart_push (first ∷ owners) o apart new = grind (arith, apart.0, apart_push owners o apart.1, list_any-append (has_name first.name) owners (o ∷ []), name_swap first o, new)

pub owners_filter : (p : Owner → Bool) (owners : List Owner) → AreOwners owners → AreOwners (filter p owners)
owners_filter p owners are = (omega (arith, length-filter_both p (λ o. not (p o)) (λ x. refl) owners, are.0), apart_filter p owners are.1)

-- a change that keeps an owner's name
name_kept : (change : OwnerState → OwnerState) (b : Bool) (o : Owner) → (if b then record o { state = change o.state } else o).name ≡ o.name
name_kept change true o = refl
name_kept change false o = refl

has_kept : (change : OwnerState → OwnerState) (b : Bool) (other : StateOwner) (o : Owner) → has_name other (if b then record o { state = change o.state } else o) ≡ has_name other o
has_kept change b other o = ap (λ (n : StateOwner). is_same_state_owner n other) (name_kept change b o)

known_change : (change : OwnerState → OwnerState) (name other : StateOwner) (owners : List Owner) → is_known other (with_change change name owners) ≡ is_known other owners
known_change change name other [] = refl
known_change change name other (o ∷ owners) = grind (arith, known_change change name other owners, has_kept change (has_name name o) other o)

apart_change : (change : OwnerState → OwnerState) (name : StateOwner) (owners : List Owner) → AreApart owners → AreApart (with_change change name owners)
apart_change change name [] apart = apart
apart_change change name (o ∷ owners) apart =
    (ap (λ n. is_known n (with_change change name owners)) (name_kept change (has_name name o) o) ∙ known_change change name o.name owners ∙ apart.0, apart_change change name owners apart.1)

pub unknown_change : (change : OwnerState → OwnerState) (name : StateOwner) (owners : List Owner) → is_known name owners ≡ false → with_change change name owners ≡ owners
unknown_change change name [] unknown = refl
unknown_change change name (o ∷ owners) unknown = grind (arith, unknown_change change name owners)

pub owners_change : (change : OwnerState → OwnerState) (name : StateOwner) (owners : List Owner) → AreOwners owners → AreOwners (with_change change name owners)
owners_change change name owners are = (omega (arith, length-map {B = Owner} owners (λ o. if has_name name o then record o { state = change o.state } else o), are.0), apart_change change name owners are.1)

pub owners_push : (owners : List Owner) (o : Owner) → AreOwners owners → is_known o.name owners ≡ false → length owners < OWNER_LIMIT → AreOwners (owners ++ o ∷ [])
owners_push owners o are new below = (omega (arith, length-append owners (o ∷ []), below), apart_push owners o are.1 new)

pub owners_kept : (name : StateOwner) (number : ℕ) (kept : KeptSummary) (confirmed : Bool) (owners : List Owner) → AreOwners owners → has_place name owners ≡ true → AreOwners (with_kept name number kept confirmed owners)
owners_kept name number kept confirmed owners are place = by (is_known name owners) refl
  where
    by : (b : Bool) → is_known name owners ≡ b → AreOwners (with_kept name number kept confirmed owners)
    by true known = rw known (owners_change (with_request number kept) name owners are)
    by false unknown = rw unknown (owners_push owners (new_owner name number kept confirmed) are unknown (grind (arith, place, unknown)))

not_not : (b : Bool) → b ≡ not (not b)
not_not true = refl
not_not false = refl

-- where an owner was known, one place more is left without it
fewer_known : (name : StateOwner) (owners : List Owner) → is_known name owners ≡ true → length (without_owner name owners) < length owners
fewer_known name [] known = cc
fewer_known name (o ∷ owners) known = grind (arith, known, fewer_known name owners, length-filter_both (λ o. not (has_name name o)) (has_name name) (λ x. not_not (has_name name x)) owners)

pub same_unknown : (name : StateOwner) (owners : List Owner) → is_known name owners ≡ false → without_owner name owners ≡ owners
same_unknown name [] unknown = refl
same_unknown name (o ∷ owners) unknown = grind (arith, unknown, same_unknown name owners)

-- whoever has a place has one without another owner
pub place_without : (name other : StateOwner) (owners : List Owner) → AreOwners owners → has_place other owners ≡ true → has_place other (without_owner name owners) ≡ true
place_without name other owners are place = by (is_known name owners) refl
  where
    by : (b : Bool) → is_known name owners ≡ b → has_place other (without_owner name owners) ≡ true
    by true known = grind (arith, fewer_known name owners known, are.0)
    by false unknown = rw (same_unknown name owners unknown) place

-- without the owner with a name nobody has the name
none_left : (name : StateOwner) (owners : List Owner) → is_known name (without_owner name owners) ≡ false
none_left name [] = refl
none_left name (o ∷ owners) = by (none_left name owners) (has_name name o) refl
  where
    by : is_known name (without_owner name owners) ≡ false → (b : Bool) → has_name name o ≡ b → is_known name (without_owner name (o ∷ owners)) ≡ false
    by rest true same = grind (arith, same, rest)
    by rest false other = grind (arith, other, rest)

-- where an owner has a place, there are fewer others than the limit
pub few_others : (name : StateOwner) (owners : List Owner) → AreOwners owners → has_place name owners ≡ true → length (without_owner name owners) < OWNER_LIMIT
few_others name owners are place = by (is_known name (without_owner name owners)) (none_left name owners) (place_without name name owners are place)
  where
    by : (b : Bool) → b ≡ false → b || nat_lt (length (without_owner name owners)) OWNER_LIMIT ≡ true → length (without_owner name owners) < OWNER_LIMIT
    by true known place = absurd cc
    by false known place = omega (arith, ltb-true _ _ place)

-- the first owner that passes a test is found by its name
pub own_name : (test : Owner → Bool) (owners : List Owner) (x : Owner) → AreApart owners → find test owners ≡ Some x → owner_of x.name owners ≡ Some x
own_name test [] x apart found = absurd cc
own_name test (o ∷ owners) x apart found = by (test o) refl found (λ there. own_name test owners x apart.1 there)
  where
    unlike : (ys : List Owner) → is_known o.name ys ≡ false → find test ys ≡ Some x → has_name o.name x ≡ false
    unlike [] none there = absurd cc
    unlike (y ∷ ys) none there = at (test y) refl there (λ rest. unlike ys (grind (arith, none)) rest)
      where
        at : (b : Bool) → test y ≡ b → cond b (Some y) (find test ys) ≡ Some x → (find test ys ≡ Some x → has_name o.name x ≡ false) → has_name o.name x ≡ false
        at true is here rest = ap (has_name o.name) (sym (some_owner y x here)) ∙ grind (arith, none)
        at false is there rest = rest there

    by : (b : Bool) → test o ≡ b → cond b (Some o) (find test owners) ≡ Some x → (find test owners ≡ Some x → owner_of x.name owners ≡ Some x) → owner_of x.name (o ∷ owners) ≡ Some x
    by true is here rest =
        subst (λ (y : Owner). owner_of y.name (o ∷ owners) ≡ Some y) (some_owner o x here)
        (ap (λ b. cond b (Some o) (owner_of o.name owners)) (name_same o))
    by false is there rest =
        ap (λ b. cond b (Some o) (owner_of x.name owners)) (name_swap x o ∙ unlike owners apart.0 there) ∙ rest there

-- the same of one that is lent, if there is one
pub own_lent : (test : Owner → Bool) (owners : List Owner) (found : Option (Bor Owner)) → AreApart owners → option_copied found ≡ find test owners → IfSome found (λ o. owner_of o.now.name owners ≡ Some o.now)
own_lent test owners None apart is = tt
own_lent test owners (Some o) apart is = own_name test owners o.now apart (sym is)
