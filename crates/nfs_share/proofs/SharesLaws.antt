-- Laws of the shares that an open has.
use Rattle.std.proofs.Common.{inl, inr, ◌≡◌, ◌≢◌, ◌<◌, length-append, Bool, true, false, ◌&&◌, ◌||◌, cond, List, [], ◌∷◌, ◌++◌, length, filter, fold, refl, sym, ◌∙◌, ap, subst, arith}
use Rattle.std.specs.Prelude.{◌↔◌, IsTrue}
use Rattle.std.specs.List.{IsDistinct, list_any, AllByRecursion}
use Rattle.std.proofs.lemmas.Bool.{and_parts, and_from, cond_both, cond-true, false≢true, or_cases, or_left, or_right}
use Rattle.std.proofs.lemmas.Map.Keys.{IsDistinct-push, IsDistinct-head, IsDistinct-tail, IsDistinct-cons}
use Rattle.nfs_share.specs.declared.share.Share.{Share}
use Rattle.nfs_share.specs.Share.{contains, is_same, no_share, union}
use Rattle.nfs_share.specs.Shares.{IsLawfulDowngrade, union_of, with_share}
use Rattle.nfs_share.proofs.ShareLaws.{union-part, contains_from_union, distinct_length, equal_from_is_same, is_same_laws, is_same_self, part_absorbed, rest_absorbed, union_assoc, union_comm, union-contains, union-none, union-self}

-- to join shares one after the other gives their union
pub fold-union : (all : Share) (shares : List Share) → fold union all shares ≡ union all (union_of shares)
fold-union all [] = sym (union-none all)
fold-union all (share ∷ shares) =
    fold-union (union all share) shares ∙ union_assoc all share (union_of shares)

pub fold-union-none : (shares : List Share) → fold union no_share shares ≡ union_of shares
fold-union-none = fold-union no_share

-- what holds of each element holds of each that a filter keeps
pub AllByRecursion-filter : {X : Type 0} (P : X → Type 0) (p : X → Bool) (xs : List X) → AllByRecursion P xs → AllByRecursion P (filter p xs)
AllByRecursion-filter P p [] h = tt
AllByRecursion-filter P p (x ∷ xs) h =
    elim (p x) as (λ b. AllByRecursion P (cond b (x ∷ filter p xs) (filter p xs))) [
      | true ↦ (h.0, AllByRecursion-filter P p xs h.1)
      | false ↦ AllByRecursion-filter P p xs h.1
    ]

-- a filter keeps a list without repetition so
pub IsDistinct-filter : {X : Type 0} (e : X → X → Bool) (p : X → Bool) (xs : List X) → IsDistinct e xs → IsDistinct e (filter p xs)
IsDistinct-filter e p [] h = h
IsDistinct-filter e p (x ∷ xs) h =
    let rest = IsDistinct-filter e p xs (IsDistinct-tail e x xs h) in
    let apart = AllByRecursion-filter (λ y. e x y ≡ false) p xs (IsDistinct-head e x xs h) in
    elim (p x) as (λ b. IsDistinct e (cond b (x ∷ filter p xs) (filter p xs))) [
      | true ↦ IsDistinct-cons e x (filter p xs) apart rest
      | false ↦ rest
    ]

-- one share repeats none
pub one_distinct : (share : Share) → IsDistinct is_same (share ∷ [])
unfolding IsDistinct
one_distinct share = (tt, tt)

-- a share that isn't there finds room
pub room_for_another : (share : Share) (shares : List Share) → IsDistinct is_same shares → list_any (is_same share) shares ≡ false → length shares < 16
room_for_another share shares distinct absent =
    omega (arith, length-append shares (share ∷ []), distinct_length (shares ++ share ∷ []) (IsDistinct-push is_same_laws shares share distinct absent))

-- A share contains the union of those that it contains.
union_within : (share : Share) (shares : List Share) → union share (union_of (filter (contains share) shares)) ≡ share
union_within share [] = union-none share
union_within share (first ∷ shares) =
    let rest = filter (contains share) shares in
    let here : contains share first ≡ true → union share (union first (union_of rest)) ≡ share =
    λ e. sym (union_assoc share first (union_of rest)) ∙ ap (λ x. union x (union_of rest)) (union-contains share first e) ∙ union_within share shares in
    cond_both (contains share first) (first ∷ rest) rest (λ xs. union share (union_of xs) ≡ share) here (λ _. union_within share shares)

-- If a share contains the union of some, then the union of all that it contains contains that of the some.
union_of_some : (share : Share) (picks : Share → Bool) (shares : List Share) → union share (union_of (filter picks shares)) ≡ share
    → union (union_of (filter (contains share) shares)) (union_of (filter picks shares)) ≡ union_of (filter (contains share) shares)
union_of_some share picks [] = λ h. refl
union_of_some share picks (first ∷ shares) =
    let within = filter (contains share) shares in
    let some = filter picks shares in
    let all = cond (contains share first) (first ∷ within) within in
    let skipped : union share (union_of some) ≡ share → union (union_of all) (union_of some) ≡ union_of all =
    λ h. cond_both (contains share first) (first ∷ within) within (λ xs. union (union_of xs) (union_of some) ≡ union_of xs)
    (λ _. union_assoc first (union_of within) (union_of some) ∙ ap (union first) (union_of_some share picks shares h))
    (λ _. union_of_some share picks shares h) in
    elim (picks first) as (λ b. union share (union_of (cond b (first ∷ some) some)) ≡ share → union (union_of all) (union_of (cond b (first ∷ some) some)) ≡ union_of all) [
      | true ↦ λ h.
          let rest = skipped (rest_absorbed share first (union_of some) h) in
          let here : all ≡ first ∷ within = cond-true (contains share first) (first ∷ within) within (contains_from_union share first (part_absorbed share first (union_of some) h)) in
          let there : union (union_of all) first ≡ union_of all =
          rw here (union_comm (union first (union_of within)) first ∙ sym (union_assoc first first (union_of within)) ∙ ap (λ x. union x (union_of within)) (union-self first)) in
          sym (union_assoc (union_of all) first (union_of some)) ∙ ap (λ x. union x (union_of some)) there ∙ rest
      | false ↦ skipped
    ]

any_within : (share : Share) (picks : Share → Bool) (shares : List Share) → union share (union_of (filter picks shares)) ≡ share
    → filter picks shares ≢ [] → list_any (contains share) shares ≡ true
any_within share picks [] = λ h some. absurd (some refl)
any_within share picks (first ∷ shares) =
    let rest = filter picks shares in
    elim (picks first) as (λ b. union share (union_of (cond b (first ∷ rest) rest)) ≡ share → cond b (first ∷ rest) rest ≢ [] → (contains share first || list_any (contains share) shares) ≡ true) [
      | true ↦ λ h some. or_left (contains share first) (list_any (contains share) shares) (contains_from_union share first (part_absorbed share first (union_of rest) h))
      | false ↦ λ h some. or_right (contains share first) (list_any (contains share) shares) (any_within share picks shares h some)
    ]

filter_some : (p : Share → Bool) (shares : List Share) → list_any p shares ≡ true → filter p shares ≢ []
filter_some p [] = λ h. absurd (false≢true h)
filter_some p (first ∷ shares) =
    elim (p first) as (λ b. (b || list_any p shares) ≡ true → cond b (first ∷ filter p shares) (filter p shares) ≢ []) [
      | true ↦ λ h e. cc
      | false ↦ λ h. filter_some p shares h
    ]

-- A share is the union of some exactly if it is the union of those that it contains, of which there is one.
pub lawful : (any same : Bool) (shares : List Share) (share : Share) → any ≡ list_any (contains share) shares
    → same ≡ is_same (union_of (filter (contains share) shares)) share → IsTrue (any && same) ↔ IsLawfulDowngrade shares share
lawful any same shares share any_is same_is = (
  λ h.
      let both = and_parts any same h in
      (contains share, filter_some (contains share) shares (sym any_is ∙ both.0), equal_from_is_same _ share (sym same_is ∙ both.1)),
  λ law.
      let picks = law.0 in
      let is = law.2 in
      let inside : union share (union_of (filter picks shares)) ≡ share = ap (union share) is ∙ union-self share in
      let within = union_of (filter (contains share) shares) in
      let equal : within ≡ share = sym (union_of_some share picks shares inside) ∙ ap (union within) is ∙ union_comm within share ∙ union_within share shares in
      and_from any same (any_is ∙ any_within share picks shares inside law.1) (same_is ∙ subst (λ x. is_same x share ≡ true) (sym equal) (is_same_self share)),
)

-- the union of some adds nothing to the union of all
pub union-some : (picks : Share → Bool) (shares : List Share)
    → union (union_of shares) (union_of (filter picks shares)) ≡ union_of shares
union-some picks [] = refl
union-some picks (share ∷ shares) =
    let all = union_of shares in
    let some = union_of (filter picks shares) in
    let rest = union_assoc share all some ∙ ap (union share) (union-some picks shares) in
    cond_both (picks share) (share ∷ filter picks shares) (filter picks shares) (λ xs. union (union share all) (union_of xs) ≡ union share all)
    (λ _. sym (union_assoc (union share all) share some) ∙ ap (λ x. union x some) (union-part share all) ∙ rest)
    (λ _. rest)

union_of-append : (shares : List Share) (share : Share) → union_of (shares ++ share ∷ []) ≡ union (union_of shares) share
union_of-append [] share = union-none share
union_of-append (first ∷ shares) share =
    ap (union first) (union_of-append shares share) ∙ sym (union_assoc first (union_of shares) share)

union_of-present : (share : Share) (shares : List Share) → list_any (is_same share) shares ≡ true → union_of shares ≡ union (union_of shares) share
union_of-present share [] there = absurd (false≢true there)
union_of-present share (first ∷ shares) there =
    elim (or_cases (is_same share first) (list_any (is_same share) shares) there) [
      | inl here ↦ rw (equal_from_is_same share first here) (sym (union-part first (union_of shares)))
      | inr later ↦ ap (union first) (union_of-present share shares later) ∙ sym (union_assoc first (union_of shares) share)
    ]

-- one more share, also one that is there already
pub union_of-with_share : (share : Share) (shares : List Share) → union_of (with_share share shares) ≡ union (union_of shares) share
union_of-with_share share shares =
    cond_both (list_any (is_same share) shares) shares (shares ++ share ∷ []) (λ xs. union_of xs ≡ union (union_of shares) share)
    (union_of-present share shares) (λ _. union_of-append shares share)
