-- Opens that are compatible stay so.
use Rattle.std.proofs.Common.{inl, inr, ◌≡◌, ℕ, ◌⊎◌, Bool, true, false, ◌&&◌, not, cond, List, [], ◌∷◌, ◌++◌, map, refl, sym, ◌∙◌, ap}
use Rattle.std.specs.Prelude.{◌==◌, ⊤, is_some}
use Rattle.std.specs.List.{AllByRecursion}
use Rattle.std.specs.Str.{bytes_eq}
use Rattle.std.proofs.lemmas.Bool.{and_parts, cases_Bool, cond_both, cond-false, or_from, eqb-true, not-true, not_from_false, or_cases, or_left, or_right, or_parts}
use Rattle.std.proofs.lemmas.Slice.Eq.{bytes_eq-Decides}
use Rattle.nfs_forms.specs.declared.open_owner.OpenOwner.{OpenOwner}
use Rattle.nfs_share.specs.declared.open_state.OpenState.{OpenState}
use Rattle.nfs_share.specs.declared.share.Share.{Share}
use Rattle.nfs_share.specs.Laws.{AllAreCompatible, are_compatible}
use Rattle.nfs_forms.specs.ClientId.{is_same_client}
use Rattle.nfs_forms.specs.OpenOwner.{is_same_owner}
use Rattle.nfs_share.specs.Opens.{with_next_seqid, after_downgrade, first_open, is_of, is_refused, after_open, open_of, share_of, with_each, with_opening, without}
use Rattle.nfs_share.specs.Share.{conflicts_with, contains, union}
use Rattle.nfs_share.proofs.ShareLaws.{conflicts_with-union, conflicts_with_comm, union-none, union-self}
use Rattle.nfs_share.proofs.SharesLaws.{AllByRecursion-filter, union-some, union_of-with_share}
use Rattle.nfs_share.proofs.OpensLaws.{is_same_owner_self}
use Rattle.nfs_share.proofs.EachElement.{all_always, all_both, all_fail, all_map, all_push, all_weaken}

-- two owners that are the same are equal
pub equal_owners : (a b : OpenOwner) → is_same_owner a b ≡ true → a ≡ b
equal_owners a b same =
    let both = and_parts (is_same_client a.client b.client) (bytes_eq a.name b.name) same in
    let client = and_parts (a.client.epoch == b.client.epoch) (a.client.number == b.client.number) both.0 in
    let epoch = eqb-true a.client.epoch b.client.epoch client.0 in
    let number = eqb-true a.client.number b.client.number client.1 in
    let name = (bytes_eq-Decides a.name b.name).0 both.1 in
    λ i. record { client = record { epoch = epoch i; number = number i }; name = name i }

same_owner_comm : (a b : OpenOwner) → is_same_owner a b ≡ true → is_same_owner b a ≡ true
same_owner_comm a b same = rw (equal_owners a b same) (is_same_owner_self b)

-- opens that don't conflict are compatible
apart : (a b : OpenState) → conflicts_with (share_of a) (share_of b) ≡ false → are_compatible a b ≡ true
apart a b h = or_right (is_of a.owner b) (not (conflicts_with (share_of a) (share_of b))) (not_from_false _ h)

compatible_cases : (a b : OpenState) → are_compatible a b ≡ true → (is_of a.owner b ≡ true) ⊎ (conflicts_with (share_of a) (share_of b) ≡ false)
compatible_cases a b h =
    elim (or_cases (is_of a.owner b) (not (conflicts_with (share_of a) (share_of b))) h) [
      | inl same ↦ inl same
      | inr none ↦ inr (not-true _ none)
    ]

compatible_comm : (a b : OpenState) → are_compatible a b ≡ true → are_compatible b a ≡ true
compatible_comm a b h =
    elim (compatible_cases a b h) [
      | inl same ↦ or_left (is_of b.owner a) (not (conflicts_with (share_of b) (share_of a))) (same_owner_comm b.owner a.owner same)
      | inr none ↦ apart b a (conflicts_with_comm (share_of b) (share_of a) ∙ none)
    ]

-- An open that has no more than before, and has its owner, stays compatible with what it was compatible with.
shrinks : (old new other : OpenState) → new.owner ≡ old.owner → union (share_of old) (share_of new) ≡ share_of old
    → are_compatible old other ≡ true → are_compatible new other ≡ true
shrinks old new other same inside h =
    elim (compatible_cases old other h) [
      | inl owned ↦ or_left (is_of new.owner other) (not (conflicts_with (share_of new) (share_of other))) (ap (λ o. is_of o other) same ∙ owned)
      | inr none ↦ apart new other (or_parts (conflicts_with (share_of old) (share_of other)) (conflicts_with (share_of new) (share_of other))
          (sym (conflicts_with-union (share_of old) (share_of new) (share_of other)) ∙ ap (λ s. conflicts_with s (share_of other)) inside ∙ none)).1
    ]

-- a change of each open that keeps two of them compatible
each_keeps : (P : OpenState → Type 0) (change : OpenState → OpenState) → ((a b : OpenState) → P a → P b → are_compatible a b ≡ true → are_compatible (change a) (change b) ≡ true)
    → (opens : List OpenState) → AllByRecursion P opens → AllAreCompatible opens → AllAreCompatible (map change opens)
each_keeps P change keeps opens each all =
    all_map (λ a. AllByRecursion (λ b. are_compatible a b ≡ true) (map change opens)) change opens
    (all_weaken (λ a. P a × AllByRecursion (λ b. are_compatible a b ≡ true) opens) (λ a. AllByRecursion (λ b. are_compatible (change a) b ≡ true) (map change opens))
    (λ a h. all_map (λ b. are_compatible (change a) b ≡ true) change opens
    (all_weaken (λ b. P b × (are_compatible a b ≡ true)) (λ b. are_compatible (change a) (change b) ≡ true)
    (λ b k. keeps a b h.0 k.0 k.1) opens
    (all_both P (λ b. are_compatible a b ≡ true) opens each h.1)))
    opens
    (all_both P (λ a. AllByRecursion (λ b. are_compatible a b ≡ true) opens) opens each all))

-- Changes by which no open has more than before.
each_shrinks : (test : OpenState → Bool) (change : OpenState → OpenState) → ((o : OpenState) → (change o).owner ≡ o.owner)
    → ((o : OpenState) → union (share_of o) (share_of (change o)) ≡ share_of o)
    → (opens : List OpenState) → AllAreCompatible opens → AllAreCompatible (with_each test change opens)
each_shrinks test change same inside opens all =
    let f = λ (o : OpenState). cond (test o) (change o) o in
    let one : (a b : OpenState) → are_compatible a b ≡ true → are_compatible (f a) b ≡ true =
    λ a b h. cond_both (test a) (change a) a (λ x. are_compatible x b ≡ true) (λ _. shrinks a (change a) b (same a) (inside a) h) (λ _. h) in
    each_keeps (λ o. ⊤) f (λ a b _ _ h. compatible_comm (f b) (f a) (one b (f a) (compatible_comm (f a) b (one a b h)))) opens (all_always opens) all

union-self_of : (o : OpenState) → union (share_of o) (share_of (with_next_seqid o)) ≡ share_of o
union-self_of o = union-self (share_of o)

pub advancing : (test : OpenState → Bool) (opens : List OpenState) → AllAreCompatible opens → AllAreCompatible (with_each test with_next_seqid opens)
advancing test opens all = each_shrinks test with_next_seqid (λ o. refl) union-self_of opens all

pub downgrading : (test : OpenState → Bool) (share : Share) (opens : List OpenState) → AllAreCompatible opens → AllAreCompatible (with_each test (after_downgrade share) opens)
downgrading test share opens all = each_shrinks test (after_downgrade share) (λ o. refl) (λ o. union-some (contains share) o.shares) opens all

pub removing : (test : OpenState → Bool) (opens : List OpenState) → AllAreCompatible opens → AllAreCompatible (without test opens)
removing test opens all =
    let left = λ (o : OpenState). not (test o) in
    AllByRecursion-filter (λ a. AllByRecursion (λ b. are_compatible a b ≡ true) (without test opens)) left opens
    (all_weaken (λ a. AllByRecursion (λ b. are_compatible a b ≡ true) opens) (λ a. AllByRecursion (λ b. are_compatible a b ≡ true) (without test opens))
    (λ a h. AllByRecursion-filter (λ b. are_compatible a b ≡ true) left opens h) opens all)

-- An open of another owner doesn't conflict with what isn't refused.
not_refused : (owner : OpenOwner) (share : Share) (o : OpenState) → (not (is_of owner o) && conflicts_with share (share_of o)) ≡ false
    → is_of owner o ≡ false → conflicts_with share (share_of o) ≡ false
not_refused owner share o h other = sym (ap (λ b. not b && conflicts_with share (share_of o)) other) ∙ h

-- An open that is joined by another OPEN stays compatible with what its owner's OPEN doesn't conflict with.
join_keeps : (owner : OpenOwner) (share : Share) (a b : OpenState) → is_of owner a ≡ true
    → (is_of owner b ≡ true) ⊎ (conflicts_with share (share_of b) ≡ false)
    → are_compatible a b ≡ true → are_compatible (after_open share a) b ≡ true
join_keeps owner share a b mine other h =
    let owned : is_of a.owner b ≡ true → are_compatible (after_open share a) b ≡ true =
    λ same. or_left (is_of a.owner b) (not (conflicts_with (share_of (after_open share a)) (share_of b))) same in
    elim other [
      | inl same ↦ owned (rw (equal_owners a.owner owner mine) same)
      | inr clear ↦ elim (compatible_cases a b h) [
        | inl same ↦ owned same
        | inr none ↦ apart (after_open share a) b
            (ap (λ s. conflicts_with s (share_of b)) (union_of-with_share share a.shares)
            ∙ conflicts_with-union (share_of a) share (share_of b)
            ∙ or_from (conflicts_with (share_of a) (share_of b)) (conflicts_with share (share_of b)) none clear)
      ]
    ]

joining : (owner : OpenOwner) (share : Share) (opens : List OpenState) → AllAreCompatible opens → is_refused owner share opens ≡ false
    → AllAreCompatible (with_each (is_of owner) (after_open share) opens)
joining owner share opens all free =
    let Clear = λ (o : OpenState). (not (is_of owner o) && conflicts_with share (share_of o)) ≡ false in
    let f = λ (o : OpenState). cond (is_of owner o) (after_open share o) o in
    let other : (b : OpenState) → Clear b → (is_of owner (f b) ≡ true) ⊎ (conflicts_with share (share_of (f b)) ≡ false) =
    λ b clear. elim (cases_Bool (is_of owner b)) [
      | inl mine ↦ inl (cond_both (is_of owner b) (after_open share b) b (λ x. is_of owner x ≡ true) (λ _. mine) (λ _. mine))
      | inr others ↦ inr (ap (λ x. conflicts_with share (share_of x)) (cond-false (is_of owner b) (after_open share b) b others) ∙ not_refused owner share b clear others)
    ] in
    let one : (a b : OpenState) → (is_of owner b ≡ true) ⊎ (conflicts_with share (share_of b) ≡ false) → are_compatible a b ≡ true → are_compatible (f a) b ≡ true =
    λ a b clear h. cond_both (is_of owner a) (after_open share a) a (λ x. are_compatible x b ≡ true) (λ mine. join_keeps owner share a b mine clear h) (λ _. h) in
    let plain : (b : OpenState) → Clear b → (is_of owner b ≡ true) ⊎ (conflicts_with share (share_of b) ≡ false) =
    λ b clear. elim (cases_Bool (is_of owner b)) [
      | inl mine ↦ inl mine
      | inr others ↦ inr (not_refused owner share b clear others)
    ] in
    each_keeps Clear f (λ a b clear_a clear_b h.
    compatible_comm (f b) (f a) (one b (f a) (other a clear_a) (compatible_comm (f a) b (one a b (plain b clear_b) h))))
    opens (all_fail (λ o. not (is_of owner o) && conflicts_with share (share_of o)) opens free) all

adding : (owner : OpenOwner) (share : Share) (number : ℕ) (opens : List OpenState) → AllAreCompatible opens → is_refused owner share opens ≡ false
    → AllAreCompatible (opens ++ first_open owner share number ∷ [])
adding owner share number opens all free =
    let new = first_open owner share number in
    let Clear = λ (o : OpenState). (not (is_of owner o) && conflicts_with share (share_of o)) ≡ false in
    let clear = all_fail (λ o. not (is_of owner o) && conflicts_with share (share_of o)) opens free in
    let beside : (b : OpenState) → Clear b → are_compatible new b ≡ true =
    λ b c. elim (cases_Bool (is_of owner b)) [
      | inl mine ↦ or_left (is_of owner b) (not (conflicts_with (share_of new) (share_of b))) mine
      | inr others ↦ apart new b (ap (λ s. conflicts_with s (share_of b)) (union-none share) ∙ not_refused owner share b c others)
    ] in
    let Full = λ (a : OpenState). AllByRecursion (λ b. are_compatible a b ≡ true) (opens ++ new ∷ []) in
    all_push Full opens new
    (all_weaken (λ a. Clear a × AllByRecursion (λ b. are_compatible a b ≡ true) opens) Full
    (λ a h. all_push (λ b. are_compatible a b ≡ true) opens new h.1 (compatible_comm new a (beside a h.0)))
    opens (all_both Clear (λ a. AllByRecursion (λ b. are_compatible a b ≡ true) opens) opens clear all))
    (all_push (λ b. are_compatible new b ≡ true) opens new (all_weaken Clear (λ b. are_compatible new b ≡ true) beside opens clear)
    (or_left (is_of owner new) (not (conflicts_with (share_of new) (share_of new))) (is_same_owner_self owner)))

pub opening : (owner : OpenOwner) (share : Share) (number : ℕ) (opens : List OpenState) → AllAreCompatible opens → is_refused owner share opens ≡ false
    → AllAreCompatible (with_opening owner share number opens)
opening owner share number opens all free =
    cond_both (is_some (open_of owner opens)) (with_each (is_of owner) (after_open share) opens) (opens ++ first_open owner share number ∷ []) AllAreCompatible
    (λ _. joining owner share opens all free) (λ _. adding owner share number opens all free)
