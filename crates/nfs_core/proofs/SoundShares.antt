-- Each open has a share, and each share has access.
use Rattle.std.proofs.Common.{◌≡◌, inl, inr, ℕ, zero, suc, Bool, true, false, cond, Some, List, [], ◌∷◌, ◌++◌, filter, refl, sym, ap, ◌∙◌, subst, arith}
use Rattle.std.specs.Prelude.{◌≤◌, ◌≢◌, ◌&&◌, ◌||◌, find, not}
use Rattle.std.specs.Bool.{beq}
use Rattle.std.specs.List.{AllByRecursion, IsDistinct, list_any}
use Rattle.std.proofs.lemmas.Bool.{and_from, and_parts, cases_Bool, cond-false, cond-true, cond_both, eq-eqb}
use Rattle.nfs_core.specs.Safe.{EachOpen, HasAccess, HasShares}
use Rattle.nfs_core.proofs.EachOpen.{HoldsAfter, each_changed, each_owned}
use Rattle.nfs_core.proofs.LiveLists.{none_passes}
use Rattle.nfs_core.proofs.SafeDistinct.{distinct_filter, distinct_none, distinct_push}
use Rattle.nfs_core.proofs.SafeLists.{all_filter, all_push, all_replicate, all_weaken}
use Rattle.nfs_core.proofs.SafeSums.{is_one, sum_of, sum_of_all}
use Rattle.nfs_core.proofs.SoundNumbers.{HasNumbers, of_open, once_there}
use Rattle.nfs_core.proofs.SoundSteps.{IsChangeReady}
use Rattle.nfs_share.specs.AllOpens.{opens_of}
use Rattle.nfs_share.specs.Modes as modes
use Rattle.nfs_share.specs.Opens.{after_downgrade, is_numbered, is_stateid_of}
use Rattle.nfs_share.specs.Share.{contains, is_same, union}
use Rattle.nfs_share.specs.Shares.{IsLawfulDowngrade, union_of, with_share}
use Rattle.nfs_share.specs.declared.modes.Modes.{Modes}
use Rattle.nfs_share.specs.declared.open_state.OpenState.{OpenState}
use Rattle.nfs_share.specs.declared.share.Share.{Share}
use Rattle.nfs_state.specs.Changes.{with_owner_change, with_state_change}
use Rattle.nfs_state.specs.State.{State, empty_server}
use Rattle.nfs_state.specs.declared.change.Change.{Change}
use Rattle.nfs_state.specs.declared.change.Change.TheVariants as changes
use Rattle.nfs_state.specs.declared.owner_change.OwnerChange.{OwnerChange}
use Rattle.nfs_tree.specs.Tree.{node_count}
use Rattle.nfs_tree.specs.declared.node.Node.{Node}

-- What holds of the shares of an open.
record AreShares (shares : List Share) : Type 0 where
  some : shares ≢ []
  access : AllByRecursion HasAccess shares
  differ : IsDistinct is_same shares

as_shares : (o : OpenState) → HasShares o → AreShares o.shares
as_shares o h = record { some = h.some; access = h.access; differ = h.differ }

of_shares : (o : OpenState) → AreShares o.shares → HasShares o
of_shares o h = record { some = h.some; access = h.access; differ = h.differ }

-- An OPEN.

beq_turned : (a b : Bool) → beq a b ≡ beq b a
beq_turned true true = refl
beq_turned true false = refl
beq_turned false true = refl
beq_turned false false = refl

modes_turned : (a b : Modes) → modes.is_same a b ≡ modes.is_same b a
modes_turned a b =
    ap (λ x. x && beq a.write b.write) (beq_turned a.read b.read) ∙ ap (λ x. beq b.read a.read && x) (beq_turned a.write b.write)

same_turned : (a b : Share) → is_same a b ≡ is_same b a
same_turned a b =
    ap (λ x. x && modes.is_same a.deny b.deny) (modes_turned a.access b.access)
    ∙ ap (λ x. modes.is_same b.access a.access && x) (modes_turned a.deny b.deny)

pushed_some : {X : Type 0} (xs : List X) (x : X) → xs ++ x ∷ [] ≢ []
pushed_some [] x none = absurd cc
pushed_some (y ∷ xs) x none = absurd cc

one_share : (share : Share) → HasAccess share → AreShares (share ∷ [])
one_share share access = record {
  some = pushed_some [] share;
  access = (access, tt);
  differ = distinct_push is_same [] share (distinct_none is_same) tt;
}

more_shares : (share : Share) (shares : List Share) → HasAccess share → AreShares shares → AreShares (with_share share shares)
more_shares share shares access h =
    cond_both (list_any (is_same share) shares) shares (shares ++ share ∷ []) AreShares (λ _. h)
    (λ new. record {
      some = pushed_some shares share;
      access = all_push HasAccess shares share h.access access;
      differ = distinct_push is_same shares share h.differ
          (all_weaken (λ s. is_same share s ≡ false) (λ s. is_same s share ≡ false) (λ s other. same_turned s share ∙ other) shares (none_passes (is_same share) shares new));
    })

-- An OPEN_DOWNGRADE: a share is left, since each that is picked is in the union of them.

part : (a b c : Bool) → (a || not (b || c)) ≡ true → (a || not b) ≡ true
part true b c h = refl
part false true c h = absurd cc
part false false c h = refl

part_of_modes : (a b c : Modes) → modes.contains a (modes.union b c) ≡ true → modes.contains a b ≡ true
part_of_modes a b c h =
    let parts = and_parts (a.read || not (b.read || c.read)) (a.write || not (b.write || c.write)) h in
    and_from (a.read || not b.read) (a.write || not b.write) (part a.read b.read c.read parts.0) (part a.write b.write c.write parts.1)

part_of : (a b c : Share) → contains a (union b c) ≡ true → contains a b ≡ true
part_of a b c h =
    let parts = and_parts (modes.contains a.access (modes.union b.access c.access)) (modes.contains a.deny (modes.union b.deny c.deny)) h in
    and_from (modes.contains a.access b.access) (modes.contains a.deny b.deny)
    (part_of_modes a.access b.access c.access parts.0) (part_of_modes a.deny b.deny c.deny parts.1)

itself : (a : Bool) → (a || not a) ≡ true
itself true = refl
itself false = refl

contains_itself : (a : Share) → contains a a ≡ true
contains_itself a =
    and_from (modes.contains a.access a.access) (modes.contains a.deny a.deny)
    (and_from (a.access.read || not a.access.read) (a.access.write || not a.access.write) (itself a.access.read) (itself a.access.write))
    (and_from (a.deny.read || not a.deny.read) (a.deny.write || not a.deny.write) (itself a.deny.read) (itself a.deny.write))

left_some : (share : Share) (picks : Share → Bool) (shares : List Share) → filter picks shares ≢ [] → contains share (union_of (filter picks shares)) ≡ true → filter (contains share) shares ≢ []
left_some share picks [] some within = λ none. some refl
left_some share picks (s ∷ shares) some within = elim (cases_Bool (picks s)) [
  | inl picked ↦
      let is = cond-true (picks s) (s ∷ filter picks shares) (filter picks shares) picked in
      let has : contains share s ≡ true = part_of share s (union_of (filter picks shares)) (subst (λ xs. contains share (union_of xs) ≡ true) is within) in
      subst (λ xs. xs ≢ []) (sym (cond-true (contains share s) (s ∷ filter (contains share) shares) (filter (contains share) shares) has)) (λ none. absurd cc)
  | inr other ↦
      let is = cond-false (picks s) (s ∷ filter picks shares) (filter picks shares) other in
      let more : filter (contains share) shares ≢ [] =
      left_some share picks shares (subst (λ xs. xs ≢ []) is some) (subst (λ xs. contains share (union_of xs) ≡ true) is within) in
      cond_both (contains share s) (s ∷ filter (contains share) shares) (filter (contains share) shares) (λ xs. xs ≢ []) (λ _ none. absurd cc) (λ _. more)
]

fewer_shares : (share : Share) (shares : List Share) → IsLawfulDowngrade shares share → AreShares shares → AreShares (filter (contains share) shares)
fewer_shares share shares lawful h = record {
  some = left_some share lawful.0 shares lawful.1 (ap (contains share) lawful.2 ∙ contains_itself share);
  access = all_filter HasAccess HasAccess (contains share) (λ s k _. k) shares h.access;
  differ = distinct_filter is_same (contains share) shares h.differ;
}

-- It is the only open with its number.

sum_at : (w : OpenState → ℕ) (node : ℕ) (opens : List (List OpenState)) → sum_of w (opens_of node opens) ≤ sum_of_all w opens
sum_at w node [] = omega arith
sum_at w zero (xs ∷ opens) = omega arith
sum_at w (suc node) (xs ∷ opens) = omega (arith, sum_at w node opens)

here_once : (number node : ℕ) (old : State) → HasNumbers old → sum_of (of_open (is_one number)) (opens_of node old.opens) ≤ 1
here_once number node old numbers = omega (arith, once_there number old numbers, sum_at (of_open (is_one number)) node old.opens)

weighs_one : (number : ℕ) (o : OpenState) → is_numbered number o ≡ true → is_one number o.number ≡ 1
weighs_one number o numbered = ap (λ b. cond b 1 0) numbered

no_more : (number : ℕ) (P : OpenState → Type 0) (xs : List OpenState) → sum_of (of_open (is_one number)) xs ≤ 0 → AllByRecursion (λ o. is_numbered number o ≡ true → P o) xs
no_more number P [] none = tt
no_more number P (x ∷ xs) none =
    (λ numbered. absurd (omega (arith, weighs_one number x numbered)), no_more number P xs (omega arith))

found_weighs : (number : ℕ) (test : OpenState → Bool) (xs : List OpenState) (o : OpenState) → find test xs ≡ Some o → is_numbered number o ≡ true → 1 ≤ sum_of (of_open (is_one number)) xs
found_weighs number test [] o found numbered = absurd cc
found_weighs number test (x ∷ xs) o found numbered = elim (cases_Bool (test x)) [
  | inl passes ↦
      let same : Some x ≡ Some o = sym (cond-true (test x) (Some x) (find test xs) passes) ∙ found in
      let equal : x ≡ o = search same in
      omega (arith, weighs_one number x (ap (is_numbered number) equal ∙ numbered))
  | inr fails ↦ omega (arith, found_weighs number test xs o (sym (cond-false (test x) (Some x) (find test xs) fails) ∙ found) numbered)
]

only_found : (number : ℕ) (P : OpenState → Type 0) (test : OpenState → Bool) (xs : List OpenState) (o : OpenState) → sum_of (of_open (is_one number)) xs ≤ 1 → find test xs ≡ Some o → is_numbered number o ≡ true → P o
    → AllByRecursion (λ x. is_numbered number x ≡ true → P x) xs
only_found number P test [] o once found numbered h = tt
only_found number P test (x ∷ xs) o once found numbered h = elim (cases_Bool (test x)) [
  | inl passes ↦
      let same : Some x ≡ Some o = sym (cond-true (test x) (Some x) (find test xs) passes) ∙ found in
      let equal : x ≡ o = search same in
      (λ _. subst P (sym equal) h, no_more number P xs (omega (arith, weighs_one number x (ap (is_numbered number) equal ∙ numbered))))
  | inr fails ↦
      let beyond = sym (cond-false (test x) (Some x) (find test xs) fails) ∙ found in
      let one = found_weighs number test xs o beyond numbered in
      (λ also. absurd (omega (arith, one, weighs_one number x also)), only_found number P test xs o (omega arith) beyond numbered h)
]

-- What an entry makes of the shares of opens.

shares_after : (change : Change) (old : State) → IsChangeReady change old → HasNumbers old → HoldsAfter HasShares change old
shares_after (changes.Opens node owner share lent) old ready numbers =
    (of_shares _ (one_share share ready.1.5), λ o h. of_shares _ (more_shares share o.shares ready.1.5 (as_shares o h)))
shares_after (changes.Confirms node number owner) old ready numbers = λ o h. of_shares _ (as_shares o h)
shares_after (changes.Downgrades node number share) old ready numbers =
    let o = ready.1 in
    let here = opens_of node old.opens in
    let P : OpenState → Type 0 = λ x. HasShares x → HasShares (after_downgrade share x) in
    all_weaken (λ x. is_numbered number x ≡ true → P x) (λ x. HasShares x → is_numbered number x ≡ true → HasShares (after_downgrade share x)) (λ x keeps h numbered. keeps numbered h) here
    (only_found number P (is_stateid_of ready.0) here o (here_once number node old numbers) ready.2 (eq-eqb o.number number ready.3)
    (λ h. of_shares (after_downgrade share o) (fewer_shares share o.shares ready.4 (as_shares o h))))
shares_after change old ready numbers = tt

-- an operation's own change
pub shares_changed : (change : Change) (old : State) → IsChangeReady change old → HasNumbers old → EachOpen HasShares old → EachOpen HasShares (with_state_change change old)
shares_changed change old ready numbers h = each_changed HasShares change old (shares_after change old ready numbers) h

-- what an entry means for an owner
pub shares_owned : (change : OwnerChange) (number : ℕ) (old : State) → EachOpen HasShares old → EachOpen HasShares (with_owner_change change number old)
shares_owned change number old h = each_owned HasShares change number old h

pub shares_empty : (nodes : List Node) → EachOpen HasShares (empty_server nodes)
shares_empty nodes = all_replicate (AllByRecursion HasShares) [] tt (node_count nodes)
