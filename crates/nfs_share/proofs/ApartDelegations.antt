-- Delegations that are in nobody's way stay so, and no client comes to have two.
use Rattle.std.proofs.Common.{◌≡◌, ℕ, Bool, true, false, ◌&&◌, ◌||◌, not, cond, List, [], ◌∷◌, ◌++◌, filter, map, Some, refl, sym, ◌∙◌, ap}
use Rattle.std.specs.Prelude.{◌==◌, IsFalse, is_none, is_some}
use Rattle.std.specs.Cmp.{IsEquivalence, nat_eq_equiv}
use Rattle.std.specs.List.{AllByRecursion, list_any}
use Rattle.std.proofs.lemmas.Bool.{and_parts, cond_both, eqb-true, not-true, or_from, or_parts}
use Rattle.std.proofs.lemmas.List.Folds.{list_any-append}
use Rattle.std.proofs.lemmas.Map.Keys.{IsDistinct-push, IsDistinct-head, IsDistinct-tail, IsDistinct-cons}
use Rattle.nfs_forms.specs.ClientId.{is_same_client}
use Rattle.nfs_forms.specs.declared.client_id.ClientId.{ClientId}
use Rattle.nfs_forms.specs.declared.open_owner.OpenOwner.{OpenOwner}
use Rattle.nfs_share.specs.declared.delegation.Delegation.{Delegation}
use Rattle.nfs_share.specs.declared.delegation.DelegationKind.{DelegationKind}
use Rattle.nfs_share.specs.declared.delegation.DelegationKind.TheVariants as kinds
use Rattle.nfs_share.specs.declared.delegation.FileUse.{FileUse}
use Rattle.nfs_share.specs.declared.delegation.FileUse.TheVariants as uses
use Rattle.nfs_share.specs.declared.open_state.OpenState.{OpenState}
use Rattle.nfs_share.specs.declared.share.Share.{Share}
use Rattle.nfs_share.specs.Delegations.{bars, can_delegate, conflicts, first_delegation, has_conflict, has_delegation, is_in_way, is_lent_to, is_of_user, with_recall, with_recalls, without_lent}
use Rattle.nfs_share.specs.Laws.{AreApart, OneEach}
use Rattle.nfs_share.specs.Opens.{after_downgrade, after_open, first_open, is_of, is_of_client, open_of, share_of, with_each, with_next_seqid, with_opening, without}
use Rattle.nfs_share.specs.Share.{contains, union}
use Rattle.nfs_share.proofs.CompatibleOpens.{equal_owners}
use Rattle.nfs_share.proofs.EachElement.{all_both, all_fail, all_map, all_push, all_weaken}
use Rattle.nfs_share.proofs.ShareLaws.{or_swap, union-none}
use Rattle.nfs_share.proofs.SharesLaws.{AllByRecursion-filter, IsDistinct-filter, union-some, union_of-with_share}

-- clients that are the same are equal
equal_clients : (a b : ClientId) → is_same_client a b ≡ true → a ≡ b
equal_clients a b same =
    let both = and_parts (a.epoch == b.epoch) (a.number == b.number) same in
    let epoch = eqb-true a.epoch b.epoch both.0 in
    let number = eqb-true a.number b.number both.1 in
    λ i. record { epoch = epoch i; number = number i }

same_client_comm : (a b : ClientId) → is_same_client a b ≡ is_same_client b a
same_client_comm a b = λ i. nat_eq_equiv.symm a.epoch b.epoch i && nat_eq_equiv.symm a.number b.number i

same_client_self : (a : ClientId) → is_same_client a a ≡ true
same_client_self a = λ i. nat_eq_equiv.refl a.epoch i && nat_eq_equiv.refl a.number i

-- What is in the way of a union is in the way of one of its parts.
and_over_or : (p x y : Bool) → (p && (x || y)) ≡ ((p && x) || (p && y))
and_over_or true x y = refl
and_over_or false x y = refl

way_of_union : (client : ClientId) (kind : DelegationKind) (a b : Share)
    → is_in_way kind (uses.Open client (union a b)) ≡ (is_in_way kind (uses.Open client a) || is_in_way kind (uses.Open client b))
way_of_union client kinds.Write a b = refl
way_of_union client kinds.Read a b = or_swap a.access.write b.access.write a.deny.read b.deny.read

conflicts-union : (client : ClientId) (a b : Share) (d : Delegation)
    → conflicts (uses.Open client (union a b)) d ≡ (conflicts (uses.Open client a) d || conflicts (uses.Open client b) d)
conflicts-union client a b d =
    ap (λ way. not (is_lent_to client d) && way) (way_of_union client d.kind a b)
    ∙ and_over_or (not (is_lent_to client d)) (is_in_way d.kind (uses.Open client a)) (is_in_way d.kind (uses.Open client b))

has_conflict-union : (client : ClientId) (a b : Share) (ds : List Delegation)
    → has_conflict (uses.Open client (union a b)) ds ≡ (has_conflict (uses.Open client a) ds || has_conflict (uses.Open client b) ds)
has_conflict-union client a b [] = refl
has_conflict-union client a b (d ∷ ds) =
    (λ i. conflicts-union client a b d i || has_conflict-union client a b ds i)
    ∙ or_swap (conflicts (uses.Open client a) d) (conflicts (uses.Open client b) d) (has_conflict (uses.Open client a) ds) (has_conflict (uses.Open client b) ds)

-- no delegation is in the way of the open
abbrev IsFree : List Delegation → OpenState → Type 0
IsFree ds o = IsFalse (has_conflict (uses.Open o.owner.client (share_of o)) ds)

-- no other delegation is in the way of this one
abbrev StandsFree : List Delegation → Delegation → Type 0
StandsFree ds d = IsFalse (has_conflict (uses.Delegation d.client d.kind) ds)

each_free : (ds : List Delegation) (test : OpenState → Bool) (change : OpenState → OpenState)
    → ((o : OpenState) → test o ≡ true → IsFree ds o → IsFree ds (change o))
    → (opens : List OpenState) → AllByRecursion (IsFree ds) opens → AllByRecursion (IsFree ds) (with_each test change opens)
each_free ds test change step opens free =
    all_map (IsFree ds) (λ o. cond (test o) (change o) o) opens
    (all_weaken (IsFree ds) (λ o. IsFree ds (cond (test o) (change o) o))
    (λ o h. cond_both (test o) (change o) o (IsFree ds) (λ passes. step o passes h) (λ _. h)) opens free)

-- an OPEN of an owner that no delegation is in the way of
join_free : (ds : List Delegation) (owner : OpenOwner) (share : Share) (o : OpenState) → IsFalse (has_conflict (uses.Open owner.client share) ds)
    → is_of owner o ≡ true → IsFree ds o → IsFree ds (after_open share o)
join_free ds owner share o clear mine free =
    ap (λ s. has_conflict (uses.Open o.owner.client s) ds) (union_of-with_share share o.shares)
    ∙ has_conflict-union o.owner.client (share_of o) share ds
    ∙ or_from (has_conflict (uses.Open o.owner.client (share_of o)) ds) (has_conflict (uses.Open o.owner.client share) ds) free
    (ap (λ (owner : OpenOwner). has_conflict (uses.Open owner.client share) ds) (equal_owners o.owner owner mine) ∙ clear)

pub opening_apart : (owner : OpenOwner) (share : Share) (number : ℕ) (opens : List OpenState) (ds : List Delegation) → AreApart opens ds
    → IsFalse (has_conflict (uses.Open owner.client share) ds) → AreApart (with_opening owner share number opens) ds
opening_apart owner share number opens ds apart clear = (
  cond_both (is_some (open_of owner opens)) (with_each (is_of owner) (after_open share) opens) (opens ++ first_open owner share number ∷ []) (AllByRecursion (IsFree ds))
      (λ _. each_free ds (is_of owner) (after_open share) (λ o mine free. join_free ds owner share o clear mine free) opens apart.0)
      (λ _. all_push (IsFree ds) opens (first_open owner share number) apart.0
      (ap (λ s. has_conflict (uses.Open owner.client s) ds) (union-none share) ∙ clear)),
  apart.1,
)

pub advancing_apart : (test : OpenState → Bool) (opens : List OpenState) (ds : List Delegation) → AreApart opens ds → AreApart (with_each test with_next_seqid opens) ds
advancing_apart test opens ds apart = (each_free ds test with_next_seqid (λ o _ free. free) opens apart.0, apart.1)

pub downgrading_apart : (test : OpenState → Bool) (share : Share) (opens : List OpenState) (ds : List Delegation) → AreApart opens ds
    → AreApart (with_each test (after_downgrade share) opens) ds
downgrading_apart test share opens ds apart =
    let step : (o : OpenState) → IsFree ds o → IsFree ds (after_downgrade share o) =
    λ o free.
    let old = share_of o in
    let new = share_of (after_downgrade share o) in
    (or_parts (has_conflict (uses.Open o.owner.client old) ds) (has_conflict (uses.Open o.owner.client new) ds)
    (sym (has_conflict-union o.owner.client old new ds)
    ∙ ap (λ s. has_conflict (uses.Open o.owner.client s) ds) (union-some (contains share) o.shares) ∙ free)).1 in
    (each_free ds test (after_downgrade share) (λ o _ free. step o free) opens apart.0, apart.1)

pub removing_apart : (test : OpenState → Bool) (opens : List OpenState) (ds : List Delegation) → AreApart opens ds → AreApart (without test opens) ds
removing_apart test opens ds apart = (AllByRecursion-filter (IsFree ds) (λ o. not (test o)) opens apart.0, apart.1)

-- A call back changes neither client nor kind.
module _ (file_use : FileUse) (moment : ℕ) where
  abbrev called_back : Delegation → Delegation
  called_back d = cond (conflicts file_use d) (with_recall moment d) d

  back_keeps : (P : Delegation → Type 0) (d : Delegation) → P d → P (record d { recalled = Some moment }) → P (called_back d)
  back_keeps P d same marked =
      cond_both (conflicts file_use d) (with_recall moment d) d P
      (λ _. cond_both (is_none d.recalled) (record d { recalled = Some moment }) d P (λ _. marked) (λ _. same)) (λ _. same)

  back_user : (asked : FileUse) (d : Delegation) → is_of_user asked (record d { recalled = Some moment }) ≡ is_of_user asked d
  back_user (uses.Open client share) d = refl
  back_user (uses.Delegation client kind) d = refl
  back_user (uses.Special modes) d = refl

  back_conflicts : (asked : FileUse) (d : Delegation) → conflicts asked (called_back d) ≡ conflicts asked d
  back_conflicts asked d =
      back_keeps (λ e. conflicts asked e ≡ conflicts asked d) d refl (ap (λ own. not own && is_in_way d.kind asked) (back_user asked d))

  back_same : (asked : FileUse) (ds : List Delegation) → has_conflict asked (map called_back ds) ≡ has_conflict asked ds
  back_same asked [] = refl
  back_same asked (d ∷ ds) = λ i. back_conflicts asked d i || back_same asked ds i

  pub recalling_apart : (opens : List OpenState) (ds : List Delegation) → AreApart opens ds → AreApart opens (with_recalls file_use moment ds)
  recalling_apart opens ds apart =
      let back = map called_back ds in (
        all_weaken (IsFree ds) (IsFree back) (λ o free. back_same (uses.Open o.owner.client (share_of o)) ds ∙ free) opens apart.0,
        all_map (StandsFree back) called_back ds
            (all_weaken (StandsFree ds) (λ d. StandsFree back (called_back d))
            (λ d free. back_keeps (StandsFree back) d (back_same (uses.Delegation d.client d.kind) ds ∙ free) (back_same (uses.Delegation d.client d.kind) ds ∙ free)) ds apart.1),
      )

  pub recalling_single : (ds : List Delegation) → OneEach ds → OneEach (with_recalls file_use moment ds)
  recalling_single [] single = single
  recalling_single (d ∷ ds) single =
      let e = λ (a b : Delegation). is_same_client a.client b.client in
      IsDistinct-cons e (called_back d) (map called_back ds)
      (all_map (λ b. e (called_back d) b ≡ false) called_back ds
      (all_weaken (λ b. e d b ≡ false) (λ b. e (called_back d) (called_back b) ≡ false)
      (λ b other.
      let beside : e d (called_back b) ≡ false = back_keeps (λ x. e d x ≡ false) b other other in
      back_keeps (λ x. e x (called_back b) ≡ false) d beside beside) ds (IsDistinct-head e d ds single)))
      (recalling_single ds (IsDistinct-tail e d ds single))

-- what no element passes, none of those left passes
none_left : (p q : Delegation → Bool) (ds : List Delegation) → list_any p ds ≡ false → list_any p (filter q ds) ≡ false
none_left p q [] none = none
none_left p q (d ∷ ds) none =
    let both = or_parts (p d) (list_any p ds) none in
    cond_both (q d) (d ∷ filter q ds) (filter q ds) (λ xs. list_any p xs ≡ false)
    (λ _. or_from (p d) (list_any p (filter q ds)) both.0 (none_left p q ds both.1)) (λ _. none_left p q ds both.1)

pub returning_apart : (test : Delegation → Bool) (opens : List OpenState) (ds : List Delegation) → AreApart opens ds → AreApart opens (without_lent test ds)
returning_apart test opens ds apart =
    let keep = λ (d : Delegation). not (test d) in
    let left = filter keep ds in (
      all_weaken (IsFree ds) (IsFree left) (λ o free. none_left (conflicts (uses.Open o.owner.client (share_of o))) keep ds free) opens apart.0,
      AllByRecursion-filter (StandsFree left) keep ds
          (all_weaken (StandsFree ds) (StandsFree left) (λ d free. none_left (conflicts (uses.Delegation d.client d.kind)) keep ds free) ds apart.1),
    )

pub returning_single : (test : Delegation → Bool) (ds : List Delegation) → OneEach ds → OneEach (without_lent test ds)
returning_single test ds single = IsDistinct-filter (λ a b. is_same_client a.client b.client) (λ d. not (test d)) ds single

-- Of two delegations either both are in each other's way, or none is.
way_comm : (c e : ClientId) (a b : DelegationKind) → is_in_way a (uses.Delegation e b) ≡ is_in_way b (uses.Delegation c a)
way_comm c e kinds.Write kinds.Write = refl
way_comm c e kinds.Write kinds.Read = refl
way_comm c e kinds.Read kinds.Write = refl
way_comm c e kinds.Read kinds.Read = refl

-- what may be lent
can_parts : (client : ClientId) (kind : DelegationKind) (opens : List OpenState) (ds : List Delegation) → can_delegate client kind opens ds ≡ true
    → IsFalse (bars client kind opens) × IsFalse (has_delegation client ds) × IsFalse (has_conflict (uses.Delegation client kind) ds)
can_parts client kind opens ds can =
    let b = bars client kind opens in
    let h = has_delegation client ds in
    let k = has_conflict (uses.Delegation client kind) ds in
    let last = and_parts (not b && not h) (not k) can in
    let first = and_parts (not b) (not h) last.0 in
    (not-true b first.0, not-true h first.1, not-true k last.1)

-- one more delegation that isn't in the way
free_with : (file_use : FileUse) (ds : List Delegation) (new : Delegation) → has_conflict file_use ds ≡ false
    → conflicts file_use new ≡ false → has_conflict file_use (ds ++ new ∷ []) ≡ false
free_with file_use ds new free clear =
    list_any-append (conflicts file_use) ds (new ∷ [])
    ∙ or_from (has_conflict file_use ds) (conflicts file_use new || false) free (or_from (conflicts file_use new) false clear refl)

pub lending_apart : (client : ClientId) (kind : DelegationKind) (number : ℕ) (opens : List OpenState) (ds : List Delegation) → AreApart opens ds
    → can_delegate client kind opens ds ≡ true → AreApart opens (ds ++ first_delegation client kind number ∷ [])
lending_apart client kind number opens ds apart can =
    let new = first_delegation client kind number in
    let all = ds ++ new ∷ [] in
    let parts = can_parts client kind opens ds can in
    let Unbarred = λ (o : OpenState). (not (is_of_client client o) && is_in_way kind (uses.Open o.owner.client (share_of o))) ≡ false in
    let Clear = λ (d : Delegation). conflicts (uses.Delegation client kind) d ≡ false in (
      all_weaken (λ o. Unbarred o × IsFree ds o) (IsFree all)
          (λ o h. free_with (uses.Open o.owner.client (share_of o)) ds new h.1
          (ap (λ b. not b && is_in_way kind (uses.Open o.owner.client (share_of o))) (same_client_comm client o.owner.client) ∙ h.0)) opens
          (all_both Unbarred (IsFree ds) opens (all_fail (λ o. not (is_of_client client o) && is_in_way kind (uses.Open o.owner.client (share_of o))) opens parts.0) apart.0),
      all_push (StandsFree all) ds new
          (all_weaken (λ d. Clear d × StandsFree ds d) (StandsFree all)
          (λ d h. free_with (uses.Delegation d.client d.kind) ds new h.1
          ((λ i. not (same_client_comm client d.client i) && way_comm client d.client kind d.kind i) ∙ h.0)) ds
          (all_both Clear (StandsFree ds) ds (all_fail (conflicts (uses.Delegation client kind)) ds parts.2) apart.1))
          (free_with (uses.Delegation client kind) ds new parts.2
          (ap (λ b. not b && is_in_way kind (uses.Delegation client kind)) (same_client_self client))),
    )

single_laws : IsEquivalence (λ (a b : Delegation). is_same_client a.client b.client)
single_laws = record {
  refl = λ a. same_client_self a.client;
  symm = λ a b. same_client_comm a.client b.client;
  congr = λ a b c same. ap (λ client. is_same_client client c.client) (equal_clients a.client b.client same);
}

other_way : (client : ClientId) (ds : List Delegation) → list_any (λ d. is_same_client client d.client) ds ≡ has_delegation client ds
other_way client [] = refl
other_way client (d ∷ ds) = λ i. same_client_comm client d.client i || other_way client ds i

pub lending_single : (client : ClientId) (kind : DelegationKind) (number : ℕ) (opens : List OpenState) (ds : List Delegation) → OneEach ds
    → can_delegate client kind opens ds ≡ true → OneEach (ds ++ first_delegation client kind number ∷ [])
lending_single client kind number opens ds single can =
    IsDistinct-push single_laws ds (first_delegation client kind number) single
    (other_way client ds ∙ (can_parts client kind opens ds can).1)
