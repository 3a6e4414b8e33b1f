-- Laws of shares: union is associative, the order of containment, and that there are 16 of them.
use Rattle.std.proofs.Common.{◌≡◌, ◌≤◌, Bool, true, false, ◌&&◌, ◌||◌, not, List, [], ◌∷◌, length, refl, sym, ◌∙◌, ap}
use Rattle.std.proofs.Math.Bool.{or_assoc, or_comm, and_comm}
use Rattle.std.proofs.lemmas.Bool.{and_parts, and_from}
use Rattle.std.specs.List.{IsDistinct, list_any, flat_map}
use Rattle.std.specs.Cmp.{IsEquivalence, bool_eq_equiv, booleans_Decides}
use Rattle.std.specs.Bool.{beq}
use Rattle.std.proofs.lemmas.Map.Made.{length-le_from_is_member}
use Rattle.nfs_share.specs.declared.modes.Modes.{Modes}
use Rattle.nfs_share.specs.declared.share.Share.{Share}
use Rattle.nfs_share.specs.Modes as modes
use Rattle.nfs_share.specs.Share.{conflicts_with, contains, is_same, no_share, union}

pub union_assoc : (a b c : Share) → union (union a b) c ≡ union a (union b c)
union_assoc a b c = simp or_assoc

or_none : (x : Bool) → (x || false) ≡ x
or_none true = refl
or_none false = refl

pub union-none : (a : Share) → union a no_share ≡ a
union-none a = simp or_none

or_self : (x : Bool) → (x || x) ≡ x
or_self true = refl
or_self false = refl

pub union_comm : (a b : Share) → union a b ≡ union b a
union_comm a b =
    λ i. record {
      access = record { read = or_comm a.access.read b.access.read i; write = or_comm a.access.write b.access.write i };
      deny = record { read = or_comm a.deny.read b.deny.read i; write = or_comm a.deny.write b.deny.write i };
    }

pub union-self : (a : Share) → union a a ≡ a
union-self a = simp or_self

-- A share contains another exactly if their union is the share itself.
absorbs_bit : (x y : Bool) → (x || not y) ≡ true → (x || y) ≡ x
absorbs_bit true y h = refl
absorbs_bit false true h = sym h
absorbs_bit false false h = refl

covers_bit : (x y : Bool) → (x || y) ≡ x → (x || not y) ≡ true
covers_bit true y h = refl
covers_bit false true h = sym h
covers_bit false false h = refl

modes_absorb : (a b : Modes) → modes.contains a b ≡ true → modes.union a b ≡ a
modes_absorb a b h =
    let each = and_parts (a.read || not b.read) (a.write || not b.write) h in
    let read = absorbs_bit a.read b.read each.0 in
    let write = absorbs_bit a.write b.write each.1 in
    λ i. record { read = read i; write = write i }

pub union-contains : (a b : Share) → contains a b ≡ true → union a b ≡ a
union-contains a b h =
    let each = and_parts (modes.contains a.access b.access) (modes.contains a.deny b.deny) h in
    let access = modes_absorb a.access b.access each.0 in
    let deny = modes_absorb a.deny b.deny each.1 in
    λ i. record { access = access i; deny = deny i }

modes_cover : (a b : Modes) → modes.union a b ≡ a → modes.contains a b ≡ true
modes_cover a b h =
    and_from (a.read || not b.read) (a.write || not b.write)
    (covers_bit a.read b.read (ap (λ (m : Modes). m.read) h))
    (covers_bit a.write b.write (ap (λ (m : Modes). m.write) h))

pub contains_from_union : (a b : Share) → union a b ≡ a → contains a b ≡ true
contains_from_union a b h =
    and_from (modes.contains a.access b.access) (modes.contains a.deny b.deny)
    (modes_cover a.access b.access (ap (λ (s : Share). s.access) h))
    (modes_cover a.deny b.deny (ap (λ (s : Share). s.deny) h))

-- a part of a union adds nothing to it
pub union-part : (a b : Share) → union (union a b) a ≡ union a b
union-part a b =
    union_comm (union a b) a ∙ sym (union_assoc a a b) ∙ ap (λ x. union x b) (union-self a)

-- what contains a union contains its parts
pub part_absorbed : (s a b : Share) → union s (union a b) ≡ s → union s a ≡ s
part_absorbed s a b h =
    ap (λ x. union x a) (sym h) ∙ union_assoc s (union a b) a ∙ ap (union s) (union-part a b) ∙ h

pub rest_absorbed : (s a b : Share) → union s (union a b) ≡ s → union s b ≡ s
rest_absorbed s a b h = part_absorbed s b a (ap (union s) (union_comm b a) ∙ h)

equal_modes : (a b : Modes) → modes.is_same a b ≡ true → a ≡ b
equal_modes a b same =
    let each = and_parts (beq a.read b.read) (beq a.write b.write) same in
    let read = (booleans_Decides a.read b.read).0 each.0 in
    let write = (booleans_Decides a.write b.write).0 each.1 in
    λ i. record { read = read i; write = write i }

pub equal_from_is_same : (a b : Share) → is_same a b ≡ true → a ≡ b
equal_from_is_same a b same =
    let each = and_parts (modes.is_same a.access b.access) (modes.is_same a.deny b.deny) same in
    let access = equal_modes a.access b.access each.0 in
    let deny = equal_modes a.deny b.deny each.1 in
    λ i. record { access = access i; deny = deny i }

modes_same : (a : Modes) → modes.is_same a a ≡ true
modes_same a =
    and_from (beq a.read a.read) (beq a.write a.write) ((booleans_Decides a.read a.read).1 refl) ((booleans_Decides a.write a.write).1 refl)

pub is_same_self : (a : Share) → is_same a a ≡ true
is_same_self a =
    and_from (modes.is_same a.access a.access) (modes.is_same a.deny a.deny) (modes_same a.access) (modes_same a.deny)

same_both_ways : (a b : Share) → is_same a b ≡ is_same b a
same_both_ways a b =
    λ i. (bool_eq_equiv.symm a.access.read b.access.read i && bool_eq_equiv.symm a.access.write b.access.write i)
    && (bool_eq_equiv.symm a.deny.read b.deny.read i && bool_eq_equiv.symm a.deny.write b.deny.write i)

pub is_same_laws : IsEquivalence is_same
is_same_laws = record {
  refl = is_same_self;
  symm = same_both_ways;
  congr = λ a b c same. ap (λ s. is_same s c) (equal_from_is_same a b same);
}

-- all shares
abbrev all_shares : List Share
all_shares =
    flat_map (λ ar. flat_map (λ aw. flat_map (λ dr. flat_map (λ dw.
    record {
      access = record { read = ar; write = aw };
      deny = record { read = dr; write = dw };
    } ∷ [])
    (true ∷ false ∷ [])) (true ∷ false ∷ [])) (true ∷ false ∷ [])) (true ∷ false ∷ [])

-- a test of both bits
abbrev both : (Bool → Bool) → Bool
both test = test true && test false

at_both : (test : Bool → Bool) → both test ≡ true → (x : Bool) → test x ≡ true
at_both test h true = (and_parts (test true) (test false) h).0
at_both test h false = (and_parts (test true) (test false) h).1

abbrev is_there : Bool → Bool → Bool → Bool → Bool
is_there ar aw dr dw =
    list_any (is_same (record {
      access = record { read = ar; write = aw };
      deny = record { read = dr; write = dw };
    })) all_shares

is_there_always : (ar aw dr dw : Bool) → is_there ar aw dr dw ≡ true
is_there_always ar aw dr dw =
    at_both (λ w. is_there ar aw dr w)
    (at_both (λ z. both (λ w. is_there ar aw z w))
    (at_both (λ y. both (λ z. both (λ w. is_there ar y z w)))
    (at_both (λ x. both (λ y. both (λ z. both (λ w. is_there x y z w)))) refl ar) aw) dr) dw

-- a list without repetition has at most 16 shares
pub distinct_length : (shares : List Share) → IsDistinct is_same shares → length shares ≤ 16
distinct_length shares distinct =
    length-le_from_is_member is_same_laws shares all_shares distinct
    (λ s _. is_there_always s.access.read s.access.write s.deny.read s.deny.write)

-- Conflicts of a union.
pub or_swap : (p q r s : Bool) → ((p || q) || (r || s)) ≡ ((p || r) || (q || s))
or_swap true q r s = refl
or_swap false true true s = refl
or_swap false true false s = refl
or_swap false false true s = refl
or_swap false false false s = refl

and_of_or : (x y z : Bool) → ((x || y) && z) ≡ ((x && z) || (y && z))
and_of_or true y true = refl
and_of_or true true false = refl
and_of_or true false false = refl
and_of_or false y z = refl

meets_comm : (a b : Modes) → modes.meets a b ≡ modes.meets b a
meets_comm a b =
    λ i. and_comm a.read b.read i || and_comm a.write b.write i

pub meets-union : (a b c : Modes) → modes.meets (modes.union a b) c ≡ (modes.meets a c || modes.meets b c)
meets-union a b c =
    (λ i. and_of_or a.read b.read c.read i || and_of_or a.write b.write c.write i)
    ∙ or_swap (a.read && c.read) (b.read && c.read) (a.write && c.write) (b.write && c.write)

pub conflicts_with_comm : (a b : Share) → conflicts_with a b ≡ conflicts_with b a
conflicts_with_comm a b =
    (λ i. meets_comm a.access b.deny i || meets_comm a.deny b.access i)
    ∙ or_comm (modes.meets b.deny a.access) (modes.meets b.access a.deny)

pub conflicts_with-union : (a b c : Share) → conflicts_with (union a b) c ≡ (conflicts_with a c || conflicts_with b c)
conflicts_with-union a b c =
    (λ i. meets-union a.access b.access c.deny i || meets-union a.deny b.deny c.access i)
    ∙ or_swap (modes.meets a.access c.deny) (modes.meets b.access c.deny) (modes.meets a.deny c.access) (modes.meets b.deny c.access)
