-- The counts of shares, and what the shares do and deny together.
use Rattle.std.proofs.Common.{◌≡◌, ℕ, suc, ◌+◌, ◌<◌, ◌^◌, Bool, ◌&&◌, ◌||◌, not, cond, nat_lt, List, [], ◌∷◌, length, filter, map, refl, sym, ap, ◌∙◌, arith, false, true}
use Rattle.std.specs.List.{list_any}
use Rattle.std.proofs.lemmas.Bool.{false≢true, lt-ltb}
use Rattle.nfs_share.specs.declared.modes.Modes.{Modes}
use Rattle.nfs_share.specs.declared.share.Share.{Share}
use Rattle.nfs_share.specs.declared.share_counts.ShareCounts.{ShareCounts}
use Rattle.nfs_share.specs.Modes as modes
use Rattle.nfs_share.specs.Share.{conflicts_with, no_share, union}
use Rattle.nfs_share.specs.Shares.{union_of}
use Rattle.nfs_share.specs.ShareCounts.{counts_of, how_many}
use Rattle.nfs_share.proofs.Counting.{SameCounts, how_many_within}
use Rattle.nfs_share.proofs.ShareLaws.{conflicts_with-union, conflicts_with_comm, meets-union}

pub same_counts_of : (shares others : List Share) → SameCounts shares others → counts_of shares ≡ counts_of others
same_counts_of shares others same = λ i. record {
  readers = same (λ s. s.access.read) i;
  writers = same (λ s. s.access.write) i;
  read_deniers = same (λ s. s.deny.read) i;
  write_deniers = same (λ s. s.deny.write) i;
}

some : (b : Bool) (n : ℕ) → nat_lt 0 (cond b (suc n) n) ≡ (b || nat_lt 0 n)
some true n = lt-ltb 0 (suc n) (omega arith)
some false n = refl

-- what the counts say that there is
abbrev pub present : ShareCounts → Share
present c = record {
  access = record { read = nat_lt 0 c.readers; write = nat_lt 0 c.writers };
  deny = record { read = nat_lt 0 c.read_deniers; write = nat_lt 0 c.write_deniers };
}

pub present_is : (shares : List Share) → present (counts_of shares) ≡ union_of shares
present_is [] = refl
present_is (s ∷ shares) =
    let c = counts_of shares in
    (λ i. record {
      access = record { read = some s.access.read c.readers i; write = some s.access.write c.writers i };
      deny = record { read = some s.deny.read c.read_deniers i; write = some s.deny.write c.write_deniers i };
    })
    ∙ ap (union s) (present_is shares)

-- how many fewer there are than numbers
pub bound : (test : Share → Bool) (shares : List Share) (n : ℕ) → n ≡ how_many test shares → length shares + 1 < 2 ^ 64 → n + 1 < 2 ^ 64
bound test shares n is few = omega (arith, is, how_many_within test shares, few)

-- one of them denies the modes where all of them together do
pub denied_by_one : (m : Modes) (shares : List Share) → list_any (λ s. modes.meets s.deny m) shares ≡ modes.meets (union_of shares).deny m
denied_by_one m [] = refl
denied_by_one m (s ∷ shares) =
    ap (λ b. modes.meets s.deny m || b) (denied_by_one m shares) ∙ sym (meets-union s.deny (union_of shares).deny m)

pub conflict_of_one : (a : Share) (shares : List Share) → list_any (conflicts_with a) shares ≡ conflicts_with a (union_of shares)
conflict_of_one a [] = sym (conflicts_with_comm a no_share)
conflict_of_one a (s ∷ shares) =
    ap (λ b. conflicts_with a s || b) (conflict_of_one a shares)
    ∙ (λ i. conflicts_with_comm a s i || conflicts_with_comm a (union_of shares) i)
    ∙ sym (conflicts_with-union s (union_of shares) a)
    ∙ conflicts_with_comm (union s (union_of shares)) a

module _ {X : Type 0} where
  pub any_map : {Y : Type 0} (seen : X → Y) (test : Y → Bool) (xs : List X) → list_any (λ x. test (seen x)) xs ≡ list_any test (map seen xs)
  any_map seen test [] = refl
  any_map seen test (x ∷ xs) = ap (λ b. test (seen x) || b) (any_map seen test xs)

  pub any_alike : (test other : X → Bool) → ((x : X) → test x ≡ other x) → (xs : List X) → list_any test xs ≡ list_any other xs
  any_alike test other same [] = refl
  any_alike test other same (x ∷ xs) = λ i. same x i || any_alike test other same xs i

  -- one that fails the first test and passes the second is one of those that fail the first
  pub any_without : (first second : X → Bool) (xs : List X) → list_any (λ x. not (first x) && second x) xs ≡ list_any second (filter (λ x. not (first x)) xs)
  any_without first second [] = refl
  any_without first second (x ∷ xs) = by (first x) (any_without first second xs)
    where
      by : (b : Bool) → list_any (λ x. not (first x) && second x) xs ≡ list_any second (filter (λ x. not (first x)) xs)
          → ((not b && second x) || list_any (λ x. not (first x) && second x) xs) ≡ list_any second (cond (not b) (x ∷ filter (λ x. not (first x)) xs) (filter (λ x. not (first x)) xs))
      by true rest = rest
      by false rest = ap (λ c. second x || c) rest

  -- where none passes the second test, none passes both
  pub none_of_both : (first second : X → Bool) (xs : List X) → list_any second xs ≡ false → list_any (λ x. first x && second x) xs ≡ false
  none_of_both first second [] none = refl
  none_of_both first second (x ∷ xs) none = by (first x) (second x) none (none_of_both first second xs)
    where
      by : (a b : Bool) → (b || list_any second xs) ≡ false → (list_any second xs ≡ false → list_any (λ x. first x && second x) xs ≡ false) → ((a && b) || list_any (λ x. first x && second x) xs) ≡ false
      by a true none rest = absurd (false≢true (sym none))
      by true false none rest = rest none
      by false false none rest = rest none
