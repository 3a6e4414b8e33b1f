-- Of some shares, how many have each mode of access, and how many deny it.
use Rattle.std.specs.Prelude.{ℕ, suc, Bool, if◌then◌else◌, List, [], ◌∷◌}
use Rattle.nfs_share.specs.declared.share.Share.{Share}
use Rattle.nfs_share.specs.declared.share_counts.ShareCounts.{ShareCounts}

-- how many of them pass the test
abbrev pub how_many : {X : Type 0} → (X → Bool) → List X → ℕ
how_many test [] = 0
how_many test (x ∷ xs) = if test x then suc (how_many test xs) else how_many test xs

abbrev pub counts_of : List Share → ShareCounts
counts_of shares = record {
  readers = how_many (λ s. s.access.read) shares;
  writers = how_many (λ s. s.access.write) shares;
  read_deniers = how_many (λ s. s.deny.read) shares;
  write_deniers = how_many (λ s. s.deny.write) shares;
}
