-- The shares of the OPENs that an open joins (RFC 7530, section 9.11).
use Rattle.std.specs.Prelude.{◌≡◌, ◌≢◌, Bool, if◌then◌else◌, List, [], ◌∷◌, ◌++◌, filter}
use Rattle.std.specs.List.{list_any}
use Rattle.nfs_share.specs.declared.share.Share.{Share}
use Rattle.nfs_share.specs.Share.{is_same, no_share, union}

-- all their access, with all their denials
abbrev pub union_of : List Share → Share
union_of [] = no_share
union_of (share ∷ shares) = union share (union_of shares)

-- the shares with one more, which no list has twice
abbrev pub with_share : Share → List Share → List Share
with_share share shares = if list_any (is_same share) shares then shares else shares ++ share ∷ []

-- OPEN_DOWNGRADE to a share is allowed if it is the union of some of the shares, of one at least (sections 9.11 and
-- 16.19.5).
abbrev pub IsLawfulDowngrade : List Share → Share → Type 0
IsLawfulDowngrade shares share =
    (picks : Share → Bool) × (filter picks shares ≢ []) × (union_of (filter picks shares) ≡ share)
