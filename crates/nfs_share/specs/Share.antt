-- A share reservation: the access of an OPEN, and what it denies to others (RFC 7530, section 9.9).
use Rattle.std.specs.Prelude.{ℕ, ◌==◌, Bool, ◌&&◌, ◌||◌, false, Option, Some, None, if◌then◌else◌}
use Rattle.nfs_share.specs.declared.modes.Modes.{Modes}
use Rattle.nfs_share.specs.declared.share.Share.{Share}
use Rattle.nfs_share.specs.Modes as modes
use Rattle.nfs_share.specs.Modes.{modes_of_number}

-- One may do what the other denies: ((request.access & file_state.deny) || (request.deny & file_state.access)).
abbrev pub conflicts_with : Share → Share → Bool
conflicts_with a b = modes.meets a.access b.deny || modes.meets a.deny b.access

-- b has no access that a hasn't, and denies nothing that a doesn't deny
abbrev pub contains : Share → Share → Bool
contains a b = modes.contains a.access b.access && modes.contains a.deny b.deny

-- the access of both, with the denials of both
abbrev pub union : Share → Share → Share
union a b = record { access = modes.union a.access b.access; deny = modes.union a.deny b.deny }

-- no access, and nothing denied
abbrev pub no_share : Share
no_share = record {
  access = record { read = false; write = false };
  deny = record { read = false; write = false };
}

-- the two are the same
abbrev pub is_same : Share → Share → Bool
is_same a b = modes.is_same a.access b.access && modes.is_same a.deny b.deny

abbrev pub share_from : Option Modes → Option Modes → Option Share
share_from None deny = None
share_from (Some access) None = None
share_from (Some access) (Some deny) = Some (record { access = access; deny = deny })

-- the share that these numbers for share_access and share_deny stand for; the access has at least one mode (section
-- 16.16.5)
abbrev pub share_of_numbers : ℕ → ℕ → Option Share
share_of_numbers access deny =
    if access == 0 then None else share_from (modes_of_number access) (modes_of_number deny)
