-- Errors of a file's opens and delegations.
use Rattle.std.specs.Prelude.{ℕ, ◌≡◌, ◌⊎◌, ⊤, List, filter, None, IsFalse, IsTrue}
use Rattle.nfs_forms.specs.declared.client_id.ClientId.{ClientId}
use Rattle.nfs_forms.specs.declared.open_owner.OpenOwner.{OpenOwner}
use Rattle.nfs_share.specs.Delegations.{bars, conflicts, has_conflict, has_delegation}
use Rattle.nfs_share.specs.Opens.{FileOpens, is_refused, open_of}
use Rattle.nfs_share.specs.declared.delegation.Delegation.{Delegation}
use Rattle.nfs_share.specs.declared.delegation.DelegationKind.{DelegationKind}
use Rattle.nfs_share.specs.declared.delegation.FileUse.TheVariants as uses
use Rattle.nfs_share.specs.declared.share.Share.{Share}
use Rattle.nfs_share.specs.declared.share_error.ShareError.{ShareError}
use Rattle.nfs_share.specs.declared.share_error.ShareError.TheVariants as errors

-- the number of an error
abbrev pub number_of : ShareError → ℕ
number_of errors.Denied = 1
number_of errors.Invalid = 2
number_of (errors.Held held) = 3
number_of errors.Memory = 4

-- These delegations are in the way; or there is no memory for the list of them.
abbrev pub IsHeldFor : List Delegation → ShareError → Type 0
IsHeldFor ds errors.Denied = ⊥
IsHeldFor ds errors.Invalid = ⊥
IsHeldFor ds (errors.Held held) = held.items ≡ ds
IsHeldFor ds errors.Memory = ⊤

-- When each error answers the OPEN of an owner: an open of another owner conflicts with the share; or else a delegation
-- is in its way, and the error has all that are; or there is no memory for the list of these, or for a new open.
abbrev pub IsWhyNotOpened : OpenOwner → Share → FileOpens → ShareError → Type 0
IsWhyNotOpened owner share file errors.Denied = IsTrue (is_refused owner share file.opens)
IsWhyNotOpened owner share file errors.Invalid = ⊥
IsWhyNotOpened owner share file (errors.Held held) = IsFalse (is_refused owner share file.opens)
    × IsTrue (has_conflict (uses.Open owner.client share) file.delegations)
    × (held.items ≡ filter (conflicts (uses.Open owner.client share)) file.delegations)
IsWhyNotOpened owner share file errors.Memory = IsFalse (is_refused owner share file.opens)
    × (IsTrue (has_conflict (uses.Open owner.client share) file.delegations)
    ⊎ ((file.room ≡ 0) × (open_of owner file.opens ≡ None)))

-- When each error answers that a client asks for a delegation: it would be in the way of another client's open; or else
-- the client has a delegation of the file; or else a delegation is in its way, and the error has all that are; or there
-- is no memory for the list of these, or for one more.
abbrev pub IsWhyNotLent : ClientId → DelegationKind → FileOpens → ShareError → Type 0
IsWhyNotLent client kind file errors.Denied = IsTrue (bars client kind file.opens)
IsWhyNotLent client kind file errors.Invalid = IsFalse (bars client kind file.opens)
    × IsTrue (has_delegation client file.delegations)
IsWhyNotLent client kind file (errors.Held held) = IsFalse (bars client kind file.opens)
    × IsFalse (has_delegation client file.delegations)
    × IsTrue (has_conflict (uses.Delegation client kind) file.delegations)
    × (held.items ≡ filter (conflicts (uses.Delegation client kind)) file.delegations)
IsWhyNotLent client kind file errors.Memory = IsFalse (bars client kind file.opens)
    × IsFalse (has_delegation client file.delegations)
    × (IsTrue (has_conflict (uses.Delegation client kind) file.delegations)
    ⊎ (file.lending_room ≡ 0))
