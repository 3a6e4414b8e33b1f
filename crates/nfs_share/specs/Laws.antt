-- What holds of the opens and the delegations of a file at all times.
use Rattle.std.specs.Prelude.{Bool, ◌||◌, not, List, IsFalse, IsTrue}
use Rattle.std.specs.List.{AllByRecursion, IsDistinct}
use Rattle.nfs_forms.specs.ClientId.{is_same_client}
use Rattle.nfs_share.specs.Delegations.{has_conflict}
use Rattle.nfs_share.specs.declared.delegation.Delegation.{Delegation}
use Rattle.nfs_share.specs.declared.delegation.FileUse.TheVariants as uses
use Rattle.nfs_share.specs.declared.open_state.OpenState.{OpenState}
use Rattle.nfs_share.specs.Opens.{is_of, share_of}
use Rattle.nfs_share.specs.Share.{conflicts_with}

-- One owner has both opens, or neither may do what the other denies (RFC 7530, section 9.9).
abbrev pub are_compatible : OpenState → OpenState → Bool
are_compatible a b = is_of a.owner b || not (conflicts_with (share_of a) (share_of b))

-- each two opens are compatible
abbrev pub AllAreCompatible : List OpenState → Type 0
AllAreCompatible opens =
    AllByRecursion (λ a. AllByRecursion (λ b. IsTrue (are_compatible a b)) opens) opens

-- No delegation is in the way of an open of another client, nor of a delegation of another client.
abbrev pub AreApart : List OpenState → List Delegation → Type 0
AreApart opens ds =
    AllByRecursion (λ o. IsFalse (has_conflict (uses.Open o.owner.client (share_of o)) ds)) opens
    × AllByRecursion (λ d. IsFalse (has_conflict (uses.Delegation d.client d.kind) ds)) ds

-- no client has two of the delegations
abbrev pub OneEach : List Delegation → Type 0
OneEach ds = IsDistinct (λ a b. is_same_client a.client b.client) ds
