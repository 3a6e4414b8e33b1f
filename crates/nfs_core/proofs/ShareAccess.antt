-- Numbers for share_access and share_deny that are a share give it access.
use Rattle.std.proofs.Common.{◌≡◌, ℕ, Bool, true, false, Option, Some, None, Ok, refl, ap, ◌∙◌, subst}
use Rattle.std.specs.Prelude.{◌==◌, if◌then◌else◌}
use Rattle.nfs_core.specs.Safe.{HasAccess}
use Rattle.nfs_core.proofs.SoundSequences.{some_equal}
use Rattle.nfs_core.proofs.SoundTargets.{ok_equal}
use Rattle.nfs_rules.specs.operations.Open as opening
use Rattle.nfs_share.specs.Modes.{modes, modes_of_number}
use Rattle.nfs_share.specs.Share.{share_from, share_of_numbers}
use Rattle.nfs_share.specs.declared.modes.Modes.{Modes}
use Rattle.nfs_share.specs.declared.share.Share.{Share}

with_access : (zero one two three : Bool) (deny : Option Modes) (share : Share)
    → (if zero then None else share_from (if zero then Some (modes false false) else if one then Some (modes true false) else if two then Some (modes false true) else if three then Some (modes true true) else None) deny) ≡ Some share
    → HasAccess share
with_access true one two three deny share is = absurd cc
with_access false true two three None share is = absurd cc
with_access false false true three None share is = absurd cc
with_access false false false true None share is = absurd cc
with_access false false false false None share is = absurd cc
with_access false true two three (Some deny) share is = subst HasAccess (some_equal (record { access = modes true false; deny = deny }) share is) refl
with_access false false true three (Some deny) share is = subst HasAccess (some_equal (record { access = modes false true; deny = deny }) share is) refl
with_access false false false true (Some deny) share is = subst HasAccess (some_equal (record { access = modes true true; deny = deny }) share is) refl
with_access false false false false (Some deny) share is = absurd cc

-- an OPEN's numbers that aren't NFS4ERR_INVAL
pub valid_access : (access deny : ℕ) (found : Option Share) (share : Share) → share_of_numbers access deny ≡ found → opening.share_or_inval found ≡ Ok share → HasAccess share
valid_access access deny None share of is = absurd cc
valid_access access deny (Some found) share of is =
    with_access (access == 0) (access == 1) (access == 2) (access == 3) (modes_of_number deny) share (of ∙ ap (λ x. Some x) (ok_equal found share is))
