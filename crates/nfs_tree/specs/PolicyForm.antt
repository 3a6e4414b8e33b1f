-- The choices of a tree's document, in a journal's file.
use Rattle.std.specs.Prelude.{◌≡◌, ℕ, [], ◌∷◌, Some, ◌==◌, List}
use Rattle.std.proofs.Common.{refl}
use Rattle.std.specs.List.{find}
use Rattle.nfs_tree.specs.declared.policy.Callbacks.{Callbacks}
use Rattle.nfs_tree.specs.declared.policy.Callbacks.TheVariants as callback
use Rattle.nfs_tree.specs.declared.policy.CloseLocks.{CloseLocks}
use Rattle.nfs_tree.specs.declared.policy.CloseLocks.TheVariants as locks
use Rattle.nfs_tree.specs.declared.policy.Delegations.{Delegations}
use Rattle.nfs_tree.specs.declared.policy.Delegations.TheVariants as delegation
use Rattle.xdr.specs.Form.{Form, enumeration}

-- enum { none = 0, read = 1, all = 2 }
abbrev pub number_of_delegations : Delegations → ℕ
number_of_delegations delegation.None = 0
number_of_delegations delegation.Read = 1
number_of_delegations delegation.All = 2

abbrev pub all_delegations : List Delegations
all_delegations = delegation.None ∷ delegation.Read ∷ delegation.All ∷ []

pub known_delegations : (d : Delegations)
    → find (λ v. number_of_delegations v == number_of_delegations d) all_delegations ≡ Some d
known_delegations delegation.None = refl
known_delegations d = refl

unfoldable pub delegations : Form Delegations
delegations = enumeration number_of_delegations all_delegations known_delegations

-- enum { probe = 0, assume = 1 }
abbrev pub number_of_callbacks : Callbacks → ℕ
number_of_callbacks callback.Probe = 0
number_of_callbacks callback.Assume = 1

abbrev pub all_callbacks : List Callbacks
all_callbacks = callback.Probe ∷ callback.Assume ∷ []

pub known_callbacks : (c : Callbacks)
    → find (λ v. number_of_callbacks v == number_of_callbacks c) all_callbacks ≡ Some c
known_callbacks callback.Probe = refl
known_callbacks c = refl

unfoldable pub callbacks : Form Callbacks
callbacks = enumeration number_of_callbacks all_callbacks known_callbacks

-- enum { free = 0, refuse = 1 }
abbrev pub number_of_close_locks : CloseLocks → ℕ
number_of_close_locks locks.Free = 0
number_of_close_locks locks.Refuse = 1

abbrev pub all_close_locks : List CloseLocks
all_close_locks = locks.Free ∷ locks.Refuse ∷ []

pub known_close_locks : (c : CloseLocks)
    → find (λ v. number_of_close_locks v == number_of_close_locks c) all_close_locks ≡ Some c
known_close_locks locks.Free = refl
known_close_locks c = refl

unfoldable pub close_locks : Form CloseLocks
close_locks = enumeration number_of_close_locks all_close_locks known_close_locks
