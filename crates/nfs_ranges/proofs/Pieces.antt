-- Modes that are the same are equal.
use Rattle.std.proofs.Common.{◌≡◌, true, Option, Some, None, refl}
use Rattle.nfs_ranges.specs.Modes.{is_same}
use Rattle.nfs_ranges.specs.declared.mode.Mode.{Mode}
use Rattle.nfs_ranges.specs.declared.mode.Mode.TheVariants.{Read, Write}

-- modes that are the same are equal, and equal ones the same
pub same_self : (mode : Option Mode) → is_same mode mode ≡ true
same_self None = refl
same_self (Some Read) = refl
same_self (Some Write) = refl

pub same_equal : (a b : Option Mode) → is_same a b ≡ true → a ≡ b
same_equal None None same = refl
same_equal None (Some b) same = absurd cc
same_equal (Some a) None same = absurd cc
same_equal (Some Read) (Some Read) same = refl
same_equal (Some Read) (Some Write) same = absurd cc
same_equal (Some Write) (Some Read) same = absurd cc
same_equal (Some Write) (Some Write) same = refl
