-- Reading and writing: what an OPEN may do, or what it denies to others (RFC 7530, section 9.9).
use Rattle.std.specs.Prelude.{ℕ, ◌==◌, Bool, true, false, ◌&&◌, ◌||◌, not, Option, Some, None, if◌then◌else◌}
use Rattle.std.specs.Bool.{beq}
use Rattle.nfs_share.specs.declared.modes.Modes.{Modes}

abbrev pub modes : Bool → Bool → Modes
modes reads writes = record { read = reads; write = writes }

-- The modes that a number stands for in share_access and share_deny: none for 0, READ for 1, WRITE for 2, BOTH for 3
-- (RFC 7531).
abbrev pub modes_of_number : ℕ → Option Modes
modes_of_number n =
    if n == 0 then Some (modes false false)
    else if n == 1 then Some (modes true false)
    else if n == 2 then Some (modes false true)
    else if n == 3 then Some (modes true true)
    else None

-- a mode is in both
abbrev pub meets : Modes → Modes → Bool
meets a b = (a.read && b.read) || (a.write && b.write)

-- each mode of b is in a
abbrev pub contains : Modes → Modes → Bool
contains a b = (a.read || not b.read) && (a.write || not b.write)

-- the modes that are in one of the two
abbrev pub union : Modes → Modes → Modes
union a b = record { read = a.read || b.read; write = a.write || b.write }

-- the two are the same
abbrev pub is_same : Modes → Modes → Bool
is_same a b = beq a.read b.read && beq a.write b.write
