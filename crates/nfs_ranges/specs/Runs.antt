-- Runs: the longest stretches of bytes that are held in one mode. The limit counts them; a refused lock is answered
-- with one (RFC 7530, sections 16.10 and 16.11).
use Rattle.std.specs.Prelude.{ℕ, zero, suc, ◌+◌, ◌-◌, ◌^◌, ◌==◌, Bool, ◌&&◌, ◌||◌, not, Option, is_some, if◌then◌else◌}
use Rattle.nfs_ranges.specs.Modes.{is_same}
use Rattle.nfs_ranges.specs.declared.mode.Mode.{Mode}

-- A run begins at a byte that is held, if it is byte 0 or the byte before has another mode.
abbrev pub begins : (ℕ → Option Mode) → ℕ → Bool
begins modes byte =
    is_some (modes byte) && (byte == 0 || not (is_same (modes byte) (modes (byte - 1))))

-- how many numbers below this one pass a test
unfoldable pub count_below : (ℕ → Bool) → ℕ → ℕ
count_below test zero = 0
count_below test (suc n) = (if test n then 1 else 0) + count_below test n

-- how many runs there are
abbrev pub runs : (ℕ → Option Mode) → ℕ
runs modes = count_below (begins modes) (2 ^ 64)
