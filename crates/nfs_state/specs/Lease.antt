-- The lease of a client (RFC 7530, section 9.5).
use Rattle.std.specs.Prelude.{ℕ, ◌+◌, Bool, nat_lt}

-- the lease is over: it lasts so many seconds from when it was renewed last
abbrev pub is_over : ℕ → ℕ → ℕ → Bool
is_over seen lease now = nat_lt (seen + lease) now
