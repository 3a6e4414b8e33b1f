-- A moment in a journal's file: a number of seconds below 2^40 - 2.
use Rattle.std.specs.Prelude.{◌≡◌, ℕ, ◌-◌, ◌^◌, nat_lt, Bool, true, false, Option, Some, None, if◌then◌else◌}
use Rattle.xdr.specs.Form.{Form, some_of, u64}

-- the moment with this number of seconds, if it is below 2^40 - 2
abbrev pub moment_of : ℕ → Option ℕ
moment_of seconds = if nat_lt seconds (2 ^ 40 - 2) then Some seconds else None

abbrev if_small : Bool → ℕ → Option ℕ
if_small small n = if small then Some n else None

some_is : (b : Bool) (n m : ℕ) → if_small b n ≡ Some m → m ≡ n
some_is true n m h = cc
some_is false n m h = cc

pub moment_back : (n m : ℕ) → moment_of n ≡ Some m → m ≡ n
moment_back n m h = some_is (nat_lt n (2 ^ 40 - 2)) n m h

-- u64 seconds
unfoldable pub moment : Form ℕ
moment = some_of moment_of (λ m. m) moment_back u64
