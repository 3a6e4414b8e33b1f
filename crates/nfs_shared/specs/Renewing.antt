-- What a renewal by a seat adds to what the seat knows of leases.
use Rattle.std.specs.Prelude.{◌≡◌, ℕ, Bool, false, Option, Some, None}
use Rattle.nfs_leases.specs.BookEvent.{is_renewed}
use Rattle.nfs_leases.specs.declared.renewal.Renewal.{Renewal}
use Rattle.nfs_words.specs.Calls.{Renews}
use Rattle.nfs_words.specs.Sitting.{Sitting}

-- The seat gains just the events of one renewal of the lease of the client with this number, with this answer, whether
-- the lease is open or not. Where there is no number, it gains none, and there is no answer.
abbrev pub RenewsAs : Option ℕ → ℕ → Option Renewal → Sitting → Sitting → Type 0
RenewsAs None moment answer old new = (answer ≡ None) × (new ≡ old)
RenewsAs (Some client) moment None old new = ⊥
RenewsAs (Some client) moment (Some answer) old new = Renews old client moment answer new

-- The seat gains just the events of one renewal of the lease of the client with this number, whatever the answer.
abbrev pub RenewsFor : Option ℕ → ℕ → Sitting → Sitting → Type 0
RenewsFor number moment old new = (answer : Option Renewal) × RenewsAs number moment answer old new

-- there is an answer, and it says that the lease was renewed
abbrev pub was_renewed : Option Renewal → Bool
was_renewed None = false
was_renewed (Some answer) = is_renewed answer
