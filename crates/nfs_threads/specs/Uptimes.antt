-- The clock of a connection.
use Rattle.std.specs.Prelude.{◌≡◌, ℕ, ◌≤◌}
use Rattle.nfs_threads.specs.declared.uptime.Uptime.{Uptime}

-- the moment isn't before the one that was shown last, and is the one that was shown last now
abbrev pub GoesOn : {R : Type 0} → Uptime R → ℕ → Uptime R → Type 0
GoesOn old moment new = (old.last ≤ moment) × (new ≡ record old { last = moment })
