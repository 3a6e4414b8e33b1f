-- What waits to be written of a journal that grows.
use Rattle.std.specs.Prelude.{◌≡◌, ◌⊎◌, ℕ, ◌+◌, ◌-◌, ◌^◌, ◌<◌, ◌≤◌, Bool, true, false, List, ◌++◌, length, take, drop, Some, Result, Ok, Err, slice_get, vec_capacity}
use Rattle.std.specs.List.{flat_map}
use Rattle.nfs_program.specs.declared.backlog.Backlog.{Backlog}
use Rattle.nfs_state.specs.EntryForm.{entry}
use Rattle.nfs_state.specs.declared.entry.Entry.{Entry}
use Rattle.xdr.specs.declared.wire_error.WireError.{WireError}

-- Of these entries those from the ones that were taken before up to the ones that are taken now wait behind the bytes
-- that waited, whole and in order.
abbrev pub TakesTo : Backlog → Backlog → List Entry → Type 0
TakesTo old new entries =
    (old.count ≤ new.count)
    × (new.bytes.items
    ≡ old.bytes.items ++ flat_map entry.encoding (take (new.count - old.count) (drop old.count entries)))

-- The entry has no form, or a buffer of this capacity has no room for it behind so many bytes.
abbrev pub HasNoPlace : ℕ → ℕ → Entry → Type 0
HasNoPlace capacity len e = ¬ (entry.Fits e) ⊎ (capacity < len + length (entry.encoding e))

-- The first entry that wasn't taken has no form, or a buffer of this capacity has no room for it after the bytes that
-- wait.
abbrev pub HasNoPlaceAt : ℕ → Backlog → List Entry → Type 0
HasNoPlaceAt capacity backlog entries =
    (e : Entry) × (slice_get entries backlog.count ≡ Some e)
    × HasNoPlace capacity (length backlog.bytes.items) e

-- What became of an entry that was to be put behind the bytes that wait. It was: no more than `most` wait then. It
-- wasn't, since there would be more; or since it has no place: nothing changed.
abbrev pub Puts : Backlog → Entry → ℕ → Result Bool WireError → Backlog → Type 0
Puts old e most (Ok true) new =
    (new.bytes.items ≡ old.bytes.items ++ entry.encoding e) × (new.count ≡ old.count + 1)
    × (length new.bytes.items ≤ most) × (vec_capacity old.bytes ≤ vec_capacity new.bytes)
Puts old e most (Ok false) new =
    (new.bytes.items ≡ old.bytes.items) × (new.count ≡ old.count) × (most < 2 ^ 64 - 1)
Puts old e most (Err error) new =
    (new.bytes.items ≡ old.bytes.items) × (new.count ≡ old.count)
    × HasNoPlace (vec_capacity old.bytes) (length old.bytes.items) e
