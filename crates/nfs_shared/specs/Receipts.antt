-- Receipts: what callers hold for the entries of the journal that their calls made.
use Rattle.std.specs.Prelude.{◌≡◌, ℕ, ◌<◌, List, filter, is_none, length, map, Option, Some, option_map, slice_get}
use Rattle.std.specs.List.{enumerate_from, filter_map, zip}
use Rattle.nfs_shared.specs.declared.receipt.Receipt.{Receipt}
use Rattle.nfs_state.specs.Entries.{call_of}
use Rattle.nfs_state.specs.declared.entry.Call.{Call}
use Rattle.nfs_state.specs.declared.entry.Entry.{Entry}

-- how many of the entries are calls
abbrev pub calls_in : List Entry → ℕ
calls_in entries = length (filter_map call_of entries)

-- how many of the entries are no calls: sweeps and marks of paths make such, and nothing else
abbrev pub others_in : List Entry → ℕ
others_in entries = length (filter (λ e. is_none (call_of e)) entries)

-- the call of a numbered entry, if it records one, beside its number
abbrev pub numbered_call : ℕ × Entry → Option (ℕ × Call)
numbered_call entry = option_map (λ call. (entry.0, call)) (call_of entry.1)

-- the calls among these entries, of which the first has this number, each beside its number
abbrev pub numbered_calls : ℕ → List Entry → List (ℕ × Call)
numbered_calls number entries = filter_map numbered_call (enumerate_from number entries)

-- the receipt for a numbered call, beside the place of the seat that the call was made with
abbrev pub receipt_of : ℕ × (ℕ × Call) → Receipt
receipt_of given = record { place = given.0; number = given.1.0; call = given.1.1 }

-- The receipts for the calls among these entries, of which the first has this number. The places are those of the seats
-- that the calls were made with, one for each call, in order.
abbrev pub receipts_of : ℕ → List Entry → List ℕ → List Receipt
receipts_of number entries places = map receipt_of (zip places (numbered_calls number entries))

-- the number is above those of all these receipts
abbrev pub IsAbove : ℕ → List Receipt → Type 0
IsAbove number receipts =
    (k : ℕ) (r : Receipt) → slice_get receipts k ≡ Some r → r.number < number
