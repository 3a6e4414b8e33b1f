-- What SETATTR sets under the profile "clients" (RFC 7530, section 16.32): the size of a file, and the time of its last
-- change.
use Rattle.std.specs.Prelude.{ℕ, ◌+◌, ◌==◌, Bool, true, false, not, ◌&&◌, if◌then◌else◌, List, [], ◌∷◌, drop, length, bit_and, Option, Some, None, Result, Ok, Err}
use Rattle.std.specs.List.{list_all}
use Rattle.nfs_forms.specs.declared.status.Refusal.{Refusal}
use Rattle.nfs_forms.specs.declared.status.Refusal.TheVariants as refusals
use Rattle.nfs_tree.specs.Attributes.{bit_of, has, mask_of, supported, word_of, words_of}
use Rattle.nfs_tree.specs.declared.attribute.Attribute.TheVariants as attributes
use Rattle.nfs_tree.specs.declared.attribute.Words.{Words}
use Rattle.nfs_tree.specs.declared.settable.SetTime.{SetTime}
use Rattle.nfs_tree.specs.declared.settable.SetTime.TheVariants as times
use Rattle.nfs_tree.specs.declared.settable.Settable.{Settable}
use Rattle.xdr.specs.Form.{u32, u64}
use Rattle.xdr.specs.Reading.{Read, ◌>>=◌, ◌then◌, as_value}
use Rattle.xdr.specs.declared.wire_error.WireError.TheVariants as errors

-- all bits of the first words are among those of the second
abbrev pub are_among : Words → Words → Bool
are_among asked known = (bit_and asked.first known.first == asked.first)
    && (bit_and asked.second known.second == asked.second)

-- the bits of attributes that a client may write and this server leaves as they are: who may do what with a file, and
-- whose the file is
abbrev pub fixed_bits : ℕ
fixed_bits = word_of (attributes.Mode ∷ attributes.Owner ∷ attributes.OwnerGroup ∷ [])

abbrev pub writable : Words
writable = record {
  first = bit_of attributes.Size;
  second = fixed_bits + bit_of attributes.TimeModifySet;
}

-- What a SETATTR of this bitmap sets. NFS4ERR_ATTRNOTSUPP for an attribute that isn't supported, NFS4ERR_INVAL for one
-- that can only be read, NFS4ERR_ROFS for one that stays as it is.
abbrev pub settable_words : Words → Result Settable Refusal
settable_words asked =
    if not (are_among asked writable) then Err refusals.Inval
    else if not (bit_and asked.second fixed_bits == 0) then Err refusals.Rofs
    else Ok
    (record {
      size = has asked.first attributes.Size;
      time = has asked.second attributes.TimeModifySet;
    })

abbrev pub settable_of : List ℕ → Result Settable Refusal
settable_of mask =
    if are_among (words_of mask) supported && list_all (λ word. word == 0) (drop 2 mask)
    then settable_words (words_of mask) else Err refusals.AttrNotSupp

-- the bitmap of what is set
abbrev pub mask_set : Settable → List ℕ
mask_set asked = mask_of
    (record {
      first = if asked.size then bit_of attributes.Size else 0;
      second = if asked.time then bit_of attributes.TimeModifySet else 0;
    })

-- union settime4 switch (time_how4 set_it) { case SET_TO_CLIENT_TIME4: nfstime4 time; default: void; };
-- struct nfstime4 { int64_t seconds; uint32_t nseconds; };
abbrev pub client_time_at : List ℕ → Read SetTime
client_time_at = as_value (λ time. times.Client) (u64.at then u32.at)

abbrev pub time_how_at : ℕ → List ℕ → Read SetTime
time_how_at how bytes =
    if how == 0 then Ok (times.Server, bytes)
    else if how == 1 then client_time_at bytes
    else Err errors.Short

-- the values: a size and a time, where they are set
abbrev pub time_at : Bool → List ℕ → Read SetTime
time_at false bytes = Ok (times.Server, bytes)
time_at true bytes = u32.at bytes >>= λ how. time_how_at how.0 how.1

abbrev pub size_at : Bool → List ℕ → Read (Option ℕ)
size_at false bytes = Ok (None, bytes)
size_at true bytes = as_value (λ size. Some size) u64.at bytes

-- The size that these values set, if one is set. NFS4ERR_BADXDR if they aren't values of what is set, with nothing
-- behind them; NFS4ERR_ROFS for a time of the client's: the time of a change is the server's own.
abbrev pub size_timed : Option ℕ → SetTime → Result (Option ℕ) Refusal
size_timed size times.Server = Ok size
size_timed size times.Client = Err refusals.Rofs

abbrev pub size_of_values : Read (Option ℕ × SetTime) → Result (Option ℕ) Refusal
size_of_values (Err e) = Err refusals.BadXdr
size_of_values (Ok ((size, time), rest)) =
    if length rest == 0 then size_timed size time else Err refusals.BadXdr

abbrev pub size_set : Settable → List ℕ → Result (Option ℕ) Refusal
size_set asked values = size_of_values ((size_at asked.size then time_at asked.time) values)
