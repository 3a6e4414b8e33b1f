-- A stream's unfinished record while bytes are added to it.
use Rattle.std.specs.Prelude.{◌≡◌, ℕ, ◌+◌, ◌<◌, ◌≤◌, false, List, [], ◌∷◌, ◌++◌, length, map}
use Rattle.std.specs.Global.{Vec}
use Rattle.nfs_rpc.specs.declared.records.TheConstants.{RECORD_LIMIT}
use Rattle.nfs_rpc.specs.declared.place.Place.{Place}
use Rattle.nfs_rpc.specs.declared.place.Place.TheVariants.{InHeader, InBody}
use Rattle.nfs_rpc.specs.declared.unfinished.Unfinished.{Unfinished}
use Rattle.nfs_rpc.specs.Records.{AreRecords, IsAt, IsUnfinished, Splits}

-- a place inside a header is before its end
abbrev pub IsPlace : Place → Type 0
IsPlace (InHeader bytes len) = len < 4
IsPlace (InBody wanted last) = Unit {0}

-- a place inside a body is before its end
abbrev pub IsIncomplete : Place → Type 0
IsIncomplete (InHeader bytes len) = Unit {0}
IsIncomplete (InBody wanted last) = 0 < wanted

-- with this many bytes of bodies the record is within the limit, as far as its headers up to now say
abbrev pub Fits : ℕ → Place → Type 0
Fits gathered (InHeader bytes len) = gathered ≤ RECORD_LIMIT
Fits gathered (InBody wanted last) = gathered + wanted ≤ RECORD_LIMIT

-- more bytes can be added to what is kept
pub record TakesMore (bodies : List ℕ) (place : Place) : Type 0 where
  pub header : IsPlace place
  pub more : IsIncomplete place
  pub fits : Fits (length bodies) place

-- what holds for each unfinished record
pub record IsSound (bodies : List ℕ) (first : Unfinished) : Type 0 where
  pub keeps : (rest : List ℕ) × IsUnfinished rest bodies first
  pub at_place : first.is_too_long ≡ false → TakesMore bodies first.place
  pub few : length bodies ≤ RECORD_LIMIT

abbrev pub messages_of : List (Vec ℕ) → List (List ℕ)
messages_of records = map (λ message. message.items) records

abbrev pub Begins : List ℕ → List ℕ → Type 0
Begins front whole = (back : List ℕ) × (whole ≡ front ++ back)

-- the first of these records, or the bodies of the unfinished one if there are none
abbrev pub first_or : List (List ℕ) → List ℕ → List ℕ
first_or [] last = last
first_or (message ∷ messages) last = message

-- records at the front of a text, and what is kept of the bytes after them
pub record AreFound (text : List ℕ) (messages : List (List ℕ)) (bodies : List ℕ)
    (first : Unfinished) : Type 0 where
  pub front : List ℕ
  pub rest : List ℕ
  pub whole : text ≡ front ++ rest
  pub records : AreRecords messages front
  pub at_place : IsAt rest bodies first.place
  pub count : first.count ≡ length rest

-- all whole records of a text, and what is kept of the bytes after them
abbrev pub AreAllFound : List ℕ → List (List ℕ) → List ℕ → Unfinished → Type 0
AreAllFound text messages bodies first =
    (rest : List ℕ) × Splits text messages rest × IsUnfinished rest bodies first

-- Whatever bytes led to the bodies and the place that are kept: these bytes and then the piece are exactly these
-- records and a rest, of which the new bodies and the new place are kept.
abbrev pub Finds : List ℕ → Unfinished → List ℕ → List (List ℕ) → List ℕ → Unfinished → Type 0
Finds bodies from piece messages longer first =
    (text : List ℕ) → IsAt text bodies from.place → from.count ≡ length text
    → AreAllFound (text ++ piece) messages longer first
