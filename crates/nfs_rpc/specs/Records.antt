-- A stream of records, each of one or more fragments (RFC 5531, section 11).
use Rattle.std.specs.Prelude.{◌≡◌, ℕ, ◌+◌, ◌^◌, ◌<◌, ◌≤◌, ◌↔◌, Bool, true, false, List, [], ◌∷◌, ◌++◌, length, take, IsTrue, if◌then◌else◌}
use Rattle.std.specs.List.{concat}
use Rattle.byteorder.specs.Endian.{big_number}
use Rattle.nfs_rpc.specs.declared.records.TheConstants.{RECORD_LIMIT}
use Rattle.nfs_rpc.specs.declared.place.Place.{Place}
use Rattle.nfs_rpc.specs.declared.place.Place.TheVariants.{InHeader, InBody}
use Rattle.nfs_rpc.specs.declared.unfinished.Unfinished.{Unfinished}
use Rattle.xdr.specs.Layout.{◌⨾◌}

-- A fragment's header, four bytes: the top bit says whether the fragment is its record's last, and the other 31 are its
-- length.
pub record IsHeader (last : Bool) (len : ℕ) (bytes : List ℕ) : Type 0 where
  pub four : length bytes ≡ 4
  pub fits : len < 2 ^ 31
  pub number : big_number 4 bytes ≡ (if last then 2 ^ 31 else 0) + len

-- a header, and as many bytes as it announces
abbrev pub IsFragment : Bool → List ℕ → List ℕ → Type 0
IsFragment last body text =
    (header : List ℕ) × IsHeader last (length body) header × (text ≡ header ++ body)

-- fragments with these bodies, none of them marked as the last
abbrev pub AreOpen : List (List ℕ) → List ℕ → Type 0
AreOpen [] text = text ≡ []
AreOpen (body ∷ bodies) text = (IsFragment false body ⨾ AreOpen bodies) text

-- A record: the bodies of its fragments, one after the other. Only the last fragment is marked as the last.
abbrev pub IsRecord : List ℕ → List ℕ → Type 0
IsRecord message text =
    (bodies : List (List ℕ)) × (body : List ℕ) × (message ≡ concat bodies ++ body)
    × (AreOpen bodies ⨾ IsFragment true body) text

-- the text is exactly these records, none of them above the limit
abbrev pub AreRecords : List (List ℕ) → List ℕ → Type 0
AreRecords [] text = text ≡ []
AreRecords (message ∷ messages) text =
    (length message ≤ RECORD_LIMIT) × (IsRecord message ⨾ AreRecords messages) text

-- no record within the limit is at the front
abbrev pub IsRest : List ℕ → Type 0
IsRest text =
    (message front back : List ℕ) → text ≡ front ++ back → IsRecord message front
    → length message ≤ RECORD_LIMIT → ⊥

-- The text is these records, followed by a rest at whose front there is no record.
pub record Splits (text : List ℕ) (messages : List (List ℕ)) (rest : List ℕ) : Type 0 where
  pub front : List ℕ
  pub whole : text ≡ front ++ rest
  pub records : AreRecords messages front
  pub none_left : IsRest rest

-- a header of the first record brings the record above the limit
abbrev pub IsTooLong : List ℕ → Type 0
IsTooLong text =
    (bodies : List (List ℕ)) × (last : Bool) × (len : ℕ) × (front : List ℕ) × (header : List ℕ)
    × (back : List ℕ)
    × (text ≡ front ++ (header ++ back)) × AreOpen bodies front × IsHeader last len header
    × (RECORD_LIMIT < length (concat bodies) + len)

-- A text is split in only one way.
abbrev pub OneSplit : Type 0
OneSplit =
    (text : List ℕ) (records others : List (List ℕ)) (rest remainder : List ℕ)
    → Splits text records rest → Splits text others remainder
    → (records ≡ others) × (rest ≡ remainder)

-- Once a text is split, the split of the text with a piece after it continues from the rest.
abbrev pub SplitGoesOn : Type 0
SplitGoesOn =
    (text piece : List ℕ) (records found : List (List ℕ)) (rest remainder : List ℕ)
    → Splits text records rest → Splits (rest ++ piece) found remainder
    → Splits (text ++ piece) (records ++ found) remainder

-- What is kept of bytes that are no whole record: the bodies of the fragments so far, and the place. The bytes are open
-- fragments and then part of a header, or open fragments, a header and part of its body, of which `wanted` bytes are
-- still missing.
abbrev pub IsAt : List ℕ → List ℕ → Place → Type 0
IsAt text kept (InHeader bytes len) =
    (bodies : List (List ℕ)) × (front : List ℕ)
    × (text ≡ front ++ take len bytes) × AreOpen bodies front × (kept ≡ concat bodies) × (len < 4)
IsAt text kept (InBody wanted last) =
    (bodies : List (List ℕ)) × (front : List ℕ) × (header : List ℕ) × (body : List ℕ)
    × (text ≡ front ++ (header ++ body)) × AreOpen bodies front
    × IsHeader last (length body + wanted) header
    × (kept ≡ concat bodies ++ body)

-- What is kept of a rest: the bodies so far and a place, how many bytes the rest has, and whether its record is too
-- long. If it is too long, the bodies and the place have no meaning.
pub record IsUnfinished (rest bodies : List ℕ) (first : Unfinished) : Type 0 where
  pub none_left : IsRest rest
  pub too_long : IsTrue first.is_too_long ↔ IsTooLong rest
  pub at_place : first.is_too_long ≡ false → IsAt rest bodies first.place
  pub count : first.count ≡ length rest

-- A stream as its readers see it: the whole records that were not yet taken; of the bytes after them the bodies, the
-- place where they end, how many they are, and whether their record is too long; and how many bytes came altogether.
pub record Stream : Type 0 where
  pub ready : List (List ℕ)
  pub bodies : List ℕ
  pub place : Place
  pub count : ℕ
  pub is_too_long : Bool
  pub fed : ℕ

-- what the stream keeps is what has to be kept of this rest
abbrev pub Keeps : List ℕ → Stream → Type 0
Keeps rest stream =
    IsUnfinished rest stream.bodies
    (record { place = stream.place; count = stream.count; is_too_long = stream.is_too_long })

-- what holds for every stream
pub record IsStream (stream : Stream) : Type 0 where
  pub keeps : (rest : List ℕ) × Keeps rest stream
  pub few : length stream.bodies ≤ RECORD_LIMIT
  pub bounded : stream.fed ≤ 2 ^ 40

-- a stream of which no bytes have come
pub record IsNew (stream : Stream) : Type 0 where
  pub keeps : Keeps [] stream
  pub idle : stream.ready ≡ []
  pub goes : stream.is_too_long ≡ false
  pub fed : stream.fed ≡ 0

-- A piece came. The rest that was kept, followed by the piece, is split into the records that are whole now and a new
-- rest. The records are added after those that were waiting, and the new rest is kept.
pub record TakesPiece (old new : Stream) (piece : List ℕ) : Type 0 where
  pub found : List (List ℕ)
  pub split : (rest : List ℕ) → Keeps rest old
      → (remainder : List ℕ) × Splits (rest ++ piece) found remainder × Keeps remainder new
  pub ready : new.ready ≡ old.ready ++ found
  pub fed : new.fed ≡ old.fed + length piece
