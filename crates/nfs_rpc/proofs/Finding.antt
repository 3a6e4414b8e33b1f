-- The records at the front of a text, and what is kept of the bytes after them.
use Rattle.std.proofs.Common.{◌≡◌, ℕ, ◌+◌, ◌<◌, ◌≤◌, Bool, true, false, List, [], ◌∷◌, ◌++◌, length, take, refl, sym, ◌∙◌, ap, subst, arith, append_assoc, length-append, slice_range}
use Rattle.std.proofs.lemmas.List.{append-nil, take-append-drop, length-take-le}
use Rattle.std.proofs.lemmas.Slice.{between_to_end}
use Rattle.nfs_rpc.specs.declared.records.TheConstants.{RECORD_LIMIT}
use Rattle.nfs_rpc.specs.declared.place.Place.{Place}
use Rattle.nfs_rpc.specs.declared.place.Place.TheVariants.{InHeader, InBody}
use Rattle.nfs_rpc.specs.declared.unfinished.Unfinished.{Unfinished}
use Rattle.nfs_rpc.specs.Records.{IsAt}
use Rattle.nfs_rpc.specs.Keeping.{IsPlace, Fits, TakesMore, Begins, first_or, AreFound, AreAllFound}
use Rattle.nfs_rpc.proofs.Fragments.{AreRecords-push}
use Rattle.nfs_rpc.proofs.Standing.{at_start, at_open, at_last, at_rest, at_within, at_long, at_long_rest}

pub found_none : (text bodies : List ℕ) (first : Unfinished) → IsAt text bodies first.place → first.count ≡ length text → AreFound text [] bodies first
found_none text bodies first a count = record { front = []; rest = text; whole = refl; records = refl; at_place = a; count = count }

-- more bytes at the end of the text
pub found_more : (text more : List ℕ) (messages : List (List ℕ)) (bodies longer : List ℕ) (first : Unfinished) (place : Place) (long : Bool) (count : ℕ)
    → ((rest : List ℕ) → IsAt rest bodies first.place → IsAt (rest ++ more) longer place) → count ≡ length more
    → AreFound text messages bodies first → AreFound (text ++ more) messages longer (record { place = place; count = first.count + count; is_too_long = long })
found_more text more messages bodies longer first place long count beyond is f = record {
  front = f.front;
  rest = f.rest ++ more;
  whole = ap (λ (l : List ℕ). l ++ more) f.whole ∙ append_assoc f.front f.rest more;
  records = f.records;
  at_place = beyond f.rest f.at_place;
  count = omega (arith, f.count, length-append f.rest more);
}

-- a fragment that isn't its record's last ends, and the next one begins
pub found_open : (text bytes : List ℕ) (messages : List (List ℕ)) (bodies : List ℕ) (first : Unfinished) → first.place ≡ InBody 0 false
    → AreFound text messages bodies first → AreFound text messages bodies (record first { place = InHeader bytes 0 })
found_open text bytes messages bodies first is f = record {
  front = f.front;
  rest = f.rest;
  whole = f.whole;
  records = f.records;
  at_place = at_open f.rest bodies bytes (subst (λ (p : Place). IsAt f.rest bodies p) is f.at_place);
  count = f.count;
}

-- the last fragment of a record ends, and so does the record
pub found_last : (text bytes : List ℕ) (messages : List (List ℕ)) (bodies : List ℕ) (first : Unfinished) → first.place ≡ InBody 0 true → Fits (length bodies) first.place
    → AreFound text messages bodies first → AreFound text (messages ++ bodies ∷ []) [] (record { place = InHeader bytes 0; count = 0; is_too_long = false })
found_last text bytes messages bodies first is fits f =
    let within : length bodies + 0 ≤ RECORD_LIMIT = subst (λ (p : Place). Fits (length bodies) p) is fits in
    record {
      front = f.front ++ f.rest;
      rest = [];
      whole = f.whole ∙ sym (append-nil (f.front ++ f.rest));
      records = AreRecords-push messages f.front bodies f.rest f.records (at_last f.rest bodies (subst (λ (p : Place). IsAt f.rest bodies p) is f.at_place)) (omega arith);
      at_place = at_start bytes;
      count = refl;
    }

-- as long as more bytes can be added to what is kept, all whole records of the text are found
pub all_found : (text : List ℕ) (messages : List (List ℕ)) (bodies : List ℕ) (first : Unfinished) → TakesMore bodies first.place → first.is_too_long ≡ false
    → AreFound text messages bodies first → AreAllFound text messages bodies first
all_found text messages bodies first s goes f =
    let none = at_rest f.rest bodies first.place f.at_place s.more in (
      f.rest,
      record { front = f.front; whole = f.whole; records = f.records; none_left = none },
      record {
        none_left = none;
        too_long = (
          (λ told. let clash : true ≡ false = sym told ∙ goes in cc),
          (λ long. absurd (at_within f.rest bodies first.place f.at_place s.more s.fits long)),
        );
        at_place = λ _. f.at_place;
        count = f.count;
      },
    )

above_at : (bodies : List ℕ) (place : Place) → IsPlace place → length bodies ≤ RECORD_LIMIT → (Fits (length bodies) place → ⊥)
    → (wanted : ℕ) × (last : Bool) × (place ≡ InBody wanted last) × (RECORD_LIMIT < length bodies + wanted)
above_at bodies (InHeader bytes len) is few above = absurd (above few)
above_at bodies (InBody wanted last) is few above = (wanted, last, refl, omega (arith, above))

-- if a header brings the record above the limit, all records are found, and the bytes after it belong to the rest
pub all_found_long : (text beyond : List ℕ) (messages : List (List ℕ)) (bodies : List ℕ) (first : Unfinished) (count : ℕ) → IsPlace first.place → length bodies ≤ RECORD_LIMIT
    → (Fits (length bodies) first.place → ⊥) → count ≡ length beyond → AreFound text messages bodies first
    → AreAllFound (text ++ beyond) messages bodies (record { place = first.place; count = first.count + count; is_too_long = true })
all_found_long text beyond messages bodies first count is few above counts f =
    let w = above_at bodies first.place is few above in
    let a = subst (λ (p : Place). IsAt f.rest bodies p) w.2 f.at_place in
    let none = at_long_rest f.rest bodies beyond w.0 w.1 a w.3 in (
      f.rest ++ beyond,
      record {
        front = f.front;
        whole = ap (λ (l : List ℕ). l ++ beyond) f.whole ∙ append_assoc f.front f.rest beyond;
        records = f.records;
        none_left = none;
      },
      record {
        none_left = none;
        too_long = ((λ _. at_long f.rest bodies beyond w.0 w.1 a w.3), (λ _. refl));
        at_place = (λ no. let clash : true ≡ false = no in cc);
        count = omega (arith, f.count, length-append f.rest beyond);
      },
    )

-- The part of a piece before `rest` was added to what was kept, with these records and this unfinished
-- record as the result.
abbrev pub AreFoundSoFar : List ℕ → Unfinished → List ℕ → List ℕ → List (List ℕ) → List ℕ → Unfinished → Type 0
AreFoundSoFar start from piece rest messages bodies first =
    (done : List ℕ) × (piece ≡ done ++ rest)
    × ((text : List ℕ) → IsAt text start from.place → from.count ≡ length text → AreFound (text ++ done) messages bodies first)

module _ (start : List ℕ) (from : Unfinished) (piece : List ℕ) where
  pub so_far_none : AreFoundSoFar start from piece piece [] start from
  so_far_none = ([], refl, λ text a count. subst (λ (l : List ℕ). AreFound l [] start from) (sym (append-nil text)) (found_none text start from a count))

  -- bytes from the front of the rest are added
  pub so_far_front : (rest : List ℕ) (messages : List (List ℕ)) (bodies longer : List ℕ) (first : Unfinished) (place : Place) (long : Bool) (count : ℕ) → count ≤ length rest
      → ((text : List ℕ) → IsAt text bodies first.place → IsAt (text ++ take count rest) longer place)
      → AreFoundSoFar start from piece rest messages bodies first
      → AreFoundSoFar start from piece (slice_range rest count (length rest)) messages longer (record { place = place; count = first.count + count; is_too_long = long })
  so_far_front rest messages bodies longer first place long count within beyond f =
      let parts : take count rest ++ slice_range rest count (length rest) ≡ rest =
      ap (λ (l : List ℕ). take count rest ++ l) (between_to_end rest count (length rest) (omega arith)) ∙ take-append-drop count rest in
      let n : count ≡ length (take count rest) = sym (length-take-le count rest within) in (
        f.0 ++ take count rest,
        f.1 ∙ ap (λ (l : List ℕ). f.0 ++ l) (sym parts) ∙ sym (append_assoc f.0 (take count rest) (slice_range rest count (length rest))),
        λ text a counts.
            subst (λ (l : List ℕ). AreFound l messages longer (record { place = place; count = first.count + count; is_too_long = long })) (append_assoc text f.0 (take count rest))
            (found_more (text ++ f.0) (take count rest) messages bodies longer first place long count beyond n (f.2 text a counts)),
      )

  -- no bytes are added, and what is kept changes
  pub so_far_same : (rest : List ℕ) (messages others : List (List ℕ)) (bodies kept : List ℕ) (first next : Unfinished)
      → ((text : List ℕ) → AreFound text messages bodies first → AreFound text others kept next)
      → AreFoundSoFar start from piece rest messages bodies first → AreFoundSoFar start from piece rest others kept next
  so_far_same rest messages others bodies kept first next goes f = (f.0, f.1, λ text a count. goes (text ++ f.0) (f.2 text a count))

  pub so_far_all : (rest : List ℕ) (messages : List (List ℕ)) (bodies : List ℕ) (first : Unfinished) → rest ≡ [] → TakesMore bodies first.place → first.is_too_long ≡ false
      → AreFoundSoFar start from piece rest messages bodies first
      → (text : List ℕ) → IsAt text start from.place → from.count ≡ length text → AreAllFound (text ++ piece) messages bodies first
  so_far_all rest messages bodies first none at_place goes f text a count =
      let whole : f.0 ≡ piece = sym (append-nil f.0) ∙ ap (λ (l : List ℕ). f.0 ++ l) (sym none) ∙ sym f.1 in
      subst (λ (l : List ℕ). AreAllFound (text ++ l) messages bodies first) whole (all_found (text ++ f.0) messages bodies first at_place goes (f.2 text a count))

  pub so_far_long : (rest : List ℕ) (messages : List (List ℕ)) (bodies : List ℕ) (first : Unfinished) (count : ℕ) → IsPlace first.place → length bodies ≤ RECORD_LIMIT
      → (Fits (length bodies) first.place → ⊥) → count ≡ length rest → AreFoundSoFar start from piece rest messages bodies first
      → (text : List ℕ) → IsAt text start from.place → from.count ≡ length text
      → AreAllFound (text ++ piece) messages bodies (record { place = first.place; count = first.count + count; is_too_long = true })
  so_far_long rest messages bodies first count is few above counts f text a at =
      let whole : (text ++ f.0) ++ rest ≡ text ++ piece = append_assoc text f.0 rest ∙ ap (λ (l : List ℕ). text ++ l) (sym f.1) in
      subst (λ (l : List ℕ). AreAllFound l messages bodies (record { place = first.place; count = first.count + count; is_too_long = true })) whole
      (all_found_long (text ++ f.0) rest messages bodies first count is few above counts (f.2 text a at))

-- what begins the first record found, or the bodies if there is none, still begins it when the bodies become longer
pub begins_longer : (start bodies longer : List ℕ) (messages : List (List ℕ)) → Begins start (first_or messages bodies) → Begins bodies longer → Begins start (first_or messages longer)
begins_longer start bodies longer [] b more = (b.0 ++ more.0, more.1 ∙ ap (λ (l : List ℕ). l ++ more.0) b.1 ∙ append_assoc start b.0 more.0)
begins_longer start bodies longer (message ∷ messages) b more = b
