-- The place at the end of bytes that are no whole record, and the place after more bytes.
use Rattle.std.proofs.Common.{◌≡◌, ℕ, ◌+◌, ◌-◌, ◌<◌, ◌≤◌, Bool, true, false, List, [], ◌∷◌, ◌++◌, length, take, refl, sym, ◌∙◌, ap, subst, inl, inr, arith, append_assoc, length-append, zero-add, add-zero}
use Rattle.std.proofs.lemmas.List.{append-nil, length-take}
use Rattle.std.proofs.lemmas.List.Folds.{concat-append}
use Rattle.std.specs.List.{concat}
use Rattle.nfs_rpc.specs.declared.records.TheConstants.{RECORD_LIMIT}
use Rattle.nfs_rpc.specs.declared.place.Place.{Place}
use Rattle.nfs_rpc.specs.declared.place.Place.TheVariants.{InHeader, InBody}
use Rattle.nfs_rpc.specs.Records.{IsHeader, IsFragment, AreOpen, IsRecord, IsRest, IsTooLong, IsAt}
use Rattle.nfs_rpc.specs.Keeping.{IsIncomplete, Fits}
use Rattle.nfs_rpc.proofs.Fragments.{append_same, IsHeader-same, IsFragment-header, length-fragment, IsRecord-head, IsRecord-beyond, AreOpen-header, AreOpen-push}

pub at_start : (bytes : List ℕ) → IsAt [] [] (InHeader bytes 0)
at_start bytes = ([], [], refl, refl, refl, omega arith)

-- more bytes of a header, which still isn't whole
pub at_header_more : (text bodies bytes header part : List ℕ) (len end : ℕ) → take end header ≡ take len bytes ++ part → end < 4
    → IsAt text bodies (InHeader bytes len) → IsAt (text ++ part) bodies (InHeader header end)
at_header_more text bodies bytes header part len end longer short a = (
  a.0,
  a.1,
  ap (λ (l : List ℕ). l ++ part) a.2 ∙ append_assoc a.1 (take len bytes) part ∙ ap (λ (l : List ℕ). a.1 ++ l) (sym longer),
  a.3,
  a.4,
  short,
)

-- the last bytes of a header
pub at_header_end : (text bodies bytes header part : List ℕ) (len end : ℕ) (last : Bool) (wanted : ℕ) → take end header ≡ take len bytes ++ part → end ≡ 4
    → IsHeader last wanted (take 4 header) → IsAt text bodies (InHeader bytes len) → IsAt (text ++ part) bodies (InBody wanted last)
at_header_end text bodies bytes header part len end last wanted longer four is a =
    let header_is : take len bytes ++ part ≡ take 4 header = sym longer ∙ ap (λ (n : ℕ). take n header) four in (
      a.0,
      a.1,
      take 4 header,
      [],
      ap (λ (l : List ℕ). l ++ part) a.2 ∙ append_assoc a.1 (take len bytes) part ∙ ap (λ (l : List ℕ). a.1 ++ l) (header_is ∙ sym (append-nil (take 4 header))),
      a.3,
      subst (λ (n : ℕ). IsHeader last n (take 4 header)) (sym (zero-add wanted)) is,
      a.4 ∙ sym (append-nil (concat a.0)),
    )

-- more bytes of a body
pub at_body : (text bodies more : List ℕ) (wanted count : ℕ) (last : Bool) → length more ≡ count → count ≤ wanted → IsAt text bodies (InBody wanted last)
    → IsAt (text ++ more) (bodies ++ more) (InBody (wanted - count) last)
at_body text bodies more wanted count last counts within a =
    let sizes : length a.3 + wanted ≡ length (a.3 ++ more) + (wanted - count) = omega (arith, length-append a.3 more) in (
      a.0,
      a.1,
      a.2,
      a.3 ++ more,
      ap (λ (l : List ℕ). l ++ more) a.4 ∙ append_assoc a.1 (a.2 ++ a.3) more ∙ ap (λ (l : List ℕ). a.1 ++ l) (append_assoc a.2 a.3 more),
      a.5,
      subst (λ (n : ℕ). IsHeader last n a.2) sizes a.6,
      ap (λ (l : List ℕ). l ++ more) a.7 ∙ append_assoc (concat a.0) a.3 more,
    )

-- the fragment whose body ends at this place
fragment_here : (last : Bool) (header body : List ℕ) → IsHeader last (length body + 0) header → IsFragment last body (header ++ body)
fragment_here last header body is = (header, subst (λ (n : ℕ). IsHeader last n header) (add-zero (length body)) is, refl)

-- after an open fragment the next header begins
pub at_open : (text bodies bytes : List ℕ) → IsAt text bodies (InBody 0 false) → IsAt text bodies (InHeader bytes 0)
at_open text bodies bytes a = (
  a.0 ++ a.3 ∷ [],
  a.1 ++ (a.2 ++ a.3),
  a.4 ∙ sym (append-nil (a.1 ++ (a.2 ++ a.3))),
  AreOpen-push a.0 a.1 a.3 (a.2 ++ a.3) a.5 (fragment_here false a.2 a.3 a.6),
  a.7 ∙ ap (λ (l : List ℕ). concat a.0 ++ l) (sym (append-nil a.3)) ∙ sym (concat-append a.0 (a.3 ∷ [])),
  omega arith,
)

-- after the last fragment the bytes are a whole record
pub at_last : (text bodies : List ℕ) → IsAt text bodies (InBody 0 true) → IsRecord bodies text
at_last text bodies a = (a.0, a.3, a.7, (a.1, a.2 ++ a.3, a.4, a.5, fragment_here true a.2 a.3 a.6))

-- What follows from the bytes `back` after open fragments at the front of a text.
module _ (text front back : List ℕ) (bodies : List (List ℕ)) (whole : text ≡ front ++ back) (o : AreOpen bodies front) where
  -- no record within the limit is at the front if none continues after the open fragments
  rest_from : ((m f t : List ℕ) → IsRecord m f → back ≡ f ++ t → length (concat bodies) + length m ≤ RECORD_LIMIT → ⊥) → IsRest text
  rest_from none m f t e r fits =
      let w = IsRecord-beyond bodies front back m f t o r (sym whole ∙ e) in
      let long : length m ≡ length (concat bodies) + length w.0 = ap length w.4 ∙ length-append (concat bodies) w.0 in
      none w.0 w.1 t w.2 w.3 (omega arith)

  -- no header brings the record above the limit if none does so after the open fragments
  not_long : length (concat bodies) ≤ RECORD_LIMIT
      → ((more : List (List ℕ)) (middle header remainder : List ℕ) (last : Bool) (len : ℕ) → AreOpen more middle → IsHeader last len header
      → back ≡ middle ++ (header ++ remainder) → RECORD_LIMIT < length (concat bodies) + (length (concat more) + len) → ⊥) → IsTooLong text → ⊥
  not_long within none l =
      elim (AreOpen-header bodies l.0 front back l.3 l.4 l.5 l.1 l.2 o l.7 l.8 (sym whole ∙ l.6)) [
        | inl short ↦ (let above = l.9 in omega arith)
        | inr w ↦ none w.0 w.1 l.4 l.5 l.1 l.2 w.2 l.8 w.3 (let above = l.9 in let sum = w.4 in omega arith)
      ]

  -- fewer bytes than a header has follow the open fragments
  module _ (few : length back < 4) where
    short_rest : IsRest text
    short_rest = rest_from (λ m f t r e _.
        let h = IsRecord-head m f r in
        let long : length back ≡ length f + length t = ap length e ∙ length-append f t in
        let first : length f ≡ length h.2 + length h.3 = ap length h.4 ∙ length-append h.2 h.3 in
        let fragment = length-fragment h.0 h.1 h.2 h.5 in
        omega arith)

    short_within : length (concat bodies) ≤ RECORD_LIMIT → IsTooLong text → ⊥
    short_within within = not_long within (λ more middle header remainder last len o h e _.
        let long : length back ≡ length middle + length (header ++ remainder) = ap length e ∙ length-append middle (header ++ remainder) in
        let beyond = length-append header remainder in
        let four = h.four in
        omega arith)

  -- a header and the bytes after it follow the open fragments
  module _ (header beyond : List ℕ) (last : Bool) (len : ℕ) (here : back ≡ header ++ beyond) (is : IsHeader last len header) where
    -- the header brings the record above the limit
    long_rest : RECORD_LIMIT < length (concat bodies) + len → IsRest text
    long_rest above = rest_from (λ m f t r e fits.
        let h = IsRecord-head m f r in
        let split : header ++ beyond ≡ h.2 ++ (h.3 ++ t) = sym here ∙ e ∙ ap (λ (l : List ℕ). l ++ t) h.4 ∙ append_assoc h.2 h.3 t in
        let same = IsFragment-header last h.0 len header beyond h.1 h.2 (h.3 ++ t) is h.5 split in
        let long : len ≡ length h.1 = same.1 in
        let most = h.6 in
        omega arith)

    -- not all bytes of the body are there
    part_rest : length beyond < len → IsRest text
    part_rest few = rest_from (λ m f t r e _.
        let h = IsRecord-head m f r in
        let split : header ++ beyond ≡ h.2 ++ (h.3 ++ t) = sym here ∙ e ∙ ap (λ (l : List ℕ). l ++ t) h.4 ∙ append_assoc h.2 h.3 t in
        let same = IsFragment-header last h.0 len header beyond h.1 h.2 (h.3 ++ t) is h.5 split in
        let long : len ≡ length h.1 = same.1 in
        let sizes : length beyond ≡ length h.1 + length (h.3 ++ t) = ap length same.2 ∙ length-append h.1 (h.3 ++ t) in
        omega arith)

    part_within : length beyond < len → length (concat bodies) + len ≤ RECORD_LIMIT → IsTooLong text → ⊥
    part_within few fits l = not_long (omega arith) other l
      where
        other : (more : List (List ℕ)) (middle head remainder : List ℕ) (final : Bool) (n : ℕ) → AreOpen more middle → IsHeader final n head
            → back ≡ middle ++ (head ++ remainder) → RECORD_LIMIT < length (concat bodies) + (length (concat more) + n) → ⊥
        other [] middle head remainder final n o h e above =
            let split : header ++ beyond ≡ head ++ remainder = sym here ∙ e ∙ ap (λ (l : List ℕ). l ++ (head ++ remainder)) o in
            let parts = append_same header beyond head remainder split (is.four ∙ sym h.four) in
            let same = IsHeader-same last final len n head (subst (λ (l : List ℕ). IsHeader last len l) parts.0 is) h in
            let long : len ≡ n = same.1 in
            omega arith
        other (b ∷ bs) middle head remainder final n o h e above =
            let split : header ++ beyond ≡ o.0 ++ (o.1 ++ (head ++ remainder)) =
            sym here ∙ e ∙ ap (λ (l : List ℕ). l ++ (head ++ remainder)) o.2 ∙ append_assoc o.0 o.1 (head ++ remainder) in
            let same = IsFragment-header last false len header beyond b o.0 (o.1 ++ (head ++ remainder)) is o.3 split in
            let long : len ≡ length b = same.1 in
            let sizes : length beyond ≡ length b + length (o.1 ++ (head ++ remainder)) = ap length same.2 ∙ length-append b (o.1 ++ (head ++ remainder)) in
            omega arith

length-body : (bodies : List (List ℕ)) (kept body : List ℕ) (wanted : ℕ) → kept ≡ concat bodies ++ body → length kept + wanted ≡ length (concat bodies) + (length body + wanted)
length-body bodies kept body wanted is = let sizes : length kept ≡ length (concat bodies) + length body = ap length is ∙ length-append (concat bodies) body in omega arith

-- At a place inside a header or a body, no whole record within the limit is at the front of the text.
pub at_rest : (text bodies : List ℕ) (place : Place) → IsAt text bodies place → IsIncomplete place → IsRest text
at_rest text bodies (InHeader bytes len) a more = short_rest text a.1 (take len bytes) a.0 a.2 a.3 (let short : len < 4 = a.5 in omega (arith, length-take len bytes))
at_rest text bodies (InBody wanted last) a more = part_rest text a.1 (a.2 ++ a.3) a.0 a.4 a.5 a.2 a.3 last (length a.3 + wanted) refl a.6 (omega arith)

pub at_within : (text bodies : List ℕ) (place : Place) → IsAt text bodies place → IsIncomplete place → Fits (length bodies) place → IsTooLong text → ⊥
at_within text bodies (InHeader bytes len) a more fits =
    short_within text a.1 (take len bytes) a.0 a.2 a.3 (let short : len < 4 = a.5 in omega (arith, length-take len bytes)) (let n : length bodies ≡ length (concat a.0) = ap length a.4 in omega arith)
at_within text bodies (InBody wanted last) a more fits =
    part_within text a.1 (a.2 ++ a.3) a.0 a.4 a.5 a.2 a.3 last (length a.3 + wanted) refl a.6 (omega arith) (omega (arith, length-body a.0 bodies a.3 wanted a.7))

-- Once a header brings the record above the limit, this holds whatever bytes follow.
module _ (text bodies beyond : List ℕ) (wanted : ℕ) (last : Bool) (a : IsAt text bodies (InBody wanted last)) (above : RECORD_LIMIT < length bodies + wanted) where
  whole_there : text ++ beyond ≡ a.1 ++ (a.2 ++ (a.3 ++ beyond))
  whole_there = ap (λ (l : List ℕ). l ++ beyond) a.4 ∙ append_assoc a.1 (a.2 ++ a.3) beyond ∙ ap (λ (l : List ℕ). a.1 ++ l) (append_assoc a.2 a.3 beyond)

  above_there : RECORD_LIMIT < length (concat a.0) + (length a.3 + wanted)
  above_there = omega (arith, length-body a.0 bodies a.3 wanted a.7)

  pub at_long : IsTooLong (text ++ beyond)
  at_long = (a.0, last, length a.3 + wanted, a.1, a.2, a.3 ++ beyond, whole_there, a.5, a.6, above_there)

  pub at_long_rest : IsRest (text ++ beyond)
  at_long_rest = long_rest (text ++ beyond) a.1 (a.2 ++ (a.3 ++ beyond)) a.0 whole_there a.5 a.2 (a.3 ++ beyond) last (length a.3 + wanted) refl a.6 above_there
