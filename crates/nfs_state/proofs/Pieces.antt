-- Where the items of a list in pieces stand.
use Rattle.std.proofs.Common.{◌≡◌, ℕ, zero, suc, ◌+◌, ◌*◌, ◌-◌, ◌/◌, ◌%◌, ◌<◌, ◌≤◌, List, [], ◌∷◌, ◌++◌, drop, length, take, Some, refl, ◌∙◌, ap, arith, append_assoc, length-append}
use Rattle.std.specs.Prelude.{slice_get}
use Rattle.std.specs.List.{All, flat_map}
use Rattle.std.proofs.lemmas.List.{drop-drop, drop-take, drop_all, take_all, take-append-le}
use Rattle.nfs_state.specs.PieceList.{piece_from}
use Rattle.nfs_state.specs.declared.piece_list.TheConstants.{PIECE_LEN}

beyond : {A : Type 0} (front back : List A) (m : ℕ) → drop (length front + m) (front ++ back) ≡ drop m back
beyond [] back m = let at : 0 + m ≡ m = omega arith in ap (λ k. drop k back) at
beyond (x ∷ front) back m =
    let at : length (x ∷ front) + m ≡ suc (length front + m) = omega arith in
    ap (λ k. drop k (x ∷ (front ++ back))) at ∙ beyond front back m

get_taken : {A : Type 0} (m i : ℕ) (xs : List A) → i < m → slice_get (take m xs) i ≡ slice_get xs i
get_taken zero i xs below = absurd (omega (arith, below))
get_taken (suc m) i [] below = refl
get_taken (suc m) zero (x ∷ xs) below = refl
get_taken (suc m) (suc i) (x ∷ xs) below = get_taken m i xs (omega (arith, below))

get_dropped : {A : Type 0} (k i : ℕ) (xs : List A) → slice_get (drop k xs) i ≡ slice_get xs (k + i)
get_dropped zero i xs = let at : i ≡ 0 + i = omega arith in ap (slice_get xs) at
get_dropped (suc k) i [] = refl
get_dropped (suc k) i (x ∷ xs) =
    let at : suc (k + i) ≡ suc k + i = omega arith in get_dropped k i xs ∙ ap (slice_get (x ∷ xs)) at

module _ {V A : Type 0} (f : V → List A) where
  abbrev pub AreFull : List V → Type 0
  AreFull full = All (λ p. length (f p) ≡ PIECE_LEN) full

  fewer : (p : V) (full : List V) → AreFull (p ∷ full) → AreFull full
  fewer p full are = λ k d below. are (suc k) d (omega (arith, below))

  past : (q : ℕ) (p : V) (full : List V) (last : List A) → length (f p) ≡ PIECE_LEN
      → drop (suc q * PIECE_LEN) ((f p ++ flat_map f full) ++ last) ≡ drop (q * PIECE_LEN) (flat_map f full ++ last)
  past q p full last long =
      let at : suc q * PIECE_LEN ≡ length (f p) + q * PIECE_LEN = omega (arith, long) in
      ap (λ k. drop k ((f p ++ flat_map f full) ++ last)) at
      ∙ ap (drop (length (f p) + q * PIECE_LEN)) (append_assoc (f p) (flat_map f full) last)
      ∙ beyond (f p) (flat_map f full ++ last) (q * PIECE_LEN)

  -- behind all full pieces
  behind : (full : List V) (last : List A) → AreFull full → drop (length full * PIECE_LEN) (flat_map f full ++ last) ≡ last
  behind [] last are = refl
  behind (p ∷ full) last are =
      past (length full) p full last (are 0 p (omega arith)) ∙ behind full last (fewer p full are)

  many : (full : List V) → AreFull full → length (flat_map f full) ≡ length full * PIECE_LEN
  many [] are = refl
  many (p ∷ full) are = omega (arith, length-append (f p) (flat_map f full), are 0 p (omega arith), many full (fewer p full are))

  pub full_piece : (q : ℕ) (full : List V) (last : List A) (p : V) → AreFull full → slice_get full q ≡ Some p
      → take PIECE_LEN (drop (q * PIECE_LEN) (flat_map f full ++ last)) ≡ f p
  full_piece q [] last p are is = absurd (cc is)
  full_piece zero (p' ∷ full) last p are is =
      let long : length (f p') ≡ PIECE_LEN = are 0 p' (omega arith) in
      let same : p' ≡ p = cc is in
      ap (take PIECE_LEN) (append_assoc (f p') (flat_map f full) last)
      ∙ take-append-le PIECE_LEN (f p') (flat_map f full ++ last) (omega (arith, long))
      ∙ take_all PIECE_LEN (f p') (omega (arith, long))
      ∙ ap f same
  full_piece (suc q) (p' ∷ full) last p are is =
      ap (take PIECE_LEN) (past q p' full last (are 0 p' (omega arith))) ∙ full_piece q full last p (fewer p' full are) is

  pub last_piece : (q : ℕ) (full : List V) (last : List A) → AreFull full → q ≡ length full → length last ≤ PIECE_LEN
      → take PIECE_LEN (drop (q * PIECE_LEN) (flat_map f full ++ last)) ≡ last
  last_piece q full last are is short =
      ap (λ k. take PIECE_LEN (drop (k * PIECE_LEN) (flat_map f full ++ last))) is
      ∙ ap (take PIECE_LEN) (behind full last are) ∙ take_all PIECE_LEN last short

  pub no_piece : (q : ℕ) (full : List V) (last : List A) → AreFull full → length last ≤ PIECE_LEN → length full < q
      → take PIECE_LEN (drop (q * PIECE_LEN) (flat_map f full ++ last)) ≡ []
  no_piece q full last are short above =
      let all = length-append (flat_map f full) last in
      ap (take PIECE_LEN) (drop_all (q * PIECE_LEN) (flat_map f full ++ last) (omega (arith, all, many full are, short, above)))
      ∙ take_all PIECE_LEN [] (omega arith)

pub get_in_piece : {A : Type 0} (number : ℕ) (items : List A)
    → slice_get (take PIECE_LEN (drop (number / PIECE_LEN * PIECE_LEN) items)) (number % PIECE_LEN) ≡ slice_get items number
get_in_piece number items =
    let at : number / PIECE_LEN * PIECE_LEN + number % PIECE_LEN ≡ number = omega arith in
    get_taken PIECE_LEN (number % PIECE_LEN) (drop (number / PIECE_LEN * PIECE_LEN) items) (omega arith)
    ∙ get_dropped (number / PIECE_LEN * PIECE_LEN) (number % PIECE_LEN) items
    ∙ ap (slice_get items) at

pub rest_of_piece : {A : Type 0} (number : ℕ) (items : List A)
    → drop (number % PIECE_LEN) (take PIECE_LEN (drop (number / PIECE_LEN * PIECE_LEN) items)) ≡ piece_from number items
rest_of_piece number items =
    let rest = drop (number / PIECE_LEN * PIECE_LEN) items in
    let all : PIECE_LEN ≡ number % PIECE_LEN + (PIECE_LEN - number % PIECE_LEN) = omega arith in
    let at : number / PIECE_LEN * PIECE_LEN + number % PIECE_LEN ≡ number = omega arith in
    ap (λ k. drop (number % PIECE_LEN) (take k rest)) all
    ∙ drop-take (number % PIECE_LEN) (PIECE_LEN - number % PIECE_LEN) rest
    ∙ ap (take (PIECE_LEN - number % PIECE_LEN)) (drop-drop (number % PIECE_LEN) (number / PIECE_LEN * PIECE_LEN) items ∙ ap (λ k. drop k items) at)
