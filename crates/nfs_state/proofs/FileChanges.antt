-- The bytes of a file after a WRITE, and loops over the files.
use Rattle.std.proofs.Common.{◌≡◌, ◌≢◌, ℕ, zero, suc, ◌+◌, ◌-◌, ◌<◌, ◌≤◌, Bool, true, false, cond, List, [], ◌∷◌, ◌++◌, drop, get_or, length, map, set, take, Some, refl, sym, ◌∙◌, ap, subst, arith, append_assoc, eqb, inl, inr}
use Rattle.std.specs.Prelude.{◌==◌, ◌^◌, find, if◌then◌else◌, max, min, nat_le, option_map, replicate}
use Rattle.std.specs.List.{AllByRecursion}
use Rattle.std.proofs.Math.ListN.{drop_of_length-le}
use Rattle.std.proofs.lemmas.Bool.{cases_lt, eq-eqb, le-leb, lt-leb, ne_eqb}
use Rattle.std.proofs.lemmas.List.{append-nil, drop-replicate, drop-take, drop_all, get_or-map, length-append, length-drop, length-map, length-replicate, length-take, length-take-le, map-set, replicate-append-replicate, take-replicate, take-take, take_all, take_at, take_min}
use Rattle.std.proofs.lemmas.List.Edits.{map_over_more}
use Rattle.nfs_state.specs.Files.{CanChange, FileState, RoomyFile, after_change, files_in, read_of, with_bytes, written}
use Rattle.nfs_state.specs.declared.file_change.FileChange.TheVariants.{Writes}
use Rattle.nfs_state.specs.Pages.{AreFilledUp, replaced}
use Rattle.nfs_state.proofs.PageLists.{drop-append, length-replaced}
use Rattle.nfs_tree.specs.declared.tree.TheConstants.{TEXT_LIMIT}

-- what stands before the block, however many zeros stand there
pub filled : (n a b : ℕ) (bytes : List ℕ) → n ≤ length bytes + a → n ≤ length bytes + b → take n (bytes ++ replicate a 0) ≡ take n (bytes ++ replicate b 0)
filled n a b [] enough also = take-replicate n a 0 (omega (arith, enough)) ∙ sym (take-replicate n b 0 (omega (arith, also)))
filled zero a b (x ∷ bytes) enough also = refl
filled (suc n) a b (x ∷ bytes) enough also = ap (λ rest. x ∷ rest) (filled n a b bytes (omega (arith, enough)) (omega (arith, also)))

length-written : (offset : ℕ) (block bytes : List ℕ) → length (written offset block bytes) ≡ max (length bytes) (offset + length block)
length-written offset block bytes =
    let gap = offset - length bytes in
    let zeros = replicate {A = ℕ} gap 0 in
    let front = take offset (bytes ++ zeros) in
    let back = drop (offset + length block) bytes in
    let many : length (bytes ++ zeros) ≡ length bytes + gap = length-append bytes zeros ∙ ap (λ k. length bytes + k) (length-replicate {A = ℕ} gap 0) in
    omega (
      arith,
      length-append (front ++ block) back,
      length-append front block,
      length-take-le offset (bytes ++ zeros) (omega (arith, many)),
      length-drop (offset + length block) bytes,
    )

-- a block in the place of bytes that zeros follow is written, and zeros follow
pub filled_replaced : (offset : ℕ) (block bytes all : List ℕ) → AreFilledUp bytes all → length bytes ≤ length all → offset + length block ≤ length all
    → AreFilledUp (written offset block bytes) (replaced offset block all)
filled_replaced offset block bytes all is few within =
    let end = offset + length block in
    let left = length all - length bytes in
    let gap = offset - length bytes in
    let kept = left - (end - length bytes) in
    let front : take offset all ≡ take offset (bytes ++ replicate gap 0) =
    ap (take offset) is ∙ filled offset left gap bytes (omega (arith, few, within)) (omega arith) in
    let back : drop end all ≡ drop end bytes ++ replicate kept 0 =
    ap (drop end) is ∙ drop-append end bytes (replicate left 0) ∙ ap (λ xs. drop end bytes ++ xs) (drop-replicate (end - length bytes) left 0) in
    let many : kept ≡ length (replaced offset block all) - length (written offset block bytes) =
    omega (arith, few, within, length-replaced offset block all within, length-written offset block bytes) in
    (λ i. front i ++ block ++ back i)
    ∙ sym (append_assoc (take offset (bytes ++ replicate gap 0) ++ block) (drop end bytes) (replicate kept 0))
    ∙ ap (λ k. written offset block bytes ++ replicate {A = ℕ} k 0) many

-- the bytes before the zeros
pub filled_front : (bytes all : List ℕ) (size : ℕ) → AreFilledUp bytes all → length bytes ≡ size → take size all ≡ bytes
filled_front bytes all size is same = ap (take size) is ∙ take_at bytes (replicate (length all - length bytes) 0) size same

pub filled_fits : (bytes all : List ℕ) → AreFilledUp bytes all → length bytes ≤ length all
filled_fits bytes all is =
    omega (arith, ap length is, length-append bytes (replicate {A = ℕ} (length all - length bytes) 0))

pub filled_again : (bytes all : List ℕ) (size : ℕ) → AreFilledUp bytes all → length bytes ≡ size → AreFilledUp (take size all) all
filled_again bytes all size is same = subst (λ xs. AreFilledUp xs all) (sym (filled_front bytes all size is same)) is

sum_of_both : (few some many : ℕ) → few ≤ some → some ≤ many → some - few + (many - some) ≡ many - few
sum_of_both few some many below above = omega (arith, below, above)

-- zeros behind zeros
pub filled_more : (bytes old now : List ℕ) → AreFilledUp bytes old → length bytes ≤ length old → AreFilledUp old now → AreFilledUp bytes now
filled_more bytes old now is few more =
    let left = length old - length bytes in
    let added = length now - length old in
    more
    ∙ ap (λ (xs : List ℕ). xs ++ replicate added 0) is
    ∙ append_assoc bytes (replicate left 0) (replicate added 0)
    ∙ ap (λ (xs : List ℕ). bytes ++ xs) (replicate-append-replicate left added 0)
    ∙ ap (λ k. bytes ++ replicate {A = ℕ} k 0) (sum_of_both (length bytes) (length old) (length now) few (filled_fits old now more))

-- a file whose pages have more zeros behind them
pub grown : (size : ℕ) (old new : List ℕ) → AreFilledUp (take size old) old → size ≤ length old → AreFilledUp old new
    → (size ≤ length new) × AreFilledUp (take size new) new × (take size new ≡ take size old)
grown size old new is few more =
    let bytes = take size old in
    let many : length bytes ≡ size = length-take-le size old few in
    let filled_up = filled_more bytes old new is (omega (arith, many, few)) more in (
      omega (arith, few, filled_fits old new more),
      filled_again bytes new size filled_up many,
      filled_front bytes new size filled_up many,
    )

-- what came in the place of a part ends within the bytes
pub part_fits : (start offset : ℕ) (part block all : List ℕ) → start ≤ length all → offset + length block ≤ length all
    → replaced start part all ≡ replaced offset block all → start + length part ≤ length all
part_fits start offset part block all from within same =
    omega (
      arith,
      from,
      within,
      ap length same,
      length-replaced offset block all within,
      length-append (take start all ++ part) (drop (start + length part) all),
      length-append (take start all) part,
      length-take-le start all from,
      length-drop (start + length part) all,
    )

-- no zeros
pub filled_none : (bytes : List ℕ) → AreFilledUp bytes bytes
filled_none bytes =
    let none : length bytes - length bytes ≡ 0 = omega arith in
    sym (ap (λ k. bytes ++ replicate {A = ℕ} k 0) none ∙ append-nil bytes)

-- the first text of a file
pub first_written : (text : List ℕ) → written 0 text [] ≡ text
first_written text = ap (λ rest. text ++ rest) (drop_all {X = ℕ} (0 + length text) [] (omega arith)) ∙ append-nil text

-- as many bytes in the place of all
pub overwritten : (n : ℕ) (old new : List ℕ) → length old ≡ n → length new ≡ n → take n (new ++ drop (length new) old) ≡ new
overwritten n old new many as_many =
    ap (λ rest. take n (new ++ rest)) (drop_of_length-le old (omega (arith, many, as_many)))
    ∙ ap (take n) (append-nil new) ∙ take_all n new (omega (arith, as_many))

-- the file after a WRITE: its bytes, and zeros behind them
pub written_file : (size offset : ℕ) (block all new : List ℕ) → AreFilledUp (take size all) all → size ≤ length all → offset + length block ≤ length all → new ≡ replaced offset block all
    → (take (max size (offset + length block)) new ≡ written offset block (take size all)) × AreFilledUp (take (max size (offset + length block)) new) new × (max size (offset + length block) ≤ length new)
written_file size offset block all new is few within comes =
    let bytes = take size all in
    let many : length bytes ≡ size = length-take-le size all few in
    let last = max size (offset + length block) in
    let as_long : length (written offset block bytes) ≡ last = omega (arith, many, length-written offset block bytes) in
    let filled_up : AreFilledUp (written offset block bytes) new =
    subst (λ xs. AreFilledUp (written offset block bytes) xs) (sym comes) (filled_replaced offset block bytes all is (omega (arith, many, few)) within) in (
      filled_front (written offset block bytes) new last filled_up as_long,
      filled_again (written offset block bytes) new last filled_up as_long,
      omega (arith, as_long, filled_fits (written offset block bytes) new filled_up),
    )

-- a READ from the end on, or behind it
pub read_past : (bytes : List ℕ) (offset count : ℕ) → length bytes ≤ offset → (true, []) ≡ read_of bytes offset count
read_past bytes offset count past =
    let most = min count TEXT_LIMIT in
    let none : drop offset bytes ≡ [] = drop_all offset bytes past in
    let part : take most (drop offset bytes) ≡ [] = ap (take most) none ∙ take_all {A = ℕ} most [] (omega arith) in
    let end : nat_le (length bytes) (offset + length (take most (drop offset bytes))) ≡ true = le-leb (length bytes) (offset + length (take most (drop offset bytes))) (omega (arith, past)) in
    λ i. (sym end i, sym part i)

-- whether the last byte was given
end_seen : (n offset len : ℕ) → offset < n → len ≤ n - offset → eqb len (n - offset) ≡ nat_le n (offset + len)
end_seen n offset len inside few =
    elim (cases_lt len (n - offset)) [
      | inl less ↦ ne_eqb len (n - offset) (λ same. omega (arith, less, same)) ∙ sym (lt-leb n (offset + len) (omega (arith, less, inside)))
      | inr all ↦ eq-eqb len (n - offset) (omega (arith, few, all)) ∙ sym (le-leb n (offset + len) (omega (arith, all, inside)))
    ]

-- a READ of bytes that are there
pub read_part : (size offset count len : ℕ) (all : List ℕ) → size ≤ length all → offset < size → len ≡ min (min count TEXT_LIMIT) (size - offset)
    → (eqb len (size - offset), take len (drop offset all)) ≡ read_of (take size all) offset count
read_part size offset count len all few inside is =
    let bytes = take size all in
    let rest = drop offset bytes in
    let most = min count TEXT_LIMIT in
    let many : length bytes ≡ size = length-take-le size all few in
    let left : length rest ≡ size - offset = length-drop offset bytes ∙ ap (λ n. n - offset) many in
    let cut : size ≡ offset + (size - offset) = omega (arith, inside) in
    let shown : rest ≡ take (size - offset) (drop offset all) = ap (λ n. drop offset (take n all)) cut ∙ drop-take offset (size - offset) all in
    let part : take len (drop offset all) ≡ take most rest =
    sym (take-take len (size - offset) (drop offset all) (omega (arith, is))) ∙ sym (ap (take len) shown)
    ∙ ap (λ n. take n rest) (is ∙ ap (min most) (sym left)) ∙ take_min most rest in
    let short : length (take most rest) ≡ len = omega (arith, length-take most rest, left, is) in
    let end : eqb len (size - offset) ≡ nat_le (length bytes) (offset + length (take most rest)) =
    end_seen size offset len inside (omega (arith, is)) ∙ (λ i. nat_le (sym many i) (offset + sym short i)) in
    λ i. (end i, part i)

-- a WRITE of some block changes the file of the node
pub some_written : (node offset : ℕ) (block : List ℕ) (files : List FileState) → block ≢ []
    → map (λ f. if f.node == node then after_change (Writes offset block) f else f) files ≡ with_bytes node offset block files
some_written node offset [] files some = absurd (some refl)
some_written node offset (x ∷ block) files some = refl

-- the file that is found, as it is without its room
pub file_seen : (test : FileState → Bool) (files : List RoomyFile) → option_map (λ f. f.file) (find (λ f. test f.file) files) ≡ find test (files_in files)
file_seen test [] = refl
file_seen test (f ∷ files) =
    elim (test f.file) as (λ b. option_map (λ f. f.file) (cond b (Some f) (find (λ f. test f.file) files)) ≡ cond b (Some f.file) (find test (files_in files))) [
      | true ↦ refl
      | false ↦ file_seen test files
    ]

-- each file can be changed, also where its room is looked at
pub roomy_change : (files : List RoomyFile) → CanChange (files_in files) → AllByRecursion (λ f. f.file.change < 2 ^ 64 - 1) files
roomy_change [] can = tt
roomy_change (f ∷ files) can = (can.0, roomy_change files can.1)

-- a loop that changes each file comes by one more
pub one_more : (change : FileState → FileState) (old new : List RoomyFile) (i : ℕ) (d next : RoomyFile) → i < length old → i < length new
    → files_in new ≡ map change (take i (files_in old)) ++ drop i (files_in old) → next.file ≡ change (get_or new i d).file
    → files_in (set new i next) ≡ map change (take (i + 1) (files_in old)) ++ drop (i + 1) (files_in old)
one_more change old new i d next below within so_far is =
    let here = (get_or new i d).file in
    map-set (λ (f : RoomyFile). f.file) new i next
    ∙ ap (set (files_in new) i) is
    ∙ map_over_more change (files_in old) (files_in new) i here (omega (arith, below, length-map old (λ (f : RoomyFile). f.file))) so_far
    (sym (get_or-map (λ (f : RoomyFile). f.file) new i d here within))

-- and has changed all at its end
pub all_changed : (change : FileState → FileState) (files : List FileState) (i : ℕ) → length files ≤ i → map change (take i files) ++ drop i files ≡ map change files
all_changed change files i end =
    (λ j. map change (take_all i files end j) ++ drop_of_length-le files end j) ∙ append-nil (map change files)

-- what holds of each element of a list, of which a loop changes one
module _ {X : Type 0} where
  pub all_set : (P : X → Type 0) (xs : List X) (i : ℕ) (x : X) → i < length xs → AllByRecursion P (take i xs) → P x → AllByRecursion P (take (i + 1) (set xs i x))
  all_set P [] i x below h new = absurd (omega (arith, below))
  all_set P (y ∷ xs) zero x below h new = (new, tt)
  all_set P (y ∷ xs) (suc i) x below h new =
      let next : suc i + 1 ≡ suc (i + 1) = omega arith in
      rw next (h.0, all_set P xs i x (omega (arith, below)) h.1 new)

  pub all_left : (P : X → Type 0) (xs : List X) (i : ℕ) (x : X) → i < length xs → AllByRecursion P (drop i xs) → AllByRecursion P (drop (i + 1) (set xs i x))
  all_left P [] i x below h = absurd (omega (arith, below))
  all_left P (y ∷ xs) zero x below h = h.1
  all_left P (y ∷ xs) (suc i) x below h =
      let next : suc i + 1 ≡ suc (i + 1) = omega arith in
      rw next (all_left P xs i x (omega (arith, below)) h)

  pub all_here : (P : X → Type 0) (xs : List X) (i : ℕ) (d : X) → i < length xs → AllByRecursion P (drop i xs) → P (get_or xs i d)
  all_here P [] i d below h = absurd (omega (arith, below))
  all_here P (y ∷ xs) zero d below h = h.0
  all_here P (y ∷ xs) (suc i) d below h = all_here P xs i d (omega (arith, below)) h
