-- The names of a path are exactly those that give the path when they are joined by slashes.
use Rattle.std.proofs.Common.{◌≡◌, ℕ, ◌+◌, ◌≤◌, ◌<◌, ◌==◌, Bool, true, false, not, cond, leb, List, [], ◌∷◌, ◌++◌, length, get_or, drop, Some, None, refl, sym, ap, subst, ◌∙◌, append_assoc, arith, inl, inr}
use Rattle.std.specs.Prelude.{codes, ◌&&◌}
use Rattle.std.specs.List.{list_all}
use Rattle.std.specs.Str.{bytes_eq}
use Rattle.std.proofs.lemmas.Bool.{eqb-true, leb-true, le-leb}
use Rattle.std.proofs.lemmas.Bool.Decides.{nat_tests}
use Rattle.std.proofs.lemmas.List.{append-nil, drop_more}
use Rattle.std.proofs.Math.ListN.{drop_of_length-le}
use Rattle.nfs_tree.specs.declared.path.TheConstants.{NAME_LIMIT, PATH_LIMIT}
use Rattle.nfs_tree.specs.Building.{join_names, IsPath, longer_first, pieces, names_of, PathsAreJoinedNames}
use Rattle.nfs_tree.specs.Tree.{slash, is_name, is_name_byte}
use Rattle.nfs_tree.proofs.Nodes.{decided, and_parts}

-- a path has at least one piece
pieces_some : (bytes : List ℕ) → (first : List ℕ) × (rest : List (List ℕ)) × (pieces bytes ≡ first ∷ rest)
pieces_some [] = ([], [], refl)
pieces_some (b ∷ bytes) =
    let more = pieces_some bytes in
    elim (decided (b == slash)) [
      | inl is ↦ ([], pieces bytes, rw is refl)
      | inr other ↦ (b ∷ more.0, more.1, rw (other, more.2) refl)
    ]

-- the pieces with more bytes in front of the first
abbrev pub extended : List ℕ → List (List ℕ) → List (List ℕ)
extended piece [] = piece ∷ []
extended piece (first ∷ rest) = (piece ++ first) ∷ rest

pub extended_none : (bytes : List ℕ) → extended [] (pieces bytes) ≡ pieces bytes
extended_none bytes = let is = pieces_some bytes in rw is.2 refl

pub extended_slash : (piece : List ℕ) (b : ℕ) (bytes : List ℕ) → b ≡ slash → extended piece (pieces (b ∷ bytes)) ≡ piece ∷ extended [] (pieces bytes)
extended_slash piece b bytes is =
    let test : (b == slash) ≡ true = grind (arith, nat_tests) in
    rw (test, append-nil, extended_none) refl

pub extended_other : (piece : List ℕ) (b : ℕ) (bytes : List ℕ) → ¬ (b ≡ slash) → extended piece (pieces (b ∷ bytes)) ≡ extended (piece ++ b ∷ []) (pieces bytes)
extended_other piece b bytes other =
    let test : (b == slash) ≡ false = grind (arith, nat_tests) in
    let is = pieces_some bytes in
    rw (test, is.2) (ap (λ p. p ∷ is.1) (sym (append_assoc piece (b ∷ []) is.0)))

-- joining the pieces of a path by slashes gives the path
joined_longer : (b : ℕ) (first : List ℕ) (rest : List (List ℕ)) → join_names (longer_first b (first ∷ rest)) ≡ b ∷ join_names (first ∷ rest)
joined_longer b first [] = refl
joined_longer b first (next ∷ rest) = refl

joined_pieces : (bytes : List ℕ) → join_names (pieces bytes) ≡ bytes
joined_pieces [] = refl
joined_pieces (b ∷ bytes) =
    let is = pieces_some bytes in
    let more : join_names (is.0 ∷ is.1) ≡ bytes = ap join_names (sym is.2) ∙ joined_pieces bytes in
    elim (decided (b == slash)) [
      | inl slashed ↦ let same : b ≡ slash = eqb-true b slash slashed in
          rw (slashed, is.2) (ap (λ bs. slash ∷ bs) more ∙ ap (λ c. c ∷ bytes) (sym same))
      | inr other ↦ rw (other, is.2) (joined_longer b is.0 is.1 ∙ ap (λ bs. b ∷ bs) more)
    ]

-- the pieces of names that are joined by slashes are these names
abbrev has_no_slash : List ℕ → Bool
has_no_slash name = list_all is_name_byte name

not_true : (b : Bool) → not b ≡ true → b ≡ false
not_true true h = cc
not_true false h = refl

pieces_last : (name : List ℕ) → has_no_slash name ≡ true → pieces name ≡ name ∷ []
pieces_last [] h = refl
pieces_last (b ∷ name) h =
    let both = and_parts (not (b == 0) && not (b == slash)) (has_no_slash name) h in
    let other : (b == slash) ≡ false = not_true _ (and_parts (not (b == 0)) (not (b == slash)) both.0).1 in
    rw (other, pieces_last name both.1) refl

pieces_before : (name more : List ℕ) → has_no_slash name ≡ true → pieces (name ++ slash ∷ more) ≡ name ∷ pieces more
pieces_before [] more h = refl
pieces_before (b ∷ name) more h =
    let both = and_parts (not (b == 0) && not (b == slash)) (has_no_slash name) h in
    let other : (b == slash) ≡ false = not_true _ (and_parts (not (b == 0)) (not (b == slash)) both.0).1 in
    rw (other, pieces_before name more both.1) refl

name_has_no_slash : (name : List ℕ) → is_name name ≡ true → has_no_slash name ≡ true
name_has_no_slash name h =
    let dots = and_parts (not (length name == 0) && leb (length name) NAME_LIMIT && has_no_slash name && not (bytes_eq name (codes "."))) (not (bytes_eq name (codes ".."))) h in
    let dot = and_parts (not (length name == 0) && leb (length name) NAME_LIMIT && has_no_slash name) (not (bytes_eq name (codes "."))) dots.0 in
    (and_parts (not (length name == 0) && leb (length name) NAME_LIMIT) (has_no_slash name) dot.0).1

pieces_joined : (name : List ℕ) (names : List (List ℕ)) → list_all is_name (name ∷ names) ≡ true → pieces (join_names (name ∷ names)) ≡ name ∷ names
pieces_joined name [] h = pieces_last name (name_has_no_slash name (and_parts (is_name name) true h).0)
pieces_joined name (next ∷ names) h =
    let both = and_parts (is_name name) (list_all is_name (next ∷ names)) h in
    pieces_before name (join_names (next ∷ names)) (name_has_no_slash name both.0) ∙ ap (λ ps. name ∷ ps) (pieces_joined next names both.1)

names_ok : (b : Bool) (ps names : List (List ℕ)) → cond b (Some ps) None ≡ Some names → (b ≡ true) × (ps ≡ names)
names_ok true ps names h = (refl, cc)
names_ok false ps names h = cc

pub path_sound : (path : List ℕ) (names : List (List ℕ)) → names_of path ≡ Some names → IsPath names path
path_sound path names h =
    let found = names_ok _ (pieces path) names h in
    let tests = and_parts (leb (length (pieces path)) PATH_LIMIT) (list_all is_name (pieces path)) found.0 in
    let is = pieces_some path in
    let long : length (pieces path) ≡ 1 + length is.1 = ap length is.2 ∙ omega arith in
    subst (λ (ns : List (List ℕ)). IsPath ns path) found.1 (record {
      is_joined = joined_pieces path;
      is_some = omega arith;
      is_few = leb-true _ _ tests.0;
      are_names = tests.1;
    })

pieces_of_names : (names : List (List ℕ)) → 1 ≤ length names → list_all is_name names ≡ true → pieces (join_names names) ≡ names
pieces_of_names [] some h = absurd (omega arith)
pieces_of_names (name ∷ names) some h = pieces_joined name names h

pub path_complete : (path : List ℕ) (names : List (List ℕ)) → IsPath names path → names_of path ≡ Some names
path_complete path names is =
    let same : pieces path ≡ names = ap pieces (sym is.is_joined) ∙ pieces_of_names names is.is_some is.are_names in
    let few : leb (length names) PATH_LIMIT ≡ true = le-leb _ _ is.is_few in
    rw (same, few, is.are_names) refl

pub paths_law : PathsAreJoinedNames
paths_law = record { sound = path_sound; complete = path_complete }

-- One more byte of a path is read, after the pieces in `done`.
pub slash_turn : (path : List ℕ) (i : ℕ) (done : List (List ℕ)) (piece : List ℕ) → i < length path → get_or path i 0 ≡ slash → done ++ extended piece (pieces (drop i path)) ≡ pieces path → (done ++ piece ∷ []) ++ extended [] (pieces (drop (i + 1) path)) ≡ pieces path
slash_turn path i done piece within is so_far =
    append_assoc done (piece ∷ []) (extended [] (pieces (drop (i + 1) path)))
    ∙ ap (λ ps. done ++ ps) (sym (extended_slash piece (get_or path i 0) (drop (i + 1) path) is) ∙ ap (λ bs. extended piece (pieces bs)) (sym (drop_more path i 0 within)))
    ∙ so_far

pub other_turn : (path : List ℕ) (i : ℕ) (done : List (List ℕ)) (piece : List ℕ) → i < length path → ¬ (get_or path i 0 ≡ slash) → done ++ extended piece (pieces (drop i path)) ≡ pieces path → done ++ extended (piece ++ get_or path i 0 ∷ []) (pieces (drop (i + 1) path)) ≡ pieces path
other_turn path i done piece within other so_far =
    ap (λ ps. done ++ ps) (sym (extended_other piece (get_or path i 0) (drop (i + 1) path) other) ∙ ap (λ bs. extended piece (pieces bs)) (sym (drop_more path i 0 within)))
    ∙ so_far

pub pieces_done : (path : List ℕ) (i : ℕ) (done : List (List ℕ)) (piece : List ℕ) → length path ≤ i → done ++ extended piece (pieces (drop i path)) ≡ pieces path → done ++ piece ∷ [] ≡ pieces path
pieces_done path i done piece past so_far =
    let none : drop i path ≡ [] = drop_of_length-le path past in
    ap (λ p. done ++ p ∷ []) (sym (append-nil piece)) ∙ ap (λ bs. done ++ extended piece (pieces bs)) (sym none) ∙ so_far

-- the names of a path are all valid names
pub names_are_names : (path : List ℕ) (names : List (List ℕ)) → names_of path ≡ Some names → list_all is_name names ≡ true
names_are_names path names found = (path_sound path names found).are_names
