-- Lemmas on the opens and the delegations of all files.
use Rattle.std.proofs.Common.{◌≡◌, ℕ, zero, suc, ◌+◌, ◌-◌, ◌<◌, ◌≤◌, Bool, ◌||◌, List, [], ◌∷◌, ◌++◌, drop, length, get_or, map, set, take, refl, sym, ◌∙◌, ap, arith}
use Rattle.std.specs.Prelude.{slice_get, IfSome}
use Rattle.std.specs.List.{list_any}
use Rattle.std.proofs.lemmas.List.{append-nil, drop_all, get_or-map, length-map, map-set, take_all}
use Rattle.std.proofs.lemmas.List.Edits.{map_over_more}
use Rattle.nfs_share.specs.AllOpens.{total_length}
use Rattle.nfs_share.specs.Opens.{FileOpens}

module _ {X : Type 0} where
  -- the count from an index on is the length there, and the count behind
  count_from : (all : List (List X)) (i : ℕ) (d : List X) → i < length all
      → total_length (drop i all) ≡ length (get_or all i d) + total_length (drop (i + 1) all)
  count_from [] i d below = absurd (omega arith)
  count_from (xs ∷ all) zero d below = refl
  count_from (xs ∷ all) (suc i) d below =
      let next : suc i + 1 ≡ suc (i + 1) = omega arith in
      rw next (count_from all i d (omega arith))

  -- the places that are left after one more file
  pub place_taken : (all : List (List X)) (i : ℕ) (d : List X) (left taken next whole : ℕ) → i < length all
      → taken ≡ length (get_or all i d) → next ≡ left - taken → left - total_length (drop i all) ≡ whole
      → next - total_length (drop (i + 1) all) ≡ whole
  place_taken all i d left taken next whole below is less so_far =
      omega (arith, count_from all i d below, is, less, so_far)

module _ {X : Type 0} (get : FileOpens → List X) where
  -- a test of what each file has is one of what all files have
  pub any_seen : (p : List X → Bool) (files : List FileOpens) → list_any (λ f. p (get f)) files ≡ list_any p (map get files)
  any_seen p [] = refl
  any_seen p (f ∷ files) = ap (λ b. p (get f) || b) (any_seen p files)

  -- a loop changes what one more file has
  pub changes_one_more : (change : List X → List X) (old new : List FileOpens) (i : ℕ) (d next : FileOpens)
      → i < length old → length new ≡ length old
      → map get new ≡ map change (take i (map get old)) ++ drop i (map get old)
      → get next ≡ change (get (get_or new i d))
      → map get (set new i next) ≡ map change (take (i + 1) (map get old)) ++ drop (i + 1) (map get old)
  changes_one_more change old new i d next below same so_far is =
      map-set get new i next
      ∙ ap (set (map get new) i) is
      ∙ map_over_more change (map get old) (map get new) i (get (get_or new i d))
      (omega (arith, length-map old get)) so_far
      (sym (get_or-map get new i d (get (get_or new i d)) (omega arith)))

  -- after the loop what all files have is changed
  pub all_changed : (change : List X → List X) (old new : List FileOpens) (i : ℕ) → length old ≤ i
      → map get new ≡ map change (take i (map get old)) ++ drop i (map get old)
      → map get new ≡ map change (map get old)
  all_changed change old new i past so_far =
      let end : length (map get old) ≤ i = omega (arith, length-map old get) in
      so_far
      ∙ ap (λ front. map change front ++ drop i (map get old)) (take_all i (map get old) end)
      ∙ ap (λ back. map change (map get old) ++ back) (drop_all i (map get old) end)
      ∙ append-nil (map change (map get old))

  -- a loop leaves what one more file has
  pub leaves_one_more : (old new : List FileOpens) (i : ℕ) (d next : FileOpens) → i < length new
      → map get new ≡ map get old → get next ≡ get (get_or new i d)
      → map get (set new i next) ≡ map get old
  leaves_one_more old [] i d next below so_far is = absurd (omega (arith, below))
  leaves_one_more old (f ∷ new) zero d next below so_far is = ap (λ x. x ∷ map get new) is ∙ so_far
  leaves_one_more old (f ∷ new) (suc i) d next below so_far is =
      ap (λ xs. get f ∷ xs) (leaves_one_more new new i d next (omega (arith, below)) refl is) ∙ so_far

  -- what a file has among what all files have
  pub one_seen : (change : List X → List X) (files : List FileOpens) (i : ℕ) (d : FileOpens) (e : List X) → i < length files
      → change (get (get_or files i d)) ≡ get_or (map change (map get files)) i e
  one_seen change files i d e below =
      sym (get_or-map change (map get files) i (get (get_or files i d)) e (omega (arith, length-map files get))
      ∙ ap change (get_or-map get files i d (get (get_or files i d)) below))

  pub one_there : (files : List FileOpens) (i : ℕ) (d : FileOpens) (e : List X) → i < length files
      → get (get_or files i d) ≡ get_or (map get files) i e
  one_there files i d e below = sym (get_or-map get files i d e below)

  pub as_many : (files : List FileOpens) → length (map get files) ≡ length files
  as_many files = length-map files get

  pub as_many_changed : (change : List X → List X) (files : List FileOpens) → length (map change (map get files)) ≡ length files
  as_many_changed change files = length-map (map get files) change ∙ as_many files

-- a change of a file that leaves it its room leaves each file its room
pub keeps_room : (room : FileOpens → ℕ) (files : List FileOpens) (i node : ℕ) (d next : FileOpens) → room (get_or files i d) ≤ room next
    → IfSome (slice_get files node) (λ f. 0 < room f) → IfSome (slice_get (set files i next) node) (λ f. 0 < room f)
keeps_room room [] i node d next more has = has
keeps_room room (f ∷ files) zero zero d next more has = omega (arith, more, has)
keeps_room room (f ∷ files) zero (suc node) d next more has = has
keeps_room room (f ∷ files) (suc i) zero d next more has = has
keeps_room room (f ∷ files) (suc i) (suc node) d next more has = keeps_room room files i node d next more has
