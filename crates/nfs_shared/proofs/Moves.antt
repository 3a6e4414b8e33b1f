-- Each step of the table keeps its rule.
use Rattle.std.proofs.Common.{◌≡◌, ◌≢◌, ℕ, zero, suc, ◌+◌, ◌==◌, nat_lt, cond, List, [], ◌∷◌, ◌++◌, length, set, Bool, true, false, true≢false, refl, sym, ap, ◌∙◌, subst, ⊎_elim, arith, length-append}
use Rattle.std.specs.Prelude.{slice_index}
use mathlib.Core.Option.{none, some, some-ne-none, some-injective}
use mathlib.Core.List.{IsPrefix}
use lib.ListN.{get_elem?}
use prog.Atomic.{either}
use Rattle.atomic_table.specs.Table.{State, step, keeps, Allows, Splits, Joins}
use Rattle.atomic_table.proofs.Lists.{at_set, at_snoc, set_again, exchanged}
use Rattle.nfs_shared.specs.declared.receipt.Receipt.{Receipt}
use Rattle.nfs_shared.specs.declared.roll.View.{View}
use Rattle.nfs_shared.specs.Roll.{writer_of, reader_of, beside, longer, Fits, Kept, Added, Compared}
use Rattle.nfs_shared.proofs.Prefixes.{prefix_nil, prefix_self, prefix_more}

fits_set : (seat : ℕ) (all now : List Receipt) (views : List View) (by : ℕ) (w : View)
    → ((j : ℕ) (u : View) → j ≢ by → get_elem? views j ≡ some u → Fits seat now j u) → Fits seat now by w
    → (j : ℕ) (u : View) → get_elem? (set views by w) j ≡ some u → Fits seat now j u
fits_set seat all now views by w others mine j u e =
    ⊎_elim
    (λ (x : (j ≡ by) × (w ≡ u)). subst (λ (y : ℕ × View). Fits seat now y.0 y.1) (λ i. (sym x.0 i, x.1 i)) mine)
    (λ (x : (j ≢ by) × (get_elem? views j ≡ some u)). others j u x.0 x.1)
    (at_set views by j w u e)

off : false ≡ true → ⊥
off e = true≢false (sym e)

-- a reader's list that begins all receipts fits
reads : (seat : ℕ) (all : List Receipt) (by : ℕ) (list : List Receipt) → IsPrefix list all → Fits seat all by (reader_of list)
reads seat all by list p = ((λ w. absurd (off w)), p, prefix_nil all)

longer_begins : (xs ys all : List Receipt) → IsPrefix xs all → IsPrefix ys all → IsPrefix (longer xs ys) all
longer_begins xs ys all p q = either_one (nat_lt (length xs) (length ys))
  where
    either_one : (b : Bool) → IsPrefix (cond b ys xs) all
    either_one true = q
    either_one false = p

-- a table with no receipts
pub begins : (s : State Receipt View) → s.words ≡ 0 ∷ [] → s.views ≡ writer_of [] ∷ [] → Kept s
begins s words views = (0, [], words, subst (λ (vs : List View). (by : ℕ) (v : View) → get_elem? vs by ≡ some v → Fits 0 [] by v) (sym views) one)
  where
    one : (by : ℕ) (v : View) → get_elem? (writer_of [] ∷ []) by ≡ some v → Fits 0 [] by v
    one zero v e = subst (Fits 0 [] 0) (some-injective _ _ e) ((λ _. (refl, refl)), prefix_nil [], prefix_nil [])
    one (suc by) v e = absurd (some-ne-none v (sym e))

-- a note is split off
pub copies : (id : ℕ) (v : View) → Splits Kept id v v (reader_of v.list)
copies id v s h at = (
  h.0,
  h.1,
  h.2,
  λ j u e. ⊎_elim
      (λ was. h.3 j u (subst (λ l. get_elem? l j ≡ some u) (set_again s.views id v at) was))
      (λ (same : reader_of v.list ≡ u). subst (Fits h.0 h.1 j) same (reads h.0 h.1 j v.list (h.3 id v at).1))
      (at_snoc (set s.views id v) (reader_of v.list) u j e),
)

-- a number is noted
pub counts : (id : ℕ) (v : View) (count : ℕ) → Splits Kept id v (record v { seen = v.seen ++ count ∷ [] }) (reader_of [])
counts id v count s h at =
    let left : View = record v { seen = v.seen ++ count ∷ [] } in (
      h.0,
      h.1,
      h.2,
      λ j u e. ⊎_elim
          (λ (was : get_elem? (set s.views id left) j ≡ some u). fits_set h.0 h.1 h.1 s.views id left (λ i y _ there. h.3 i y there) (h.3 id v at) j u was)
          (λ (same : reader_of [] ≡ u). subst (Fits h.0 h.1 j) same (reads h.0 h.1 j [] (prefix_nil h.1)))
          (at_snoc (set s.views id left) (reader_of []) u j e),
    )

-- a view changes to w, where a note is taken in
joins : (id : ℕ) (v : View) (other : ℕ) (note w : View)
    → ((seat : ℕ) (all : List Receipt) → Fits seat all id v → Fits seat all other note → Fits seat all id w)
    → Joins Kept id v other note w (reader_of [])
joins id v other note w fits s h at apart there =
    let mine = h.3 id v at in
    let theirs = ⊎_elim (λ (t : (other ≡ id) × (w ≡ note)). absurd (apart t.0)) (λ (t : (other ≢ id) × (get_elem? s.views other ≡ some note)). h.3 other note t.1) (at_set s.views id other w note there) in (
      h.0,
      h.1,
      h.2,
      fits_set h.0 h.1 h.1 (set s.views id w) other (reader_of [])
          (λ j u _ e. fits_set h.0 h.1 h.1 s.views id w (λ i y _ e'. h.3 i y e') (fits h.0 h.1 mine theirs) j u e)
          (reads h.0 h.1 other [] (prefix_nil h.1)),
    )

pub puts_beside : (id : ℕ) (v : View) (other : ℕ) (note : View) → Joins Kept id v other note (beside v note) (reader_of [])
puts_beside id v other note = joins id v other note (beside v note) (λ seat all mine theirs. (mine.0, mine.1, theirs.1))

pub takes_longer : (id : ℕ) (v : View) (other : ℕ) (note : View) → Joins Kept id v other note (record (reader_of (longer v.list note.list)) { seen = v.seen }) (reader_of [])
takes_longer id v other note =
    joins id v other note (record (reader_of (longer v.list note.list)) { seen = v.seen }) (λ seat all mine theirs. reads seat all id (longer v.list note.list) (longer_begins v.list note.list all mine.1 theirs.1))

-- the writer compares what was put beside its list
pub compares : (slots id : ℕ) (v : View) (slots_held : List (ℕ × Receipt)) → v.writes ≡ true
    → Allows Kept slots id (v, slots_held) 0 (λ n. n) (Compared (step slots 0 0 0 none) (v, slots_held))
compares slots id v slots_held writes s h homes at bound =
    let mine = h.3 id v at in
    let all = h.1 in (
      writer_of v.list,
      keeps,
      tt,
      (
        h.0,
        all,
        ap (λ ws. set ws 0 (slice_index ws 0)) h.2,
        fits_set h.0 all all s.views id (writer_of v.list) (λ j u _ e. h.3 j u e) ((λ _. mine.0 writes), mine.1, prefix_nil all),
      ),
      (refl, subst (IsPrefix v.told) (sym (mine.0 writes).1) mine.2),
    )

-- the writer adds a receipt
pub adds : (slots id : ℕ) (list : List Receipt) (slots_held : List (ℕ × Receipt)) (count : ℕ) (receipt : Receipt) → length list ≡ count
    → Allows Kept slots id (writer_of list, slots_held) 0 (λ n. either (n == count) (count + 1) n) (Added (step slots 0 count (count + 1) (some receipt)) (writer_of list, slots_held))
adds slots id list slots_held count receipt length_is s h homes at bound =
    let mine = h.3 id (writer_of list) at in
    let all = h.1 in
    let known : (id ≡ h.0) × (list ≡ all) = mine.0 refl in
    let grown = list ++ receipt ∷ [] in (
      writer_of grown,
      keeps,
      tt,
      (
        h.0,
        grown,
        subst (λ (ws : List ℕ). set ws 0 (either (slice_index ws 0 == count) (count + 1) (slice_index ws 0)) ≡ length grown ∷ []) (sym h.2) (counts all known.1),
        fits_set h.0 all grown s.views id (writer_of grown)
            (λ j u apart e. let f = h.3 j u e in ((λ w. absurd (apart ((f.0 w).0 ∙ sym known.0))), grows all u.list known.1 f.1, grows all u.told known.1 f.2))
            ((λ _. (known.0, refl)), prefix_self grown, prefix_nil grown),
      ),
      refl,
    )
  where
    grows : (all xs : List Receipt) → list ≡ all → IsPrefix xs all → IsPrefix xs (list ++ receipt ∷ [])
    grows all xs same p = prefix_more xs list (receipt ∷ []) (subst (IsPrefix xs) (sym same) p)

    counts : (all : List Receipt) → list ≡ all → either (length all == count) (count + 1) (length all) ∷ [] ≡ length (list ++ receipt ∷ []) ∷ []
    counts all same =
        let here : length all ≡ count = ap length (sym same) ∙ length_is in
        ap (λ (k : ℕ). k ∷ []) (exchanged (length all) count (count + 1) (λ k. k ≡ length (list ++ receipt ∷ [])) (λ _. omega (arith, length-append list (receipt ∷ []))) (λ ne. absurd (ne here)))
