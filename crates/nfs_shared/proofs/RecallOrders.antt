-- Each move keeps the rule of the queue.
use Rattle.std.proofs.Common.{◌≡◌, ◌≢◌, ◌≤◌, ◌+◌, ℕ, zero, suc, Bool, true, true≢false, List, [], ◌∷◌, ◌++◌, length, set, sym, refl, ap, ◌∙◌, subst, ⊎_elim, arith, append_assoc, length-append}
use mathlib.Core.Option.{some, some-ne-none}
use mathlib.Core.List.{IsPrefix}
use lib.ListN.{get_elem?}
use Rattle.crossbeam_queue.specs.Fifo.{Pushes, Pops, Forks, Merges, Learns}
use Rattle.crossbeam_queue.proofs.Lists.{at_set, at_snoc}
use Rattle.nfs_rpc.specs.declared.recall.Recall.{Recall}
use Rattle.nfs_shared.specs.declared.recall_queue.Log.{Log}
use Rattle.nfs_shared.proofs.Prefixes.{prefix_length, prefix_more, prefix_nil, prefix_self}
use Rattle.nfs_shared.specs.RecallOrder.{log, putter, taker, idle, united, Fits, KnowsBeginnings, Relayed}

at_end : (l : List Log) (a b : Log) (j : ℕ) → get_elem? l j ≢ some b → get_elem? (l ++ a ∷ []) j ≡ some b → j ≡ length l
at_end [] a b zero n e = refl
at_end [] a b (suc j) n e = absurd (some-ne-none b (sym e))
at_end (x ∷ xs) a b zero n e = absurd (n e)
at_end (x ∷ xs) a b (suc j) n e = ap suc (at_end xs a b j n e)

abbrev All : (ℕ → Log → Type 0) → List Log → Type 0
All F views = (port : ℕ) (v : Log) → get_elem? views port ≡ some v → F port v

all_set : (F : ℕ → Log → Type 0) (views : List Log) (port : ℕ) (w : Log) → F port w → ((j : ℕ) (u : Log) → j ≢ port → get_elem? views j ≡ some u → F j u) → All F (set views port w)
all_set F views port w mine others j u e = ⊎_elim (λ (x : (j ≡ port) × (w ≡ u)). subst (λ (y : ℕ × Log). F y.0 y.1) (λ i. (sym x.0 i, x.1 i)) mine)
    (λ (x : (j ≢ port) × (get_elem? views j ≡ some u)). others j u x.0 x.1) (at_set views port j w u e)

-- a beginning of a list that is another one
prefix_to : (xs ys zs : List Recall) → IsPrefix xs ys → ys ≡ zs → IsPrefix xs zs
prefix_to xs ys zs p e = (p.0, p.1 ∙ e)

-- a pass that was told nothing
untold : (may may' : Bool) (put taken whole whole' : List Recall) → IsPrefix put whole → IsPrefix taken whole' → KnowsBeginnings whole whole' (log may may' put taken)
untold may may' put taken whole whole' p q = record { of_put = p; of_taken = q; of_told_put = prefix_nil whole; of_told_taken = prefix_nil whole' }

idles : (put taken : List Recall) → KnowsBeginnings put taken idle
idles put taken = untold _ _ [] [] put taken (prefix_nil put) (prefix_nil taken)

-- one more was put, or taken
more_put : (put taken : List Recall) (x : Recall) (v : Log) → KnowsBeginnings put taken v → KnowsBeginnings (put ++ x ∷ []) taken v
more_put put taken x v k = record {
  of_put = prefix_more v.put put (x ∷ []) k.of_put;
  of_taken = k.of_taken;
  of_told_put = prefix_more v.told_put put (x ∷ []) k.of_told_put;
  of_told_taken = k.of_told_taken;
}

more_taken : (put taken : List Recall) (x : Recall) (v : Log) → KnowsBeginnings put taken v → KnowsBeginnings put (taken ++ x ∷ []) v
more_taken put taken x v k = record {
  of_put = k.of_put;
  of_taken = prefix_more v.taken taken (x ∷ []) k.of_taken;
  of_told_put = k.of_told_put;
  of_told_taken = prefix_more v.told_taken taken (x ∷ []) k.of_told_taken;
}

pub begins : Relayed [] (log true true [] [] ∷ [])
begins = (0, 0, [], [], refl, all_set (Fits 0 0 [] []) (log true true [] [] ∷ []) 0 (log true true [] []) ((λ _. (refl, refl)), (λ _. (refl, refl)), untold _ _ [] [] [] [] (prefix_nil []) (prefix_nil [])) (λ j u other e. absurd (other (at_end [] _ u j (λ x. some-ne-none u (sym x)) e))))

pub puts : (n port : ℕ) (v : Log) (x : Recall) → v ≡ putter v.put v.taken → Pushes Relayed n port v x (λ w. w ≡ putter (v.put ++ x ∷ []) v.taken)
puts n port v x is items views _ h at = let w : Log = putter (v.put ++ x ∷ []) v.taken in let mine = (h.5 port v at).0 (ap (λ (y : Log). y.puts) is) in let put = h.2 ++ x ∷ [] in
    let all : v.put ++ x ∷ [] ≡ put = ap (λ l. l ++ x ∷ []) mine.1 in (
      w,
      (
        h.0,
        h.1,
        put,
        h.3,
        ap (λ l. l ++ x ∷ []) h.4 ∙ append_assoc h.3 items (x ∷ []),
        all_set (Fits h.0 h.1 put h.3) views port w ((λ _. (mine.0, all)), (λ p. absurd (true≢false (sym p))), untold _ _ (v.put ++ x ∷ []) v.taken put h.3 (prefix_to _ _ put (prefix_self (v.put ++ x ∷ [])) all) (h.5 port v at).2.of_taken)
            (λ j u other e. ((λ p. absurd (other (((h.5 j u e).0 p).0 ∙ sym mine.0))), (h.5 j u e).1, more_put h.2 h.3 x u (h.5 j u e).2)),
      ),
      refl,
    )

pub takes : (port : ℕ) (v : Log) → v ≡ taker v.put v.taken → Pops Relayed port v (λ x w. w ≡ taker v.put (v.taken ++ x ∷ []))
takes port v is x items views h at = let w : Log = taker v.put (v.taken ++ x ∷ []) in let mine = (h.5 port v at).1 (ap (λ (y : Log). y.takes) is) in let taken = h.3 ++ x ∷ [] in
    let all : v.taken ++ x ∷ [] ≡ taken = ap (λ l. l ++ x ∷ []) mine.1 in (
      w,
      (
        h.0,
        h.1,
        h.2,
        taken,
        h.4 ∙ sym (append_assoc h.3 (x ∷ []) items),
        all_set (Fits h.0 h.1 h.2 taken) views port w ((λ p. absurd (true≢false (sym p))), (λ _. (mine.0, all)), untold _ _ v.put (v.taken ++ x ∷ []) h.2 taken (h.5 port v at).2.of_put (prefix_to _ _ taken (prefix_self (v.taken ++ x ∷ [])) all))
            (λ j u other e. ((h.5 j u e).0, (λ p. absurd (other (((h.5 j u e).1 p).0 ∙ sym mine.0))), more_taken h.2 h.3 x u (h.5 j u e).2)),
      ),
      refl,
    )

-- what a pass that puts learns
pub covers : (port : ℕ) (v : Log) → v ≡ putter v.put v.taken → Learns Relayed port v (λ items. length items + length v.taken ≤ length v.put)
covers port v is items views h at =
    omega (arith, ap length (((h.5 port v at).0 (ap (λ (y : Log). y.puts) is)).1 ∙ h.4), length-append h.3 items, prefix_length v.taken h.3 (h.5 port v at).2.of_taken)

-- what a pass that takes learns
pub leaves : (port : ℕ) (v : Log) → v ≡ taker v.put v.taken → Learns Relayed port v (λ items. IsPrefix v.put (v.taken ++ items))
leaves port v is items views h at =
    prefix_to v.put h.2 (v.taken ++ items) (h.5 port v at).2.of_put (h.4 ∙ ap (λ l. l ++ items) (sym ((h.5 port v at).1 (ap (λ (y : Log). y.takes) is)).1))

pub forks : (port : ℕ) (v : Log) → v.puts ≡ true → v.takes ≡ true → Forks Relayed port v (putter v.put v.taken) (taker v.put v.taken)
forks port v a b items views h at = let l : Log = putter v.put v.taken in let r : Log = taker v.put v.taken in let mine = h.5 port v at in let vs : List Log = set views port l in
    let Old : ℕ → Log → Type 0 = λ j u. (u.puts ≡ true → (j ≡ h.0) × (u.put ≡ h.2)) × (u.takes ≢ true) × KnowsBeginnings h.2 h.3 u in
    let old : All Old vs = all_set Old views port l ((λ _. mine.0 a), (λ p. true≢false (sym p)), untold _ _ v.put v.taken h.2 h.3 mine.2.of_put mine.2.of_taken) (λ j u other e. ((h.5 j u e).0, (λ p. other (((h.5 j u e).1 p).0 ∙ sym (mine.1 b).0)), (h.5 j u e).2)) in (
      h.0,
      length vs,
      h.2,
      h.3,
      h.4,
      λ j u e. ⊎_elim (λ x. ((old j u x).0, (λ p. absurd ((old j u x).1 p)), (old j u x).2))
          (λ (is : r ≡ u). ((λ p. absurd (true≢false (sym (ap (λ (y : Log). y.puts) is ∙ p)))), (λ p. (at_end vs r u j (λ x. (old j u x).1 p) e, ap (λ (y : Log). y.taken) (sym is) ∙ (mine.1 b).1)), subst (KnowsBeginnings h.2 h.3) is (untold _ _ v.put v.taken h.2 h.3 mine.2.of_put mine.2.of_taken))) (at_snoc vs r u j e),
    )

-- the right to take goes to a new pass
pub hands_on : (port : ℕ) (v : Log) → v ≡ taker v.put v.taken → Forks Relayed port v idle v
hands_on port v is items views h at = let here = h.5 port v at in let mine = here.1 (ap (λ (y : Log). y.takes) is) in let vs : List Log = set views port idle in
    let Old : ℕ → Log → Type 0 = λ j u. (u.puts ≡ true → (j ≡ h.0) × (u.put ≡ h.2)) × (u.takes ≢ true) × KnowsBeginnings h.2 h.3 u in
    let old : All Old vs = all_set Old views port idle ((λ p. absurd (true≢false (sym p))), (λ p. true≢false (sym p)), idles h.2 h.3) (λ j u other e. ((h.5 j u e).0, (λ p. other (((h.5 j u e).1 p).0 ∙ sym mine.0)), (h.5 j u e).2)) in (
      h.0,
      length vs,
      h.2,
      h.3,
      h.4,
      λ j u e. ⊎_elim (λ x. ((old j u x).0, (λ p. absurd ((old j u x).1 p)), (old j u x).2))
          (λ (e' : v ≡ u). ((λ p. absurd (true≢false (sym (ap (λ (y : Log). y.puts) (sym is ∙ e') ∙ p)))), (λ p. (at_end vs v u j (λ x. (old j u x).1 p) e, ap (λ (y : Log). y.taken) (sym e') ∙ mine.1)), subst (KnowsBeginnings h.2 h.3) e' here.2)) (at_snoc vs v u j e),
    )

pub merges : (port : ℕ) (v : Log) (other : ℕ) (u : Log) → v.puts ≡ true → u.takes ≡ true → Merges Relayed port v other u (united v u) idle
merges port v other u a b items views h at two at' = let both : Log = united v u in let mine = h.5 port v at in let vs : List Log = set views port both in
    let was : get_elem? views other ≡ some u = ⊎_elim (λ x. absurd (two x.0)) (λ x. x.1) (at_set views port other both u at') in let there = h.5 other u was in let theirs = there.1 b in
    let knows : KnowsBeginnings h.2 h.3 both = record { of_put = mine.2.of_put; of_taken = there.2.of_taken; of_told_put = there.2.of_put; of_told_taken = mine.2.of_taken } in
    let Now : ℕ → Log → Type 0 = λ j y. j ≢ other → Fits h.0 port h.2 h.3 j y in
    let now : All Now vs = all_set Now views port both (λ _. ((λ _. mine.0 a), (λ _. (refl, theirs.1)), knows)) (λ j y _ e apart. ((h.5 j y e).0, (λ p. absurd (apart (((h.5 j y e).1 p).0 ∙ sym theirs.0))), (h.5 j y e).2)) in
    (h.0, port, h.2, h.3, h.4, all_set (Fits h.0 port h.2 h.3) vs other idle ((λ p. absurd (true≢false (sym p))), (λ p. absurd (true≢false (sym p))), idles h.2 h.3) (λ j y apart e. now j y e apart))

-- what a pass that does both learns
pub totals : (port : ℕ) (v : Log) → v.puts ≡ true → v.takes ≡ true → Learns Relayed port v (λ items. (v.put ≡ v.taken ++ items) × IsPrefix v.told_put v.put × IsPrefix v.told_taken v.taken)
totals port v a b items views h at = let mine = h.5 port v at in let put = (mine.0 a).1 in let taken = (mine.1 b).1 in
    (put ∙ h.4 ∙ ap (λ l. l ++ items) (sym taken), prefix_to v.told_put h.2 v.put mine.2.of_told_put (sym put), prefix_to v.told_taken h.3 v.taken mine.2.of_told_taken (sym taken))
