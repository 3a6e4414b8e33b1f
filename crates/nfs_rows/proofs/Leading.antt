-- An index that leads from hashes to numbers of rows.
use Rattle.std.proofs.Common.{◌≡◌, ◌≢◌, ℕ, ◌<◌, List, [], ◌∷◌, ◌++◌, Some, None, inl, inr, refl, sym, ap, ◌∙◌, subst, arith}
use Rattle.std.specs.Prelude.{nat_eq, ◌⊎◌}
use Rattle.std.specs.List.{AllByRecursion}
use Rattle.std.proofs.lemmas.Bool.{cases_eq, eqb-true, false_from_ne_true}
use Rattle.indexmap.specs.IndexMap.{IndexMap, get, Updates, UpdatesBy}
use Rattle.nfs_rows.specs.declared.place.Place.{Place}
use Rattle.nfs_rows.specs.Places.{IsIndexed, Leads, NumbersRise}
use Rattle.nfs_rows.proofs.Each.{all_append, all_around, all_back, all_both, all_front, all_weaken, so_before, so_behind}

same_number : (a b : ℕ) → Some a ≡ Some b → a ≡ b
same_number a b is = cc

no_number : (a : ℕ) → None ≡ Some a → ⊥
no_number a is = cc

pub leads_append : (hash number : ℕ) (ps qs : List Place) → Leads ps hash number → Leads (ps ++ qs) hash number
leads_append hash number [] qs leads = absurd leads
leads_append hash number (p ∷ ps) qs (inl here) = inl here
leads_append hash number (p ∷ ps) qs (inr there) = inr (leads_append hash number ps qs there)

pub leads_last : (ps : List Place) (p : Place) → Leads (ps ++ p ∷ []) p.hash p.number
leads_last [] p = inl (refl, refl)
leads_last (q ∷ ps) p = inr (leads_last ps p)

leads_around : (hash number : ℕ) (front : List Place) (p : Place) (back : List Place) → Leads (front ++ p ∷ back) hash number → p.hash ≢ hash → Leads (front ++ back) hash number
leads_around hash number [] p back (inl here) differs = absurd (differs here.0)
leads_around hash number [] p back (inr there) differs = there
leads_around hash number (q ∷ front) p back (inl here) differs = inl here
leads_around hash number (q ∷ front) p back (inr there) differs = inr (leads_around hash number front p back there differs)

-- the places, cut at one with the hash and the number
pub record Led (ps : List Place) (hash number : ℕ) : Type 0 where
  pub front : List Place
  pub place : Place
  pub back : List Place
  pub whole : ps ≡ front ++ place ∷ back
  pub hashed : place.hash ≡ hash
  pub numbered : place.number ≡ number

pub led : (ps : List Place) (hash number : ℕ) → Leads ps hash number → Led ps hash number
led [] hash number leads = absurd leads
led (p ∷ ps) hash number (inl here) = record { front = []; place = p; back = ps; whole = refl; hashed = here.0; numbered = here.1 }
led (p ∷ ps) hash number (inr there) =
    let rest = led ps hash number there in
    record { front = p ∷ rest.front; place = rest.place; back = rest.back; whole = ap (λ qs. p ∷ qs) rest.whole; hashed = rest.hashed; numbered = rest.numbered }

module _ {S : Type 0} where
  -- a place with another number has another hash
  other_hash : (index : IndexMap ℕ ℕ S) (p q : Place) → get nat_eq index p.hash ≡ Some p.number → get nat_eq index q.hash ≡ Some q.number → q.number ≢ p.number → q.hash ≢ p.hash
  other_hash index p q led other differs same = differs (same_number q.number p.number (sym other ∙ ap (get nat_eq index) same ∙ led))

  module _ (index : IndexMap ℕ ℕ S) (front : List Place) (p : Place) (back : List Place) (rise : NumbersRise (front ++ p ∷ back)) (indexed : IsIndexed index (front ++ p ∷ back)) where
    abbrev IsLed : Place → Type 0
    IsLed q = get nat_eq index q.hash ≡ Some q.number

    led_here : IsLed p
    led_here = (all_back IsLed front (p ∷ back) indexed.leads).0

    pub hashes_before : AllByRecursion (λ q. q.hash ≢ p.hash) front
    hashes_before =
        all_both IsLed (λ q. q.number ≢ p.number) (λ q. q.hash ≢ p.hash) (λ q h differs. other_hash index p q led_here h differs) front (all_front IsLed front (p ∷ back) indexed.leads)
        (all_weaken (λ q. q.number < p.number) (λ q. q.number ≢ p.number) (λ q below same. omega (arith, below, same)) front (so_before (λ p q. p.number < q.number) front p back rise))

    pub hashes_behind : AllByRecursion (λ q. q.hash ≢ p.hash) back
    hashes_behind =
        all_both IsLed (λ q. q.number ≢ p.number) (λ q. q.hash ≢ p.hash) (λ q h differs. other_hash index p q led_here h differs) back ((all_back IsLed front (p ∷ back) indexed.leads).1)
        (all_weaken (λ q. p.number < q.number) (λ q. q.number ≢ p.number) (λ q above same. omega (arith, above, same)) back (so_behind (λ p q. p.number < q.number) front p back rise))

    -- without the hash of a place, the index leads to the others
    pub indexed_less : (new : IndexMap ℕ ℕ S) → UpdatesBy nat_eq (nat_eq p.hash) index new None → IsIndexed new (front ++ back)
    indexed_less new updates =
        let others = all_append (λ q. q.hash ≢ p.hash) front back hashes_before hashes_behind in
        record {
          leads = all_both IsLed (λ q. q.hash ≢ p.hash) (λ q. get nat_eq new q.hash ≡ Some q.number)
              (λ q h differs. updates.2 q.hash (false_from_ne_true _ (λ same. differs (sym (eqb-true p.hash q.hash same)))) ∙ h) (front ++ back) (all_around IsLed front p back indexed.leads) others;
          own = λ hash number leads. by hash number leads (cases_eq p.hash hash);
        }
      where
        by : (hash number : ℕ) → get nat_eq new hash ≡ Some number → (p.hash ≡ hash) ⊎ (p.hash ≢ hash) → Leads (front ++ back) hash number
        by hash number leads (inl same) = absurd (no_number number (sym updates.1 ∙ ap (get nat_eq new) same ∙ leads))
        by hash number leads (inr differs) =
            leads_around hash number front p back (indexed.own hash number (sym (updates.2 hash (false_from_ne_true _ (λ same. differs (eqb-true p.hash hash same)))) ∙ leads)) differs

  -- with the hash of a newcomer, which no place had, it leads to the newcomer too
  pub indexed_more : (old new : IndexMap ℕ ℕ S) (ps : List Place) (p : Place) → IsIndexed old ps → get nat_eq old p.hash ≡ None → Updates nat_eq old new p.hash (Some p.number)
      → IsIndexed new (ps ++ p ∷ [])
  indexed_more old new ps p indexed none updates = record {
    leads = all_append (λ q. get nat_eq new q.hash ≡ Some q.number) ps (p ∷ [])
        (all_weaken (λ q. get nat_eq old q.hash ≡ Some q.number) (λ q. get nat_eq new q.hash ≡ Some q.number)
        (λ q h. updates.2 q.hash (false_from_ne_true _ (λ same. no_number q.number (sym none ∙ ap (get nat_eq old) (eqb-true p.hash q.hash same) ∙ h))) ∙ h) ps indexed.leads)
        (updates.1, tt);
    own = λ hash number leads. by hash number leads (cases_eq p.hash hash);
  }
    where
      by : (hash number : ℕ) → get nat_eq new hash ≡ Some number → (p.hash ≡ hash) ⊎ (p.hash ≢ hash) → Leads (ps ++ p ∷ []) hash number
      by hash number leads (inl same) =
          subst (λ h. Leads (ps ++ p ∷ []) h number) same
          (subst (λ n. Leads (ps ++ p ∷ []) p.hash n) (same_number p.number number (sym updates.1 ∙ ap (get nat_eq new) same ∙ leads)) (leads_last ps p))
      by hash number leads (inr differs) =
          leads_append hash number ps (p ∷ []) (indexed.own hash number (sym (updates.2 hash (false_from_ne_true _ (λ same. differs (eqb-true p.hash hash same)))) ∙ leads))

  -- where the index has nothing at a hash, no place has it
  pub none_led : (index : IndexMap ℕ ℕ S) (ps : List Place) (hash : ℕ) → IsIndexed index ps → get nat_eq index hash ≡ None → AllByRecursion (λ p. p.hash ≢ hash) ps
  none_led index ps hash indexed none =
      all_weaken (λ p. get nat_eq index p.hash ≡ Some p.number) (λ p. p.hash ≢ hash) (λ p led same. no_number p.number (sym none ∙ ap (get nat_eq index) (sym same) ∙ led)) ps indexed.leads
