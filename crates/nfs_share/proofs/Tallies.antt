-- What each client has, after a change of what there is.
use Rattle.std.proofs.Common.{◌≡◌, ℕ, suc, ◌+◌, ◌-◌, ◌<◌, ◌^◌, Bool, true, false, not, cond, ◌&&◌, List, [], ◌∷◌, length, filter, Option, Some, None, refl, sym, ap, subst, ◌∙◌, arith}
use Rattle.std.specs.Prelude.{Err, IsOk, IsSome, Ok, OnOk, Result, ◌==◌}
use Rattle.std.proofs.lemmas.Bool.{and_from, and_parts, eq-eqb, eqb-true, false_from_ne_true}
use Rattle.nfs_forms.specs.ClientId.{is_same_client}
use Rattle.nfs_forms.specs.declared.client_id.ClientId.{ClientId}
use Rattle.nfs_share.specs.ShareCounts.{how_many}
use Rattle.nfs_share.specs.Tally.{IsTally, Mark, count_of, entry_of, is_own, mark_of}
use Rattle.nfs_share.specs.declared.count.Count.{Count}
use Rattle.nfs_share.specs.declared.tally.Tally.{Tally}
use Rattle.nfs_share.proofs.AtMostOne.{not_false}
use Rattle.nfs_share.proofs.Counting.{SameCounts, how_many_alike, how_many_left, how_many_less, how_many_split, how_many_within}

pub equal_clients : (a b : ClientId) → is_same_client a b ≡ true → a ≡ b
equal_clients a b same =
    let each = and_parts (a.epoch == b.epoch) (a.number == b.number) same in
    let epoch = eqb-true a.epoch b.epoch each.0 in
    let number = eqb-true a.number b.number each.1 in
    λ i. record { epoch = epoch i; number = number i }

pub same_client_self : (a : ClientId) → is_same_client a a ≡ true
same_client_self a = and_from (a.epoch == a.epoch) (a.number == a.number) (eq-eqb a.epoch a.epoch refl) (eq-eqb a.number a.number refl)

pub entry_zero : (c : Count) → c.all ≡ 0 → entry_of c ≡ None
entry_zero c none = ap (λ b. cond b None (Some c)) (eq-eqb c.all 0 none)

pub entry_some : (c : Count) → (c.all ≡ 0 → ⊥) → entry_of c ≡ Some c
entry_some c more = ap (λ b. cond b None (Some c)) (false_from_ne_true (c.all == 0) (λ none. more (eqb-true c.all 0 none)))

none_in : (c : Count) → None ≡ entry_of c → c.all ≡ 0
none_in c none = by (c.all == 0) refl none
  where
    by : (b : Bool) → (c.all == 0) ≡ b → None ≡ cond b None (Some c) → c.all ≡ 0
    by true is h = eqb-true c.all 0 is
    by false is h = absurd (cc)

count_is : (a b : Count) → a.all ≡ b.all → a.marked ≡ b.marked → a ≡ b
count_is a b all marked = λ i. record { all = all i; marked = marked i }

-- of whom nothing is kept, has nothing
pub none_counted : (test : Mark → Bool) (marks : List Mark) → None ≡ entry_of (count_of test marks) → record { all = 0; marked = 0 } ≡ count_of test marks
none_counted test marks none =
    let zero = none_in (count_of test marks) none in
    count_is (record { all = 0; marked = 0 }) (count_of test marks) (sym zero)
    (omega (arith, zero, how_many_less (λ m. test m && m.marked) test (λ m both. (and_parts (test m) m.marked both).0) marks))

-- a count with one thing more, if it is counted
abbrev counted : Bool → Bool → Count → Count
counted own marked c = record { all = cond own (suc c.all) c.all; marked = cond (own && marked) (suc c.marked) c.marked }

counted_not : (b marked : Bool) (c : Count) → b ≡ false → counted b marked c ≡ c
counted_not b marked c is = ap (λ own. counted own marked c) is

counted_yes : (b marked : Bool) (c : Count) → b ≡ true → counted b marked c ≡ record { all = suc c.all; marked = cond marked (suc c.marked) c.marked }
counted_yes b marked c is = ap (λ own. counted own marked c) is

pub count_same : (test : Mark → Bool) (marks others : List Mark) → SameCounts marks others → count_of test marks ≡ count_of test others
count_same test marks others same =
    count_is (count_of test marks) (count_of test others) (same test) (same (λ m. test m && m.marked))

-- It doesn't matter in which order the things are.
pub tally_same : (t : Tally) (marks others : List Mark) → SameCounts marks others → IsTally t marks → IsTally t others
tally_same t marks others same tally = record {
  own = λ client. tally.own client ∙ ap entry_of (count_same (is_own client) marks others same);
  all = tally.all ∙ count_same (λ m. true) marks others same;
}

-- what is kept of each client, after one client's count was written
pub with_own : (client : ClientId) (before after : List Mark) (old new : ClientId → Option Count) (own : Count)
    → ((q : ClientId) → old q ≡ entry_of (count_of (is_own q) before))
    → ((q : ClientId) → new q ≡ cond (is_same_client client q) (entry_of own) (old q))
    → own ≡ count_of (is_own client) after
    → ((q : ClientId) → is_same_client client q ≡ false → count_of (is_own q) before ≡ count_of (is_own q) after)
    → (q : ClientId) → new q ≡ entry_of (count_of (is_own q) after)
with_own client before after old new own was writes is others q = writes q ∙ by (is_same_client client q) refl
  where
    by : (b : Bool) → is_same_client client q ≡ b → cond b (entry_of own) (old q) ≡ entry_of (count_of (is_own q) after)
    by true same = ap entry_of is ∙ ap (λ c. entry_of (count_of (is_own c) after)) (equal_clients client q same)
    by false differs = was q ∙ ap entry_of (others q differs)

module _ (client : ClientId) (marked : Bool) (marks : List Mark) where
  abbrev more : List Mark
  more = mark_of client marked ∷ marks

  -- the client's count with one more, and those of others
  pub own_more : record { all = suc (how_many (is_own client) marks); marked = cond marked (suc (how_many (λ m. is_own client m && m.marked) marks)) (how_many (λ m. is_own client m && m.marked) marks) } ≡ count_of (is_own client) more
  own_more = sym (counted_yes (is_same_client client client) marked (count_of (is_own client) marks) (same_client_self client))

  pub others_more : (q : ClientId) → is_same_client client q ≡ false → count_of (is_own q) marks ≡ count_of (is_own q) more
  others_more q differs = sym (counted_not (is_same_client client q) marked (count_of (is_own q) marks) differs)

  pub fits : (test : Mark → Bool) (n : ℕ) → n ≡ how_many test marks → length marks + 1 < 2 ^ 64 → n + 1 < 2 ^ 64
  fits test n is few = omega (arith, is, how_many_within test marks, few)

  -- one more, and one less
  pub plus_is : (test : Mark → Bool) (before after : Count) → test (mark_of client marked) ≡ true → before ≡ count_of test marks
      → (before.all + 1 < 2 ^ 64 → before.marked + 1 < 2 ^ 64 → after ≡ record { all = suc before.all; marked = cond marked (suc before.marked) before.marked })
      → length marks + 1 < 2 ^ 64 → after ≡ count_of test more
  plus_is test before after own is grows few =
      grows (fits test before.all (ap (λ (c : Count). c.all) is) few) (fits (λ m. test m && m.marked) before.marked (ap (λ (c : Count). c.marked) is) few)
      ∙ ap (λ (c : Count). record { all = suc c.all; marked = cond marked (suc c.marked) c.marked }) is
      ∙ sym (counted_yes (test (mark_of client marked)) marked (count_of test marks) own)

  pub less_is : (test : Mark → Bool) (before after : Count) → test (mark_of client marked) ≡ true → before ≡ count_of test more
      → after ≡ record { all = before.all - 1; marked = cond marked (before.marked - 1) before.marked } → after ≡ count_of test marks
  less_is test before after own is falls =
      let was = is ∙ counted_yes (test (mark_of client marked)) marked (count_of test marks) own in
      falls ∙ ap (λ (c : Count). record { all = c.all - 1; marked = cond marked (c.marked - 1) c.marked }) was
      ∙ by marked (how_many test marks) (how_many (λ m. test m && m.marked) marks)
    where
      by : (b : Bool) (n k : ℕ) → ◌≡◌ {A = Count} (record { all = suc n - 1; marked = cond b (cond b (suc k) k - 1) (cond b (suc k) k) }) (record { all = n; marked = k })
      by true n k = count_is (record { all = suc n - 1; marked = suc k - 1 }) (record { all = n; marked = k }) (omega arith) (omega arith)
      by false n k = count_is (record { all = suc n - 1; marked = k }) (record { all = n; marked = k }) (omega arith) refl

-- the count of a client that has one more is kept
pub more_kept : (client : ClientId) (marked : Bool) (marks : List Mark) (own : Count) → own ≡ count_of (is_own client) (mark_of client marked ∷ marks) → entry_of own ≡ Some own
more_kept client marked marks own is =
    entry_some own (λ none. omega (arith, none, ap (λ (c : Count). c.all) (is ∙ sym (own_more client marked marks))))

-- what holds where there is no error, holds
pub from_ok : {X E : Type 0} (r : Result X E) (P : Type 0) → IsOk r → OnOk r P → P
from_ok (Ok x) P is h = h
from_ok (Err e) P is h = absurd (not_false (sym is))

-- something is kept of a client that has something
pub has_own : (client : ClientId) (marked : Bool) (marks : List Mark) (found : Option Count) → found ≡ entry_of (count_of (is_own client) (mark_of client marked ∷ marks)) → IsSome found
has_own client marked marks found is =
    subst IsSome (sym (is ∙ ap entry_of (sym (own_more client marked marks)) ∙ entry_some (record { all = suc (how_many (is_own client) marks); marked = cond marked (suc (how_many (λ m. is_own client m && m.marked) marks)) (how_many (λ m. is_own client m && m.marked) marks) }) (λ none. omega (arith, none)))) refl

-- what others have: all, less what the client has
pub others_count : (client : ClientId) (marks : List Mark) (all own left : Count) → all ≡ count_of (λ m. true) marks → own ≡ count_of (is_own client) marks
    → left ≡ record { all = all.all - own.all; marked = all.marked - own.marked } → left ≡ count_of (λ m. not (is_own client m)) marks
others_count client marks all own left all_is own_is is =
    is ∙ (λ i. record { all = (all_is i).all - (own_is i).all; marked = (all_is i).marked - (own_is i).marked })
    ∙ count_is (record { all = how_many (λ m. true) marks - how_many (is_own client) marks; marked = how_many (λ m. m.marked) marks - how_many (λ m. is_own client m && m.marked) marks }) (count_of (λ m. not (is_own client m)) marks)
    (omega (arith, how_many_split (is_own client) (λ m. true) marks, how_many_alike (λ m. is_own client m && true) (is_own client) (λ m. and_true (is_own client m)) marks, how_many_alike (λ m. not (is_own client m) && true) (λ m. not (is_own client m)) (λ m. and_true (not (is_own client m))) marks))
    (omega (arith, how_many_split (is_own client) (λ m. m.marked) marks))
  where
    and_true : (b : Bool) → (b && true) ≡ b
    and_true true = refl
    and_true false = refl

-- what there is without the client's

pub left_all : (client : ClientId) (marks : List Mark) → count_of (λ m. not (is_own client m)) marks ≡ count_of (λ m. true) (filter (λ m. not (is_own client m)) marks)
left_all client marks =
    sym (count_is (count_of (λ m. true) (filter (λ m. not (is_own client m)) marks)) (count_of (λ m. not (is_own client m)) marks)
    (how_many_left (is_own client) (λ m. true) marks ∙ how_many_alike (λ m. not (is_own client m) && true) (λ m. not (is_own client m)) (λ m. and_true (not (is_own client m))) marks)
    (how_many_left (is_own client) (λ m. m.marked) marks))
  where
    and_true : (b : Bool) → (b && true) ≡ b
    and_true true = refl
    and_true false = refl

pub left_own : (client : ClientId) (marks : List Mark) → record { all = 0; marked = 0 } ≡ count_of (is_own client) (filter (λ m. not (is_own client m)) marks)
left_own client marks =
    sym (count_is (count_of (is_own client) (filter (λ m. not (is_own client m)) marks)) (record { all = 0; marked = 0 })
    (how_many_left (is_own client) (is_own client) marks ∙ nothing (λ m. not (is_own client m) && is_own client m) (λ m. never (is_own client m)) marks)
    (how_many_left (is_own client) (λ m. is_own client m && m.marked) marks ∙ nothing (λ m. not (is_own client m) && (is_own client m && m.marked)) (λ m. never_both (is_own client m) m.marked) marks))
  where
    never : (b : Bool) → (not b && b) ≡ false
    never true = refl
    never false = refl

    never_both : (b c : Bool) → (not b && (b && c)) ≡ false
    never_both true c = refl
    never_both false c = refl

    nothing : (test : Mark → Bool) → ((m : Mark) → test m ≡ false) → (ms : List Mark) → how_many test ms ≡ 0
    nothing test fails [] = refl
    nothing test fails (m ∷ ms) = ap (λ b. cond b (suc (how_many test ms)) (how_many test ms)) (fails m) ∙ nothing test fails ms

pub left_others : (client : ClientId) (marks : List Mark) (q : ClientId) → is_same_client client q ≡ false → count_of (is_own q) marks ≡ count_of (is_own q) (filter (λ m. not (is_own client m)) marks)
left_others client marks q differs =
    sym (count_is (count_of (is_own q) (filter (λ m. not (is_own client m)) marks)) (count_of (is_own q) marks)
    (how_many_left (is_own client) (is_own q) marks ∙ how_many_alike (λ m. not (is_own client m) && is_own q m) (is_own q) (λ m. by (is_own client m) (is_own q m) (no_both m)) marks)
    (how_many_left (is_own client) (λ m. is_own q m && m.marked) marks
    ∙ how_many_alike (λ m. not (is_own client m) && (is_own q m && m.marked)) (λ m. is_own q m && m.marked) (λ m. by (is_own client m) (is_own q m && m.marked) (λ own both. no_both m own (and_parts (is_own q m) m.marked both).0)) marks))
  where
    no_both : (m : Mark) → is_own client m ≡ true → is_own q m ≡ true → ⊥
    no_both m own theirs =
        not_false (sym (subst (λ c. is_same_client c q ≡ true) (sym (equal_clients m.client q theirs) ∙ equal_clients m.client client own) (same_client_self q)) ∙ differs)

    by : (a b : Bool) → (a ≡ true → b ≡ true → ⊥) → (not a && b) ≡ b
    by true true never = absurd (never refl refl)
    by true false never = refl
    by false b never = refl
