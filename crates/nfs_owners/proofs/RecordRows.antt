-- Rows of clients' records: by an id, by its hash, and by a client's number, one is found.
use Rattle.std.proofs.Common.{◌≡◌, ℕ, ◌+◌, ◌<◌, ◌≤◌, Bool, true, false, not, cond, List, [], ◌∷◌, ◌++◌, Some, None, Option, option_map, find, map, refl, sym, ap, ◌∙◌, subst, arith, true≢false}
use Rattle.std.specs.Prelude.{nat_eq, Result, Ok, Err, IsOk, OnOk}
use Rattle.std.specs.List.{AllByRecursion, IsDistinct, list_any}
use Rattle.std.specs.Map.{lookup}
use Rattle.std.proofs.lemmas.Bool.{eq-eqb, eqb-true, false_from_ne_true}
use Rattle.std.proofs.lemmas.Slice.Eq.{bytes_eq-Decides}
use Rattle.std.specs.declared.random_state.RandomState.{RandomState}
use Rattle.indexmap.specs.IndexMap.{IndexMap, Updates, UpdatesBy, get, spare}
use Rattle.nfs_rows.specs.Rows.{RoomyRows, Row, StandInOrder, is_named, is_numbered, value_in, without}
use Rattle.nfs_rows.proofs.Callers.{PassOnce, changed_all, changed_seen, find_seen, found_again, named_is, only_found, with_change, without_seen}
use Rattle.nfs_rows.proofs.Each.{all_append, all_filter, all_weaken, change_none, drop_none, so_filter, so_push}
use Rattle.nfs_rows.specs.NameHash.{hash_of}
use Rattle.nfs_owners.specs.Records.{AreRows, IsHashed, have_same_client, records_in, row_of_client}
use Rattle.nfs_owners.specs.Registry.{after_mark, have_same_id, is_of, is_of_client, takes_number, without_id, without_number}
use Rattle.nfs_owners.specs.declared.client_record.ClientRecord.{ClientRecord}
use Rattle.nfs_owners.specs.declared.client_record.PathMark.{PathMark}
use Rattle.nfs_owners.specs.laws.Marks.{distinct_mapped, same_record}
use Rattle.nfs_owners.proofs.ClientLists.{found_of_id}
use Rattle.nfs_owners.proofs.Lists.{all_find, both_false, distinct_filter, distinct_none, distinct_push, filter_agree, neither, none_each, none_when}

abbrev Rows : Type 0
Rows = List (Row ClientRecord)

all_of : {X : Type 0} (P : X → Type 0) → ((x : X) → P x) → (xs : List X) → AllByRecursion P xs
all_of P each [] = tt
all_of P each (x ∷ xs) = (each x, all_of P each xs)

-- By its id.

pub found_by_hash : (ids : RandomState) (id : List ℕ) (rows : Rows) → AllByRecursion (IsHashed ids) rows → value_in (find (is_named (hash_of ids 0 0 id) (is_of id)) rows) ≡ find (is_of id) (records_in rows)
found_by_hash ids id rows hashes =
    find_seen (λ r. r.value) (is_named (hash_of ids 0 0 id) (is_of id)) (is_of id) rows
    (named_is (hash_of ids 0 0 id) (is_of id) rows
    (all_weaken (IsHashed ids) (λ r. is_of id r.value ≡ true → r.hash ≡ hash_of ids 0 0 id) (λ r hashed same. hashed ∙ ap (hash_of ids 0 0) ((bytes_eq-Decides r.value.id id).0 same)) rows hashes))

-- By its client's number.

abbrev of_client : ℕ → Row ClientRecord → Bool
of_client number r = is_of_client number r.value

same_number : (a b : ℕ) → Some a ≡ Some b → a ≡ b
same_number a b is = cc

-- a row that was found, by its number
found_row : (n : ℕ) (found : Option (Row ClientRecord)) → Some n ≡ option_map (λ r. r.number) found → (r : Row ClientRecord) × (found ≡ Some r) × (n ≡ r.number)
found_row n None is = absurd (cc)
found_row n (Some r) is = (r, refl, same_number n r.number is)

numbered : (n : ℕ) (test : Row ClientRecord → Bool) (rows : Rows) → StandInOrder rows → Some n ≡ option_map (λ r. r.number) (find test rows) → find (is_numbered n) rows ≡ find test rows
numbered n test rows order is =
    let found = found_row n (find test rows) is in
    ap (λ k. find (is_numbered k) rows) found.2 ∙ found_again test found.0 rows order found.1 ∙ sym found.1

found_of_client : (number : ℕ) (rows : Rows) → value_in (find (of_client number) rows) ≡ find (is_of_client number) (records_in rows)
found_of_client number rows =
    find_seen (λ r. r.value) (of_client number) (is_of_client number) rows (all_of (λ r. of_client number r ≡ is_of_client number r.value) (λ r. refl) rows)

pub client_found : (n number : ℕ) (rows : Rows) → StandInOrder rows → Some n ≡ row_of_client number rows → value_in (find (is_numbered n) rows) ≡ find (is_of_client number) (records_in rows)
client_found n number rows order is = ap value_in (numbered n (of_client number) rows order is) ∙ found_of_client number rows

none_of : (found : Option (Row ClientRecord)) → None ≡ option_map (λ r. r.number) found → found ≡ None
none_of None is = refl
none_of (Some r) is = absurd (cc)

pub no_client : (number : ℕ) (rows : Rows) → None ≡ row_of_client number rows → find (is_of_client number) (records_in rows) ≡ None
no_client number rows is = sym (found_of_client number rows) ∙ ap value_in (none_of (find (of_client number) rows) is)

-- No other row has its client's number.

others_behind : (number : ℕ) (r : Row ClientRecord) (rows : Rows) → AllByRecursion (λ s. have_same_client r.value s ≡ false) (records_in rows)
    → AllByRecursion (λ s. of_client number r ≡ true → of_client number s ≡ false) rows
others_behind number r [] apart = tt
others_behind number r (s ∷ rows) apart =
    let held = r.value.state.client.number in
    let given = s.value.state.client.number in (
      λ here. false_from_ne_true (of_client number s) (λ same. true≢false (sym (eq-eqb held given (eqb-true held number here ∙ sym (eqb-true given number same))) ∙ apart.0)),
      others_behind number r rows apart.1,
    )

once : (number : ℕ) (rows : Rows) → IsDistinct have_same_client (records_in rows) → PassOnce (of_client number) rows
unfolding IsDistinct
once number [] distinct = tt
once number (r ∷ rows) distinct = (others_behind number r rows distinct.0, once number rows distinct.1)

alone : (n number : ℕ) (rows : Rows) → StandInOrder rows → IsDistinct have_same_client (records_in rows) → Some n ≡ row_of_client number rows → AllByRecursion (λ r. is_numbered n r ≡ is_of_client number r.value) rows
alone n number rows order distinct is =
    let found = found_row n (find (of_client number) rows) is in
    subst (λ k. AllByRecursion (λ r. is_numbered k r ≡ is_of_client number r.value) rows) (sym found.2)
    (only_found (of_client number) found.0 rows order (once number rows distinct) found.1)

-- What the index has, where rows go, come and change.

first_row : (c : ℕ) (r : Row ClientRecord) (rows : Rows) → row_of_client c (r ∷ rows) ≡ cond (of_client c r) (Some r.number) (row_of_client c rows)
first_row c r rows = by (of_client c r)
  where
    by : (b : Bool) → option_map (λ (s : Row ClientRecord). s.number) (cond b (Some r) (find (of_client c) rows)) ≡ cond b (Some r.number) (row_of_client c rows)
    by true = refl
    by false = refl

cond_same : (b : Bool) (x : Option ℕ) → cond b x x ≡ x
cond_same true x = refl
cond_same false x = refl

less_step : (b e d : Bool) (w x : Option ℕ) (m : ℕ) → (b ≡ true → d ≡ e) → (e ≡ true → d ≡ b) → w ≡ cond e None x → cond (not b) (cond d (Some m) w) w ≡ cond e None (cond d (Some m) x)
less_step true true d w x m one two is = is
less_step true false d w x m one two is = is ∙ sym (ap (λ d. cond d (Some m) x) (one refl))
less_step false true d w x m one two is = ap (λ d. cond d (Some m) w) (two refl) ∙ is
less_step false false d w x m one two is = ap (λ w. cond d (Some m) w) is

index_less : (n number c : ℕ) (rows : Rows) → AllByRecursion (λ r. is_numbered n r ≡ is_of_client number r.value) rows
    → row_of_client c (without (is_numbered n) rows) ≡ cond (nat_eq number c) None (row_of_client c rows)
index_less n number c [] same = sym (cond_same (nat_eq number c) None)
index_less n number c (r ∷ rows) same =
    split (not (is_numbered n r))
    ∙ less_step (is_numbered n r) (nat_eq number c) (of_client c r) (row_of_client c (without (is_numbered n) rows)) (row_of_client c rows) r.number
    (λ is. ap (λ k. nat_eq k c) (eqb-true r.value.state.client.number number (sym same.0 ∙ is)))
    (λ is. sym (ap (nat_eq r.value.state.client.number) (eqb-true number c is)) ∙ sym same.0)
    (index_less n number c rows same.1)
    ∙ sym (ap (λ x. cond (nat_eq number c) None x) (first_row c r rows))
  where
    split : (a : Bool) → row_of_client c (cond a (r ∷ without (is_numbered n) rows) (without (is_numbered n) rows))
        ≡ cond a (cond (of_client c r) (Some r.number) (row_of_client c (without (is_numbered n) rows))) (row_of_client c (without (is_numbered n) rows))
    split true = first_row c r (without (is_numbered n) rows)
    split false = refl

more_step : (d e : Bool) (m n : ℕ) (x : Option ℕ) → (e ≡ true → d ≡ false) → cond d (Some m) (cond e (Some n) x) ≡ cond e (Some n) (cond d (Some m) x)
more_step true true m n x apart = absurd (true≢false (apart refl))
more_step true false m n x apart = refl
more_step false e m n x apart = refl

index_more : (c : ℕ) (rows : Rows) (x : Row ClientRecord) → list_any (is_of_client x.value.state.client.number) (records_in rows) ≡ false
    → row_of_client c (rows ++ x ∷ []) ≡ cond (nat_eq x.value.state.client.number c) (Some x.number) (row_of_client c rows)
index_more c [] x none = first_row c x []
index_more c (r ∷ rows) x none =
    let parts = neither (is_of_client x.value.state.client.number r.value) (list_any (is_of_client x.value.state.client.number) (records_in rows)) none in
    first_row c r (rows ++ x ∷ [])
    ∙ ap (λ w. cond (of_client c r) (Some r.number) w) (index_more c rows x parts.1)
    ∙ more_step (of_client c r) (nat_eq x.value.state.client.number c) r.number x.number (row_of_client c rows)
    (λ is. sym (ap (nat_eq r.value.state.client.number) (eqb-true x.value.state.client.number c is)) ∙ parts.0)
    ∙ sym (ap (λ w. cond (nat_eq x.value.state.client.number c) (Some x.number) w) (first_row c r rows))

records_push : (rows : Rows) (x : Row ClientRecord) → records_in (rows ++ x ∷ []) ≡ records_in rows ++ x.value ∷ []
records_push [] x = refl
records_push (r ∷ rows) x = ap (λ rs. r.value ∷ rs) (records_push rows x)

-- The list stays as it is kept.

pub records_less : (n number : ℕ) (rows : Rows) → StandInOrder rows → IsDistinct have_same_client (records_in rows) → Some n ≡ row_of_client number rows
    → records_in (without (is_numbered n) rows) ≡ without_number number (records_in rows)
records_less n number rows order distinct is = without_seen (λ r. r.value) (is_numbered n) (is_of_client number) rows (alone n number rows order distinct is)

module _ {S : Type 0} (ids : RandomState) where
  pub rows_none : (rows : RoomyRows ClientRecord) (index : IndexMap ℕ ℕ S) → rows.rows ≡ [] → index.entries ≡ [] → AreRows ids rows index 0 0
  rows_none rows index none empty = record {
    names = subst (λ rs. IsDistinct have_same_id (records_in rs)) (sym none) (distinct_none have_same_id);
    clients = subst (λ rs. IsDistinct have_same_client (records_in rs)) (sym none) (distinct_none have_same_client);
    hashes = subst (AllByRecursion (IsHashed ids)) (sym none) tt;
    order = subst StandInOrder (sym none) tt;
    before = subst (AllByRecursion (λ r. r.number ≤ 0)) (sym none) tt;
    index = λ number. ap (lookup (nat_eq number)) empty ∙ ap (row_of_client number) (sym none);
    in_rows = omega arith;
    in_index = omega arith;
    in_numbers = omega arith;
  }

  module _ (old new : RoomyRows ClientRecord) (before after : IndexMap ℕ ℕ S) where
    pub rows_less : (newest room n number : ℕ) → AreRows ids old before newest room → Some n ≡ get nat_eq before number → new.rows ≡ without (is_numbered n) old.rows → new.room ≡ old.room
        → UpdatesBy nat_eq (nat_eq number) before after None → spare before ≤ spare after → AreRows ids new after newest room
    rows_less newest room n number are found rows rooms updates spared =
        let is : Some n ≡ row_of_client number old.rows = found ∙ are.index number in
        let test : Row ClientRecord → Bool = λ r. not (is_numbered n r) in
        let stays : ClientRecord → Bool = λ r. not (is_of_client number r) in
        let seen = records_less n number old.rows are.order are.clients is in
        let left : new ≡ record { rows = without (is_numbered n) old.rows; room = old.room } = λ i. record { rows = rows i; room = rooms i } in
        subst (λ (r : RoomyRows ClientRecord). AreRows ids r after newest room) (sym left) (record {
          names = subst (IsDistinct have_same_id) (sym seen) (distinct_filter have_same_id stays (records_in old.rows) are.names);
          clients = subst (IsDistinct have_same_client) (sym seen) (distinct_filter have_same_client stays (records_in old.rows) are.clients);
          hashes = all_filter (IsHashed ids) test old.rows are.hashes;
          order = so_filter (λ r s. r.number < s.number) test old.rows are.order;
          before = all_filter (λ r. r.number ≤ newest) test old.rows are.before;
          index = λ c. updates.0 c ∙ ap (λ x. cond (nat_eq number c) None x) (are.index c) ∙ sym (index_less n number c old.rows (alone n number old.rows are.order are.clients is));
          in_rows = are.in_rows;
          in_index = omega (arith, are.in_index, spared);
          in_numbers = are.in_numbers;
        })

    pub rows_more : (newest room next left : ℕ) (x : Row ClientRecord) → AreRows ids old before newest room → list_any (is_of x.value.id) (records_in old.rows) ≡ false
        → list_any (is_of_client x.value.state.client.number) (records_in old.rows) ≡ false → IsHashed ids x → next ≡ newest + 1 → room ≡ left + 1 → x.number ≡ next
        → new.rows ≡ old.rows ++ x ∷ [] → old.room ≡ new.room + 1 → Updates nat_eq before after x.value.state.client.number (Some x.number) → spare before ≤ spare after + 1 → AreRows ids new after next left
    rows_more newest room next left x are unnamed unknown hashed risen used numbered rows rooms updates spared =
        let more : new ≡ record { rows = old.rows ++ x ∷ []; room = new.room } = λ i. record { rows = rows i; room = new.room } in
        let seen = records_push old.rows x in
        subst (λ (r : RoomyRows ClientRecord). AreRows ids r after next left) (sym more) (record {
          names = subst (IsDistinct have_same_id) (sym seen) (distinct_push have_same_id (records_in old.rows) x.value are.names (none_each (is_of x.value.id) (records_in old.rows) unnamed));
          clients = subst (IsDistinct have_same_client) (sym seen)
              (distinct_push have_same_client (records_in old.rows) x.value are.clients (none_each (is_of_client x.value.state.client.number) (records_in old.rows) unknown));
          hashes = all_append (IsHashed ids) old.rows (x ∷ []) are.hashes (hashed, tt);
          order = so_push (λ r s. r.number < s.number) old.rows x
              (all_weaken (λ r. r.number ≤ newest) (λ r. r.number < x.number) (λ r below. omega (arith, below, risen, numbered)) old.rows are.before) are.order;
          before = all_append (λ r. r.number ≤ next) old.rows (x ∷ [])
              (all_weaken (λ r. r.number ≤ newest) (λ r. r.number ≤ next) (λ r below. omega (arith, below, risen)) old.rows are.before) (omega (arith, numbered), tt);
          index = λ c. updates.0 c ∙ ap (λ w. cond (nat_eq x.value.state.client.number c) (Some x.number) w) (are.index c) ∙ sym (index_more c old.rows x unknown);
          in_rows = omega (arith, are.in_rows, used, rooms);
          in_index = omega (arith, are.in_index, used, spared);
          in_numbers = omega (arith, are.in_numbers, risen, used);
        })

-- One record is marked.

abbrev pub marked : PathMark → ClientRecord → ClientRecord
marked path r = record r { state = record r.state { path = path } }

order_changed : (n : ℕ) (path : PathMark) (rows : Rows) → StandInOrder rows → StandInOrder (with_change n (marked path) rows)
order_changed n path [] order = tt
order_changed n path (r ∷ rows) order =
    (by (is_numbered n r) (changed_all (λ s. r.number < s.number) n (marked path) (λ s above. above) rows order.0), order_changed n path rows order.1)
  where
    by : (b : Bool) → AllByRecursion (λ s. r.number < s.number) (with_change n (marked path) rows)
        → AllByRecursion (λ s. (cond b (record r { value = marked path r.value }) r).number < s.number) (with_change n (marked path) rows)
    by true above = above
    by false above = above

index_changed : (n : ℕ) (path : PathMark) (c : ℕ) (rows : Rows) → row_of_client c (with_change n (marked path) rows) ≡ row_of_client c rows
index_changed n path c [] = refl
index_changed n path c (r ∷ rows) = by (is_numbered n r) (index_changed n path c rows) ∙ sym (first_row c r rows)
  where
    by : (b : Bool) → row_of_client c (with_change n (marked path) rows) ≡ row_of_client c rows
        → row_of_client c (cond b (record r { value = marked path r.value }) r ∷ with_change n (marked path) rows) ≡ cond (of_client c r) (Some r.number) (row_of_client c rows)
    by true rest = first_row c (record r { value = marked path r.value }) (with_change n (marked path) rows) ∙ ap (λ w. cond (of_client c r) (Some r.number) w) rest
    by false rest = first_row c r (with_change n (marked path) rows) ∙ ap (λ w. cond (of_client c r) (Some r.number) w) rest

pub records_marked : (n number : ℕ) (path : PathMark) (rows : Rows) → StandInOrder rows → IsDistinct have_same_client (records_in rows) → Some n ≡ row_of_client number rows
    → records_in (with_change n (marked path) rows) ≡ map (after_mark number path) (records_in rows)
records_marked n number path rows order distinct is = changed_seen n (marked path) (is_of_client number) rows (alone n number rows order distinct is)

pub rows_marked : {S : Type 0} (ids : RandomState) (old : RoomyRows ClientRecord) (index : IndexMap ℕ ℕ S) (newest room n number : ℕ) (path : PathMark) → AreRows ids old index newest room
    → Some n ≡ row_of_client number old.rows → AreRows ids (record old { rows = with_change n (marked path) old.rows }) index newest room
rows_marked ids old index newest room n number path are is =
    let f = after_mark number path in
    let seen = records_marked n number path old.rows are.order are.clients is in
    record {
      names = subst (IsDistinct have_same_id) (sym seen) (distinct_mapped f have_same_id (λ r s. rw ((same_record number path r).0, (same_record number path s).0) refl) (records_in old.rows) are.names);
      clients = subst (IsDistinct have_same_client) (sym seen)
          (distinct_mapped f have_same_client (λ r s. rw ((same_record number path r).1, (same_record number path s).1) refl) (records_in old.rows) are.clients);
      hashes = changed_all (IsHashed ids) n (marked path) (λ r hashed. hashed) old.rows are.hashes;
      order = order_changed n path old.rows are.order;
      before = changed_all (λ r. r.number ≤ newest) n (marked path) (λ r below. below) old.rows are.before;
      index = λ c. are.index c ∙ sym (index_changed n path c old.rows);
      in_rows = are.in_rows;
      in_index = are.in_index;
      in_numbers = are.in_numbers;
    }

-- Of a list of records, that with an id is that of its client.

same_record_is : (r s : ClientRecord) → Some r ≡ Some s → r ≡ s
same_record_is r s is = cc

pub none_with_id : (id : List ℕ) (records : List ClientRecord) → None ≡ find (is_of id) records → records ≡ without_id id records
none_with_id id records none = sym (drop_none (is_of id) records (none_when (is_of id) records (sym none)))

both_of : {X : Type 0} (P Q R : X → Type 0) → ((x : X) → P x → Q x → R x) → (xs : List X) → AllByRecursion P xs → AllByRecursion Q xs → AllByRecursion R xs
both_of P Q R leads [] h k = tt
both_of P Q R leads (x ∷ xs) h k = (leads x h.0 k.0, both_of P Q R leads xs h.1 k.1)

one_with_id : (id : List ℕ) (records : List ClientRecord) (r : ClientRecord) → IsDistinct have_same_id records → IsDistinct have_same_client records → find (is_of id) records ≡ Some r
    → AllByRecursion (λ s. is_of_client r.state.client.number s ≡ is_of id s) records
unfolding IsDistinct
one_with_id id [] r names clients found = tt
one_with_id id (s ∷ records) r names clients found = by (is_of id s) refl found (λ later. one_with_id id records r names.1 clients.1 later)
  where
    other : s ≡ r → is_of id s ≡ true → (t : ClientRecord) → have_same_id s t ≡ false → have_same_client s t ≡ false → is_of_client r.state.client.number t ≡ is_of id t
    other same here t unnamed unknown =
        let named : s.id ≡ id = (bytes_eq-Decides s.id id).0 here in
        false_from_ne_true (is_of_client r.state.client.number t) (λ is. true≢false (sym (eq-eqb s.state.client.number t.state.client.number
        (ap (λ (x : ClientRecord). x.state.client.number) same ∙ sym (eqb-true t.state.client.number r.state.client.number is))) ∙ unknown))
        ∙ sym (false_from_ne_true (is_of id t) (λ is. true≢false (sym ((bytes_eq-Decides s.id t.id).1 (named ∙ sym ((bytes_eq-Decides t.id id).0 is))) ∙ unnamed)))

    by : (b : Bool) → is_of id s ≡ b → cond b (Some s) (find (is_of id) records) ≡ Some r
        → (find (is_of id) records ≡ Some r → AllByRecursion (λ t. is_of_client r.state.client.number t ≡ is_of id t) records)
        → AllByRecursion (λ t. is_of_client r.state.client.number t ≡ is_of id t) (s ∷ records)
    by true here first later =
        let same = same_record_is s r first in (
          eq-eqb s.state.client.number r.state.client.number (ap (λ (x : ClientRecord). x.state.client.number) same) ∙ sym here,
          both_of (λ t. have_same_id s t ≡ false) (λ t. have_same_client s t ≡ false) (λ t. is_of_client r.state.client.number t ≡ is_of id t) (other same here) records names.0 clients.0,
        )
    by false here there later =
        let apart = all_find (λ t. have_same_client s t ≡ false) (is_of id) records r there clients.0 in
        (apart.0 ∙ sym here, later there)

pub without_its_id : (id : List ℕ) (records : List ClientRecord) (r : ClientRecord) → IsDistinct have_same_id records → IsDistinct have_same_client records → Some r ≡ find (is_of id) records
    → without_number r.state.client.number records ≡ without_id id records
without_its_id id records r names clients found =
    filter_agree (is_of_client r.state.client.number) (is_of id) records (one_with_id id records r names clients (sym found))

-- So is that of a client's number, where it has the id.
pub without_its_number : (id : List ℕ) (number : ℕ) (records : List ClientRecord) (r : ClientRecord) → IsDistinct have_same_id records → IsDistinct have_same_client records
    → Some r ≡ find (is_of_client number) records → is_of id r ≡ true → without_number number records ≡ without_id id records
without_its_number id number records r names clients found here =
    let its : r.state.client.number ≡ number =
    eqb-true r.state.client.number number (all_find (λ s. s ≡ s) (is_of_client number) records r (sym found) (all_of (λ s. s ≡ s) (λ s. refl) records)).1 in
    let named = subst (λ i. find (is_of i) records ≡ Some r) ((bytes_eq-Decides r.id id).0 here) (found_of_id (is_of_client number) records r names (sym found)) in
    subst (λ n. without_number n records ≡ without_id id records) its (without_its_id id records r names clients (sym named))

-- Where the record with an id is gone, none has the id, nor the client's number if no other one had it.

pub none_named : (id : List ℕ) (records : List ClientRecord) → list_any (is_of id) (without_id id records) ≡ false
none_named id [] = refl
none_named id (r ∷ records) = by (is_of id r) refl (none_named id records)
  where
    by : (b : Bool) → is_of id r ≡ b → list_any (is_of id) (without_id id records) ≡ false → list_any (is_of id) (cond (not b) (r ∷ without_id id records) (without_id id records)) ≡ false
    by true is rest = rest
    by false is rest = both_false (is_of id r) (list_any (is_of id) (without_id id records)) is rest

pub none_numbered : (id : List ℕ) (number : ℕ) (records : List ClientRecord) → list_any (takes_number id number) records ≡ false → list_any (is_of_client number) (without_id id records) ≡ false
none_numbered id number [] none = refl
none_numbered id number (r ∷ records) none =
    let parts = neither (takes_number id number r) (list_any (takes_number id number) records) none in
    by (is_of id r) refl parts.0 (none_numbered id number records parts.1)
  where
    by : (b : Bool) → is_of id r ≡ b → takes_number id number r ≡ false → list_any (is_of_client number) (without_id id records) ≡ false
        → list_any (is_of_client number) (cond (not b) (r ∷ without_id id records) (without_id id records)) ≡ false
    by true is apart rest = rest
    by false is apart rest = both_false (is_of_client number r) (list_any (is_of_client number) (without_id id records)) (grind (arith, apart, is)) rest

pub none_of_client : (number : ℕ) (rows : Rows) → None ≡ row_of_client number rows → records_in rows ≡ without_number number (records_in rows)
none_of_client number rows none =
    sym (drop_none (is_of_client number) (records_in rows) (none_when (is_of_client number) (records_in rows) (no_client number rows none)))

pub none_marked : (number : ℕ) (path : PathMark) (records : List ClientRecord) → find (is_of_client number) records ≡ None → records ≡ map (after_mark number path) records
none_marked number path records none = sym (change_none (is_of_client number) (marked path) records (none_when (is_of_client number) records none))

pub on_ok : {A E : Type 0} (result : Result A E) (P : Type 0) → IsOk result → OnOk result P → P
on_ok (Ok a) P ok holds = holds
on_ok (Err e) P ok holds = absurd (true≢false (sym ok))
