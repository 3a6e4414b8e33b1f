-- Rows of owners, and the owners in them.
use Rattle.std.proofs.Common.{◌≡◌, ℕ, ◌<◌, Bool, true, false, Some, None, Option, List, [], ◌∷◌, ◌++◌, cond, filter, find, refl, sym, ap, ◌∙◌, subst, arith}
use Rattle.std.specs.Prelude.{◌&&◌, ◌||◌, ◌==◌, nat_le, not}
use Rattle.std.specs.List.{AllByRecursion}
use Rattle.std.proofs.lemmas.Bool.{eqb-true, false_from_ne_true}
use Rattle.std.specs.declared.hash.RandomState.{RandomState}
use Rattle.nfs_rows.specs.Rows.{IsAbove, Row, StandInOrder, is_from as is_row_from, is_named, is_numbered, is_of_client, pair_in, value_in, with_value, without}
use Rattle.nfs_rows.proofs.Callers.{changed_all, changed_seen, client_is, find_seen, named_is, with_value_is}
use Rattle.nfs_forms.specs.declared.client_id.ClientId.{ClientId}
use Rattle.nfs_owners.specs.Owner.{has_client, has_name, is_known, owner_of}
use Rattle.nfs_owners.specs.OwnerRows.{IsFiled, name_hash, owners_in, with_state_at}
use Rattle.nfs_owners.specs.Owners as owners
use Rattle.nfs_owners.specs.Owners.{AreApart, AreBefore, is_from, with_change}
use Rattle.nfs_owners.specs.declared.owner.Owner.{Owner}
use Rattle.nfs_owners.specs.declared.owner.OwnerState.{OwnerState}
use Rattle.nfs_owners.specs.declared.state_owner.StateOwner.{StateOwner}
use Rattle.nfs_owners.proofs.Lists.{all_both, all_find, all_weaken, neither}
use Rattle.nfs_owners.proofs.OwnerLists.{name_exact}

-- a row with a name has its hash
pub hashes : (names : RandomState) (name : StateOwner) (rows : List (Row Owner)) → AllByRecursion (IsFiled names) rows → AllByRecursion (λ r. has_name name r.value ≡ true → r.hash ≡ name_hash names name) rows
hashes names name rows filed =
    all_weaken (IsFiled names) (λ r. has_name name r.value ≡ true → r.hash ≡ name_hash names name) (λ r is same. is.hashed ∙ ap (name_hash names) (name_exact name r.value same)) rows filed

-- by the hash and the name the rows are found that are found by the name
pub named_rows : (names : RandomState) (name : StateOwner) (rows : List (Row Owner)) → AllByRecursion (IsFiled names) rows → AllByRecursion (λ r. is_named (name_hash names name) (has_name name) r ≡ has_name name r.value) rows
named_rows names name rows filed = named_is (name_hash names name) (has_name name) rows (hashes names name rows filed)

pub owner_found : (names : RandomState) (name : StateOwner) (rows : List (Row Owner)) → AllByRecursion (IsFiled names) rows
    → value_in (find (is_named (name_hash names name) (has_name name)) rows) ≡ owner_of name (owners_in rows)
owner_found names name rows filed = find_seen (λ r. r.value) (is_named (name_hash names name) (has_name name)) (has_name name) rows (named_rows names name rows filed)

pub same_found : (p q : Row Owner → Bool) (rows : List (Row Owner)) → AllByRecursion (λ r. p r ≡ q r) rows → find p rows ≡ find q rows
same_found p q [] h = refl
same_found p q (r ∷ rows) h = λ i. cond (h.0 i) (Some r) (same_found p q rows h.1 i)

pub pair_found : (names : RandomState) (name : StateOwner) (rows : List (Row Owner)) → AllByRecursion (IsFiled names) rows
    → pair_in (find (is_named (name_hash names name) (has_name name)) rows) ≡ pair_in (find (λ r. has_name name r.value) rows)
pair_found names name rows filed = ap pair_in (same_found (is_named (name_hash names name) (has_name name)) (λ r. has_name name r.value) rows (named_rows names name rows filed))

-- the rows with another number, and those with another name
pub others_behind : (r : Row Owner) (rows : List (Row Owner)) → AllByRecursion (λ s. r.number < s.number) rows → AllByRecursion (λ s. is_numbered r.number s ≡ false) rows
others_behind r rows above =
    all_weaken (λ s. r.number < s.number) (λ s. is_numbered r.number s ≡ false) (λ s more. false_from_ne_true _ (λ same. omega (arith, more, eqb-true s.number r.number same))) rows above

others_named : (name : StateOwner) (rows : List (Row Owner)) → is_known name (owners_in rows) ≡ false → AllByRecursion (λ s. has_name name s.value ≡ false) rows
others_named name [] none = tt
others_named name (r ∷ rows) none =
    let parts = neither (has_name name r.value) (is_known name (owners_in rows)) none in
    (parts.0, others_named name rows parts.1)

-- what is told of the one row with a name
abbrev IsRow : StateOwner → ℕ → List (Row Owner) → Type 0
IsRow name number rows = (is_known name (owners_in rows) ≡ true) × AllByRecursion (λ r. is_numbered number r ≡ has_name name r.value) rows

some_row : (r s : Row Owner) → Some r ≡ Some s → r ≡ s
some_row r s is = cc

row_is : (name : StateOwner) (rows : List (Row Owner)) (row : Row Owner) → StandInOrder rows → AreApart (owners_in rows) → find (λ r. has_name name r.value) rows ≡ Some row → IsRow name row.number rows
row_is name [] row order apart found = absurd (cc)
row_is name (r ∷ rows) row order apart found = by (has_name name r.value) refl found (λ there. row_is name rows row order.1 apart.1 there)
  where
    by : (b : Bool) → has_name name r.value ≡ b → cond b (Some r) (find (λ r. has_name name r.value) rows) ≡ Some row
        → (find (λ r. has_name name r.value) rows ≡ Some row → IsRow name row.number rows) → IsRow name row.number (r ∷ rows)
    by true same here rest =
        let none = ap (λ n. is_known n (owners_in rows)) (sym (name_exact name r.value same)) ∙ apart.0 in
        let both = all_both (λ s. is_numbered r.number s ≡ false) (λ s. has_name name s.value ≡ false) rows (others_behind r rows order.0) (others_named name rows none) in
        let behind = all_weaken (λ s. (is_numbered r.number s ≡ false) × (has_name name s.value ≡ false)) (λ s. is_numbered r.number s ≡ has_name name s.value) (λ s h. h.0 ∙ sym h.1) rows both in
        (ap (λ b. b || is_known name (owners_in rows)) same, subst (λ (n : Row Owner). AllByRecursion (λ s. is_numbered n.number s ≡ has_name name s.value) (r ∷ rows)) (some_row r row here) (grind (arith, same), behind))
    by false other there rest =
        let behind = (all_find (λ s. r.number < s.number) (λ s. has_name name s.value) rows row there order.0).0 in
        let differs : is_numbered row.number r ≡ false = false_from_ne_true _ (λ same. omega (arith, behind, eqb-true r.number row.number same)) in
        let left = rest there in
        (ap (λ b. b || is_known name (owners_in rows)) other ∙ left.0, (differs ∙ sym other, left.1))

pub row_known : (name : StateOwner) (rows : List (Row Owner)) (number : ℕ) (o : Owner) → StandInOrder rows → AreApart (owners_in rows) → Some (number, o) ≡ pair_in (find (λ r. has_name name r.value) rows) → IsRow name number rows
row_known name rows number o order apart found = by (find (λ r. has_name name r.value) rows) refl found
  where
    number_in : Option (ℕ × Owner) → ℕ
    number_in None = 0
    number_in (Some p) = p.0

    same : (r : Row Owner) → Some (number, o) ≡ pair_in (Some r) → r.number ≡ number
    same r is = ap number_in (sym is)

    by : (row : Option (Row Owner)) → find (λ r. has_name name r.value) rows ≡ row → Some (number, o) ≡ pair_in row → IsRow name number rows
    by None there is = absurd (cc)
    by (Some row) there is = subst (λ n. IsRow name n rows) (same row is) (row_is name rows row order apart there)

pub row_unknown : (name : StateOwner) (rows : List (Row Owner)) → None ≡ pair_in (find (λ r. has_name name r.value) rows) → is_known name (owners_in rows) ≡ false
row_unknown name [] none = refl
row_unknown name (r ∷ rows) none = by (has_name name r.value) refl none (λ rest. row_unknown name rows rest)
  where
    by : (b : Bool) → has_name name r.value ≡ b → None ≡ pair_in (cond b (Some r) (find (λ r. has_name name r.value) rows))
        → (None ≡ pair_in (find (λ r. has_name name r.value) rows) → is_known name (owners_in rows) ≡ false) → is_known name (owners_in (r ∷ rows)) ≡ false
    by true same found rest = absurd (cc)
    by false other found rest = ap (λ b. b || is_known name (owners_in rows)) other ∙ rest found

-- a change of the state in one row is one of the owner with its name
pub state_seen : (change : OwnerState → OwnerState) (number : ℕ) (name : StateOwner) (rows : List (Row Owner)) → AllByRecursion (λ r. is_numbered number r ≡ has_name name r.value) rows
    → owners_in (with_state_at change number rows) ≡ with_change change name (owners_in rows)
state_seen change number name rows same = changed_seen number (λ o. record o { state = change o.state }) (has_name name) rows same

-- a change that leaves the entry that recorded the owner
abbrev pub KeepsRecord : (OwnerState → OwnerState) → Type 0
KeepsRecord change = (s : OwnerState) → (change s).recorded ≡ s.recorded

filed_state : (names : RandomState) (change : OwnerState → OwnerState) → KeepsRecord change → (r : Row Owner) → IsFiled names r → IsFiled names (record r { value = record r.value { state = change r.value.state } })
filed_state names change keeps r is = record { numbered = is.numbered ∙ sym (keeps r.value.state); hashed = is.hashed; of_client = is.of_client }

-- one state is set where its row was found
pub state_set : (change : OwnerState → OwnerState) (row : ℕ) (rows : List (Row Owner)) (o new : Owner) → new ≡ record o { state = change o.state } → StandInOrder rows → Some o ≡ value_in (find (is_numbered row) rows)
    → with_value row new rows ≡ with_state_at change row rows
state_set change row rows o new is order found =
    ap (λ v. with_value row v rows) is ∙ with_value_is row (λ (o : Owner). record o { state = change o.state }) o rows order found

pub filed_change : (names : RandomState) (change : OwnerState → OwnerState) → KeepsRecord change → (number : ℕ) (rows : List (Row Owner)) → AllByRecursion (IsFiled names) rows → AllByRecursion (IsFiled names) (with_state_at change number rows)
filed_change names change keeps number rows filed = changed_all (IsFiled names) number (λ o. record o { state = change o.state }) (λ r is. filed_state names change keeps r is) rows filed

-- the rows of a client are those that have its number and its owners
pub client_rows : (names : RandomState) (client : ClientId) (rows : List (Row Owner)) → AllByRecursion (IsFiled names) rows → AllByRecursion (λ r. is_of_client client.number (has_client client) r ≡ has_client client r.value) rows
client_rows names client rows filed =
    client_is client.number (has_client client) rows
    (all_weaken (IsFiled names) (λ r. has_client client r.value ≡ true → r.client ≡ client.number) (λ r is own. is.of_client ∙ number_of r own) rows filed)
  where
    both : (a b : Bool) → a && b ≡ true → b ≡ true
    both true b h = h
    both false b h = absurd (cc)

    number_of : (r : Row Owner) → has_client client r.value ≡ true → r.value.name.client.number ≡ client.number
    number_of r own = eqb-true r.value.name.client.number client.number (both (r.value.name.client.epoch == client.epoch) (r.value.name.client.number == client.number) own)

pub same_without : (p q : Row Owner → Bool) (rows : List (Row Owner)) → AllByRecursion (λ r. p r ≡ q r) rows → without p rows ≡ without q rows
same_without p q [] h = refl
same_without p q (r ∷ rows) h = λ i. cond (not (h.0 i)) (r ∷ same_without p q rows h.1 i) (same_without p q rows h.1 i)

true_not_false : true ≡ false → ⊥
true_not_false is = cc

-- the rows stand as their owners were recorded
pub rows_before : (names : RandomState) (entry : ℕ) (rows : List (Row Owner)) → AllByRecursion (IsFiled names) rows → AreBefore entry (owners_in rows) → IsAbove entry rows
rows_before names entry [] filed before = tt
rows_before names entry (r ∷ rows) filed before = (omega (arith, filed.0.numbered, before.0), rows_before names entry rows filed.1 before.1)

behind_in_order : (names : RandomState) (r : Row Owner) (rows : List (Row Owner)) → IsFiled names r → AllByRecursion (IsFiled names) rows → AllByRecursion (λ s. r.number < s.number) rows
    → AllByRecursion (λ o. r.value.state.recorded < o.state.recorded) (owners_in rows)
behind_in_order names r [] is filed above = tt
behind_in_order names r (s ∷ rows) is filed above = (omega (arith, is.numbered, filed.0.numbered, above.0), behind_in_order names r rows is filed.1 above.1)

pub owners_in_order : (names : RandomState) (rows : List (Row Owner)) → AllByRecursion (IsFiled names) rows → StandInOrder rows → owners.StandInOrder (owners_in rows)
owners_in_order names [] filed order = tt
owners_in_order names (r ∷ rows) filed order = (behind_in_order names r rows filed.0 filed.1 order.0, owners_in_order names rows filed.1 order.1)

-- the first that passes a test among the rows from an entry on
pub found_from : (names : RandomState) (entry : ℕ) (test : Owner → Bool) (rows : List (Row Owner)) → AllByRecursion (IsFiled names) rows
    → find test (owners_in (filter (is_row_from entry) rows)) ≡ find (λ o. is_from entry o && test o) (owners_in rows)
found_from names entry test [] filed = refl
found_from names entry test (r ∷ rows) filed = by (nat_le entry r.number) (nat_le entry r.value.state.recorded) refl refl (ap (nat_le entry) filed.0.numbered) (found_from names entry test rows filed.1)
  where
    by : (a b : Bool) → nat_le entry r.number ≡ a → nat_le entry r.value.state.recorded ≡ b → nat_le entry r.number ≡ nat_le entry r.value.state.recorded
        → find test (owners_in (filter (is_row_from entry) rows)) ≡ find (λ o. is_from entry o && test o) (owners_in rows)
        → find test (owners_in (filter (is_row_from entry) (r ∷ rows))) ≡ find (λ o. is_from entry o && test o) (owners_in (r ∷ rows))
    by true true is is_too same rest = grind (arith, is, is_too, rest)
    by true false is is_too same rest = absurd (true_not_false (sym is ∙ same ∙ is_too))
    by false true is is_too same rest = absurd (true_not_false (sym is_too ∙ sym same ∙ is))
    by false false is is_too same rest = grind (arith, is, is_too, rest)

-- a row at the end
pub owners_last : (rows : List (Row Owner)) (r : Row Owner) → owners_in (rows ++ r ∷ []) ≡ owners_in rows ++ r.value ∷ []
owners_last [] r = refl
owners_last (s ∷ rows) r = ap (λ os. s.value ∷ os) (owners_last rows r)

pub all_true : {X : Type 0} (P : X → Type 0) → ((x : X) → P x) → (xs : List X) → AllByRecursion P xs
all_true P h [] = tt
all_true P h (x ∷ xs) = (h x, all_true P h xs)
