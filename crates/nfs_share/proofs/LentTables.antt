-- What is kept of the delegations of a file, after changes.
use Rattle.std.proofs.Common.{◌≡◌, ℕ, suc, ◌+◌, ◌<◌, ◌^◌, Bool, true, false, not, cond, ◌&&◌, nat_lt, List, [], ◌∷◌, ◌++◌, length, filter, find, map, Some, refl, sym, ap, ◌∙◌, arith}
use Rattle.std.proofs.lemmas.Bool.{eqb-true, false_from_ne_true}
use Rattle.nfs_forms.specs.declared.client_id.ClientId.{ClientId}
use Rattle.nfs_rows.proofs.Each.{all_weaken}
use Rattle.nfs_share.specs.Delegations.{StandInOrder, conflicts, has_conflict, is_delegation_numbered, is_in_way, is_lent_to, is_of_user, with_recall, with_recalls, without_lent}
use Rattle.nfs_share.specs.KeptDelegations.{is_writing, mark_lent}
use Rattle.nfs_share.specs.ShareCounts.{how_many}
use Rattle.nfs_share.specs.Tally.{IsTally, Mark, is_own}
use Rattle.nfs_share.specs.declared.delegation.Delegation.{Delegation}
use Rattle.nfs_share.specs.declared.delegation.DelegationKind.{DelegationKind}
use Rattle.nfs_share.specs.declared.delegation.DelegationKind.TheVariants as kinds
use Rattle.nfs_share.specs.declared.delegation.FileUse.{FileUse}
use Rattle.nfs_share.specs.declared.tally.Tally.{Tally}
use Rattle.nfs_share.proofs.AtMostOne.{AtMostOne}
use Rattle.nfs_share.proofs.Counting.{SameCounts, same_apart, same_map, same_push, some_or_more}
use Rattle.nfs_share.proofs.ShareSums.{any_alike}
use Rattle.nfs_share.proofs.Tallies.{tally_same}

-- in order, one has a number
pub one_lent : (number : ℕ) (ds : List Delegation) → StandInOrder ds → AtMostOne (is_delegation_numbered number) ds
one_lent number [] h = tt
one_lent number (d ∷ ds) h = (
  all_weaken (λ e. d.number < e.number) (λ e. is_delegation_numbered number d ≡ true → is_delegation_numbered number e ≡ false)
      (λ e less is. false_from_ne_true _ (λ too. omega (arith, less, eqb-true d.number number is, eqb-true e.number number too))) ds h.0,
  one_lent number ds h.1,
)

how_many_map : {X Y : Type 0} (seen : X → Y) (test : Y → Bool) (xs : List X) → how_many test (map seen xs) ≡ how_many (λ x. test (seen x)) xs
how_many_map seen test [] = refl
how_many_map seen test (x ∷ xs) = ap (λ n. cond (test (seen x)) (suc n) n) (how_many_map seen test xs)

-- how many of the marks pass is how many of the delegations do
pub lent_marks : (test : Mark → Bool) (ds : List Delegation) → how_many test (map mark_lent ds) ≡ how_many (λ d. test (mark_lent d)) ds
lent_marks test ds = how_many_map mark_lent test ds

-- Where a read delegation is in the way, each is; and else those for writing are.

way_of_all : (file_use : FileUse) → is_in_way kinds.Read file_use ≡ true → (kind : DelegationKind) → true ≡ is_in_way kind file_use
way_of_all file_use h kinds.Read = sym h
way_of_all file_use h kinds.Write = refl

way_of_writing : (file_use : FileUse) → is_in_way kinds.Read file_use ≡ false → (kind : DelegationKind) → is_writing kind ≡ is_in_way kind file_use
way_of_writing file_use h kinds.Read = sym h
way_of_writing file_use h kinds.Write = refl

and_true : (b : Bool) → b ≡ (b && true)
and_true true = refl
and_true false = refl

pub all_conflict : (file_use : FileUse) (ds : List Delegation) (n : ℕ) → is_in_way kinds.Read file_use ≡ true → n ≡ how_many (λ d. not (is_of_user file_use d)) ds → nat_lt 0 n ≡ has_conflict file_use ds
all_conflict file_use ds n way is =
    ap (nat_lt 0) is ∙ some_or_more (λ d. not (is_of_user file_use d)) ds
    ∙ any_alike (λ d. not (is_of_user file_use d)) (conflicts file_use) (λ d. and_true (not (is_of_user file_use d)) ∙ ap (λ b. not (is_of_user file_use d) && b) (way_of_all file_use way d.kind)) ds

pub writing_conflict : (file_use : FileUse) (ds : List Delegation) (n : ℕ) → is_in_way kinds.Read file_use ≡ false → n ≡ how_many (λ d. not (is_of_user file_use d) && is_writing d.kind) ds → nat_lt 0 n ≡ has_conflict file_use ds
writing_conflict file_use ds n way is =
    ap (nat_lt 0) is ∙ some_or_more (λ d. not (is_of_user file_use d) && is_writing d.kind) ds
    ∙ any_alike (λ d. not (is_of_user file_use d) && is_writing d.kind) (conflicts file_use) (λ d. ap (λ b. not (is_of_user file_use d) && b) (way_of_writing file_use way d.kind)) ds

-- one apart from the others
pub lent_apart : (number : ℕ) (ds : List Delegation) (d : Delegation) → StandInOrder ds → Some d ≡ find (is_delegation_numbered number) ds → SameCounts ds (d ∷ without_lent (is_delegation_numbered number) ds)
lent_apart number ds d order found = same_apart (is_delegation_numbered number) ds d (one_lent number ds order) found

pub lent_tally : (holders : Tally) (ds es : List Delegation) → SameCounts ds es → IsTally holders (map mark_lent ds) → IsTally holders (map mark_lent es)
lent_tally holders ds es same tally = tally_same holders (map mark_lent ds) (map mark_lent es) (same_map mark_lent ds es same) tally

pub lent_push : (ds : List Delegation) (d : Delegation) → SameCounts (d ∷ ds) (ds ++ d ∷ [])
lent_push ds d test = sym (same_push ds d test)

-- how many there are after a call back
pub recalls_length : (file_use : FileUse) (moment : ℕ) (ds : List Delegation) → length (with_recalls file_use moment ds) ≡ length ds
recalls_length file_use moment [] = refl
recalls_length file_use moment (d ∷ ds) = omega (arith, recalls_length file_use moment ds)

-- a call back changes no mark
pub marks_recalled : (file_use : FileUse) (moment : ℕ) (ds : List Delegation) → map mark_lent (with_recalls file_use moment ds) ≡ map mark_lent ds
marks_recalled file_use moment [] = refl
marks_recalled file_use moment (d ∷ ds) = λ i. by (conflicts file_use d) i ∷ marks_recalled file_use moment ds i
  where
    same : (b : Bool) → mark_lent (cond b (record d { recalled = Some moment }) d) ≡ mark_lent d
    same true = refl
    same false = refl

    by : (b : Bool) → mark_lent (cond b (with_recall moment d) d) ≡ mark_lent d
    by true = same _
    by false = refl

-- the marks without a client's
pub marks_left : (client : ClientId) (ds : List Delegation) → filter (λ m. not (is_own client m)) (map mark_lent ds) ≡ map mark_lent (without_lent (is_lent_to client) ds)
marks_left client [] = refl
marks_left client (d ∷ ds) = by (is_lent_to client d) (marks_left client ds)
  where
    by : (b : Bool) → filter (λ m. not (is_own client m)) (map mark_lent ds) ≡ map mark_lent (without_lent (is_lent_to client) ds)
        → cond (not b) (mark_lent d ∷ filter (λ m. not (is_own client m)) (map mark_lent ds)) (filter (λ m. not (is_own client m)) (map mark_lent ds)) ≡ map mark_lent (cond (not b) (d ∷ without_lent (is_lent_to client) ds) (without_lent (is_lent_to client) ds))
    by true rest = rest
    by false rest = ap (λ ms. mark_lent d ∷ ms) rest

-- there is one less without the last
pub few_lent : (ds more : List Delegation) (d : Delegation) (n : ℕ) → more ≡ ds ++ d ∷ [] → n ≡ length more → n < 2 ^ 64 → length (map mark_lent ds) + 1 < 2 ^ 64
few_lent ds more d n is len few = omega (arith, each ds, ap length is, one_more ds, len, few)
  where
    each : (es : List Delegation) → length (map mark_lent es) ≡ length es
    each [] = refl
    each (e ∷ es) = omega (arith, each es)

    one_more : (es : List Delegation) → length (es ++ d ∷ []) ≡ length es + 1
    one_more [] = refl
    one_more (e ∷ es) = omega (arith, one_more es)
