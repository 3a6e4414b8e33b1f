-- What is kept of the opens of a file, after changes.
use Rattle.std.proofs.Common.{◌≡◌, ℕ, ◌+◌, ◌-◌, ◌<◌, ◌≤◌, ◌^◌, Bool, true, false, not, cond, List, [], ◌∷◌, ◌++◌, length, filter, find, map, Option, Some, None, refl, sym, ap, subst, ◌∙◌, arith}
use Rattle.std.specs.Prelude.{IfNone, IfSome}
use Rattle.std.specs.List.{AllByRecursion}
use Rattle.std.specs.declared.hash.RandomState.{RandomState}
use Rattle.nfs_forms.specs.declared.client_id.ClientId.{ClientId}
use Rattle.nfs_rows.specs.Rows.{RoomyRows, Row, is_numbered as is_row, is_of_client as is_clients, pair_of, value_in, without as rows_without}
use Rattle.nfs_rows.proofs.Callers.{changed_seen, client_is, find_seen, without_seen}
use Rattle.nfs_rows.proofs.Each.{drop_none}
use Rattle.nfs_share.specs.KeptOpens.{AreKept, IsOpen, IsTable, mark_in, opens_kept, with_change}
use Rattle.nfs_share.specs.Opens.{IsAbove, is_numbered, is_of_client, open_of, open_with_number, share_of, with_each, without}
use Rattle.nfs_share.specs.ShareCounts.{counts_of}
use Rattle.nfs_share.specs.Tally.{IsTally, is_own, room_of}
use Rattle.nfs_share.specs.declared.open_state.OpenState.{OpenState}
use Rattle.nfs_share.specs.declared.share.Share.{Share}
use Rattle.nfs_share.specs.declared.share_counts.ShareCounts.{ShareCounts}
use Rattle.nfs_share.specs.declared.tally.Tally.{Tally}
use Rattle.nfs_share.proofs.AtMostOne.{none_passes, one_less}
use Rattle.nfs_share.proofs.Counting.{SameCounts, same_apart, same_change, same_map, same_push}
use Rattle.nfs_share.proofs.KeptOpens.{add_keeps, change_keeps, clients, kept_append, kept_length, numbers, one_numbered, without_keeps}
use Rattle.nfs_share.proofs.ShareSums.{same_counts_of}
use Rattle.nfs_share.proofs.Tallies.{tally_same}

pub if_some : {X : Type 0} (r : Option X) (x : X) (P : X → Type 0) → r ≡ Some x → IfSome r P → P x
if_some r x P is h = subst (λ s. IfSome s P) is h

pub if_none : {X : Type 0} (r : Option X) (P : Type 0) → r ≡ None → IfNone r P → P
if_none r P is h = subst (λ s. IfNone s P) is h

pub some_or_none : {X : Type 0} (r : Option X) (x : X) → Some x ≡ r → None ≡ r → ⊥
some_or_none r x is none = differ (is ∙ sym none)
  where
    differ : Some x ≡ None → ⊥
    differ h = cc

map_length : {Y : Type 0} (seen : OpenState → Y) (opens : List OpenState) → length (map seen opens) ≡ length opens
map_length seen [] = refl
map_length seen (o ∷ opens) = omega (arith, map_length seen opens)

-- The counts are those of the opens before the ones that are left.
pub record Counts (rows : List (Row OpenState)) (counts : ShareCounts) (left : List (ℕ × OpenState)) : Type 0 where
  pub done : List OpenState
  pub counts_are : counts ≡ counts_of (map share_of done)
  pub whole : opens_kept rows ≡ done ++ map (λ p. p.1) left

pub pairs_map : (rows : List (Row OpenState)) → map (λ p. p.1) (map pair_of rows) ≡ opens_kept rows
pairs_map [] = refl
pairs_map (r ∷ rows) = ap (λ os. r.value ∷ os) (pairs_map rows)

regroup : (os : List OpenState) (o : OpenState) (ps : List OpenState) → os ++ o ∷ ps ≡ (os ++ o ∷ []) ++ ps
regroup [] o ps = refl
regroup (p ∷ os) o ps = ap (λ qs. p ∷ qs) (regroup os o ps)

longer : (os : List OpenState) (o : OpenState) (ps : List OpenState) → length os + 1 ≤ length (os ++ o ∷ ps)
longer [] o ps = omega arith
longer (p ∷ os) o ps = omega (arith, longer os o ps)

-- one more is counted
pub counts_more : (rows : List (Row OpenState)) (counts more : ShareCounts) (left rest : List (ℕ × OpenState)) (n : ℕ) (o : OpenState) (share : Share) (count : ℕ)
    → Counts rows counts left → left ≡ (n, o) ∷ rest → share ≡ share_of o → count ≡ length rows → count < 2 ^ 64
    → ((shares : List Share) → counts ≡ counts_of shares → length shares + 1 < 2 ^ 64 → more ≡ counts_of (share ∷ shares)) → Counts rows more rest
counts_more rows counts more left rest n o share count so_far first is len few grows =
    let done = so_far.done in
    let whole : opens_kept rows ≡ done ++ o ∷ map (λ p. p.1) rest = so_far.whole ∙ ap (λ ps. done ++ map (λ p. p.1) ps) first in
    let fits : length (map share_of done) + 1 < 2 ^ 64 = omega (arith, map_length share_of done, longer done o (map (λ p. p.1) rest), ap length whole, kept_length rows, len, few) in
    record {
      done = done ++ o ∷ [];
      counts_are = grows (map share_of done) so_far.counts_are fits ∙ ap (λ s. counts_of (s ∷ map share_of done)) is
          ∙ sym (same_counts_of (map share_of (done ++ o ∷ [])) (share_of o ∷ map share_of done) (same_map share_of (done ++ o ∷ []) (o ∷ done) (same_push done o)));
      whole = whole ∙ regroup done o (map (λ p. p.1) rest);
    }

append_nothing : (os : List OpenState) → os ++ [] ≡ os
append_nothing [] = refl
append_nothing (o ∷ os) = ap (λ ps. o ∷ ps) (append_nothing os)

-- all are counted
pub counts_all : (rows : List (Row OpenState)) (counts : ShareCounts) (left : List (ℕ × OpenState)) → Counts rows counts left → left ≡ [] → counts ≡ counts_of (map share_of (opens_kept rows))
counts_all rows counts left all none =
    all.counts_are ∙ ap (λ os. counts_of (map share_of os)) (sym (all.whole ∙ ap (λ ps. all.done ++ map (λ p. p.1) ps) none ∙ append_nothing all.done))

marks_left : (client : ClientId) (opens : List OpenState) → filter (λ m. not (is_own client m)) (map mark_in opens) ≡ map mark_in (without (is_of_client client) opens)
marks_left client [] = refl
marks_left client (o ∷ opens) = by (is_of_client client o) (marks_left client opens)
  where
    by : (b : Bool) → filter (λ m. not (is_own client m)) (map mark_in opens) ≡ map mark_in (without (is_of_client client) opens)
        → cond (not b) (mark_in o ∷ filter (λ m. not (is_own client m)) (map mark_in opens)) (filter (λ m. not (is_own client m)) (map mark_in opens)) ≡ map mark_in (cond (not b) (o ∷ without (is_of_client client) opens) (without (is_of_client client) opens))
    by true rest = rest
    by false rest = ap (λ ms. mark_in o ∷ ms) rest

unchanged_map : {Y : Type 0} (seen : OpenState → Y) (test : OpenState → Bool) (change : OpenState → OpenState) → ((o : OpenState) → seen (change o) ≡ seen o) → (opens : List OpenState)
    → map seen (with_each test change opens) ≡ map seen opens
unchanged_map seen test change same [] = refl
unchanged_map seen test change same (o ∷ opens) = λ i. by (test o) i ∷ unchanged_map seen test change same opens i
  where
    by : (b : Bool) → seen (cond b (change o) o) ≡ seen o
    by true = same o
    by false = refl

module _ (names : RandomState) (rows : RoomyRows OpenState) (counts : ShareCounts) (of_client : Tally) (room : ℕ) (t : IsTable names rows counts of_client room) where
  abbrev opens : List OpenState
  opens = opens_kept rows.rows

  -- what a row's number finds, and what the open's finds, is one
  pub by_number : (number : ℕ) → value_in (find (is_row number) rows.rows) ≡ open_with_number number opens
  by_number number = find_seen (λ r. r.value) (is_row number) (is_numbered number) rows.rows (numbers names rows.rows t.kept number)

  -- the counts of one open apart from those of the others
  module _ (number : ℕ) (o : OpenState) (found : Some o ≡ open_with_number number opens) where
    abbrev left : List OpenState
    left = without (is_numbered number) opens

    apart : SameCounts opens (o ∷ left)
    apart = same_apart (is_numbered number) opens o (one_numbered names rows.rows t.kept number) found

    pub counts_apart : counts ≡ counts_of (share_of o ∷ map share_of left)
    counts_apart = t.counts_are ∙ same_counts_of (map share_of opens) (share_of o ∷ map share_of left) (same_map share_of opens (o ∷ left) apart)

    pub tally_apart : IsTally of_client (mark_in o ∷ map mark_in left)
    tally_apart = tally_same of_client (map mark_in opens) (mark_in o ∷ map mark_in left) (same_map mark_in opens (o ∷ left) apart) t.tally

    pub few_left : {Y : Type 0} (seen : OpenState → Y) (n : ℕ) → n ≡ length rows.rows → n < 2 ^ 64 → length (map seen left) + 1 < 2 ^ 64
    few_left seen n is few =
        omega (arith, map_length seen left, kept_length rows.rows, one_less (is_numbered number) opens o (one_numbered names rows.rows t.kept number) found, is, few)

    module _ (change : OpenState → OpenState) (same_owner : (p : OpenState) → (change p).owner ≡ p.owner) (same_number : (p : OpenState) → (change p).number ≡ p.number)
        (new : RoomyRows OpenState) (is : new ≡ record rows { rows = with_change number change rows.rows }) where
      opens_new : opens_kept new.rows ≡ with_each (is_numbered number) change opens
      opens_new = ap (λ (r : RoomyRows OpenState). opens_kept r.rows) is ∙ changed_seen number change (is_numbered number) rows.rows (numbers names rows.rows t.kept number)

      same_new : SameCounts (with_each (is_numbered number) change opens) (change o ∷ left)
      same_new = same_change (is_numbered number) change opens o (one_numbered names rows.rows t.kept number) found

      -- after a change of the open with the number
      pub table_changed : (new_counts : ShareCounts) (new_tally : Tally) → new_counts ≡ counts_of (share_of (change o) ∷ map share_of left) → IsTally new_tally (mark_in (change o) ∷ map mark_in left) → room_of of_client ≤ room_of new_tally
          → IsTable names new new_counts new_tally room
      table_changed new_counts new_tally counts_is tally_is grows = record {
        kept = subst (λ (r : RoomyRows OpenState). AreKept names r.rows) (sym is) (change_keeps names rows.rows t.kept number change same_owner same_number);
        counts_are = counts_is ∙ sym (same_counts_of (map share_of (with_each (is_numbered number) change opens)) (share_of (change o) ∷ map share_of left) (same_map share_of (with_each (is_numbered number) change opens) (change o ∷ left) same_new))
            ∙ ap (λ os. counts_of (map share_of os)) (sym opens_new);
        tally = subst (λ os. IsTally new_tally (map mark_in os)) (sym opens_new)
            (tally_same new_tally (mark_in (change o) ∷ map mark_in left) (map mark_in (with_each (is_numbered number) change opens))
            (λ test. sym (same_map mark_in (with_each (is_numbered number) change opens) (change o ∷ left) same_new test)) tally_is);
        in_rows = omega (arith, t.in_rows, ap (λ (r : RoomyRows OpenState). r.room) is);
        in_tally = omega (arith, t.in_tally, grows);
      }

    -- without it
    pub table_without : (new : RoomyRows OpenState) → new.rows ≡ rows_without (is_row number) rows.rows → new.room ≡ rows.room → (new_counts : ShareCounts) (new_tally : Tally)
        → new_counts ≡ counts_of (map share_of left) → IsTally new_tally (map mark_in left) → room_of of_client ≤ room_of new_tally → IsTable names new new_counts new_tally room
    table_without new is same_room new_counts new_tally counts_is tally_is grows =
        let gone = ap opens_kept is ∙ without_seen (λ r. r.value) (is_row number) (is_numbered number) rows.rows (numbers names rows.rows t.kept number) in
        record {
          kept = subst (AreKept names) (sym is) (without_keeps names rows.rows t.kept (is_row number) (is_numbered number) (numbers names rows.rows t.kept number));
          counts_are = counts_is ∙ ap (λ os. counts_of (map share_of os)) (sym gone);
          tally = subst (λ os. IsTally new_tally (map mark_in os)) (sym gone) tally_is;
          in_rows = omega (arith, t.in_rows, same_room);
          in_tally = omega (arith, t.in_tally, grows);
        }

  -- what the opens are without the one with a number
  pub opens_without : (number : ℕ) (new : List (Row OpenState)) → new ≡ rows_without (is_row number) rows.rows → opens_kept new ≡ without (is_numbered number) opens
  opens_without number new is = ap opens_kept is ∙ without_seen (λ r. r.value) (is_row number) (is_numbered number) rows.rows (numbers names rows.rows t.kept number)

  -- nothing is removed where there is none
  pub table_same : (number : ℕ) → None ≡ value_in (find (is_row number) rows.rows) → (new : RoomyRows OpenState) → new.rows ≡ rows_without (is_row number) rows.rows → new.room ≡ rows.room → IsTable names new counts of_client room
  table_same number none new is same_room =
      let same = is ∙ drop_none (is_row number) rows.rows (fails rows.rows none) in
      record {
        kept = subst (AreKept names) (sym same) t.kept;
        counts_are = t.counts_are ∙ ap (λ rs. counts_of (map share_of (opens_kept rs))) (sym same);
        tally = subst (λ rs. IsTally of_client (map mark_in (opens_kept rs))) (sym same) t.tally;
        in_rows = omega (arith, t.in_rows, same_room);
        in_tally = t.in_tally;
      }
    where
      found_none : (found : Option (Row OpenState)) → None ≡ value_in found → None ≡ found
      found_none None h = refl
      found_none (Some r) h = absurd (cc)

      fails : (rs : List (Row OpenState)) → None ≡ value_in (find (is_row number) rs) → AllByRecursion (λ r. is_row number r ≡ false) rs
      fails rs h = none_passes (is_row number) rs (found_none (find (is_row number) rs) h)

  -- a change of no share
  pub table_moved : (number : ℕ) (change : OpenState → OpenState) → ((p : OpenState) → (change p).owner ≡ p.owner) → ((p : OpenState) → (change p).number ≡ p.number) → ((p : OpenState) → share_of (change p) ≡ share_of p) → ((p : OpenState) → mark_in (change p) ≡ mark_in p)
      → (new : RoomyRows OpenState) → new ≡ record rows { rows = with_change number change rows.rows } → IsTable names new counts of_client room
  table_moved number change same_owner same_number same_share same_mark new is =
      let moved = ap (λ (r : RoomyRows OpenState). opens_kept r.rows) is ∙ changed_seen number change (is_numbered number) rows.rows (numbers names rows.rows t.kept number) in
      record {
        kept = subst (λ (r : RoomyRows OpenState). AreKept names r.rows) (sym is) (change_keeps names rows.rows t.kept number change same_owner same_number);
        counts_are = t.counts_are ∙ ap counts_of (sym (unchanged_map share_of (is_numbered number) change same_share opens)) ∙ ap (λ os. counts_of (map share_of os)) (sym moved);
        tally = subst (λ os. IsTally of_client (map mark_in os)) (sym moved) (subst (IsTally of_client) (sym (unchanged_map mark_in (is_numbered number) change same_mark opens)) t.tally);
        in_rows = omega (arith, t.in_rows, ap (λ (r : RoomyRows OpenState). r.room) is);
        in_tally = t.in_tally;
      }

  -- with one more
  pub table_added : (r : Row OpenState) → IsOpen names r → IsAbove r.value.number opens → None ≡ open_of r.value.owner opens → (new : RoomyRows OpenState) → new.rows ≡ rows.rows ++ r ∷ [] → rows.room ≡ new.room + 1
      → (new_counts : ShareCounts) (new_tally : Tally) → new_counts ≡ counts_of (share_of r.value ∷ map share_of opens) → IsTally new_tally (mark_in r.value ∷ map mark_in opens) → room_of of_client ≤ room_of new_tally + 1
      → IsTable names new new_counts new_tally (room - 1)
  table_added r is_open above none new is takes new_counts new_tally counts_is tally_is grows =
      let more = ap opens_kept is ∙ kept_append rows.rows r in
      let same : SameCounts (opens ++ r.value ∷ []) (r.value ∷ opens) = same_push opens r.value in
      record {
        kept = subst (AreKept names) (sym is) (add_keeps names rows.rows t.kept r is_open above none);
        counts_are = counts_is ∙ sym (same_counts_of (map share_of (opens ++ r.value ∷ [])) (share_of r.value ∷ map share_of opens) (same_map share_of (opens ++ r.value ∷ []) (r.value ∷ opens) same))
            ∙ ap (λ os. counts_of (map share_of os)) (sym more);
        tally = subst (λ os. IsTally new_tally (map mark_in os)) (sym more)
            (tally_same new_tally (mark_in r.value ∷ map mark_in opens) (map mark_in (opens ++ r.value ∷ [])) (λ test. sym (same_map mark_in (opens ++ r.value ∷ []) (r.value ∷ opens) same test)) tally_is);
        in_rows = omega (arith, t.in_rows, takes);
        in_tally = omega (arith, t.in_tally, grows);
      }

  -- without a client's opens

  pub client_gone : (client : ClientId) (new : List (Row OpenState)) → new ≡ rows_without (is_clients client.number (is_of_client client)) rows.rows → opens_kept new ≡ without (is_of_client client) opens
  client_gone client new is =
      ap opens_kept is
      ∙ without_seen (λ r. r.value) (is_clients client.number (is_of_client client)) (is_of_client client) rows.rows (client_is client.number (is_of_client client) rows.rows (clients names rows.rows t.kept client))

  pub table_without_client : (client : ClientId) (new : RoomyRows OpenState) → new.rows ≡ rows_without (is_clients client.number (is_of_client client)) rows.rows → new.room ≡ rows.room → (new_counts : ShareCounts) (new_tally : Tally)
      → new_counts ≡ counts_of (map share_of (opens_kept new.rows)) → IsTally new_tally (filter (λ m. not (is_own client m)) (map mark_in opens)) → room_of of_client ≤ room_of new_tally → IsTable names new new_counts new_tally room
  table_without_client client new is same_room new_counts new_tally counts_is tally_is grows = record {
    kept = subst (AreKept names) (sym is)
        (without_keeps names rows.rows t.kept (is_clients client.number (is_of_client client)) (is_of_client client) (client_is client.number (is_of_client client) rows.rows (clients names rows.rows t.kept client)));
    counts_are = counts_is;
    tally = subst (IsTally new_tally) (marks_left client opens ∙ ap (map mark_in) (sym (client_gone client new.rows is))) tally_is;
    in_rows = omega (arith, t.in_rows, same_room);
    in_tally = omega (arith, t.in_tally, grows);
  }
