-- The entries that were added to a tree are those that it has.
use Rattle.std.proofs.Common.{◌≡◌, ℕ, suc, ◌+◌, ◌-◌, ◌<◌, ◌≤◌, ◌==◌, Bool, true, false, not, List, [], ◌∷◌, ◌++◌, length, get_or, take, drop, slice_get, Option, Some, None, Result, Ok, Err, refl, sym, ap, subst, ◌∙◌, append_assoc, arith, inl, inr, length-append}
use Rattle.std.specs.Prelude.{◌&&◌, if◌then◌else◌}
use Rattle.std.specs.List.{All, Any, list_all}
use Rattle.std.proofs.lemmas.Bool.{cases_lt, eqb-true, not-false}
use Rattle.std.proofs.lemmas.Bool.Decides.{nat_tests}
use Rattle.std.proofs.lemmas.List.{append-nil, take-append-drop}
use Rattle.std.proofs.lemmas.List.Elements.{All-nil, All-push, All-weaker, Contains-append_left}
use Rattle.std.proofs.lemmas.List.Quantifiers.{Any-push, all_pairs_push}
use Rattle.std.proofs.Math.ListN.{drop_of_length-le}
use Rattle.std.proofs.Math.Seq.{take-append-add}
use Rattle.nfs_tree.specs.declared.node.TreeEntry.{TreeEntry}
use Rattle.nfs_tree.specs.declared.node.Node.{Node}
use Rattle.nfs_tree.specs.declared.node.NodeKind.{NodeKind}
use Rattle.nfs_tree.specs.declared.node.NodeKind.TheVariants.{Directory, File}
use Rattle.nfs_tree.specs.declared.tree_error.TreeError.{TreeError}
use Rattle.nfs_tree.specs.declared.tree_error.TreeError.TheVariants as errors
use Rattle.nfs_tree.specs.Building.{◌>>=◌, IsPath, Way, way, names_of, chain, kind_before, is_too_many, is_taken, add_entry, add_named, add_entries, or_syntax, tree_of_document}
use Rattle.nfs_tree.specs.Document.{document_at}
use Rattle.nfs_tree.specs.Leads.{Leads, IsOfKind, Agree, LeadsTo, IsThere, IsOnWay, IsFileAt, IsTreeOf, TreesAreTheirEntries}
use Rattle.nfs_tree.specs.Tree.{Files, is_name, is_directory, is_directory_kind, text_of, text_of_kind, IsTree}
use Rattle.nfs_tree.proofs.Growing.{IsFresh, kind_of_next, or_parts, tree_grows, way_fresh, way_names}
use Rattle.nfs_tree.proofs.Nodes.{decided, parents_of, ParentsWithin, directory_within}
use Rattle.nfs_tree.proofs.Paths.{names_are_names, path_complete, path_sound}
use Rattle.nfs_tree.proofs.Ways.{leads_stay, leads_on, chain_leads, way_leads, way_of, slice_get-beyond, text_cases, text_before, chain_kinds, is_kind, kind_stays, one_way, not_both_kinds}

-- What is found in a tree when an entry is added, and which nodes the tree has after that.
record Comes (nodes : List Node) (entry : TreeEntry) (new : List Node) : Type 0 where
  names : List (List ℕ)
  found : List (List ℕ)
  missing : List (List ℕ)
  end : ℕ
  are_names : IsPath names entry.path
  parts : found ++ missing ≡ names
  way_is : way nodes 0 names ≡ record { end = end; missing = missing }
  leads : Leads nodes 0 found end
  fresh : IsFresh nodes end missing
  few : is_too_many nodes entry.kind (length missing) ≡ false
  directory : is_directory nodes end ≡ true
  free : ((length missing == 0) && not (is_directory_kind entry.kind)) ≡ false
  is : new ≡ nodes ++ chain end (length nodes + 1) missing entry.kind

passes : (many taken : Bool) (left new : Files) → (if many then Err errors.TooMany else (if taken then Err errors.Duplicate else Ok left)) ≡ Ok new → (many ≡ false) × (taken ≡ false) × (left ≡ new)
passes true taken left new h = cc
passes false true left new h = cc
passes false false left new h = (refl, refl, cc)

comes_named : (old new : Files) (entry : TreeEntry) (o : Option (List (List ℕ))) → names_of entry.path ≡ o → add_named old entry.kind o ≡ Ok new → (new.policy ≡ old.policy) × Comes old.nodes entry new.nodes
comes_named old new entry None are h = cc
comes_named old new entry (Some names) are h =
    let w = way old.nodes 0 names in
    let left : Files = record old { nodes = old.nodes ++ chain w.end (length old.nodes + 1) w.missing entry.kind } in
    let found = way_leads old.nodes 0 names in
    let passed = passes (is_too_many old.nodes entry.kind (length w.missing)) (is_taken old.nodes entry.kind w) left new h in
    let free = or_parts (not (is_directory old.nodes w.end)) _ passed.1 in (
      ap (λ (f : Files). f.policy) (sym passed.2),
      record {
        names = names;
        found = found.0;
        missing = w.missing;
        end = w.end;
        are_names = path_sound entry.path names are;
        parts = found.1;
        way_is = refl;
        leads = found.2;
        fresh = way_fresh old.nodes 0 names;
        few = passed.0;
        directory = not-false _ free.0;
        free = free.1;
        is = ap (λ (f : Files). f.nodes) (sym passed.2);
      },
    )

leads_to : (nodes : List Node) (entry : TreeEntry) (names : List (List ℕ)) (n : ℕ) → IsPath names entry.path → Leads nodes 0 names n → LeadsTo nodes entry n
leads_to nodes entry names n are_names leads = record { names = names; are_names = are_names; leads = leads }

-- what holds for the nodes of a tree still holds once more nodes are added
leads_to_stays : (nodes more : List Node) (entry : TreeEntry) (n : ℕ) → LeadsTo nodes entry n → LeadsTo (nodes ++ more) entry n
leads_to_stays nodes more entry n l = leads_to (nodes ++ more) entry l.names n l.are_names (leads_stay nodes more 0 l.names n l.leads)

there_stays : (nodes more : List Node) (entry : TreeEntry) → IsThere nodes entry → IsThere (nodes ++ more) entry
there_stays nodes more entry t = (t.0, leads_to_stays nodes more entry t.0 t.1, kind_stays nodes more t.0 entry.kind t.2)

on_way_stays : (nodes more : List Node) (n : ℕ) (entry : TreeEntry) → IsOnWay nodes n entry → IsOnWay (nodes ++ more) n entry
on_way_stays nodes more n entry w = record {
  names = w.names;
  are_names = w.are_names;
  count = w.count;
  leads = leads_stay nodes more 0 (take w.count w.names) n w.leads;
}

file_stays : (nodes more : List Node) (n : ℕ) (text : List ℕ) (entry : TreeEntry) → IsFileAt nodes n text entry → IsFileAt (nodes ++ more) n text entry
file_stays nodes more n text entry f = (leads_to_stays nodes more entry n f.0, f.1)

any_stays : {A : Type 0} (P Q : A → Type 0) → ((x : A) → P x → Q x) → (xs : List A) (y : A) → Any P xs → Any Q (xs ++ y ∷ [])
any_stays P Q f xs y some =
    let at = Contains-append_left xs (y ∷ []) some.1 (some.0, some.2, some.3) in
    (at.0, some.1, at.1, at.2, f some.1 some.4)

-- The names of an entry's path lead to each node that was added for the entry.
comes_leads : (nodes new : List Node) (entry : TreeEntry) (c : Comes nodes entry new) (count : ℕ) → IsTree nodes → count < length c.missing → Leads new 0 (take (length c.found + suc count) c.names) (length nodes + suc count)
comes_leads nodes new entry c count tree some =
    let more = chain c.end (length nodes + 1) c.missing entry.kind in
    let parents : ParentsWithin (length nodes) nodes = parents_of [] nodes tt tree.each_fits in
    let to_end : Leads (nodes ++ more) 0 c.found c.end = leads_stay nodes more 0 c.found c.end c.leads in
    let on : Leads (nodes ++ more) c.end (take (suc count) c.missing) (length nodes + suc count) = chain_leads nodes c.end c.missing entry.kind count parents (directory_within nodes c.end c.directory) c.fresh some in
    let all : Leads (nodes ++ more) 0 (c.found ++ take (suc count) c.missing) (length nodes + suc count) = leads_on (nodes ++ more) 0 c.found c.end (take (suc count) c.missing) (length nodes + suc count) to_end on in
    let first : take (length c.found + suc count) c.names ≡ c.found ++ take (suc count) c.missing = ap (take (length c.found + suc count)) (sym c.parts) ∙ take-append-add c.found c.missing (suc count) in
    subst (λ (ns : List Node). Leads ns 0 (take (length c.found + suc count) c.names) (length nodes + suc count)) (sym c.is)
    (subst (λ (names : List (List ℕ)). Leads (nodes ++ more) 0 names (length nodes + suc count)) (sym first) all)

-- the kind of a node that was added for the entry
comes_kinds : (nodes new : List Node) (entry : TreeEntry) (c : Comes nodes entry new) (count : ℕ) → count < length c.missing → (node : Node) × (slice_get new (length nodes + count) ≡ Some node) × (node.kind ≡ kind_before (drop (suc count) c.missing) entry.kind)
comes_kinds nodes new entry c count some =
    let more = chain c.end (length nodes + 1) c.missing entry.kind in
    let at = chain_kinds c.end (length nodes + 1) c.missing entry.kind count some in
    (at.0, ap (λ ns. slice_get ns (length nodes + count)) c.is ∙ slice_get-beyond nodes more count ∙ at.1, at.2)

chain_length : (parent number : ℕ) (names : List (List ℕ)) (kind : NodeKind) → length (chain parent number names kind) ≡ length names
chain_length parent number [] kind = refl
chain_length parent number (name ∷ names) kind = ap suc (chain_length number (number + 1) names kind)

comes_length : (nodes new : List Node) (entry : TreeEntry) (c : Comes nodes entry new) → length new ≡ length nodes + length c.missing
comes_length nodes new entry c =
    let more = chain c.end (length nodes + 1) c.missing entry.kind in
    ap length c.is ∙ length-append nodes more ∙ ap (λ n. length nodes + n) (chain_length c.end (length nodes + 1) c.missing entry.kind)

-- the position of such a node among those that were added, given its number
comes_count : (nodes new : List Node) (entry : TreeEntry) (c : Comes nodes entry new) (n : ℕ) → length nodes < n → n ≤ length new → (count : ℕ) × (n ≡ length nodes + suc count) × (count < length c.missing)
comes_count nodes new entry c n past within =
    let long = comes_length nodes new entry c in
    (n - length nodes - 1, omega arith, omega arith)

comes_on_way : (nodes new : List Node) (entry : TreeEntry) → Comes nodes entry new → IsTree nodes → (n : ℕ) → length nodes < n → n ≤ length new → IsOnWay new n entry
comes_on_way nodes new entry c tree n past within =
    let at = comes_count nodes new entry c n past within in
    record {
      names = c.names;
      are_names = c.are_names;
      count = length c.found + suc at.0;
      leads = subst (Leads new 0 (take (length c.found + suc at.0) c.names)) (sym at.1) (comes_leads nodes new entry c at.0 tree at.2);
    }

take_all : {A : Type 0} (count : ℕ) (xs : List A) → drop count xs ≡ [] → take count xs ≡ xs
take_all count xs none = sym (append-nil (take count xs)) ∙ ap (λ ys. take count xs ++ ys) (sym none) ∙ take-append-drop count xs

-- if no names of the path follow, the first names are the whole path
comes_whole : (nodes new : List Node) (entry : TreeEntry) (c : Comes nodes entry new) (count : ℕ) → drop (suc count) c.missing ≡ [] → take (length c.found + suc count) c.names ≡ c.names
comes_whole nodes new entry c count none =
    ap (take (length c.found + suc count)) (sym c.parts)
    ∙ take-append-add c.found c.missing (suc count)
    ∙ ap (λ names. c.found ++ names) (take_all (suc count) c.missing none)
    ∙ c.parts

last_kind : (beyond : List (List ℕ)) (kind : NodeKind) (text : List ℕ) → text_of_kind (kind_before beyond kind) ≡ Some text → (beyond ≡ []) × (kind ≡ File text)
last_kind [] Directory text is = cc
last_kind [] (File own) text is = (refl, cc)
last_kind (name ∷ names) kind text is =
    let none : None ≡ Some text = ap text_of_kind (sym (kind_of_next name names kind)) ∙ is in cc

-- if a node that was added for the entry is a file, it is the file of the entry
comes_file : (nodes new : List Node) (entry : TreeEntry) → Comes nodes entry new → IsTree nodes → (n : ℕ) (text : List ℕ) → length nodes < n → text_of new n ≡ Some text → IsFileAt new n text entry
comes_file nodes new entry c tree n text past is =
    let place = text_cases new n text is in
    let number = place.1 in
    let inside = place.2 in
    let at = comes_count nodes new entry c n past (omega arith) in
    let counted = at.1 in
    let left = comes_kinds nodes new entry c at.0 at.2 in
    let here : place.0 ≡ length nodes + at.0 = omega arith in
    let found : Some place.3 ≡ Some left.0 = sym place.4 ∙ ap (slice_get new) here ∙ left.1 in
    let same : place.3 ≡ left.0 = cc in
    let kind : text_of_kind (kind_before (drop (suc at.0) c.missing) entry.kind) ≡ Some text = ap text_of_kind (sym left.2) ∙ ap (λ (node : Node). text_of_kind node.kind) (sym same) ∙ place.5 in
    let last = last_kind (drop (suc at.0) c.missing) entry.kind text kind in
    let leads : Leads new 0 (take (length c.found + suc at.0) c.names) n = subst (Leads new 0 (take (length c.found + suc at.0) c.names)) (sym counted) (comes_leads nodes new entry c at.0 tree at.2) in
    (leads_to new entry c.names n c.are_names (subst (λ (names : List (List ℕ)). Leads new 0 names n) (comes_whole nodes new entry c at.0 last.0) leads), last.1)

of_directory : (nodes : List Node) (n : ℕ) (kind : NodeKind) → is_directory_kind kind ≡ true → is_directory nodes n ≡ true → IsOfKind nodes n kind
of_directory nodes n Directory kind directory = directory
of_directory nodes n (File text) kind directory = cc

no_names : {A : Type 0} (xs : List A) → length xs ≡ 0 → xs ≡ []
no_names [] none = refl
no_names (x ∷ xs) none = absurd (omega arith)

-- an entry for which no node was added is a directory, and was there as one
comes_directory : (nodes new : List Node) (entry : TreeEntry) (c : Comes nodes entry new) → length c.missing ≡ 0 → is_directory_kind entry.kind ≡ true
comes_directory nodes new entry c none =
    let test : (length c.missing == 0) ≡ true = grind (arith, nat_tests) in
    not-false _ (sym (ap (λ b. b && not (is_directory_kind entry.kind)) test) ∙ c.free)

comes_there : (nodes new : List Node) (entry : TreeEntry) → Comes nodes entry new → IsTree nodes → IsThere new entry
comes_there nodes new entry c tree =
    elim (decided (length c.missing == 0)) [
      | inl test ↦
          let none : length c.missing ≡ 0 = eqb-true _ _ test in
          let all : c.found ≡ c.names = sym (append-nil c.found) ∙ ap (λ names. c.found ++ names) (sym (no_names c.missing none)) ∙ c.parts in
          let leads : Leads nodes 0 c.names c.end = subst (λ (names : List (List ℕ)). Leads nodes 0 names c.end) all c.leads in
          let kind : IsOfKind nodes c.end entry.kind = of_directory nodes c.end entry.kind (comes_directory nodes new entry c none) c.directory in
          let there : IsThere nodes entry = (c.end, leads_to nodes entry c.names c.end c.are_names leads, kind) in
          subst (λ (ns : List Node). IsThere ns entry) (sym c.is) (there_stays nodes (chain c.end (length nodes + 1) c.missing entry.kind) entry there)
      | inr test ↦
          let count = length c.missing - 1 in
          let within : count < length c.missing = grind (arith, nat_tests) in
          let past : length c.missing ≤ suc count = omega arith in
          let none : drop (suc count) c.missing ≡ [] = drop_of_length-le c.missing past in
          let left = comes_kinds nodes new entry c count within in
          let number : length nodes + count + 1 ≡ length nodes + suc count = omega arith in
          let leads : Leads new 0 c.names (length nodes + suc count) = subst (λ (names : List (List ℕ)). Leads new 0 names (length nodes + suc count)) (comes_whole nodes new entry c count none) (comes_leads nodes new entry c count tree within) in
          let kind : IsOfKind new (length nodes + suc count) entry.kind = subst (λ (n : ℕ). IsOfKind new n entry.kind) number (is_kind new (length nodes + count) entry.kind left.0 left.1 (left.2 ∙ ap (λ beyond. kind_before beyond entry.kind) none)) in
          (length nodes + suc count, leads_to new entry c.names (length nodes + suc count) c.are_names leads, kind)
    ]

of_directory_kind : (kind : NodeKind) → is_directory_kind kind ≡ true → kind ≡ Directory
of_directory_kind Directory is = refl
of_directory_kind (File text) is = cc

at_directory : (nodes : List Node) (n : ℕ) (kind : NodeKind) → IsOfKind nodes n kind → is_directory nodes n ≡ true → kind ≡ Directory
at_directory nodes n Directory kind directory = refl
at_directory nodes n (File text) kind directory = absurd (not_both_kinds nodes n text kind directory)

-- if an entry's path was there already, both this entry and the earlier one are directories
comes_again : (nodes new : List Node) (entry other : TreeEntry) → Comes nodes entry new → IsThere nodes other → Agree other entry
comes_again nodes new entry other c there path =
    let by = there.1 in
    let names : Some by.names ≡ Some c.names = sym (path_complete other.path by.names by.are_names) ∙ ap names_of path ∙ path_complete entry.path c.names c.are_names in
    let same : by.names ≡ c.names = cc in
    let ends : record { end = c.end; missing = c.missing } ≡ record { end = there.0; missing = [] } = sym c.way_is ∙ ap (way nodes 0) (sym same) ∙ way_of nodes 0 by.names there.0 by.leads in
    let none : length c.missing ≡ 0 = ap (λ (w : Way). length w.missing) ends in
    let directory : is_directory nodes there.0 ≡ true = ap (λ (w : Way). is_directory nodes w.end) (sym ends) ∙ c.directory in
    (at_directory nodes there.0 other.kind there.2 directory, of_directory_kind entry.kind (comes_directory nodes new entry c none))

comes_tree : (nodes new : List Node) (entry : TreeEntry) → Comes nodes entry new → IsTree nodes → IsTree new
comes_tree nodes new entry c tree =
    let names = names_are_names entry.path c.names (path_complete entry.path c.names c.are_names) in
    let missing : list_all is_name c.missing ≡ true = ap (λ (w : Way). list_all is_name w.missing) (sym c.way_is) ∙ way_names nodes 0 c.names names in
    subst IsTree (sym c.is) (tree_grows nodes c.end c.missing entry.kind tree c.few c.directory c.fresh missing)

-- the tree of some entries, with one more entry added, is the tree of all of them
comes_holds : (nodes new : List Node) (done : List TreeEntry) (entry : TreeEntry) → Comes nodes entry new → IsTree nodes → IsTreeOf done nodes → IsTreeOf (done ++ entry ∷ []) new
comes_holds nodes new done entry c tree holds =
    let more = chain c.end (length nodes + 1) c.missing entry.kind in
    let there : All (IsThere new) done = subst (λ (ns : List Node). All (IsThere ns) done) (sym c.is) (All-weaker (IsThere nodes) (IsThere (nodes ++ more)) (there_stays nodes more) done holds.each_entry) in
    let node_before = λ (n : ℕ) (some : 1 ≤ n) (within : n ≤ length nodes).
    subst (λ (ns : List Node). Any (IsOnWay ns n) (done ++ entry ∷ [])) (sym c.is)
    (any_stays (IsOnWay nodes n) (IsOnWay (nodes ++ more) n) (on_way_stays nodes more n) done entry (holds.each_node n some (omega arith))) in
    let file_before = λ (n : ℕ) (text : List ℕ) (is : text_of new n ≡ Some text) (within : n ≤ length nodes).
    subst (λ (ns : List Node). Any (IsFileAt ns n text) (done ++ entry ∷ [])) (sym c.is)
    (any_stays (IsFileAt nodes n text) (IsFileAt (nodes ++ more) n text) (file_stays nodes more n text) done entry (holds.each_file n text (sym (text_before nodes more n within) ∙ ap (λ ns. text_of ns n) (sym c.is) ∙ is))) in
    record {
      each_entry = All-push (IsThere new) done entry there (comes_there nodes new entry c tree);
      each_node = λ n some within. elim (cases_lt (length nodes) n) [
        | inl past ↦ Any-push (IsOnWay new n) done entry (comes_on_way nodes new entry c tree n past (omega arith))
        | inr before ↦ node_before n some before
      ];
      each_file = λ n text is. elim (cases_lt (length nodes) n) [
        | inl past ↦ Any-push (IsFileAt new n text) done entry (comes_file nodes new entry c tree n text past is)
        | inr before ↦ file_before n text is before
      ];
      agree = all_pairs_push Agree done entry holds.agree
          (λ k d within. comes_again nodes new entry (get_or done k d) c (holds.each_entry k d within));
      one_way = λ n names first others second. one_way new n others names second first;
    }

bind_ok : {A B : Type 0} (r : Result A TreeError) (f : A → Result B TreeError) (b : B) → (r >>= f) ≡ Ok b → (a : A) × (r ≡ Ok a) × (f a ≡ Ok b)
bind_ok (Ok a) f b h = (a, refl, h)
bind_ok (Err e) f b h = cc

built_holds : (old new : Files) (done rest : List TreeEntry) → IsTree old.nodes → IsTreeOf done old.nodes → add_entries old rest ≡ Ok new → (new.policy ≡ old.policy) × IsTreeOf (done ++ rest) new.nodes
built_holds old new done [] tree holds is =
    let same : old ≡ new = cc in
    (ap (λ (f : Files). f.policy) (sym same), rw append-nil (subst (λ (f : Files). IsTreeOf done f.nodes) same holds))
built_holds old new done (entry ∷ rest) tree holds is =
    let first = bind_ok (add_entry old entry) (λ middle. add_entries middle rest) new is in
    let comes = comes_named old first.0 entry (names_of entry.path) refl first.1 in
    let after = built_holds first.0 new (done ++ entry ∷ []) rest (comes_tree old.nodes first.0.nodes entry comes.1 tree) (comes_holds old.nodes first.0.nodes done entry comes.1 tree holds) first.2 in
    (after.0 ∙ comes.0, subst (λ (entries : List TreeEntry). IsTreeOf entries new.nodes) (append_assoc done (entry ∷ []) rest) after.1)

no_nodes : IsTree []
no_nodes = record { each_fits = tt; few_directories = omega arith; few_files = omega arith }

none_hold : IsTreeOf [] []
none_hold = record {
  each_entry = All-nil (IsThere []);
  each_node = λ n some within. absurd (omega arith);
  each_file = λ n text is. let at = text_cases [] n text is in let within = at.2 in absurd (omega arith);
  agree = λ i j d before within. absurd (omega arith);
  one_way = λ n names first others second. one_way [] n others names second first;
}

syntax_ok : {A : Type 0} (o : Option A) (x : A) → or_syntax o ≡ Ok x → o ≡ Some x
syntax_ok None x is = cc
syntax_ok (Some y) x is = cc

pub entries_law : TreesAreTheirEntries
entries_law text tree is =
    let first = bind_ok (or_syntax (document_at text)) tree_of_document tree is in
    let document = first.0 in
    let holds = built_holds (record { nodes = []; policy = document.policy }) tree [] document.entries no_nodes none_hold first.2 in
    (document, syntax_ok (document_at text) document first.1, holds.0, holds.1)
