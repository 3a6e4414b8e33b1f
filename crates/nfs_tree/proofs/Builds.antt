-- The entries of a document are added to the tree one after the other.
use Rattle.std.proofs.Common.{◌≡◌, ℕ, ◌+◌, ◌<◌, ◌≤◌, List, [], length, get_or, drop, Some, Result, Ok, sym, ap, subst, ◌∙◌}
use Rattle.std.proofs.lemmas.List.{drop_more}
use Rattle.std.proofs.Math.ListN.{drop_of_length-le}
use Rattle.nfs_tree.specs.declared.document.Document.{Document}
use Rattle.nfs_tree.specs.declared.node.TreeEntry.{TreeEntry}
use Rattle.nfs_tree.specs.declared.tree_error.TreeError.{TreeError}
use Rattle.nfs_tree.specs.declared.tree_error.TreeError.TheVariants as errors
use Rattle.nfs_tree.specs.Building.{◌>>=◌, add_entry, add_entries, tree_of, or_syntax, tree_of_document, FailsToMake}
use Rattle.nfs_tree.specs.Document.{document_at, FailsToRead}
use Rattle.nfs_tree.specs.Tree.{Files}

pub tree_started : (text : List ℕ) (d : Document) → document_at text ≡ Some d → add_entries (record { nodes = []; policy = d.policy }) d.entries ≡ tree_of text
tree_started text d read = sym (ap (λ o. or_syntax o >>= tree_of_document) read)

built_from : (tree : Files) (entries : List TreeEntry) (i : ℕ) (entry : TreeEntry) → i < length entries → entry ≡ get_or entries i entry → add_entries tree (drop i entries) ≡ (add_entry tree entry >>= λ new. add_entries new (drop (i + 1) entries))
built_from tree entries i entry within is =
    ap (add_entries tree) (drop_more entries i entry within) ∙ ap (λ e. add_entry tree e >>= λ new. add_entries new (drop (i + 1) entries)) (sym is)

pub entry_added : (tree new : Files) (entries : List TreeEntry) (i : ℕ) (entry : TreeEntry) (whole : Result Files TreeError) → i < length entries → entry ≡ get_or entries i entry → add_entry tree entry ≡ Ok new → add_entries tree (drop i entries) ≡ whole → add_entries new (drop (i + 1) entries) ≡ whole
entry_added tree new entries i entry whole within is adds so_far =
    sym (ap (λ r. r >>= λ new. add_entries new (drop (i + 1) entries)) adds) ∙ sym (built_from tree entries i entry within is) ∙ so_far

fails_on : {A B : Type 0} (e : TreeError) (part : Result A TreeError) (f : A → Result B TreeError) → FailsToMake e part → FailsToMake e (part >>= f)
fails_on errors.Memory part f fails = tt
fails_on errors.Syntax part f fails = ap (λ r. r >>= f) fails
fails_on errors.Name part f fails = ap (λ r. r >>= f) fails
fails_on errors.TooMany part f fails = ap (λ r. r >>= f) fails
fails_on errors.Duplicate part f fails = ap (λ r. r >>= f) fails

pub entry_refused : (tree : Files) (entries : List TreeEntry) (i : ℕ) (entry : TreeEntry) (whole : Result Files TreeError) (e : TreeError) → i < length entries → entry ≡ get_or entries i entry → FailsToMake e (add_entry tree entry) → add_entries tree (drop i entries) ≡ whole → FailsToMake e whole
entry_refused tree entries i entry whole e within is fails so_far =
    let same = sym (built_from tree entries i entry within is) ∙ so_far in
    subst (FailsToMake e) same (fails_on e (add_entry tree entry) (λ new. add_entries new (drop (i + 1) entries)) fails)

pub tree_done : (tree : Files) (entries : List TreeEntry) (i : ℕ) (whole : Result Files TreeError) → length entries ≤ i → add_entries tree (drop i entries) ≡ whole → whole ≡ Ok tree
tree_done tree entries i whole past so_far = sym so_far ∙ ap (add_entries tree) (drop_of_length-le entries past)

pub text_refused : (text : List ℕ) (e : TreeError) → FailsToRead e (document_at text) → FailsToMake e (tree_of text)
text_refused text errors.Syntax fails = ap (λ o. or_syntax o >>= tree_of_document) fails
text_refused text errors.Memory fails = tt
text_refused text errors.Name fails = absurd fails
text_refused text errors.TooMany fails = absurd fails
text_refused text errors.Duplicate fails = absurd fails
