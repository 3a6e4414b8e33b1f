-- The entries of an array, read one after the other.
use Rattle.std.proofs.Common.{◌≡◌, ℕ, ◌+◌, ◌<◌, ◌≤◌, length, get_or, drop, sym, subst, Bool, true, false, Result, List, [], ◌∷◌, ◌++◌, Option, Some, None, refl, ap, ◌∙◌, append_assoc}
use Rattle.nfs_tree.specs.declared.node.TreeEntry.{TreeEntry}
use Rattle.nfs_tree.specs.declared.document.Document.{Document}
use Rattle.nfs_tree.specs.declared.document.Listing.{Listing}
use Rattle.nfs_tree.specs.declared.tree_error.TreeError.{TreeError}
use Rattle.nfs_tree.specs.declared.tree_error.TreeError.TheVariants as errors
use Rattle.nfs_tree.specs.Document.{◌>>=◌, document_at, document_of, entry_of, entries_of, FailsToRead, Reads}
use Rattle.std.proofs.lemmas.List.{append-nil}
use Rattle.std.proofs.Math.ListN.{drop_of_length-le}
use Rattle.toml.specs.declared.value.Value.{Value}
use Rattle.toml.specs.View.{view, items_view}
use Rattle.toml.proofs.Views.{items_view-drop}
use Rattle.toml.specs.Data.{Data, Items, item, Members}
use Rattle.toml.specs.Parse.{parse_document}

-- entries that were read already, followed by those of the rest
abbrev pub with_front : List TreeEntry → Option (List TreeEntry) → Option (List TreeEntry)
with_front done rest = rest >>= λ entries. Some (done ++ entries)

with_front_more : (done : List TreeEntry) (entry : TreeEntry) (rest : Option (List TreeEntry)) → with_front (done ++ entry ∷ []) rest ≡ with_front done (rest >>= λ entries. Some (entry ∷ entries))
with_front_more done entry None = refl
with_front_more done entry (Some entries) = ap (λ es. Some es) (append_assoc done (entry ∷ []) entries)

-- one more value of the array: its entry is read, or it can't be read and then neither can the array
item_read : (listing : Listing) (value : Data) (more : Items) (done : List TreeEntry) (entry : TreeEntry) → entry_of listing value ≡ Some entry → with_front (done ++ entry ∷ []) (entries_of listing more) ≡ with_front done (entries_of listing (item value more))
item_read listing value more done entry read = rw read (with_front_more done entry (entries_of listing more))

item_missing : (listing : Listing) (value : Data) (more : Items) (done : List TreeEntry) → entry_of listing value ≡ None → with_front done (entries_of listing (item value more)) ≡ None
item_missing listing value more done read = rw read refl

-- if a part of a document can't be read, neither can the whole
fails_whole : {A B : Type 0} (e : TreeError) (part : Option A) (whole : Option B) → FailsToRead e part → (part ≡ None → whole ≡ None) → FailsToRead e whole
fails_whole errors.Syntax part whole fails none = none fails
fails_whole errors.Memory part whole fails none = tt
fails_whole errors.Name part whole fails none = fails
fails_whole errors.TooMany part whole fails none = fails
fails_whole errors.Duplicate part whole fails none = fails

pub with_front_none : (rest : Option (List TreeEntry)) → with_front [] rest ≡ rest
with_front_none None = refl
with_front_none (Some entries) = refl

-- the values of an array from a position on
items_from : (array : List Value) (i : ℕ) (value : Value) → i < length array → value ≡ get_or array i value → items_view (drop i array) ≡ item (view value) (items_view (drop (i + 1) array))
items_from array i value within is = items_view-drop array i value within ∙ ap (λ v. item (view v) (items_view (drop (i + 1) array))) (sym is)

pub entry_read : (listing : Listing) (array : List Value) (i : ℕ) (value : Value) (done : List TreeEntry) (entry : TreeEntry) → i < length array → value ≡ get_or array i value → entry_of listing (view value) ≡ Some entry → with_front done (entries_of listing (items_view (drop i array))) ≡ entries_of listing (items_view array) → with_front (done ++ entry ∷ []) (entries_of listing (items_view (drop (i + 1) array))) ≡ entries_of listing (items_view array)
entry_read listing array i value done entry within is read so_far =
    item_read listing (view value) (items_view (drop (i + 1) array)) done entry read
    ∙ ap (λ ds. with_front done (entries_of listing ds)) (sym (items_from array i value within is))
    ∙ so_far

pub entry_fails : (listing : Listing) (array : List Value) (i : ℕ) (value : Value) (done : List TreeEntry) (e : TreeError) → i < length array → value ≡ get_or array i value → FailsToRead e (entry_of listing (view value)) → with_front done (entries_of listing (items_view (drop i array))) ≡ entries_of listing (items_view array) → FailsToRead e (entries_of listing (items_view array))
entry_fails listing array i value done e within is fails so_far =
    fails_whole e (entry_of listing (view value)) (entries_of listing (items_view array)) fails
    (λ none. sym so_far ∙ ap (λ ds. with_front done (entries_of listing ds)) (items_from array i value within is) ∙ item_missing listing (view value) (items_view (drop (i + 1) array)) done none)

pub with_front_done : (listing : Listing) (array : List Value) (i : ℕ) (done : List TreeEntry) → length array ≤ i → with_front done (entries_of listing (items_view (drop i array))) ≡ entries_of listing (items_view array) → entries_of listing (items_view array) ≡ Some done
with_front_done listing array i done past so_far =
    sym so_far
    ∙ ap (λ vs. with_front done (entries_of listing (items_view vs))) (drop_of_length-le array past)
    ∙ ap (λ es. Some es) (append-nil done)

-- the document of a text is that of the table that the text is parsed as
document_from : (text : List ℕ) (o : Option Members) → parse_document text ≡ o → document_at text ≡ (o >>= document_of)
unfolding document_at
document_from text o parsed = ap (λ p. p >>= document_of) parsed

pub document_read : (text : List ℕ) (members : Members) (r : Result Document TreeError) → parse_document text ≡ Some members → Reads r (document_of members) → Reads r (document_at text)
document_read text members r parsed reads = subst (Reads r) (sym (document_from text (Some members) parsed)) reads

pub document_none : (text : List ℕ) → parse_document text ≡ None → document_at text ≡ None
document_none text parsed = document_from text None parsed

pub not_both : (b : Bool) → b ≡ false → b ≡ true → ⊥
not_both true f t = cc
not_both false f t = cc
