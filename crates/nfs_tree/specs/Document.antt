-- The description of a tree that a TOML document contains.
use Rattle.std.specs.Prelude.{codes, ◌≡◌, ℕ, Bool, true, ◌&&◌, if◌then◌else◌, List, [], ◌∷◌, ◌++◌, Option, Some, None, Result, Ok, Err}
use Rattle.std.specs.List.{list_any}
use Rattle.std.specs.Str.{bytes_eq}
use Rattle.toml.specs.Data.{Data, Items, no_items, item, Members, no_members, member, get_member, as_str, as_array, as_table}
use Rattle.toml.specs.Parse.{parse_document}
use Rattle.nfs_tree.specs.declared.document.Document.{Document}
use Rattle.nfs_tree.specs.declared.document.Listing.{Listing}
use Rattle.nfs_tree.specs.declared.document.Listing.TheVariants as listings
use Rattle.nfs_tree.specs.declared.node.TreeEntry.{TreeEntry}
use Rattle.nfs_tree.specs.declared.node.NodeKind.TheVariants.{Directory, File}
use Rattle.nfs_tree.specs.declared.policy.Callbacks.{Callbacks}
use Rattle.nfs_tree.specs.declared.policy.Callbacks.TheVariants as callbacks
use Rattle.nfs_tree.specs.declared.policy.CloseLocks.{CloseLocks}
use Rattle.nfs_tree.specs.declared.policy.CloseLocks.TheVariants as close_locks
use Rattle.nfs_tree.specs.declared.policy.Delegations.{Delegations}
use Rattle.nfs_tree.specs.declared.policy.Delegations.TheVariants as delegations
use Rattle.nfs_tree.specs.declared.policy.Policy.{Policy}
use Rattle.nfs_tree.specs.declared.profile.Profile.{Profile}
use Rattle.nfs_tree.specs.declared.profile.Profile.TheVariants as profiles
use Rattle.nfs_tree.specs.declared.tree_error.TreeError.{TreeError}
use Rattle.nfs_tree.specs.declared.tree_error.TreeError.TheVariants as errors

-- continues with the value if there is one, and otherwise gives `None`
infixl 10 ◌>>=◌
abbrev pub ◌>>=◌ : {A B : Type 0} → Option A → (A → Option B) → Option B
None >>= f = None
(Some x) >>= f = f x

-- an optional value, with what is used if it is absent
abbrev pub or_absent : {A : Type 0} → A → (Data → Option A) → Option Data → Option A
or_absent absent read None = Some absent
or_absent absent read (Some value) = read value

-- a required value
abbrev pub or_missing : {A : Type 0} → (Data → Option A) → Option Data → Option A
or_missing read value = value >>= read

-- a table has no keys other than these
abbrev pub has_only : List (List ℕ) → Members → Bool
has_only keys no_members = true
has_only keys (member key value more) = list_any (bytes_eq key) keys && has_only keys more

-- the members of a table that has no keys other than these
abbrev pub table_of : List (List ℕ) → Data → Option Members
table_of keys value =
    as_table value >>= λ members. if has_only keys members then Some members else None

-- the entry that a table in an array describes: a directory, with a path, or a file, with a path and an optional text
abbrev pub entry_of : Listing → Data → Option TreeEntry
entry_of listings.Directories value =
    table_of (codes "path" ∷ []) value >>= λ table.
    get_member (codes "path") table >>= as_str >>= λ path.
    Some (record { path = path; kind = Directory })
entry_of listings.Files value =
    table_of (codes "path" ∷ codes "text" ∷ []) value >>= λ table.
    get_member (codes "path") table >>= as_str >>= λ path.
    or_absent [] as_str (get_member (codes "text") table) >>= λ text.
    Some (record { path = path; kind = File text })

abbrev pub entries_of : Listing → Items → Option (List TreeEntry)
entries_of listing no_items = Some []
entries_of listing (item value more) =
    entry_of listing value >>= λ entry.
    entries_of listing more >>= λ entries. Some (entry ∷ entries)

abbrev pub entries_in : Listing → Data → Option (List TreeEntry)
entries_in listing value = as_array value >>= entries_of listing

-- the words that a policy can contain
abbrev pub delegations_of : Data → Option Delegations
delegations_of value = as_str value >>= λ word.
    if bytes_eq word (codes "none") then Some delegations.None
    else if bytes_eq word (codes "read") then Some delegations.Read
    else if bytes_eq word (codes "all") then Some delegations.All
    else None

abbrev pub callbacks_of : Data → Option Callbacks
callbacks_of value = as_str value >>= λ word.
    if bytes_eq word (codes "probe") then Some callbacks.Probe
    else if bytes_eq word (codes "assume") then Some callbacks.Assume
    else None

abbrev pub close_locks_of : Data → Option CloseLocks
close_locks_of value = as_str value >>= λ word.
    if bytes_eq word (codes "free") then Some close_locks.Free
    else if bytes_eq word (codes "refuse") then Some close_locks.Refuse
    else None

abbrev pub profile_of : Data → Option Profile
profile_of value = as_str value >>= λ word.
    if bytes_eq word (codes "plain") then Some profiles.Plain
    else if bytes_eq word (codes "clients") then Some profiles.Clients
    else None

abbrev pub default_policy : Policy
default_policy = record {
  delegations = delegations.All;
  callbacks = callbacks.Probe;
  close_locks = close_locks.Free;
  profile = profiles.Plain;
}

abbrev pub policy_of : Data → Option Policy
policy_of value =
    table_of
    (codes "delegations" ∷ codes "callbacks" ∷ codes "close_locks" ∷ codes "profile" ∷ []) value
    >>= λ table.
    or_absent delegations.All delegations_of (get_member (codes "delegations") table)
    >>= λ delegations.
    or_absent callbacks.Probe callbacks_of (get_member (codes "callbacks") table) >>= λ callbacks.
    or_absent close_locks.Free close_locks_of (get_member (codes "close_locks") table)
    >>= λ close_locks.
    or_absent profiles.Plain profile_of (get_member (codes "profile") table) >>= λ profile.
    Some
    (record {
      delegations = delegations;
      callbacks = callbacks;
      close_locks = close_locks;
      profile = profile;
    })

-- The description of a tree in a TOML document, if it contains one: the entries of directories, followed by those of
-- files.
abbrev pub document_of : Members → Option Document
document_of members =
    (if has_only (codes "directory" ∷ codes "file" ∷ codes "policy" ∷ []) members
    then Some members else None) >>= λ members.
    or_absent [] (entries_in listings.Directories) (get_member (codes "directory") members)
    >>= λ directories.
    or_absent [] (entries_in listings.Files) (get_member (codes "file") members) >>= λ files.
    or_absent default_policy policy_of (get_member (codes "policy") members) >>= λ policy.
    Some (record { entries = directories ++ files; policy = policy })

-- The description of a tree in a text, if it contains one.
unfoldable pub document_at : List ℕ → Option Document
document_at text = parse_document text >>= document_of

-- What a function returned is what was to be read, or Syntax if it can't be read, unless the function ran out of
-- memory.
abbrev pub FailsToRead : {A : Type 0} → TreeError → Option A → Type 0
FailsToRead errors.Memory read = Unit {0}
FailsToRead errors.Syntax read = read ≡ None
FailsToRead e read = ⊥

abbrev pub Reads : {A : Type 0} → Result A TreeError → Option A → Type 0
Reads (Ok x) read = read ≡ Some x
Reads (Err e) read = FailsToRead e read
