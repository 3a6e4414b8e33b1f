-- Which bytes are the file of which journal.
use Rattle.std.specs.Prelude.{◌≡◌, ℕ, ◌<◌, ◌+◌, ◌++◌, nat_le, Bool, true, false, not, ◌&&◌, List, length, Result, Ok, Err, OnOk, OnErr, vec_len, vec_capacity, IsErrOf}
use Rattle.std.specs.Global.{Vec}
use Rattle.std.specs.List.{list_all}
use Rattle.nfs_journal.specs.declared.audit_error.AuditError.{AuditError}
use Rattle.nfs_journal.specs.declared.audit_error.AuditError.TheVariants as errors
use Rattle.nfs_journal.specs.declared.file.File.{File}
use Rattle.nfs_journal.specs.Exact.{IsEncoded}
use Rattle.nfs_journal.specs.File.{file, start_of}
use Rattle.nfs_journal.specs.declared.opening.Opening.{Opening}
use Rattle.nfs_journal.specs.declared.opening.Opening.TheVariants as openings
use Rattle.nfs_journal.specs.declared.opening.ThirdStart.{ThirdStart}
use Rattle.nfs_state.specs.declared.entry.Entry.{Entry}
use Rattle.nfs_state.specs.declared.entry.Entry.TheVariants as entries
use Rattle.nfs_state.specs.declared.journal.TheConstants.{LEASE_MIN, LEASE_MAX}
use Rattle.nfs_state.specs.Entries.{can_be_asked}
use Rattle.nfs_state.specs.State.{History}
use Rattle.nfs_tree.specs.DocumentNodes.{are_of_a_document}
use Rattle.nfs_tree.specs.Tree.{node_count}
use Rattle.nfs_tree.specs.declared.profile.Profile.{Profile}
use Rattle.nfs_tree.specs.declared.profile.Profile.TheVariants.{Plain, Clients}

abbrev pub number_of : AuditError → ℕ
number_of errors.Format = 1
number_of (errors.WrongAnswer number) = 2
number_of errors.Memory = 3

-- an entry that a journal can have of this profile, whose tree has so many nodes
abbrev pub is_entry : Profile → ℕ → Entry → Bool
is_entry profile nodes (entries.Call call) = can_be_asked profile nodes call.request
is_entry profile nodes entry = true

-- The lease is within its limits, some document gives the nodes, and each entry is one that the journal can have.
abbrev pub is_journal : History → Bool
is_journal h = (nat_le LEASE_MIN h.lease && nat_le h.lease LEASE_MAX)
    && are_of_a_document h.nodes
    && list_all (is_entry h.policy.profile (node_count h.nodes)) h.entries

-- the journal that has what a file has
abbrev pub history_of : File → History
history_of f =
    let start = start_of f.opening in
    record {
      nodes = f.nodes;
      epoch = start.epoch;
      lease = start.lease;
      policy = start.policy;
      entries = f.entries;
    }

-- the opening of a file of this profile, of the third edition
abbrev pub opening_of : Profile → ThirdStart → Opening
opening_of Plain start = openings.Third start
opening_of Clients start = openings.Clients start

-- what a file of the third edition has of what the server of this journal began with
abbrev pub third_of : History → ThirdStart
third_of h = record {
  epoch = h.epoch;
  lease = h.lease;
  delegations = h.policy.delegations;
  callbacks = h.policy.callbacks;
  close_locks = h.policy.close_locks;
}

-- what the file of a journal has that is written
abbrev pub file_of : History → File
file_of h = record {
  opening = opening_of h.policy.profile (third_of h);
  nodes = h.nodes;
  entries = h.entries;
}

-- the entry is the end of what is kept for an owner
abbrev pub is_forget : Entry → Bool
is_forget (entries.Forget forget) = true
is_forget entry = false

-- the entries are such as a file of the edition may have: before the third no owner was forgotten
abbrev pub are_of_edition : Opening → List Entry → Bool
are_of_edition (openings.Clients start) entries = true
are_of_edition (openings.Second start) entries = list_all (λ e. not (is_forget e)) entries
are_of_edition (openings.Third start) entries = true

-- the file is that of a journal
abbrev pub is_file : File → Bool
is_file f = is_journal (history_of f) && are_of_edition f.opening f.entries

-- The bytes are a file of this journal, of either edition: the one encoding, with zero padding.
abbrev pub IsFileOf : History → List ℕ → Type 0
IsFileOf h bytes =
    (f : File) × (h ≡ history_of f) × (is_file f ≡ true) × IsEncoded file f bytes

-- What a function returned is the journal whose file the bytes are. Format if they are the file of none.
abbrev pub Reads : Result History AuditError → List ℕ → Type 0
Reads (Ok journal) bytes = IsFileOf journal bytes
Reads (Err errors.Format) bytes = (h : History) → IsFileOf h bytes → ⊥
Reads (Err (errors.WrongAnswer number)) bytes = ⊥
Reads (Err errors.Memory) bytes = Unit {0}

-- What a function returned is the journal with what the file has, or Format if that is no journal.
abbrev pub Accepts : Result History AuditError → File → Type 0
Accepts (Ok journal) f = (is_file f ≡ true) × (journal ≡ history_of f)
Accepts (Err errors.Format) f = is_file f ≡ false
Accepts (Err e) f = ⊥

-- What a writer did to the bytes written so far. At Ok the encoding of the journal follows them. Format is returned
-- only if the journal doesn't fit its form, and Memory only if there was no room for the encoding. After an error the
-- bytes are as before.
abbrev pub WritesFile : Vec ℕ → Vec ℕ → Result (Unit {0}) AuditError → History → Type 0
WritesFile old new result h =
    OnOk result ((new.items ≡ old.items ++ file.encoding (file_of h)) × file.Fits (file_of h))
    × OnErr result (new.items ≡ old.items)
    × (IsErrOf result errors.Format → ¬ (file.Fits (file_of h)))
    × (IsErrOf result errors.Memory
    → vec_capacity old < vec_len old + length (file.encoding (file_of h)))
    × ((number : ℕ) → IsErrOf result (errors.WrongAnswer number) → ⊥)
