-- What is kept for an owner, and that what is stored of it is what the owner's entry in the journal has.
use Rattle.std.specs.Prelude.{◌≡◌, ◌≤◌, ℕ, Bool, false, List, Option, None, Some, option_and_then, option_map, slice_get}
use Rattle.std.specs.List.{AllByRecursion}
use Rattle.nfs_state.specs.Entries.{IsSendable, call_of}
use Rattle.nfs_state.specs.State.{History}
use Rattle.nfs_state.specs.declared.owner_change.OwnerChange.{OwnerChange}
use Rattle.nfs_state.specs.declared.owner_change.OwnerChange.TheVariants as changes
use Rattle.nfs_state.specs.declared.owner_update.Keeping.{Keeping}
use Rattle.nfs_state.specs.declared.owner_update.OwnerUpdate.{OwnerUpdate}
use Rattle.nfs_state.specs.declared.owner_update.OwnerUpdate.TheVariants as updates
use Rattle.nfs_forms.specs.declared.locker.Locker.{Locker}
use Rattle.nfs_forms.specs.declared.locker.Locker.TheVariants as lockers
use Rattle.nfs_owners.specs.StateOwner.{open_owner}
use Rattle.nfs_owners.specs.declared.state_owner.OwnerKind.{OwnerKind}
use Rattle.nfs_owners.specs.declared.state_owner.OwnerKind.TheVariants as kinds
use Rattle.nfs_owners.specs.declared.state_owner.StateOwner.{StateOwner}
use Rattle.nfs_owners.specs.declared.owner.Owner.{Owner}
use Rattle.nfs_owners.specs.Owners.{with_kept, without_owner}
use Rattle.nfs_owners.specs.Kept.{Kept, request_of, summary_of}
use Rattle.nfs_state.specs.Owners.{KnownOwner}
use Rattle.nfs_state.specs.declared.entry.Call.{Call}
use Rattle.nfs_state.specs.declared.entry.Entry.{Entry}
use Rattle.nfs_xdr.specs.Names.{seqid_of}
use Rattle.nfs_xdr.specs.declared.op.Op.{Op}
use Rattle.nfs_xdr.specs.declared.op.Op.TheVariants as ops

-- the sequence id in a LOCK of the lock owner
abbrev pub lock_owner_seqid : Locker → ℕ
lock_owner_seqid (lockers.New locker) = locker.lock_seqid
lock_owner_seqid (lockers.Known locker) = locker.lock_seqid

-- Of an operation that goes by this sequence id, the one that an owner of this kind keeps: a LOCK that introduces a
-- lock owner has another one for that owner.
abbrev pub seqid_for : OwnerKind → Op → ℕ → ℕ
seqid_for kinds.Lock (ops.Lock args) seqid = lock_owner_seqid args.locker
seqid_for kind op seqid = seqid

-- the request and the answer of a call that goes by this sequence id, as they are kept for an owner of this kind
abbrev pub kept_with : Call → ℕ → OwnerKind → Kept
kept_with call seqid kind = record {
  seqid = seqid_for kind call.request.op seqid;
  request = request_of call.request.op call.request.filehandle;
  answer = call.answer;
}

-- The request and the answer of a call, as they are kept, if the call goes by a sequence id: nobody keeps another call.
abbrev pub kept_of : Call → Option (OwnerKind → Kept)
kept_of call = option_map (kept_with call) (seqid_of call.request.op)

-- what owners of each kind keep of an entry, if there is something to keep
abbrev pub kept_in : Entry → Option (OwnerKind → Kept)
kept_in entry = option_and_then kept_of (call_of entry)

-- what an owner of this kind keeps of the journal's entry with this number
abbrev pub kept_at : History → OwnerKind → ℕ → Option Kept
kept_at journal kind number =
    option_map (λ kept. kept kind) (option_and_then kept_in (slice_get journal.entries number))

-- what is kept for the owner
abbrev pub kept_for : History → KnownOwner → Option Kept
kept_for journal o = kept_at journal o.name.kind o.kept_entry

-- The owner keeps the request and the answer of its entry, which can be sent again, and of which this is stored. That
-- entry recorded it, or came later than the one that did.
pub record IsKeptIn (journal : History) (o : Owner) : Type 0 where
  pub kept : Kept
  pub entry : kept_at journal o.name.kind o.state.number ≡ Some kept
  pub sendable : IsSendable kept.request.op kept.answer
  pub stored : o.state.kept ≡ summary_of kept
  pub recorded : o.state.recorded ≤ o.state.number

abbrev pub Agrees : History → List Owner → Type 0
Agrees journal owners = AllByRecursion (IsKeptIn journal) owners

-- an owner, confirmed or not if it becomes known, with what is stored of what owners of its kind keep
abbrev pub keeping : StateOwner → Bool → (OwnerKind → Kept) → Keeping
keeping owner confirmed kept =
    record { owner = owner; kept = summary_of (kept owner.kind); confirmed = confirmed }

-- what an entry means for the owners, by the request and the answer as owners of each kind keep them
abbrev pub update_of : OwnerChange → (OwnerKind → Kept) → OwnerUpdate
update_of changes.Nothing kept = updates.Nothing
update_of (changes.Keeps owner) kept = updates.Keeps (keeping owner false kept)
update_of (changes.KeepsBoth owner newcomer) kept =
    updates.KeepsBoth (keeping owner false kept) (keeping newcomer false kept)
update_of (changes.Introduces owner newcomer) kept =
    updates.KeepsBoth (keeping owner false kept) (keeping newcomer false kept)
update_of (changes.Records owner confirmed) kept =
    updates.Keeps (keeping (open_owner owner) confirmed kept)
update_of (changes.Restarts owner confirmed) kept =
    updates.Restarts owner (summary_of (kept kinds.Open)) confirmed
update_of (changes.Drops owner) kept = updates.Drops owner

-- what the entry means for the owners, if there is something to keep; an entry with nothing to keep means nothing for
-- them
abbrev pub update_by : OwnerChange → Option (OwnerKind → Kept) → OwnerUpdate
update_by change None = updates.Nothing
update_by change (Some kept) = update_of change kept

-- Owners may keep it as the change says: what is kept can be sent again, and an entry with nothing to keep means
-- nothing for them.
abbrev pub CanBeKept : Option (OwnerKind → Kept) → OwnerChange → Type 0
CanBeKept None change = change ≡ changes.Nothing
CanBeKept (Some kept) change =
    (kind : OwnerKind) → IsSendable (kept kind).request.op (kept kind).answer

-- the owners after one keeps a request and an answer, in the entry with this number
abbrev pub kept_by : Keeping → ℕ → List Owner → List Owner
kept_by keeping number owners =
    with_kept keeping.owner number keeping.kept keeping.confirmed owners

-- the stored owners after an entry with this number
abbrev pub owners_after : OwnerUpdate → ℕ → List Owner → List Owner
owners_after updates.Nothing number owners = owners
owners_after (updates.Keeps keeping) number owners = kept_by keeping number owners
owners_after (updates.KeepsBoth keeping newcomer) number owners =
    kept_by newcomer number (kept_by keeping number owners)
owners_after (updates.Restarts owner kept confirmed) number owners =
    with_kept (open_owner owner) number kept confirmed (without_owner (open_owner owner) owners)
owners_after (updates.Drops owner) number owners = without_owner (open_owner owner) owners
