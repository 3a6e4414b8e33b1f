-- The end of what is kept for an open owner that has no open, and whose last request that counted is older than a lease
-- (RFC 7530, section 9.1.10).
use Rattle.std.specs.Prelude.{◌≡◌, ◌<◌, ◌≤◌, ℕ, Bool, false, not, ◌&&◌, IsFalse, IsTrue, Option, Some, None, option_and_then, option_map, slice_get}
use Rattle.std.specs.List.{AllByRecursion, list_any}
use Rattle.nfs_forms.specs.declared.open_owner.OpenOwner.{OpenOwner}
use Rattle.nfs_owners.specs.StateOwner.{as_open_owner, is_same_kind, open_owner}
use Rattle.nfs_owners.specs.declared.state_owner.OwnerKind.TheVariants as kinds
use Rattle.nfs_owners.specs.declared.state_owner.StateOwner.{StateOwner}
use Rattle.nfs_share.specs.Opens.{is_of}
use Rattle.nfs_state.specs.Changes.{change_alone}
use Rattle.nfs_state.specs.Entries.{call_of}
use Rattle.nfs_state.specs.Lease.{is_over}
use Rattle.nfs_state.specs.Owners.{KnownOwner, owner_of}
use Rattle.nfs_state.specs.State.{State, History}
use Rattle.nfs_state.specs.declared.change.Change.TheVariants as changes
use Rattle.nfs_state.specs.declared.effect.Effect.{Effect}
use Rattle.nfs_state.specs.declared.entry.Forget.{Forget}

-- the owner is one that opens files
abbrev pub is_open_owner : StateOwner → Bool
is_open_owner name = is_same_kind name.kind kinds.Open

-- the owner has an open of some file
abbrev pub has_open : StateOwner → State → Bool
has_open name state = list_any (list_any (is_of (as_open_owner name))) state.opens

-- When the owner's kept request came. When it comes again it is answered as it was, and the moment stays.
abbrev pub kept_moment : History → KnownOwner → Option ℕ
kept_moment journal o =
    option_map (λ call. call.request.moment)
    (option_and_then call_of (slice_get journal.entries o.kept_entry))

-- a lease has passed since then
abbrev pub is_past : ℕ → ℕ → Option ℕ → Bool
is_past lease now None = false
is_past lease now (Some moment) = is_over moment lease now

-- The owner may be forgotten: it opens files and has no open, and a lease has passed since its kept request.
abbrev pub is_idle : History → State → ℕ → KnownOwner → Bool
is_idle journal state now o =
    is_open_owner o.name
    && is_past journal.lease now (kept_moment journal o)
    && not (has_open o.name state)

-- the owner may not be forgotten, or no entry before this one recorded it
abbrev pub IsNoneBefore : History → State → ℕ → ℕ → KnownOwner → Type 0
IsNoneBefore journal state now entry o =
    IsTrue (is_idle journal state now o) → entry ≤ o.recording_entry

-- In this state, after this journal, the owner may be forgotten, with this effect: of those that may be, the least
-- entry recorded it.
pub record IsForgetting (journal : History) (state : State) (forget : Forget)
    (effect : Effect) : Type 0 where
  pub owner : KnownOwner
  pub found : owner_of (open_owner forget.owner) state.owners ≡ Some owner
  pub idle : IsTrue (is_idle journal state forget.now owner)
  pub least : AllByRecursion
      (IsNoneBefore journal state forget.now owner.recording_entry) state.owners
  pub removal : effect ≡ change_alone (changes.Forgets forget.owner)

-- which entry recorded the open owner, if it is known
abbrev pub recording_entry_of : OpenOwner → State → Option ℕ
recording_entry_of owner state =
    option_map (λ (o : KnownOwner). o.recording_entry) (owner_of (open_owner owner) state.owners)

-- the end of what is kept for this owner
abbrev pub end_of : StateOwner → ℕ → Forget
end_of name now = record { owner = as_open_owner name; now = now }

-- no owner may be forgotten at this moment
abbrev pub NoneIdle : History → State → ℕ → Type 0
NoneIdle journal state now =
    AllByRecursion (λ o. IsFalse (is_idle journal state now o)) state.owners

-- no owner may be forgotten at this moment that an entry before this one recorded
abbrev pub NoneIdleBefore : ℕ → History → State → ℕ → Type 0
NoneIdleBefore entry journal state now =
    AllByRecursion
    (λ o. o.recording_entry < entry → IsFalse (is_idle journal state now o)) state.owners
