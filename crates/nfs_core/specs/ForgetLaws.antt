-- The laws of what is let go of open owners that have no open (RFC 7530, section 9.1.10).
use Rattle.std.specs.Prelude.{◌≡◌, ◌≢◌, ℕ, IsFalse, IsTrue, find, Some, None}
use Rattle.nfs_core.specs.Step.{HasNoStep, Step}
use Rattle.nfs_forms.specs.declared.open_owner.OpenOwner.{OpenOwner}
use Rattle.nfs_forms.specs.declared.stateid.Stateid.{Stateid}
use Rattle.nfs_owners.specs.StateOwner.{is_same_state_owner, open_owner}
use Rattle.nfs_owners.specs.declared.state_owner.StateOwner.{StateOwner}
use Rattle.nfs_rules.specs.Sequences.{IsOfUnknown, IsSequence, Owner, SequenceStep, has_closed}
use Rattle.nfs_rules.specs.entries.Forget.{has_open, is_past, kept_moment}
use Rattle.nfs_state.specs.Kept.{kept_for}
use Rattle.nfs_state.specs.Owners.{KnownOwner, owner_of, without_owner}
use Rattle.nfs_state.specs.State.{History, State}
use Rattle.nfs_state.specs.declared.entry.Entry.TheVariants as entries
use Rattle.nfs_state.specs.declared.entry.Forget.{Forget}
use Rattle.nfs_state.specs.declared.request.Request.{Request}

-- An owner that has an open is never forgotten.
abbrev pub OpenersStay : Type 0
OpenersStay =
    (journal : History) (old : State) (forget : Forget)
    → IsTrue (has_open (open_owner forget.owner) old)
    → HasNoStep journal old (entries.Forget forget)

-- What goes is an owner that was known, had no open, and whose kept request was older than a lease, and nothing else:
-- each other owner stays as it was.
pub record TakesAway (journal : History) (old : State) (forget : Forget) (new : State) : Type 0 where
  pub owner : KnownOwner
  pub known : owner_of (open_owner forget.owner) old.owners ≡ Some owner
  pub unused : IsFalse (has_open (open_owner forget.owner) old)
  pub past : IsTrue (is_past journal.lease forget.now (kept_moment journal owner))
  pub only : new ≡ record old {
    owners = without_owner (open_owner forget.owner) old.owners;
  }
  pub others : (other : StateOwner)
      → IsFalse (is_same_state_owner (open_owner forget.owner) other)
      → owner_of other new.owners ≡ owner_of other old.owners

abbrev pub OnlyIdleOwnersGo : Type 0
OnlyIdleOwnersGo =
    (journal : History) (old : State) (forget : Forget) (new : State)
    → Step journal old (entries.Forget forget) new
    → TakesAway journal old forget new

-- Who comes again is as who never came: the owner isn't known, its requests are judged as those of an owner that was
-- never recorded, and the stateid of an open that it closed doesn't lead to it.
pub record IsAsNew (owner : OpenOwner) (state : State) : Type 0 where
  pub unknown : owner_of (open_owner owner) state.owners ≡ None
  pub judged : (journal : History) (seqid : ℕ) (request : Request) (sequence : SequenceStep)
      → IsSequence journal state (Owner (open_owner owner) seqid) request sequence
      → IsOfUnknown (open_owner owner) request sequence
  pub closed : (journal : History) (id : Stateid) (other : KnownOwner)
      → find (λ o. has_closed id (kept_for journal o)) state.owners ≡ Some other
      → other.name ≢ open_owner owner

abbrev pub ForgottenAreAsNew : Type 0
ForgottenAreAsNew =
    (journal : History) (old : State) (forget : Forget) (new : State)
    → Step journal old (entries.Forget forget) new
    → IsAsNew forget.owner new
