-- The end of a client whose lease has run out (RFC 7530, section 9.6).
use Rattle.std.specs.Prelude.{◌≡◌, ℕ, Bool, IsTrue, is_some}
use Rattle.nfs_forms.specs.declared.client_id.ClientId.{ClientId}
use Rattle.nfs_owners.specs.Registry.{record_of}
use Rattle.nfs_state.specs.Changes.{change_alone}
use Rattle.nfs_state.specs.Lease.{is_over}
use Rattle.nfs_state.specs.State.{State, History}
use Rattle.nfs_state.specs.declared.change.Change.TheVariants as changes
use Rattle.nfs_state.specs.declared.effect.Effect.{Effect}
use Rattle.nfs_state.specs.declared.entry.Expire.{Expire}

-- the clientid that this run of the server gave out with this number
abbrev pub client_of : History → ℕ → ClientId
client_of journal number = record { epoch = journal.epoch; number = number }

-- the client with this number has a confirmed record
abbrev pub is_live : History → State → ℕ → Bool
is_live journal state number = is_some (record_of (client_of journal number) state.clients)

-- the client's lease had run out
abbrev pub is_due : History → Expire → Bool
is_due journal expire = is_over expire.seen journal.lease expire.now

-- In this state, after this journal, the client may be removed, with this effect.
pub record IsExpiry (journal : History) (state : State) (expire : Expire)
    (effect : Effect) : Type 0 where
  pub live : IsTrue (is_live journal state expire.client)
  pub due : IsTrue (is_due journal expire)
  pub removal : effect ≡ change_alone (changes.Expires (client_of journal expire.client))
