-- What a mark of a client's path leaves as it is.
use Rattle.std.specs.Prelude.{◌≡◌, ℕ, List, is_some, option_map}
use Rattle.nfs_forms.specs.declared.client_id.ClientId.{ClientId}
use Rattle.nfs_owners.specs.LiveClients.{can_become_live, replaced_by}
use Rattle.nfs_owners.specs.Registry.{AreRecords, Registry, after_mark, confirmed_of, is_live, record_of, with_mark}
use Rattle.nfs_owners.specs.declared.client_record.PathMark.{PathMark}

-- Both registries have the same clients. The same clients are live and can become so, each replaces the same one, and
-- each id and each clientid is of the same client.
pub record HaveSameClients (old new : Registry) : Type 0 where
  pub live : (number : ℕ) → is_live number new ≡ is_live number old
  pub can_come : (number : ℕ) → can_become_live number new ≡ can_become_live number old
  pub replaced : (number : ℕ) → replaced_by number new ≡ replaced_by number old
  pub known : (client : ClientId)
      → is_some (record_of client new) ≡ is_some (record_of client old)
  pub client : (client : ClientId)
      → option_map (λ r. r.state.client) (record_of client new)
      ≡ option_map (λ r. r.state.client) (record_of client old)
  pub holder : (id : List ℕ)
      → option_map (λ r. r.state.client) (confirmed_of new id)
      ≡ option_map (λ r. r.state.client) (confirmed_of old id)
  pub same_given : new.given ≡ old.given
  pub last_value : new.last_confirm ≡ old.last_confirm

-- A mark changes no client, and of the confirmed records nothing but the mark.
pub record LeavesClients (number : ℕ) (path : PathMark) (old : Registry) : Type 0 where
  pub same : HaveSameClients old (with_mark number path old)
  pub marked : (client : ClientId)
      → record_of client (with_mark number path old)
      ≡ option_map (after_mark number path) (record_of client old)
  pub records : AreRecords old → AreRecords (with_mark number path old)

abbrev pub MarksKeepClients : Type 0
MarksKeepClients = (number : ℕ) (path : PathMark) (old : Registry) → LeavesClients number path old
