-- What becomes known of the path of a client's callbacks (RFC 7530, section 10.2).
use Rattle.std.specs.Prelude.{◌≡◌, Bool, IsTrue, if◌then◌else◌}
use Rattle.nfs_owners.specs.declared.client_record.PathMark.{PathMark}
use Rattle.nfs_owners.specs.declared.client_record.PathMark.TheVariants as paths
use Rattle.nfs_rules.specs.entries.Expire.{is_live}
use Rattle.nfs_state.specs.Changes.{change_alone}
use Rattle.nfs_state.specs.State.{State, History}
use Rattle.nfs_state.specs.declared.change.Change.TheVariants as changes
use Rattle.nfs_state.specs.declared.effect.Effect.{Effect}
use Rattle.nfs_state.specs.declared.entry.Path.{Path}

abbrev pub mark_of : Bool → PathMark
mark_of up = if up then paths.Up else paths.Down

-- In this state, after this journal, the path of a client may be marked, with this effect: the client is live.
pub record IsPathMark (journal : History) (state : State) (path : Path)
    (effect : Effect) : Type 0 where
  pub live : IsTrue (is_live journal state path.client)
  pub mark : effect ≡ change_alone (changes.MarksPath path.client (mark_of path.up))
