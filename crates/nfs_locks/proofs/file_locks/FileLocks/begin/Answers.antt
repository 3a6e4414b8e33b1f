use Rattle.std.proofs.Common.{◌≡◌, ◌∙◌, ◌<◌, [], ◌∷◌, ◌++◌, Option, ap, subst, sym}
use Rattle.std.specs.Prelude.{IfSome}
use Rattle.nfs_locks.specs.AllLocks.{HasLockRoom}
use Rattle.nfs_locks.specs.KeptLocks.{AreRowsOf, IsRowOf, owner_hash, states_of}
use Rattle.nfs_locks.specs.Locks.{ByteLocks, IsAbove, with_first_lock}
use Rattle.nfs_locks.specs.StoredLocks.{StoredLocks, locks_seen}
use Rattle.nfs_locks.specs.declared.lock_state.LockState.{LockState}
use Rattle.nfs_locks.proofs.Rowed.{above, states_append}
use Rattle.nfs_locks.proofs.file_locks.FileLocks.begin.Goals as goal
use Rattle.nfs_ranges.specs.RoomyRanges.{RoomyRanges}
use Rattle.nfs_rows.specs.Rows.{Row}
use Rattle.nfs_rows.proofs.Each.{all_append}

pub add-requires-clause-room : goal.add-requires-clause-room
add-requires-clause-room c = (subst HasLockRoom (sym c.self.view_is) c.requires.room).0

pub add-requires-clause-newest : goal.add-requires-clause-newest
add-requires-clause-newest c =
    above c.self.inside.names c.args.number c.from.result c.self.inside.states.rows c.from.ensures c.self.invariant.0
    (subst (λ (f : StoredLocks). IsAbove c.args.number (locks_seen f.states)) (sym c.self.view_is) c.requires.newest)

pub invariant_of-self : goal.invariant_of-self
invariant_of-self c =
    let names = c.self.inside.names in
    let rows = c.self.inside.states.rows in
    let row : Row LockState = record { number = c.from.result; hash = c.owner_hash-hash.result; client = c.args.first.owner.client.number; value = c.new-state.result } in (
      subst (AreRowsOf names) (sym c.add.ensures.rows)
          (all_append (IsRowOf names) rows (row ∷ []) c.self.invariant.0 (
            record {
              numbered = c.from.ensures ∙ sym (ap (λ (l : ByteLocks). l.number) c.new-state.ensures);
              hashed = c.owner_hash-hash.ensures ∙ sym (ap (λ (l : ByteLocks). owner_hash names l.owner) c.new-state.ensures);
              of_client = sym (ap (λ (l : ByteLocks). l.owner.client.number) c.new-state.ensures);
            },
            tt,
          )),
      subst (λ (spare : Option RoomyRanges). IfSome spare (λ r. (r.pieces ≡ []) × (0 < r.room))) (sym c.take.ensures.after) tt,
    )

pub returns-in-Some-clause-states : goal.returns-in-Some-clause-states
returns-in-Some-clause-states c =
    let rows = c.self.inside.states.rows in
    let row : Row LockState = record { number = c.from.result; hash = c.owner_hash-hash.result; client = c.args.first.owner.client.number; value = c.new-state.result } in
    ap (λ rows. locks_seen (states_of rows)) c.add.ensures.rows
    ∙ states_append rows (row ∷ [])
    ∙ ap (λ (l : ByteLocks). locks_seen (states_of rows) ++ l ∷ []) c.new-state.ensures
    ∙ ap (λ (f : StoredLocks). with_first_lock c.args.first c.args.number (locks_seen f.states)) c.self.view_is
