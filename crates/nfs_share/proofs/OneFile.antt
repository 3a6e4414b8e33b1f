-- A change of the opens or the delegations of one node, in the list of all files.
use Rattle.std.proofs.Common.{◌≡◌, ℕ, zero, suc, ◌<◌, ◌≤◌, List, [], ◌∷◌, length, map, slice_index_or, slice_set, refl, sym, ap, ◌∙◌, subst, arith}
use Rattle.std.specs.Prelude.{slice_get, IfSome}
use Rattle.nfs_forms.specs.declared.open_owner.OpenOwner.{OpenOwner}
use Rattle.nfs_share.specs.AllOpens.{IsAboveAllLent, IsNewestAt, delegations_in, opens_in, with_list_at}
use Rattle.nfs_share.specs.Delegations.{IsAboveLent}
use Rattle.nfs_share.specs.Opens.{FileOpens, IsNewestFor}

module _ {X : Type 0} (get : FileOpens → List X) where
  -- what the file at this place has is changed
  pub changed_at : (change : List X → List X) (files : List FileOpens) (node : ℕ) (old new : FileOpens) → node < length files → old ≡ slice_index_or files node old → get new ≡ change (get old) → map get (slice_set files node new) ≡ with_list_at node change (map get files)
  changed_at change [] node old new below is new_is = absurd (omega (arith, below))
  changed_at change (f ∷ files) zero old new below is new_is =
      ap (λ o. o ∷ map get files) (new_is ∙ ap (λ f. change (get f)) is)
  changed_at change (f ∷ files) (suc node) old new below is new_is =
      ap (λ o. get f ∷ o) (changed_at change files node old new (omega (arith, below)) is new_is)

  -- there is no file at this place
  pub no_change : (change : List X → List X) (files : List FileOpens) (node : ℕ) → length files ≤ node → map get files ≡ with_list_at node change (map get files)
  no_change change [] node above = refl
  no_change change (f ∷ files) zero above = absurd (omega (arith, above))
  no_change change (f ∷ files) (suc node) above =
      ap (λ o. get f ∷ o) (no_change change files node (omega (arith, above)))

  -- what the file at this place has stays
  pub same_at : (files : List FileOpens) (node : ℕ) (old new : FileOpens) → node < length files → old ≡ slice_index_or files node old → get new ≡ get old → map get (slice_set files node new) ≡ map get files
  same_at [] node old new below is new_is = absurd (omega (arith, below))
  same_at (f ∷ files) zero old new below is new_is =
      ap (λ o. o ∷ map get files) (new_is ∙ ap get is)
  same_at (f ∷ files) (suc node) old new below is new_is =
      ap (λ o. get f ∷ o) (same_at files node old new (omega (arith, below)) is new_is)

module _ (room : FileOpens → ℕ) where
  -- there is room at the node
  abbrev HasAt : ℕ → List FileOpens → Type 0
  HasAt node files = IfSome (slice_get files node) (λ f. 0 < room f)

  -- the file at this place has room
  pub room_at : (files : List FileOpens) (node : ℕ) (new : FileOpens) → node < length files → 0 < room new → HasAt node (slice_set files node new)
  room_at [] node new below has = absurd (omega (arith, below))
  room_at (f ∷ files) zero new below has = has
  room_at (f ∷ files) (suc node) new below has = room_at files node new (omega (arith, below)) has

  -- a node that there isn't needs no room
  pub no_room_at : (files : List FileOpens) (node : ℕ) → length files ≤ node → HasAt node files
  no_room_at [] node above = tt
  no_room_at (f ∷ files) zero above = absurd (omega (arith, above))
  no_room_at (f ∷ files) (suc node) above = no_room_at files node (omega (arith, above))

  -- a file that has room is found where there is a node
  pub room_of : (files : List FileOpens) (node : ℕ) (file : FileOpens) → node < length files → file ≡ slice_index_or files node file → HasAt node files → 0 < room file
  room_of [] node file below is has = absurd (omega (arith, below))
  room_of (f ∷ files) zero file below is has = omega (arith, has, ap room is)
  room_of (f ∷ files) (suc node) file below is has = room_of files node file (omega (arith, below)) is has

  -- Of the files, one gets no less room: those that have room keep it.
  pub rooms_grow : (files : List FileOpens) (node : ℕ) (old new : FileOpens) → node < length files → old ≡ slice_index_or files node old → room old ≤ room new → (other : ℕ) → HasAt other files → HasAt other (slice_set files node new)
  rooms_grow [] node old new below is grows other has = absurd (omega (arith, below))
  rooms_grow (f ∷ files) zero old new below is grows zero has = omega (arith, has, grows, ap room is)
  rooms_grow (f ∷ files) zero old new below is grows (suc other) has = has
  rooms_grow (f ∷ files) (suc node) old new below is grows zero has = has
  rooms_grow (f ∷ files) (suc node) old new below is grows (suc other) has = rooms_grow files node old new (omega (arith, below)) is grows other has

-- a number above those of all opens of all files is above those of the file at this place
pub newest_at : (owner : OpenOwner) (number : ℕ) (files : List FileOpens) (node : ℕ) (file : FileOpens) → node < length files → file ≡ slice_index_or files node file → IsNewestAt node owner number (opens_in files) → IsNewestFor owner number file.opens
newest_at owner number [] node file below is newest = absurd (omega (arith, below))
newest_at owner number (f ∷ files) zero file below is newest =
    subst (λ (f : FileOpens). IsNewestFor owner number f.opens) (sym is) (λ none. (newest none).0)
newest_at owner number (f ∷ files) (suc node) file below is newest =
    newest_at owner number files node file (omega (arith, below)) is (λ none. (newest none).1)

-- a number above those of all delegations of all files is above those of the file at this place
pub newest_lent_at : (number : ℕ) (files : List FileOpens) (node : ℕ) (file : FileOpens) → node < length files → file ≡ slice_index_or files node file → IsAboveAllLent number (delegations_in files) → IsAboveLent number file.delegations
newest_lent_at number [] node file below is newest = absurd (omega (arith, below))
newest_lent_at number (f ∷ files) zero file below is newest =
    subst (λ (f : FileOpens). IsAboveLent number f.delegations) (sym is) newest.0
newest_lent_at number (f ∷ files) (suc node) file below is newest =
    newest_lent_at number files node file (omega (arith, below)) is newest.1
