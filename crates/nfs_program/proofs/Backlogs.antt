-- Entries that have no place in a backlog.
use Rattle.std.proofs.Common.{◌≡◌, ◌∙◌, ℕ, ◌+◌, ◌-◌, ◌%◌, ◌<◌, ◌≤◌, List, length, drop, get_or, min, inl, inr, refl, sym, ap, subst, arith}
use Rattle.std.specs.Prelude.{vec_capacity}
use Rattle.std.proofs.lemmas.List.{get_or-drop, get_or-take, length-drop, length-take}
use Rattle.std.proofs.lemmas.Option.{slice_get_read}
use Rattle.nfs_state.specs.PieceList.{piece_from}
use Rattle.nfs_state.specs.declared.piece_list.TheConstants.{PIECE_LEN}
use Rattle.nfs_program.specs.Backlog.{HasNoPlace, HasNoPlaceAt}
use Rattle.nfs_program.specs.declared.backlog.Backlog.{Backlog}
use Rattle.nfs_state.specs.declared.entry.Entry.{Entry}

-- an entry of the piece is one of the journal's
pub is_entry : (first i : ℕ) (entries piece : List Entry) → piece ≡ piece_from first entries → i < length piece → first + i < length entries
is_entry first i entries piece is lt =
    let most = PIECE_LEN - first % PIECE_LEN in
    omega (arith, lt, ap length is, length-take most (drop first entries), length-drop first entries)

-- with less room it has none either
less_room : (capacity more len : ℕ) (e : Entry) → capacity ≤ more → HasNoPlace more len e → HasNoPlace capacity len e
less_room capacity more len e le (inl unfit) = inl unfit
less_room capacity more len e le (inr full) = inr (omega (arith, le, full))

-- An entry of the piece has no place, where those before it were taken: so the first one that wasn't taken has none.
pub no_place_at : (old mid new : Backlog) (entries piece : List Entry) (i : ℕ) (e : Entry)
    → piece ≡ piece_from old.count entries → i < length piece → e ≡ get_or piece i e
    → mid.count ≡ old.count + i → vec_capacity old.bytes ≤ vec_capacity mid.bytes
    → new.bytes.items ≡ mid.bytes.items → new.count ≡ mid.count
    → HasNoPlace (vec_capacity mid.bytes) (length mid.bytes.items) e
    → HasNoPlaceAt (vec_capacity old.bytes) new entries
no_place_at old mid new entries piece i e is lt item counted room bytes count place =
    let most = PIECE_LEN - old.count % PIECE_LEN in
    let left = drop old.count entries in
    let at : new.count ≡ old.count + i = count ∙ counted in
    let within : i < min most (length left) = omega (arith, lt, ap length is, length-take most left) in
    let below : new.count < length entries = omega (arith, at, is_entry old.count i entries piece is lt) in
    let here : e ≡ get_or entries new.count e =
    item ∙ ap (λ (xs : List Entry). get_or xs i e) is ∙ get_or-take most left i e (omega (arith, within)) ∙ get_or-drop old.count entries i e
    ∙ ap (λ (n : ℕ). get_or entries n e) (sym at) in (
      e,
      slice_get_read entries (length entries) new.count e refl below here,
      subst (λ (n : ℕ). HasNoPlace (vec_capacity old.bytes) n e) (sym (ap length bytes))
          (less_room (vec_capacity old.bytes) (vec_capacity mid.bytes) (length mid.bytes.items) e room place),
    )
