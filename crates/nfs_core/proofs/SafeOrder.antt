-- Delegations that stand in the order of their numbers.
use Rattle.std.proofs.Common.{◌≡◌, ℕ, ◌<◌, Bool, List, [], ◌∷◌, ◌++◌, filter, map, arith}
use Rattle.std.proofs.lemmas.Bool.{cond_both}
use Rattle.nfs_core.proofs.SafeLists.{all_filter, all_map, all_push}
use Rattle.nfs_share.specs.Delegations.{IsAboveLent, StandInOrder}
use Rattle.nfs_share.specs.declared.delegation.Delegation.{Delegation}

-- the number is below that of the delegation
abbrev IsBelow : ℕ → Delegation → Type 0
IsBelow number d = number < d.number

-- those that a test keeps
pub filter_in_order : (test : Delegation → Bool) (ds : List Delegation) → StandInOrder ds → StandInOrder (filter test ds)
filter_in_order test [] h = tt
filter_in_order test (d ∷ ds) h =
    let rest = filter_in_order test ds h.1 in
    let above = all_filter (IsBelow d.number) (IsBelow d.number) test (λ e below _. below) ds h.0 in
    cond_both (test d) (d ∷ filter test ds) (filter test ds) StandInOrder (λ _. (above, rest)) (λ _. rest)

-- after a change of each that keeps its number
pub map_in_order : (change : Delegation → Delegation) → ((d : Delegation) → (change d).number ≡ d.number) → (ds : List Delegation)
    → StandInOrder ds → StandInOrder (map change ds)
map_in_order change same [] h = tt
map_in_order change same (d ∷ ds) h = (
  all_map (IsBelow d.number) (IsBelow (change d).number) change (λ e below. omega (arith, same d, same e, below)) ds h.0,
  map_in_order change same ds h.1,
)

-- with one more, whose number is above all
pub push_in_order : (new : Delegation) (ds : List Delegation) → IsAboveLent new.number ds → StandInOrder ds → StandInOrder (ds ++ new ∷ [])
push_in_order new [] above h = (tt, tt)
push_in_order new (d ∷ ds) above h = (all_push (IsBelow d.number) ds new h.0 above.0, push_in_order new ds above.1 h.1)
