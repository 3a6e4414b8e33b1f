use Rattle.std.proofs.Common.{List, ℕ, map, nat_eq, ap, subst, sym}
use Rattle.std.specs.Map.{lookup}
use Rattle.nfs_nodes.specs.Nodes.{RoomyNodes}
use Rattle.nfs_nodes.specs.Numbers.{StandFrom}
use Rattle.nfs_nodes.proofs.Callers.{stand_same}
use Rattle.nfs_nodes.proofs.numbers.reserve_number.Goals as goal
use Rattle.nfs_nodes.proofs.numbers.reserve_number.Goals.{then-is_full_of_others, else-is_full_of_others}

pub returns-clause-stand : goal.returns-clause-stand
returns-clause-stand g c =
    let number = g.F.Numbered.number_of in
    let all = map g.F.Numbered.states c.args.files.now in
    let stands : RoomyNodes → Type 0 = λ nodes. StandFrom number nodes 0 all in
    stand_same number c.if-is_full_of_others.nodes c.reserve.new.self (λ n. ap (λ (es : List (ℕ × ℕ)). lookup (nat_eq n) es) c.reserve.ensures.entries) 0 all
    (elim c.if-is_full_of_others.branch [
      | then-is_full_of_others w ↦ subst stands (sym w.nodes-is) w.forget_others.ensures.stand
      | else-is_full_of_others w ↦ subst stands (sym w.nodes-is) c.requires.stand
    ])
