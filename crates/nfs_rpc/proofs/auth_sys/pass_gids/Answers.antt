use Rattle.std.proofs.Common.{List, ℕ, ◌*◌, ◌-◌, length, drop, Ok, sym, ap, ◌∙◌, arith}
use Rattle.std.proofs.lemmas.List.{take_all, length-drop}
use Rattle.nfs_rpc.proofs.Groups.{gids_are, missing, there}
use Rattle.nfs_rpc.proofs.auth_sys.pass_gids.Goals as goal

pub returns-then-rest-len : goal.returns-then-rest-len
returns-then-rest-len c =
    gids_are c.args.bytes.now c.in_ok-count.count c.in_ok-count.rest.now c.in_ok-count.ensures (omega (arith, c.if-count-gt-GID_LIMIT.false))
    ∙ missing c.in_ok-count.count c.in_ok-count.rest.now (omega (arith, c.if-rest-len.true))

pub returns : goal.returns
returns c =
    let rest = c.in_ok-count.rest.now in
    let beyond = drop (4 * c.in_ok-count.count) rest in
    gids_are c.args.bytes.now c.in_ok-count.count rest c.in_ok-count.ensures (omega (arith, c.if-count-gt-GID_LIMIT.false))
    ∙ there c.in_ok-count.count rest (omega (arith, c.if-rest-len.false))
    ∙ ap (λ (x : List ℕ). Ok (tt, x)) (sym (take_all (length rest - 4 * c.in_ok-count.count) beyond (omega (arith, length-drop (4 * c.in_ok-count.count) rest))))
