use Rattle.std.proofs.Common.{ℕ, List, rules, subst, sym}
use Rattle.std.specs.Global.{Vec}
use Rattle.nfs_rpc.specs.Keeping.{Begins, first_or, messages_of}
use Rattle.nfs_rpc.proofs.unfinished.add_all.Goals as goal

pub returns-clause-ok : goal.returns-clause-ok
returns-clause-ok c = (messages_of c.take_all.new.found.items, c.in_ok-first.ensures.ok, c.in_ok-make_ready.ensures.ok)

pub returns-in_err-make_ready-clause-begins : goal.returns-in_err-make_ready-clause-begins
returns-in_err-make_ready-clause-begins c =
    let begins = subst (λ (f : List (Vec ℕ)). Begins c.args.bodies.now.items (first_or (messages_of f) c.take_all.new.bodies.items)) (sym c.in_err-make_ready.ensures.found) c.take_all.ensures.begins in
    search rules
