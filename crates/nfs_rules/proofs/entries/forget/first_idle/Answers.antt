use Rattle.std.proofs.Common.{Bool, rules}
use Rattle.nfs_owners.specs.declared.owner.Owner.{Owner}
use Rattle.nfs_rules.specs.entries.Forget.{is_idle}
use Rattle.nfs_rules.proofs.entries.forget.first_idle.Goals as goal
use Rattle.nfs_state.specs.Room.{state_of}
use Rattle.nfs_state.specs.Stored.{known_owner}

pub returns-clause-idle : goal.returns-clause-idle
returns-clause-idle c =
    let store = c.args.store.now in
    let test : Owner → Bool = λ o. is_idle store.journal.history (state_of store.tables) c.args.now (known_owner o) in
    c.find_from.ensures.found test (λ shown answer says. search rules)

pub returns-clause-own : goal.returns-clause-own
returns-clause-own c =
    let store = c.args.store.now in
    let test : Owner → Bool = λ o. is_idle store.journal.history (state_of store.tables) c.args.now (known_owner o) in
    c.find_from.ensures.own test (λ shown answer says. search rules)
