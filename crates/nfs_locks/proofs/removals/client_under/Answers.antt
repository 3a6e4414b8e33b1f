use Rattle.std.proofs.Common.{◌∙◌, ℕ, Bool, Bor, ap, map, option_map, rules, sym, tests}
use Rattle.std.proofs.lemmas.Iterator.Consumers.{YieldsList-from_first}
use Rattle.std.proofs.lemmas.Iterator.Search.{find_from_yields_List}
use Rattle.nfs_locks.specs.Locks.{is_under}
use Rattle.nfs_locks.specs.StoredLocks.{lock_seen}
use Rattle.nfs_locks.specs.declared.lock_state.LockState.{LockState}
use Rattle.nfs_locks.proofs.Rowed.{client_found}
use Rattle.nfs_locks.proofs.removals.client_under.Goals as goal
use Rattle.nfs_rows.specs.Rows.{pair_of}

pub returns-in-Some : goal.returns-in-Some
returns-in-Some c =
    let rows = c.args.states.now.rows in
    let test : LockState → Bool = λ l. is_under c.args.open_number (lock_seen l) in
    ap (option_map (λ (p : ℕ × Bor LockState). p.1.now.owner.client.number)) (sym c.in-Some.is)
    ∙ client_found test rows c.find.result
    (find_from_yields_List (λ p. test p.1) _ _ c.find.result c.find.ensures.ran (YieldsList-from_first (λ item. (item.0, item.1.now)) (λ rest. rest) (map pair_of rows) c.iter.ensures) (λ x b q k. search (rules, tests)))

pub returns-in-None : goal.returns-in-None
returns-in-None c =
    let rows = c.args.states.now.rows in
    let test : LockState → Bool = λ l. is_under c.args.open_number (lock_seen l) in
    ap (option_map (λ (p : ℕ × Bor LockState). p.1.now.owner.client.number)) (sym c.in-None.is)
    ∙ client_found test rows c.find.result
    (find_from_yields_List (λ p. test p.1) _ _ c.find.result c.find.ensures.ran (YieldsList-from_first (λ item. (item.0, item.1.now)) (λ rest. rest) (map pair_of rows) c.iter.ensures) (λ x b q k. search (rules, tests)))
