use Rattle.std.proofs.Common.{◌≡◌, ◌∙◌, Option, ℕ, None, Some, ap, find, is_some, refl, rules, subst, sym, true}
use Rattle.std.specs.Borrow.{Bor}
use Rattle.std.specs.List.{AllByRecursion}
use Rattle.nfs_rows.specs.Rows.{Row, is_named, pair_in, pair_seen, value_in}
use Rattle.nfs_rows.proofs.Callers.{find_seen, named_is}
use Rattle.nfs_share.specs.KeptOpens.{RoomyOpens}
use Rattle.nfs_share.specs.Opens.{is_of, owner_named}
use Rattle.nfs_share.specs.declared.open_state.OpenState.{OpenState}
use Rattle.nfs_share.proofs.Indexed.{any_found}
use Rattle.nfs_share.proofs.KeptOpens.{hashes}
use Rattle.nfs_share.proofs.open_table.OpenTable.has_owner.Goals as goal

-- whether one is found by a hash
some_named : (found : Option (ℕ × Bor OpenState)) (row : Option (Row OpenState)) → pair_seen found ≡ pair_in row → is_some found ≡ is_some (value_in row)
some_named None None is = refl
some_named (Some found) (Some row) is = refl
some_named None (Some row) is = absurd (cc)
some_named (Some found) None is = absurd (cc)

pub returns : goal.returns
returns c =
    let owner = owner_named c.args.client c.args.name.now in
    let test = is_of owner in
    let rows = c.self.inside.rows.rows in
    let hash = c.hash_of_name-hash.result in
    let found = find (is_named hash test) rows in
    let answer : pair_seen c.find_named.result ≡ pair_in found = c.find_named.ensures test (λ shown answer k. search rules) in
    let hashed = subst (λ h. AllByRecursion (λ r. test r.value ≡ true → r.hash ≡ h) rows) (sym c.hash_of_name-hash.ensures) (hashes c.self.inside.names rows c.self.invariant.kept owner) in
    c.is_some.ensures ∙ some_named c.find_named.result found answer
    ∙ ap is_some (find_seen (λ r. r.value) (is_named hash test) test rows (named_is hash test rows hashed)
    ∙ ap (λ (t : RoomyOpens). find test t.opens) c.self.view_is)
    ∙ any_found test c.args.self.now.opens
