use Rattle.std.proofs.Common.{◌≡◌, ◌∙◌, ap, find, rules, subst, sym, true}
use Rattle.std.specs.List.{AllByRecursion}
use Rattle.nfs_rows.specs.Rows.{is_named, pair_in, pair_seen}
use Rattle.nfs_rows.proofs.Callers.{find_seen, named_is, none_beside, value_beside}
use Rattle.nfs_share.specs.KeptOpens.{RoomyOpens}
use Rattle.nfs_share.specs.Opens.{is_of, open_of}
use Rattle.nfs_share.proofs.KeptOpens.{hashes}
use Rattle.nfs_share.proofs.open_table.OpenTable.open_of.Goals as goal

pub returns-in-Some : goal.returns-in-Some
returns-in-Some c =
    let test = is_of c.args.owner.now in
    let rows = c.self.inside.rows.rows in
    let hash = c.hash_of_owner-hash.result in
    let found = find (is_named hash test) rows in
    let answer : pair_seen c.find_named.result ≡ pair_in found = c.find_named.ensures test (λ shown answer k. search rules) in
    let hashed = subst (λ h. AllByRecursion (λ r. test r.value ≡ true → r.hash ≡ h) rows) (sym c.hash_of_owner-hash.ensures) (hashes c.self.inside.names rows c.self.invariant.kept c.args.owner.now) in
    sym (value_beside found c.in-Some.field-0-0 c.in-Some.open.now (sym (ap pair_seen c.in-Some.is) ∙ answer))
    ∙ find_seen (λ r. r.value) (is_named hash test) test rows (named_is hash test rows hashed)
    ∙ ap (λ (t : RoomyOpens). open_of c.args.owner.now t.opens) c.self.view_is

pub returns-in-None : goal.returns-in-None
returns-in-None c =
    let test = is_of c.args.owner.now in
    let rows = c.self.inside.rows.rows in
    let hash = c.hash_of_owner-hash.result in
    let found = find (is_named hash test) rows in
    let answer : pair_seen c.find_named.result ≡ pair_in found = c.find_named.ensures test (λ shown answer k. search rules) in
    let hashed = subst (λ h. AllByRecursion (λ r. test r.value ≡ true → r.hash ≡ h) rows) (sym c.hash_of_owner-hash.ensures) (hashes c.self.inside.names rows c.self.invariant.kept c.args.owner.now) in
    sym (none_beside found (sym (ap pair_seen c.in-None.is) ∙ answer))
    ∙ find_seen (λ r. r.value) (is_named hash test) test rows (named_is hash test rows hashed)
    ∙ ap (λ (t : RoomyOpens). open_of c.args.owner.now t.opens) c.self.view_is
