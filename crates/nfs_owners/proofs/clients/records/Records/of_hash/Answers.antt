use Rattle.std.proofs.Common.{◌≡◌, ◌∙◌, ap, find, rules, sym}
use Rattle.nfs_rows.specs.NameHash.{hash_of}
use Rattle.nfs_rows.specs.Rows.{is_named, pair_in, pair_seen, value_in}
use Rattle.nfs_rows.proofs.Callers.{none_beside, value_beside}
use Rattle.nfs_owners.specs.Records.{RoomyRecords}
use Rattle.nfs_owners.specs.Registry.{is_of}
use Rattle.nfs_owners.proofs.RecordRows.{found_by_hash}
use Rattle.nfs_owners.proofs.clients.records.Records.of_hash.Goals as goal

pub returns-in-Some : goal.returns-in-Some
returns-in-Some c =
    let test = is_of c.args.id.now in
    let rows = c.self.inside.rows.rows in
    let found = find (is_named c.args.hash test) rows in
    let answer : pair_seen c.find_named.result ≡ pair_in found = c.find_named.ensures test (λ shown answer k. search rules) in
    sym (value_beside found c.in-Some.field-0-0 c.in-Some.record.now (sym (ap pair_seen c.in-Some.is) ∙ answer))
    ∙ ap (λ h. value_in (find (is_named h test) rows)) (c.requires ∙ ap (λ (s : RoomyRecords). hash_of s.ids 0 0 c.args.id.now) (sym c.self.view_is))
    ∙ found_by_hash c.self.inside.ids c.args.id.now rows c.self.invariant.hashes
    ∙ ap (λ (s : RoomyRecords). find test s.records) c.self.view_is

pub returns-in-None : goal.returns-in-None
returns-in-None c =
    let test = is_of c.args.id.now in
    let rows = c.self.inside.rows.rows in
    let found = find (is_named c.args.hash test) rows in
    let answer : pair_seen c.find_named.result ≡ pair_in found = c.find_named.ensures test (λ shown answer k. search rules) in
    sym (none_beside found (sym (ap pair_seen c.in-None.is) ∙ answer))
    ∙ ap (λ h. value_in (find (is_named h test) rows)) (c.requires ∙ ap (λ (s : RoomyRecords). hash_of s.ids 0 0 c.args.id.now) (sym c.self.view_is))
    ∙ found_by_hash c.self.inside.ids c.args.id.now rows c.self.invariant.hashes
    ∙ ap (λ (s : RoomyRecords). find test s.records) c.self.view_is
