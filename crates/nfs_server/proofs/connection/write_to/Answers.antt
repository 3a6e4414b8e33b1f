use Rattle.std.proofs.Common.{◌≡◌, ℕ, List, [], Some, rules}
use Rattle.std.specs.Io.KnownBytes.{Consumes, IsAtEnd, Keeps}
use Rattle.nfs_server.proofs.Views.{writes_to_sink}
use Rattle.nfs_server.proofs.connection.write_to.Goals as goal

-- what a read of a device at its end gives, and how it fails
abbrev nothing_left : {R : Type 0} → R → List ℕ → R → Type 0
nothing_left old piece new = Consumes (Some []) (Some []) piece × (piece ≡ [] → IsAtEnd (Some []))

abbrev unchanged : {R : Type 0} → R → R → Type 0
unchanged old new = Keeps (Some []) (Some [])

pub returns-clause-ok : goal.returns-clause-ok
returns-clause-ok g c =
    let ended = writes_to_sink nothing_left unchanged g.W.Sink.takes g.W.Sink.fails c.write_all.result _ _ c.args.bytes.now c.write_all.ensures.ok c.write_all.ensures.err in
    search (rules, ended.0, ended.1, ended.2.0, ended.2.1)

pub returns-clause-err : goal.returns-clause-err
returns-clause-err g c =
    let ended = writes_to_sink nothing_left unchanged g.W.Sink.takes g.W.Sink.fails c.write_all.result _ _ c.args.bytes.now c.write_all.ensures.ok c.write_all.ensures.err in
    search (rules, ended.0, ended.1, ended.2.0, ended.2.1)

pub returns-clause-kept : goal.returns-clause-kept
returns-clause-kept g c =
    let ended = writes_to_sink nothing_left unchanged g.W.Sink.takes g.W.Sink.fails c.write_all.result _ _ c.args.bytes.now c.write_all.ensures.ok c.write_all.ensures.err in
    search (rules, ended.0, ended.1, ended.2.0, ended.2.1)

pub returns-clause-failed : goal.returns-clause-failed
returns-clause-failed g c =
    let ended = writes_to_sink nothing_left unchanged g.W.Sink.takes g.W.Sink.fails c.write_all.result _ _ c.args.bytes.now c.write_all.ensures.ok c.write_all.ensures.err in
    search (rules, ended.0, ended.1, ended.2.0, ended.2.1)
