use Rattle.std.proofs.Common.{ℕ, List, [], ◌++◌, Ok, Err, subst, append_assoc}
use Rattle.nfs_server.specs.Device.{IsCut, IsWritten, device_of_sink}
use Rattle.nfs_program.specs.Pieces.{ArePut, waiting}
use Rattle.nfs_program.proofs.Putting.{cut_out, on_err, on_failures, on_ok, put_before, put_then, written_out}
use Rattle.nfs_program.proofs.journal_file.put_file.Goals as goal
use Rattle.nfs_journal.specs.File.{opening}
use Rattle.nfs_state.specs.EntryForm.{entry}
use Rattle.nfs_tree.specs.NodeForm.{node}
use Rattle.xdr.specs.Writing.{written_many}

pub returns-in_err-put-clause-err : goal.returns-in_err-put-clause-err
returns-in_err-put-clause-err g c =
    let device = device_of_sink g.J.Sink.takes g.J.Sink.fails in
    let first = opening.encoding c.args.opening.now in
    let nodes = written_many node.encoding c.args.nodes.now in
    let entries = written_many entry.encoding c.args.journal.now.history.entries in
    let old = waiting c.args.file.now c.args.buffer.now.items in
    let cut = put_before device old (waiting c.put.new.file c.put.new.buffer.items) first (nodes ++ entries) c.in_err-put.field-0.0 c.in_err-put.ensures.put in
    on_err c.from_residual.result _ (subst (λ (w : List ℕ). IsCut device c.args.file.now (w ++ (first ++ (nodes ++ entries))) c.put.new.file) c.requires.empty cut)

pub returns-in_err-put_many-clause-err : goal.returns-in_err-put_many-clause-err
returns-in_err-put_many-clause-err g c =
    let device = device_of_sink g.J.Sink.takes g.J.Sink.fails in
    let first = opening.encoding c.args.opening.now in
    let nodes = written_many node.encoding c.args.nodes.now in
    let entries = written_many entry.encoding c.args.journal.now.history.entries in
    let old = waiting c.args.file.now c.args.buffer.now.items in
    let one = waiting c.put.new.file c.put.new.buffer.items in
    let two = waiting c.put_many.new.file c.put_many.new.buffer.items in
    let failed = c.in_err-put_many.field-0.0 in
    let cut = put_before device old two (first ++ nodes) entries failed (put_then device old one two first nodes (Err failed) c.in_ok-put.ensures.put c.in_err-put_many.ensures.put) in
    on_err c.from_residual-in_err-put_many.result _
    (subst (λ (w : List ℕ). IsCut device c.args.file.now (w ++ (first ++ (nodes ++ entries))) c.put_many.new.file) c.requires.empty
    (subst (λ (x : List ℕ). IsCut device c.args.file.now (c.args.buffer.now.items ++ x) c.put_many.new.file) (append_assoc first nodes entries) cut))

pub returns-in_err-put_many-2-clause-err : goal.returns-in_err-put_many-2-clause-err
returns-in_err-put_many-2-clause-err g c =
    let device = device_of_sink g.J.Sink.takes g.J.Sink.fails in
    let first = opening.encoding c.args.opening.now in
    let nodes = written_many node.encoding c.args.nodes.now in
    let entries = written_many entry.encoding c.args.journal.now.history.entries in
    let old = waiting c.args.file.now c.args.buffer.now.items in
    let one = waiting c.put.new.file c.put.new.buffer.items in
    let two = waiting c.put_many.new.file c.put_many.new.buffer.items in
    let three = waiting c.put_many-2.new.file c.put_many-2.new.buffer.items in
    let failed = c.in_err-put_many-2.field-0.0 in
    let both = put_then device old one two first nodes (Ok tt) c.in_ok-put.ensures.put c.in_ok-put_many.ensures.put in
    let cut = put_then device old two three (first ++ nodes) entries (Err failed) both c.in_err-put_many-2.ensures.put in
    on_err c.from_residual-in_err-put_many-2.result _
    (subst (λ (w : List ℕ). IsCut device c.args.file.now (w ++ (first ++ (nodes ++ entries))) c.put_many-2.new.file) c.requires.empty
    (subst (λ (x : List ℕ). IsCut device c.args.file.now (c.args.buffer.now.items ++ x) c.put_many-2.new.file) (append_assoc first nodes entries) cut))

pub returns-clause-ok : goal.returns-clause-ok
returns-clause-ok g c =
    let device = device_of_sink g.J.Sink.takes g.J.Sink.fails in
    let first = opening.encoding c.args.opening.now in
    let nodes = written_many node.encoding c.args.nodes.now in
    let entries = written_many entry.encoding c.args.journal.now.history.entries in
    let start = waiting c.args.file.now [] in
    let one = waiting c.put.new.file c.put.new.buffer.items in
    let two = waiting c.put_many.new.file c.put_many.new.buffer.items in
    let three = waiting c.put_many-2.new.file c.put_many-2.new.buffer.items in
    let opened = subst (λ (w : List ℕ). ArePut device (waiting c.args.file.now w) first (Ok tt) one) c.requires.empty c.in_ok-put.ensures.put in
    let both = put_then device start one two first nodes (Ok tt) opened c.in_ok-put_many.ensures.put in
    let all = put_then device start two three (first ++ nodes) entries (Ok tt) both c.in_ok-put_many-2.ensures.put in
    on_ok c.write_to.result _ _
    (λ out. subst (λ (x : List ℕ). IsWritten device c.args.file.now x c.write_to.new.sink) (append_assoc first nodes entries)
    (written_out device c.args.file.now c.write_to.new.sink three ((first ++ nodes) ++ entries) all (subst (λ (x : List ℕ). IsWritten device three.sink x c.write_to.new.sink) c.as_slice.ensures.value out)))
    c.write_to.ensures.ok

pub returns-clause-err : goal.returns-clause-err
returns-clause-err g c =
    let device = device_of_sink g.J.Sink.takes g.J.Sink.fails in
    let first = opening.encoding c.args.opening.now in
    let nodes = written_many node.encoding c.args.nodes.now in
    let entries = written_many entry.encoding c.args.journal.now.history.entries in
    let start = waiting c.args.file.now [] in
    let one = waiting c.put.new.file c.put.new.buffer.items in
    let two = waiting c.put_many.new.file c.put_many.new.buffer.items in
    let three = waiting c.put_many-2.new.file c.put_many-2.new.buffer.items in
    let opened = subst (λ (w : List ℕ). ArePut device (waiting c.args.file.now w) first (Ok tt) one) c.requires.empty c.in_ok-put.ensures.put in
    let both = put_then device start one two first nodes (Ok tt) opened c.in_ok-put_many.ensures.put in
    let all = put_then device start two three (first ++ nodes) entries (Ok tt) both c.in_ok-put_many-2.ensures.put in
    on_failures c.write_to.result _ _
    (λ out. subst (λ (x : List ℕ). IsCut device c.args.file.now x c.write_to.new.sink) (append_assoc first nodes entries)
    (cut_out device c.args.file.now c.write_to.new.sink three ((first ++ nodes) ++ entries) all (subst (λ (x : List ℕ). IsCut device three.sink x c.write_to.new.sink) c.as_slice.ensures.value out)))
    c.write_to.ensures.err
