use Rattle.std.proofs.Common.{◌≡◌, ◌∙◌, ℕ, ◌+◌, List, ◌++◌, Ok, Err, length, take, drop, ap, sym, subst, append_assoc, arith}
use Rattle.std.proofs.lemmas.Result.{err_from_is_err_and}
use Rattle.std.specs.List.{flat_map}
use Rattle.nfs_server.specs.Device.{device_of_sink}
use Rattle.nfs_program.specs.Pieces.{ArePut, waiting}
use Rattle.nfs_program.proofs.Putting.{all_in_two, one_more, put_before, put_then}
use Rattle.nfs_program.proofs.pieces.put_many.Goals as goal
use Rattle.xdr.specs.Writing.{written_many, written_u32}

pub returns-in_err-put-clause-put : goal.returns-in_err-put-clause-put
returns-in_err-put-clause-put g c =
    let device = device_of_sink g.J.Sink.takes g.J.Sink.fails in
    let old = waiting c.args.file.now c.args.buffer.now.items in
    let new = waiting c.put.new.file c.put.new.buffer.items in
    let p = err_from_is_err_and c.from_residual.result c.from_residual.ensures.1 in
    let cut = subst (λ (n : ℕ). ArePut device old (written_u32 n) (Err p.0) new) c.count.ensures c.in_err-put.ensures.put in
    rw p.1 (put_before device old new (written_u32 (length (g.V.Values.values c.args.values.now))) (flat_map g.T.Wire.form.encoding (g.V.Values.values c.args.values.now)) p.0 cut)

pub loop-number-preserved : goal.loop-number-preserved
loop-number-preserved g c =
    let device = device_of_sink g.J.Sink.takes g.J.Sink.fails in
    let encoding = g.T.Wire.form.encoding in
    let values = g.V.Values.values c.args.values.now in
    let i = c.loop-number.number in
    let old = waiting c.args.file.now c.args.buffer.now.items in
    let mid = waiting c.loop-number.file c.loop-number.buffer.items in
    let new = waiting c.put-in-loop-number.new.file c.put-in-loop-number.new.buffer.items in
    let front = written_u32 (length values) ++ flat_map encoding (take i values) in
    let more = put_then device old mid new front (encoding c.value.result.now) (Ok tt) c.loop-number.invariant.put c.in_ok-put-2.ensures.put in
    let bytes : front ++ encoding c.value.result.now ≡ written_u32 (length values) ++ flat_map encoding (take (i + 1) values) =
    append_assoc (written_u32 (length values)) (flat_map encoding (take i values)) (encoding c.value.result.now)
    ∙ ap (λ (x : List ℕ). written_u32 (length values) ++ x) (sym (one_more encoding values i c.value.result.now (omega (arith, c.loop-number-test.true, c.loop-number.invariant.end)) c.value.ensures)) in
    record {
      end = c.loop-number.invariant.end;
      put = subst (λ (x : List ℕ). ArePut device old x (Ok tt) new) bytes more;
      kept = c.in_ok-put-2.ensures.kept ∙ c.loop-number.invariant.kept;
      room = omega (arith, c.in_ok-put-2.ensures.room, c.loop-number.invariant.room);
    }

pub returns-in_err-put-2-clause-put : goal.returns-in_err-put-2-clause-put
returns-in_err-put-2-clause-put g c =
    let device = device_of_sink g.J.Sink.takes g.J.Sink.fails in
    let encoding = g.T.Wire.form.encoding in
    let values = g.V.Values.values c.args.values.now in
    let i = c.loop-number.number in
    let old = waiting c.args.file.now c.args.buffer.now.items in
    let mid = waiting c.loop-number.file c.loop-number.buffer.items in
    let new = waiting c.put-in-loop-number.new.file c.put-in-loop-number.new.buffer.items in
    let count = written_u32 (length values) in
    let front = count ++ flat_map encoding (take i values) in
    let rest = flat_map encoding (drop (i + 1) values) in
    let p = err_from_is_err_and c.from_residual-in_err-put-2.result c.from_residual-in_err-put-2.ensures.1 in
    let cut = put_before device old new (front ++ encoding c.value.result.now) rest p.0 (put_then device old mid new front (encoding c.value.result.now) (Err p.0) c.loop-number.invariant.put c.in_err-put-2.ensures.put) in
    let all : (front ++ encoding c.value.result.now) ++ rest ≡ written_many encoding values =
    ap (λ (x : List ℕ). x ++ rest) (append_assoc count (flat_map encoding (take i values)) (encoding c.value.result.now)
    ∙ ap (λ (x : List ℕ). count ++ x) (sym (one_more encoding values i c.value.result.now (omega (arith, c.loop-number-test.true, c.loop-number.invariant.end)) c.value.ensures)))
    ∙ append_assoc count (flat_map encoding (take (i + 1) values)) rest ∙ ap (λ (x : List ℕ). count ++ x) (all_in_two encoding values (i + 1)) in
    rw p.1 (subst (λ (x : List ℕ). ArePut device old x (Err p.0) new) all cut)
