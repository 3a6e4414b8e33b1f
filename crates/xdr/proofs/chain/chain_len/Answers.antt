use Rattle.std.proofs.Common.{◌≡◌, List, ◌+◌, length, take, sym, ap, ◌∙◌}
use Rattle.std.specs.List.{flat_map}
use Rattle.std.proofs.lemmas.List.{take_all}
use Rattle.xdr.specs.Writing.{written_link}
use Rattle.xdr.proofs.MeasuringChains.{chain_length}
use Rattle.xdr.proofs.chain.chain_len.Goals as goal

pub returns : goal.returns
returns g c =
    let f = g.T.Wire.form.encoding in
    let values = c.args.values.now in
    let all : take c.loop-value.value-index values ≡ values = take_all c.loop-value.value-index values c.loop-value-test.false in
    c.loop-value.invariant
    ∙ ap (λ (xs : List g.row.T.Denot). 4 + length (flat_map (written_link f) xs)) all
    ∙ sym (chain_length f values)
