use Rattle.std.proofs.Common.{◌+◌, ap, arith, drop, length, length-append}
use Rattle.std.specs.List.{concat}
use Rattle.xdr.proofs.PartLists.{next_part}
use Rattle.xdr.proofs.byte_parts.add_each.Goals as goal

pub returns-in_err-extend_from_slice-clause-room : goal.returns-in_err-extend_from_slice-clause-room
returns-in_err-extend_from_slice-clause-room c =
    let parts = c.args.parts.now in
    let i = c.loop-part.part-index in
    let part = c.as_slice.result.now in
    let more = concat (drop (i + 1) parts) in
    let next = next_part parts i c.part-item.result part (omega arith) c.part-item.is c.as_slice.ensures in
    λ room. absurd (omega (
      arith,
      room,
      c.extend_from_slice.ensures,
      c.in_err-extend_from_slice.ensures,
      ap length next,
      length-append part more,
      ap length c.loop-part.invariant.items,
      length-append c.loop-part.out.items (concat (drop i parts)),
      length-append c.args.out.now.items (concat parts),
      c.loop-part.invariant.capacity,
      c.loop-part.out.ok.0,
      c.args.out.now.ok.0,
    ))
