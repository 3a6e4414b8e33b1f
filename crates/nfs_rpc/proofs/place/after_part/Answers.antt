use Rattle.std.proofs.Common.{◌≡◌, ◌+◌, ◌++◌, List, ℕ, length, take, ap, ◌∙◌, rules, arith}
use Rattle.std.proofs.lemmas.Slice.{take-put_mid}
use Rattle.nfs_rpc.proofs.Standing.{at_header_end}
use Rattle.nfs_rpc.proofs.place.after_part.Goals as goal

pub returns-clause-at_text : goal.returns-clause-at_text
returns-clause-at_text c = λ text bodies a.
    let part : c.copy_from_slice.new.self ≡ c.args.part.now = c.copy_from_slice.ensures.after in
    let len : length c.copy_from_slice.new.self ≡ length c.args.part.now = ap length part in
    at_header_end text bodies c.args.bytes _ c.args.part.now c.args.len (c.args.len + length c.args.part.now) _ _
    (take-put_mid c.args.len _ c.args.bytes c.copy_from_slice.new.self (c.args.len + length c.args.part.now) (omega arith) (search rules) ∙ ap (λ (l : List ℕ). take c.args.len c.args.bytes ++ l) part)
    (omega arith) c.header_at-is_last.ensures a
