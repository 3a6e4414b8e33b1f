use Rattle.std.proofs.Common.{◌+◌, ◌^◌, ◌≡◌, sym, ◌∙◌, ap, arith}
use Rattle.nfs_ranges.specs.Merged.{ended, in_order}
use Rattle.nfs_ranges.proofs.Ended.{ended_all}
use Rattle.nfs_ranges.proofs.Found.{bounded}
use Rattle.nfs_ranges.proofs.splices.count_until.Goals as goal

pub returns-else-byte-lt18446744073709551615 : goal.returns-else-byte-lt18446744073709551615
returns-else-byte-lt18446744073709551615 c =
    let end : 2 ^ 64 ≡ c.args.byte + 1 = omega (arith, c.if-byte-lt18446744073709551615.false) in
    c.len.ensures ∙ sym (ended_all (2 ^ 64) (in_order c.args.runs.now) (bounded (in_order c.args.runs.now) c.requires.merged))
    ∙ ap (λ e. ended e (in_order c.args.runs.now)) end
