use Rattle.std.proofs.Common.{◌∙◌, ap, cond, suc}
use Rattle.nfs_share.specs.declared.share_counts.ShareCounts.{ShareCounts}
use Rattle.nfs_share.proofs.ShareSums.{bound}
use Rattle.nfs_share.proofs.share_counts.ShareCounts.plus.Goals as goal

pub returns : goal.returns
returns c = λ shares is few.
    let share = c.args.share in
    let readers = ap (λ (n : ShareCounts). n.readers) is in
    let writers = ap (λ (n : ShareCounts). n.writers) is in
    let read_deniers = ap (λ (n : ShareCounts). n.read_deniers) is in
    let write_deniers = ap (λ (n : ShareCounts). n.write_deniers) is in
    let first = c.raised.ensures (bound (λ s. s.access.read) shares c.args.self.readers readers few) ∙ ap (λ n. cond share.access.read (suc n) n) readers in
    let second = c.raised-2.ensures (bound (λ s. s.access.write) shares c.args.self.writers writers few) ∙ ap (λ n. cond share.access.write (suc n) n) writers in
    let third = c.raised-3.ensures (bound (λ s. s.deny.read) shares c.args.self.read_deniers read_deniers few) ∙ ap (λ n. cond share.deny.read (suc n) n) read_deniers in
    let fourth = c.raised-4.ensures (bound (λ s. s.deny.write) shares c.args.self.write_deniers write_deniers few) ∙ ap (λ n. cond share.deny.write (suc n) n) write_deniers in
    λ i. record { readers = first i; writers = second i; read_deniers = third i; write_deniers = fourth i }
