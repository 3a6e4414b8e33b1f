use Rattle.std.proofs.Common.{◌≡◌, ◌+◌, ◌-◌, ◌^◌, ◌++◌, ◌∙◌, length, take, drop, ap, refl, arith}
use Rattle.std.proofs.lemmas.List.{length-drop}
use Rattle.nfs_rpc.proofs.WrittenRecords.{with_header}
use Rattle.xdr.specs.Writing.{written_number}
use Rattle.nfs_rpc.proofs.callback_call.end_record.Goals as goal

pub returns-clause-record : goal.returns-clause-record
unfolding written_number
returns-clause-record c =
    let items = c.args.out.now.items in
    let start = c.args.start in
    let len = length (drop (start + 4) items) in
    let same : length items ≡ c.args.out.now.len = rw c.deref_mut.ensures.value at c.deref_mut.ensures.len in
    let put = rw c.deref_mut.ensures.value at c.write_u32.ensures in
    let header = put ∙ ap (λ n. written_number 4 n ++ drop 4 (take (length items - start) (drop start items))) (omega (arith, c.len.ensures, same, length-drop (start + 4) items)) in
    rw c.deref_mut.ensures.value (with_header items c.write_u32.new.buf (written_number 4 (2 ^ 31 + len)) start c.args.out.now.len c.requires.kept same refl header)
