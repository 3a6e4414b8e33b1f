use Rattle.nfs_callbacks.proofs.Replies.{first_of_new, no_first_of_new}
use Rattle.std.proofs.Common.{refl}
use Rattle.nfs_callbacks.proofs.exchange.first_record.Goals as goal

pub returns-in-Ok-clause-some : goal.returns-in-Ok-clause-some
returns-in-Ok-clause-some c =
    first_of_new _ _ c.next.new.self c.args.bytes.now c.next.result c.new-records.ensures.empty c.in-Ok.ensures.ok.0 c.next.ensures.some

pub returns-in-Ok-clause-none : goal.returns-in-Ok-clause-none
returns-in-Ok-clause-none c =
    no_first_of_new c.one_split.ensures _ _ c.next.new.self c.args.bytes.now c.next.result c.new-records.ensures.empty c.in-Ok.ensures.ok.0 c.next.ensures.none

pub returns-in-Err-TooLong-clause-some : goal.returns-in-Err-TooLong-clause-some
returns-in-Err-TooLong-clause-some c =
    let e = rw c.in-Err-TooLong.field-0-is at c.in-Err-TooLong.ensures in
    first_of_new _ _ c.next-in-Err-TooLong.new.self c.args.bytes.now c.next-in-Err-TooLong.result c.new-records.ensures.empty (e.first refl c.new-records.ensures.empty.goes) c.next-in-Err-TooLong.ensures.some

pub returns-in-Err-TooLong-clause-none : goal.returns-in-Err-TooLong-clause-none
returns-in-Err-TooLong-clause-none c =
    let e = rw c.in-Err-TooLong.field-0-is at c.in-Err-TooLong.ensures in
    no_first_of_new c.one_split.ensures _ _ c.next-in-Err-TooLong.new.self c.args.bytes.now c.next-in-Err-TooLong.result c.new-records.ensures.empty (e.first refl c.new-records.ensures.empty.goes) c.next-in-Err-TooLong.ensures.none
