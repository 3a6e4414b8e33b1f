use Rattle.std.proofs.Common.{◌<◌, ◌≤◌, length, arith, rules}
use Rattle.toml.specs.View.{items_view}
use Rattle.nfs_tree.specs.Document.{entries_of, FailsToRead}
use Rattle.nfs_tree.proofs.Documents.{entry_read, entry_fails, with_front_none, with_front_done}
use Rattle.nfs_tree.proofs.document.read_entries.Goals as goal

pub loop-value-init : goal.loop-value-init
loop-value-init c = rw c.new-entries.ensures.items (with_front_none _)

pub returns-in_err-entry : goal.returns-in_err-entry
returns-in_err-entry c =
    let array = c.args.array.now in
    let within : c.loop-value.value-index < length array = omega arith in
    let fails : FailsToRead c.in_err-entry.field-0.0 (entries_of c.args.listing (items_view array)) =
    entry_fails c.args.listing array c.loop-value.value-index c.value-item.result c.loop-value.entries.items c.in_err-entry.field-0.0 within c.value-item.is c.in_err-entry.ensures c.loop-value.invariant in
    search (rules, fails)

pub loop-value-preserved : goal.loop-value-preserved
loop-value-preserved c =
    let array = c.args.array.now in
    let within : c.loop-value.value-index < length array = omega arith in
    rw (c.push_reserved.ensures.items, c.in_ok-reserve.ensures.items)
    (entry_read c.args.listing array c.loop-value.value-index c.value-item.result c.loop-value.entries.items c.in_ok-entry.entry within c.value-item.is c.in_ok-entry.ensures c.loop-value.invariant)

pub returns : goal.returns
returns c =
    let past : length c.args.array.now ≤ c.loop-value.value-index = omega arith in
    rw c.new.ensures (with_front_done c.args.listing c.args.array.now c.loop-value.value-index c.loop-value.entries.items past c.loop-value.invariant)
