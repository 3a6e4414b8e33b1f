use Rattle.table_tests.proofs.rows.slot_is_given_again.Goals as goal

pub add-requires-2 : goal.add-requires-2
add-requires-2 g c = record { newest = c.remove.ensures.numbers 2 c.in_ok-add.ensures.numbers }
