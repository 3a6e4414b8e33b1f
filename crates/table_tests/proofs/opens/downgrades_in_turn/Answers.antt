use Rattle.table_tests.proofs.opens.downgrades_in_turn.Goals as goal

pub try_open-requires-4 : goal.try_open-requires-4
try_open-requires-4 g c = record { newest = c.downgrade-2.ensures.numbers 10 (c.downgrade.ensures.numbers 10 c.try_open-3.ensures.numbers) }
