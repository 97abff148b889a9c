use Rattle.std.proofs.Common.{◌≡◌, replicate, [], Some}
use Rattle.air_journal.proofs.tables.new_orders.Given as goal

abbrev pub invariant-loop-own : goal.invariant-loop-own
invariant-loop-own l = l.orders.items ≡ replicate l.own (Some [])
