use Rattle.std.proofs.Common.{◌≡◌, replicate, None}
use Rattle.journal_tables.proofs.takes.no_takes.Given as goal

abbrev pub invariant-loop-place : goal.invariant-loop-place
invariant-loop-place l = l.takes.items ≡ replicate l._place None
