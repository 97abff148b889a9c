use Rattle.std.proofs.Common.{◌≡◌, replicate, None}
use Rattle.comparison.proofs.messages.no_words.Given as goal

abbrev pub invariant-loop-slot : goal.invariant-loop-slot
invariant-loop-slot l = l.words.items ≡ replicate l._slot None
