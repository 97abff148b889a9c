use Rattle.std.proofs.Common.{◌≡◌}
use Rattle.std.specs.Prelude.{map}
use Rattle.std.specs.List.{range_with_len}
use Rattle.variants.specs.Losses.{lost_fate}
use Rattle.variants.proofs.losses.lost_fates.Given as goal

-- The fates so far.
abbrev pub invariant-loop-place : goal.invariant-loop-place
invariant-loop-place l = l.fates.items ≡ map (lost_fate l.loss.sender l.loss.receiver) (range_with_len l.loss.first l.place)
