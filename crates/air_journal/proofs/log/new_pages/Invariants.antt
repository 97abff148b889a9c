use Rattle.std.proofs.Common.{◌≡◌, replicate, []}
use Rattle.air_journal.proofs.log.new_pages.Given as goal

abbrev pub invariant-loop-page : goal.invariant-loop-page
invariant-loop-page l = l.pages.items ≡ replicate l._page []
