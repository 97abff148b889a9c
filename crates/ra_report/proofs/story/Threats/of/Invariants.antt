use Rattle.std.proofs.Common.{◌≡◌}
use Rattle.ra_report.specs.Blocks.{threats}
use Rattle.ra_report.specs.Stories.{as_threats}
use Rattle.ra_report.proofs.story.Threats.of.Given as goal

-- Those among the aircraft so far.
abbrev pub invariant-loop-other : goal.invariant-loop-other
invariant-loop-other l = l.found ≡ as_threats (threats l.other l.cells)
