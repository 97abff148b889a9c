use Rattle.std.proofs.Common.{◌≡◌, false}
use Rattle.response.specs.Response.{ever_advises_against}
use Rattle.response.proofs.pairs.ever_advises_against.Given as goal

-- No commit so far has an advisory against the other aircraft.
abbrev pub invariant-loop-earlier : goal.invariant-loop-earlier
invariant-loop-earlier l = ever_advises_against l.state.journal l.earlier l.own l.other ≡ false
