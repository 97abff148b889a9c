use Rattle.std.proofs.Common.{◌≡◌, drop}
use Rattle.plot_axes.specs.Steps.{step_for}
use Rattle.plot_axes.proofs.steps.least_step.Given as goal

-- The steps so far don't reach over the span.
abbrev pub invariant-loop-step : goal.invariant-loop-step
invariant-loop-step l = step_for l.span l.most 0 l.steps ≡ step_for l.span l.most l.last (drop l.step-index l.steps)
